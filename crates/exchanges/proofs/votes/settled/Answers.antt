use Rattle.std.proofs.Common.{◌≡◌, ℕ, Bool, cond, leb, List, [], ◌∷◌, Some, None, count_by, Option, sym, refl, ap, ◌∙◌, rules, tests}
use Rattle.std.specs.List.{find, filter_map}
use Rattle.std.proofs.lemmas.Iterator.{YieldsList-from_slice}
use Rattle.std.proofs.lemmas.Iterator.Adapters.{option_map_id}
use Rattle.std.proofs.lemmas.Iterator.Consumers.{YieldsList-from_filter_map}
use Rattle.std.proofs.lemmas.Iterator.Search.{find_from_yields_List}
use Rattle.exchanges.specs.Trees.{holds, picked}
use Rattle.exchanges.proofs.votes.settled.Goals as goal

-- what is picked is the first item that is held often enough
picked_first : {I : Type 0} (same : I → I → Bool) (need : ℕ) (all l : List (Option I)) → find (λ x. leb need (count_by (holds same x) all)) (filter_map (λ o. o) l) ≡ picked same need all l
picked_first same need all [] = refl
picked_first same need all (None ∷ l) = picked_first same need all l
picked_first same need all (Some x ∷ l) = ap (cond (leb need (count_by (holds same x) all)) (Some x)) (picked_first same need all l)

pub returns : goal.returns
returns g c =
    let all = c.args.slots.now in
    let first = find_from_yields_List (λ x. leb c.args.need (count_by (holds g.I.Item.same x) all)) _ _ c.find.result c.find.ensures.ran (YieldsList-from_filter_map _ (λ o. o) (YieldsList-from_slice all cc) c.filter_map.ensures.closure (λ x r q k. search (rules, tests))) (λ x b q k. search (rules, tests)) in
    sym (option_map_id c.find.result) ∙ first ∙ picked_first g.I.Item.same c.args.need all all
