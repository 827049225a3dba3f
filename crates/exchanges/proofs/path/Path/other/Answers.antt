use Rattle.std.proofs.Common.{◌≡◌, ◌<◌, not, length, get_or, Some, sym, ◌∙◌, arith, rules, tests}
use Rattle.std.proofs.lemmas.Iterator.{YieldsList-from_range}
use Rattle.std.proofs.lemmas.Iterator.Adapters.{option_map_id}
use Rattle.std.proofs.lemmas.Iterator.Consumers.{YieldsList-from_filter, nth_from_yields_List}
use Rattle.std.proofs.lemmas.Option.{slice_get-get_or}
use Rattle.exchanges.specs.Trees.{on, others}
use Rattle.exchanges.specs.Slots.{trail}
use Rattle.exchanges.specs.Counts.{length_others}
use Rattle.exchanges.proofs.Trail.{length_trail}
use Rattle.exchanges.proofs.Children.{other_in}
use Rattle.exchanges.proofs.path.Path.other.Goals as goal

pub unwrap-requires : goal.unwrap-requires
unwrap-requires c =
    let n = c.args.self.shape.n in
    let α = trail c.args.self.boards c.args.self.len in
    let got = nth_from_yields_List c.nth.result _ c.args.i c.nth.ensures.ran (YieldsList-from_filter _ (λ q. not (on q α)) (YieldsList-from_range 0 n n (cc) (omega arith)) c.filter.ensures.closure (λ x b q k. search (rules, tests))) in
    let within : c.args.i < length (others n α) = omega (arith, length_others n α c.args.self.differ, length_trail c.args.self.boards c.args.self.len) in
    let found : c.nth.result ≡ Some (get_or (others n α) c.args.i 0) = sym (option_map_id c.nth.result) ∙ got ∙ slice_get-get_or (others n α) c.args.i 0 within in
    search rules

pub returns-clause-next : goal.returns-clause-next
returns-clause-next c =
    let n = c.args.self.shape.n in
    let α = trail c.args.self.boards c.args.self.len in
    let got = nth_from_yields_List c.nth.result _ c.args.i c.nth.ensures.ran (YieldsList-from_filter _ (λ q. not (on q α)) (YieldsList-from_range 0 n n (cc) (omega arith)) c.filter.ensures.closure (λ x b q k. search (rules, tests))) in
    let within : c.args.i < length (others n α) = omega (arith, length_others n α c.args.self.differ, length_trail c.args.self.boards c.args.self.len) in
    let found : c.nth.result ≡ Some (get_or (others n α) c.args.i 0) = sym (option_map_id c.nth.result) ∙ got ∙ slice_get-get_or (others n α) c.args.i 0 within in
    let is : c.unwrap.result ≡ get_or (others n α) c.args.i 0 = cc (found, c.unwrap.ensures) in
    (other_in n α c.args.i c.unwrap.result c.args.self.differ within is).next
