-- All rounds of a firm exchange, in slots and in trees. Assumes nothing.
use Rattle.std.proofs.Common.{◌≡◌, ℕ, suc, ◌+◌, ◌*◌, ◌<◌, ◌≤◌, List, [], ◌∷◌, length, get_or, take, drop, None, Ok, Err, fold, Option, Result, sym, refl, ap, ◌∙◌, subst, arith}
use Rattle.std.proofs.lemmas.List.{get_or-take}
use Rattle.labels.specs.declared.refusal.Refusal.{Refusal}
use Rattle.exchanges.specs.Plane.{Plane, turn, after, last_round, Turned}
use Rattle.exchanges.specs.Trees.{IsPath, Run, hops, fill, fill_round, filled, tree_size}
use Rattle.exchanges.specs.Trees.{own as own_of_lem}
use Rattle.exchanges.specs.Slots.{held, Worked, carried, Stands}
use Rattle.exchanges.specs.Fill.{from_self, fill_from}
use Rattle.exchanges.specs.Members.{all_hops}
use Rattle.exchanges.proofs.Stand.{Agrees, fold_agrees}
use Rattle.exchanges.proofs.Alike.{Alike, fill_alike}

module _ {I : Type 0} (n t size : ℕ) (own : List (Option I)) where
  -- what the slots hold at first
  abbrev pub first : Plane I → List (Option I) → Run I
  first b ws = record { plane = b; trees = held n size own ws }

  pub agrees_round : (sized : size ≡ tree_size n t) (rest : List (Option I)) (b b₁ b₂ : Plane I) (ws ws₂ : List (Option I)) (R : Run I) (r : ℕ) → r ≤ t → Agrees n t size own rest (record { plane = b; slots = ws }) R → b₁ ≡ after b turn → Worked b₂ ws₂ (fold (carried n size own) (record { plane = b₁; slots = ws }) (hops n r)) → Agrees n t size own rest (record { plane = b₂; slots = ws₂ }) (fill_round n R r)
  agrees_round sized rest b b₁ b₂ ws ws₂ R r l a e k =
      let turned : Agrees n t size own rest (record { plane = b₁; slots = ws }) (record { plane = after R.plane turn; trees = R.trees }) = record { planes = e ∙ ap (λ (x : Plane I). after x turn) a.planes; stands = a.stands; roomy = a.roomy; beyond = a.beyond } in
      let done = fold_agrees n t size sized own rest r l (record { plane = b₁; slots = ws }) (record { plane = after R.plane turn; trees = R.trees }) (hops n r) turned (all_hops n r) in
      record {
        planes = k.plane_is ∙ done.planes;
        stands = subst (λ (x : List (Option I)). Stands n t size own x (fill_round n R r).trees) (sym k.slots_is) done.stands;
        roomy = omega (arith, done.roomy, ap length k.slots_is);
        beyond = ap (drop (n * size)) k.slots_is ∙ done.beyond;
      }

  -- what n boards send
  sent_is : (q : ℕ) → q < n → get_or own q None ≡ get_or (take n own) q None
  sent_is q l = sym (get_or-take n own q None l)

  alike_first : (b : Plane I) (ws : List (Option I)) → Alike n 0 (first b ws) (record { plane = b; trees = own_of_lem (take n own) })
  alike_first b ws = record { planes = refl; short = empty_only }
    where
      empty_only : (p : ℕ) (β : List ℕ) → p < n → IsPath n β → length β ≤ 0 → held n size own ws p β ≡ own_of_lem (take n own) p β
      empty_only p [] lp path l = sent_is p lp
      empty_only p (q ∷ β) lp path l = absurd (omega arith)

  pub agrees_last : (rest : List (Option I)) (b b₂ : Plane I) (ws ws₂ : List (Option I)) → Agrees n t size own rest (record { plane = b₂; slots = ws₂ }) (fill n (t + 1) (first b ws)) → (b₂ ≡ (filled n (t + 1) b (take n own)).plane) × Stands n t size own ws₂ (filled n (t + 1) b (take n own)).trees
  agrees_last rest b b₂ ws ws₂ a =
      let same = fill_alike n (t + 1) (first b ws) (record { plane = b; trees = own_of_lem (take n own) }) (alike_first b ws) in
      (a.planes ∙ same.planes, record { sends = λ q l. sym (same.short q [] l tt (omega arith)) ∙ a.stands.sends q l; holds = λ p α lp path one m. a.stands.holds p α lp path one m ∙ same.short p α lp path m })

-- a turn below the last round goes
pub turned_on : {I S U : Type 0} (plane : S → Plane I) (s s' : S) (r : Result U Refusal) → Turned plane s s' r → (plane s).round < last_round → plane s' ≡ after (plane s) turn
turned_on plane s s' (Ok u) k l = k.1
turned_on plane s s' (Err e) k l = absurd (omega (arith, k.1))

-- within the time there is a next round
pub below_last : {I : Type 0} (b₀ b : Plane I) (n r : ℕ) (R : Run I) → R.plane ≡ b₀ → b ≡ (fill n r R).plane → b₀.round + suc r ≤ last_round → b.round < last_round
below_last b₀ b n r R e d l =
    let at : (fill n r R).plane.round ≡ R.plane.round + r = (fill_from R.plane R.plane.round n R (from_self R.plane) r (omega (arith, ap (λ (x : Plane _). x.round) e))).round_is in
    omega (arith, ap (λ (x : Plane _). x.round) e, ap (λ (x : Plane _). x.round) d)
