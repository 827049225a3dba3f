-- What the rounds fill does not depend on what the slots held before.
use Rattle.std.proofs.lemmas.Grind.{common_steps}
use Rattle.std.proofs.Common.{◌≡◌, ℕ, zero, suc, ◌<◌, ◌≤◌, List, [], ◌∷◌, length, fold, Option, sym, ap, ◌∙◌, subst, inl, inr, arith}
use Rattle.std.specs.List.{AllByRecursion}
use Rattle.std.proofs.lemmas.Bool.{cases_eq}
use Rattle.exchanges.specs.Plane.{Plane, turn, carry, after}
use Rattle.exchanges.specs.Trees.{IsPath, Hop, hops, Run, hop, fill_round, fill}
use Rattle.exchanges.specs.Members.{In, At, in_hops, all_hops}
use Rattle.exchanges.specs.Fill.{put_same, put_shorter}

-- two runs over the same backplane, with the same trees up to a length
pub record Alike {I : Type 0} (n k : ℕ) (r r' : Run I) : Type 0 where
  pub planes : r.plane ≡ r'.plane
  pub short : (p : ℕ) (β : List ℕ) → p < n → IsPath n β → length β ≤ k → r.trees p β ≡ r'.trees p β

module _ {I : Type 0} (n k : ℕ) where
  module _ (r r' : Run I) (h : Hop) (a : Alike n k r r') (at : At n k h) where
    value : r.trees h.from h.path ≡ r'.trees h.from h.path
    value = grind (arith, common_steps)

    answer : r.plane.answer [] h.from h.to (r.trees h.from h.path) ≡ r'.plane.answer [] h.from h.to (r'.trees h.from h.path)
    answer = grind (arith, common_steps)

    hop_alike : Alike n k (hop r h) (hop r' h)
    hop_alike = record {
      planes = ap (λ (b : Plane I). after b (carry h.from h.to (r.trees h.from h.path))) a.planes ∙ ap (λ (x : Option I). after r'.plane (carry h.from h.to x)) value;
      short = λ p β lp path l. put_shorter r.trees h.to p (h.from ∷ h.path) β _ (omega (arith, at.2)) ∙ a.short p β lp path l ∙ sym (put_shorter r'.trees h.to p (h.from ∷ h.path) β _ (omega (arith, at.2)));
    }

    hop_same : (p : ℕ) (β : List ℕ) → r.trees p β ≡ r'.trees p β → (hop r h).trees p β ≡ (hop r' h).trees p β
    hop_same p β e = grind (arith, common_steps)

    hop_made : (hop r h).trees h.to (h.from ∷ h.path) ≡ (hop r' h).trees h.to (h.from ∷ h.path)
    hop_made = put_same r.trees h.to (h.from ∷ h.path) _ ∙ answer ∙ sym (put_same r'.trees h.to (h.from ∷ h.path) _)

  fold_alike : (r r' : Run I) (hs : List Hop) → Alike n k r r' → AllByRecursion (At n k) hs → Alike n k (fold hop r hs) (fold hop r' hs)
  fold_alike r r' [] a at = a
  fold_alike r r' (h ∷ hs) a at = fold_alike (hop r h) (hop r' h) hs (hop_alike r r' h a at.0) at.1

  fold_same : (r r' : Run I) (hs : List Hop) → Alike n k r r' → AllByRecursion (At n k) hs → (p : ℕ) (β : List ℕ) → r.trees p β ≡ r'.trees p β → (fold hop r hs).trees p β ≡ (fold hop r' hs).trees p β
  fold_same r r' [] a at p β e = e
  fold_same r r' (h ∷ hs) a at p β e = fold_same (hop r h) (hop r' h) hs (hop_alike r r' h a at.0) at.1 p β (hop_same r r' h a at.0 p β e)

  fold_made : (r r' : Run I) (hs : List Hop) → Alike n k r r' → AllByRecursion (At n k) hs → (g : Hop) → In g hs → (fold hop r hs).trees g.to (g.from ∷ g.path) ≡ (fold hop r' hs).trees g.to (g.from ∷ g.path)
  fold_made r r' [] a at g i = absurd i
  fold_made r r' (h ∷ hs) a at g (inl e) = fold_same (hop r h) (hop r' h) hs (hop_alike r r' h a at.0) at.1 g.to (g.from ∷ g.path) (subst (λ (x : Hop). (hop r h).trees x.to (x.from ∷ x.path) ≡ (hop r' h).trees x.to (x.from ∷ x.path)) (sym e) (hop_made r r' h a at.0))
  fold_made r r' (h ∷ hs) a at g (inr i) = fold_made (hop r h) (hop r' h) hs (hop_alike r r' h a at.0) at.1 g i

  module _ (all : AllByRecursion (At n k) (hops n k)) where
    longer_alike : (r r' : Run I) → Alike n k r r' → (p : ℕ) (β : List ℕ) → p < n → IsPath n β → length β ≤ suc k → (fold hop r (hops n k)).trees p β ≡ (fold hop r' (hops n k)).trees p β
    longer_alike r r' a p [] lp path l = (fold_alike r r' (hops n k) a all).short p [] lp path (omega arith)
    longer_alike r r' a p (q ∷ α) lp path l =
        elim (cases_eq (length α) k) [ inl e ↦ fold_made r r' (hops n k) a all (record { path = α; from = q; to = p }) (subst (λ (m : ℕ). In (record { path = α; from = q; to = p }) (hops n m)) e (in_hops n p q α lp path)) | inr d ↦ (fold_alike r r' (hops n k) a all).short p (q ∷ α) lp path (omega arith) ]

    round_alike : (r r' : Run I) → Alike n k r r' → Alike n (suc k) (fill_round n r k) (fill_round n r' k)
    round_alike r r' a =
        let a' : Alike n k (record { plane = after r.plane turn; trees = r.trees }) (record { plane = after r'.plane turn; trees = r'.trees }) = record { planes = ap (λ (b : Plane I). after b turn) a.planes; short = a.short } in
        record {
          planes = (fold_alike _ _ (hops n k) a' all).planes;
          short = longer_alike _ _ a';
        }

pub fill_alike : {I : Type 0} (n k : ℕ) (r r' : Run I) → Alike n 0 r r' → Alike n k (fill n k r) (fill n k r')
fill_alike n zero r r' a = a
fill_alike n (suc k) r r' a = round_alike n k (all_hops n k) (fill n k r) (fill n k r') (fill_alike n k r r' a)
