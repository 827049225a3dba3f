-- What the rounds fill: each slot holds what the backplane answered to its sender's own slot.
use Rattle.std.specs.Prelude.{◌≡◌, ℕ, zero, suc, ◌+◌, ◌<◌, ◌≤◌, true, ◌&&◌, ◌⊎◌, List, [], ◌∷◌, length, fold, Option, ◌==◌, nat_lt, refl}
use Rattle.std.proofs.Common.{sym, ap, subst, ◌∙◌, inl, inr, arith}
use Rattle.std.specs.List.{AllByRecursion}
use Rattle.std.proofs.lemmas.Bool.{cases_Bool, cases_eq, cond-true, cond-false, and_parts, and_from, eqb-true, eq-eqb, false≢true, lt-ltb}
use Rattle.exchanges.specs.Plane.{Plane, turn, carry, after, last_round, next_round}
use Rattle.exchanges.specs.Trees.{IsPath, Trees, same_path, put, Hop, hops, Run, hop, fill}
use Rattle.exchanges.specs.Frames.{Frame, frame_same, frame_then, frame_call}
use Rattle.exchanges.specs.Members.{In, in_hops, all_long}

-- b is b₀ at round r, whatever it was asked
pub record From {I : Type 0} (b₀ b : Plane I) (r : ℕ) : Type 0 where
  pub frame : Frame b₀ b
  pub round_is : b.round ≡ r

pub from_self : {I : Type 0} (b : Plane I) → From b b b.round
from_self b = record { frame = frame_same b; round_is = refl }

from_carry : {I : Type 0} (b₀ b : Plane I) (r s d : ℕ) (x : Option I) → From b₀ b r → From b₀ (after b (carry s d x)) r
from_carry b₀ b r s d x f = record { frame = frame_then f.frame (frame_call b (carry s d x)); round_is = f.round_is }

from_turn : {I : Type 0} (b₀ b : Plane I) (r : ℕ) → r < last_round → From b₀ b r → From b₀ (after b turn) (r + 1)
from_turn b₀ b r l f = record {
  frame = frame_then f.frame (frame_call b turn);
  round_is = ap next_round f.round_is ∙ cond-true (nat_lt r last_round) (r + 1) r (lt-ltb r last_round l);
}

same_path_is : (α β : List ℕ) → same_path α β ≡ true → α ≡ β
same_path_is [] [] e = refl
same_path_is [] (b ∷ β) e = absurd (false≢true e)
same_path_is (a ∷ α) [] e = absurd (false≢true e)
same_path_is (a ∷ α) (b ∷ β) e = let parts = and_parts (a == b) (same_path α β) e in cc (eqb-true a b parts.0, same_path_is α β parts.1)

same_path_itself : (α : List ℕ) → same_path α α ≡ true
same_path_itself [] = refl
same_path_itself (a ∷ α) = and_from (a == a) (same_path α α) (eq-eqb a a refl) (same_path_itself α)

module _ {I : Type 0} where
  pub put_same : (T : Trees I) (p : ℕ) (α : List ℕ) (v : Option I) → put T p α v p α ≡ v
  put_same T p α v = cond-true (p == p && same_path α α) v (T p α) (and_from (p == p) (same_path α α) (eq-eqb p p refl) (same_path_itself α))

  -- a slot that is written is that one, or it stays
  pub put_cases : (T : Trees I) (p p' : ℕ) (α α' : List ℕ) (v : Option I) → ((p' ≡ p) × (α' ≡ α)) ⊎ (put T p α v p' α' ≡ T p' α')
  put_cases T p p' α α' v =
      let b = p' == p && same_path α' α in
      elim (cases_Bool b) [ inl e ↦ (let parts = and_parts (p' == p) (same_path α' α) e in inl (eqb-true p' p parts.0, same_path_is α' α parts.1)) | inr e ↦ inr (cond-false b v (T p' α') e) ]

  pub put_shorter : (T : Trees I) (p p' : ℕ) (α α' : List ℕ) (v : Option I) → length α' < length α → put T p α v p' α' ≡ T p' α'
  put_shorter T p p' α α' v l = elim (put_cases T p p' α α' v) [ inl e ↦ absurd (omega (arith, ap length e.1)) | inr e ↦ e ]

module _ {I : Type 0} (b₀ : Plane I) (r : ℕ) where
  -- the slot of p at the path α with q added holds what the backplane, in the round of that length, answered to what q's tree holds at α
  abbrev pub Answered : Trees I → ℕ → ℕ → List ℕ → Type 0
  Answered T p q α = (b : Plane I) × From b₀ b (r + suc (length α)) × (T p (q ∷ α) ≡ b.answer [] q p (T q α))

  hop_makes : (w : Run I) (h : Hop) → From b₀ w.plane (r + suc (length h.path)) → Answered (hop w h).trees h.to h.from h.path
  hop_makes w h f =
      let v = w.plane.answer [] h.from h.to (w.trees h.from h.path) in
      let kept = put_shorter w.trees h.to h.from (h.from ∷ h.path) h.path v (omega arith) in
      (w.plane, f, put_same w.trees h.to (h.from ∷ h.path) v ∙ ap (w.plane.answer [] h.from h.to) (sym kept))

  hop_keeps : (w : Run I) (h : Hop) (p q : ℕ) (α : List ℕ) → From b₀ w.plane (r + suc (length h.path)) → length α ≤ length h.path → Answered w.trees p q α → Answered (hop w h).trees p q α
  hop_keeps w h p q α f l (b, g, e) =
      let v = w.plane.answer [] h.from h.to (w.trees h.from h.path) in
      let kept = put_shorter w.trees h.to q (h.from ∷ h.path) α v (omega arith) in
      elim (put_cases w.trees h.to p (h.from ∷ h.path) (q ∷ α) v) [ inl s ↦ (let qe : q ≡ h.from = cc s.1 in let αe : α ≡ h.path = cc s.1 in let T = (hop w h).trees in subst (λ (x : ℕ). Answered T x q α) (sym s.0) (subst (λ (x : ℕ). Answered T h.to x α) (sym qe) (subst (λ (x : List ℕ). Answered T h.to h.from x) (sym αe) (hop_makes w h f)))) | inr s ↦ (b, g, s ∙ e ∙ ap (b.answer [] q p) (sym kept)) ]

  fold_from : (r' : ℕ) (w : Run I) (hs : List Hop) → From b₀ w.plane r' → From b₀ (fold hop w hs).plane r'
  fold_from r' w [] f = f
  fold_from r' w (h ∷ hs) f = fold_from r' (hop w h) hs (from_carry b₀ w.plane r' h.from h.to _ f)

  fold_keeps : (m : ℕ) (w : Run I) (hs : List Hop) (p q : ℕ) (α : List ℕ) → AllByRecursion (λ h. length h.path ≡ m) hs → From b₀ w.plane (r + suc m) → length α ≤ m → Answered w.trees p q α → Answered (fold hop w hs).trees p q α
  fold_keeps m w [] p q α a f l g = g
  fold_keeps m w (h ∷ hs) p q α a f l g =
      fold_keeps m (hop w h) hs p q α a.1 (from_carry b₀ w.plane (r + suc m) h.from h.to _ f) l (hop_keeps w h p q α (subst (λ (x : ℕ). From b₀ w.plane (r + suc x)) (sym a.0) f) (omega (arith, a.0)) g)

  fold_makes : (m : ℕ) (w : Run I) (hs : List Hop) (h : Hop) → AllByRecursion (λ h. length h.path ≡ m) hs → From b₀ w.plane (r + suc m) → In h hs → Answered (fold hop w hs).trees h.to h.from h.path
  fold_makes m w [] h a f i = absurd i
  fold_makes m w (k ∷ hs) h a f (inl e) =
      fold_keeps m (hop w k) hs h.to h.from h.path a.1 (from_carry b₀ w.plane (r + suc m) k.from k.to _ f) (omega (arith, a.0, ap (λ (x : Hop). length x.path) e)) (subst (λ (x : Hop). Answered (hop w k).trees x.to x.from x.path) (sym e) (hop_makes w k (subst (λ (x : ℕ). From b₀ w.plane (r + suc x)) (sym a.0) f)))
  fold_makes m w (k ∷ hs) h a f (inr i) = fold_makes m (hop w k) hs h a.1 (from_carry b₀ w.plane (r + suc m) k.from k.to _ f) i

  fold_own : (w : Run I) (hs : List Hop) (q : ℕ) → (fold hop w hs).trees q [] ≡ w.trees q []
  fold_own w [] q = refl
  fold_own w (h ∷ hs) q = fold_own (hop w h) hs q ∙ put_shorter w.trees h.to q (h.from ∷ h.path) [] _ (omega arith)

  module _ (n : ℕ) (w : Run I) (from : From b₀ w.plane r) where
    pub fill_from : (k : ℕ) → r + k ≤ last_round → From b₀ (fill n k w).plane (r + k)
    fill_from zero l = subst (λ (x : ℕ). From b₀ w.plane x) (omega arith) from
    fill_from (suc k) l =
        fold_from (r + suc k) (record { plane = after (fill n k w).plane turn; trees = (fill n k w).trees }) (hops n k) (subst (λ (x : ℕ). From b₀ (after (fill n k w).plane turn) x) (omega arith) (from_turn b₀ (fill n k w).plane (r + k) (omega arith) (fill_from k (omega arith))))

    pub fill_own : (k q : ℕ) → (fill n k w).trees q [] ≡ w.trees q []
    fill_own zero q = refl
    fill_own (suc k) q = fold_own (record { plane = after (fill n k w).plane turn; trees = (fill n k w).trees }) (hops n k) q ∙ fill_own k q

    pub fill_answered : (k p q : ℕ) (α : List ℕ) → r + k ≤ last_round → p < n → IsPath n (q ∷ α) → length α < k → Answered (fill n k w).trees p q α
    fill_answered zero p q α l lp path short = absurd (omega arith)
    fill_answered (suc k) p q α l lp path short =
        let w' : Run I = record { plane = after (fill n k w).plane turn; trees = (fill n k w).trees } in
        let f : From b₀ w'.plane (r + suc k) = subst (λ (x : ℕ). From b₀ w'.plane x) (omega arith) (from_turn b₀ (fill n k w).plane (r + k) (omega arith) (fill_from k (omega arith))) in
        elim (cases_eq (length α) k) [ inl e ↦ fold_makes k w' (hops n k) (record { path = α; from = q; to = p }) (all_long n k) f (subst (λ (x : ℕ). In (record { path = α; from = q; to = p }) (hops n x)) e (in_hops n p q α lp path)) | inr d ↦ fold_keeps k w' (hops n k) p q α (all_long n k) f (omega arith) (fill_answered k p q α (omega arith) lp path (omega arith)) ]

fold_frame : {I : Type 0} (w : Run I) (hs : List Hop) → Frame w.plane (fold hop w hs).plane
fold_frame w [] = frame_same w.plane
fold_frame w (h ∷ hs) = frame_then (frame_call w.plane (carry h.from h.to (w.trees h.from h.path))) (fold_frame (hop w h) hs)

pub fill_frame : {I : Type 0} (n : ℕ) (w : Run I) (k : ℕ) → Frame w.plane (fill n k w).plane
fill_frame n w zero = frame_same w.plane
fill_frame n w (suc k) = frame_then (fill_frame n w k) (frame_then (frame_call (fill n k w).plane turn) (fold_frame (record { plane = after (fill n k w).plane turn; trees = (fill n k w).trees }) (hops n k)))
