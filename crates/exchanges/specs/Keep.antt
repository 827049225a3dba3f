-- The tree exchange keeps the meaning of an exchange over every backplane that keeps its own. Assumes nothing.
use Rattle.std.proofs.lemmas.Grind.{common_steps}
use Rattle.std.specs.Prelude.{◌≡◌, ℕ, zero, suc, ◌+◌, ◌*◌, ◌/◌, ◌%◌, ◌<◌, ◌≤◌, Bool, true, ◌⊎◌, List, [], ◌∷◌, length, None, count_by, Option, slice_index_or, refl}
use Rattle.std.proofs.Common.{sym, ap, ◌∙◌, inl, inr, arith}
use Rattle.std.proofs.lemmas.Bool.{cases_Bool, cases_eq, and_parts}
use Rattle.std.proofs.lemmas.List.FromFn.{length-map-range_with_len, get_or-map-range_with_len}
use Rattle.std.proofs.lemmas.Nat.{mul-add-lt, div-mul-add, mod-mul-add}
use Rattle.std.specs.List.{range_with_len}
use Rattle.labels.specs.Item.{Tells}
use Rattle.exchanges.specs.Boards.{fits, Sound}
use Rattle.exchanges.specs.Plane.{Plane}
use Rattle.exchanges.specs.Exchange.{heard}
use Rattle.exchanges.specs.Trees.{Trees, own, filled, reduced, grid, all_clear, tree_run, tree_way, TreesKeep}
use Rattle.exchanges.specs.Frames.{sound_in}
use Rattle.exchanges.specs.Overs.{Begins, Bears, Well, over_keeps}
use Rattle.exchanges.specs.Counts.{count_is}
use Rattle.exchanges.specs.Fill.{from_self, fill_from, fill_frame, fill_own, fill_answered}
use Rattle.exchanges.specs.Agree.{Lossy, Lossless, sound_kept, sound_told, bad_common}

heard_grid : {I : Type 0} (n p q : ℕ) (f : ℕ → ℕ → Option I) → p < n → q < n → heard n (grid n f) p q ≡ f p q
heard_grid n p q f lp lq =
    get_or-map-range_with_len (λ k. f (k / n) (k % n)) 0 (n * n) (p * n + q) (p * n + q) None (mul-add-lt p n q n lp lq) (omega arith) ∙ ap (λ (x : ℕ). f x ((p * n + q) % n)) (div-mul-add p n q lq) ∙ ap (f p) (mod-mul-add p n q lq)

clear_at : (clear : ℕ → Bool) (r k i : ℕ) → all_clear clear r k ≡ true → i < k → clear (r + suc i) ≡ true
clear_at clear r zero i e l = absurd (omega arith)
clear_at clear r (suc k) i e l =
    let parts = and_parts (all_clear clear r k) (clear (r + suc k)) e in
    elim (cases_eq i k) [ inl d ↦ ap (λ (x : ℕ). clear (r + suc x)) d ∙ parts.1 | inr d ↦ clear_at clear r k i parts.0 (omega arith) ]

-- counts that fit
pub enough_boards : (n t : ℕ) → fits n t ≡ true → 3 * t < n
enough_boards n t e = grind (arith, common_steps)

-- one firm exchange
module _ {I : Type 0} (same : I → I → Bool) (tells : Tells same) (t : ℕ) (b : Plane I) (s : List (Option I)) (begins : Begins t (t + 1) b s) (bears : Bears t b) where
  abbrev n : ℕ
  n = b.boards

  abbrev T : Trees I
  T = (filled n (t + 1) b s).trees

  abbrev told : ℕ → ℕ → Option I
  told p q = heard n (tree_run same t b s).slots p q

  room : 3 * t < n
  room = enough_boards n t begins.fit

  few : count_by b.bad (range_with_len 0 n) ≤ t
  few = omega (arith, count_is b.bad n, bears.few)

  lossy : Lossy n t b.bad T
  lossy p q α lp path short sound =
      let (c, f, e) = fill_answered b b.round n (record { plane = b; trees = own s }) (from_self b) (t + 1) p q α begins.timely lp path (omega arith) in
      elim ((f.frame.keeps bears.keeps).faithful [] q p (T q α) (sound_in f.frame (path.0, sound))) [ inl d ↦ inl (e ∙ d) | inr d ↦ inr (e ∙ d) ]

  own_is : (q : ℕ) → T q [] ≡ slice_index_or s q None
  own_is q = fill_own b b.round n (record { plane = b; trees = own s }) (from_self b) (t + 1) q

  told_is : (p q : ℕ) → p < n → q < n → told p q ≡ reduced same n t T t p (q ∷ [])
  told_is p q lp lq = heard_grid n p q (λ p q. reduced same n t T t p (q ∷ [])) lp lq

  faithful : (p q : ℕ) → Sound n b.bad p → Sound n b.bad q → (told p q ≡ slice_index_or s q None) ⊎ (told p q ≡ None)
  faithful p q hp hq =
      elim (sound_kept same tells n t b.bad room few T lossy t p q [] hp.0 (hq.0, refl, tt) (omega arith) hq.1) [ inl e ↦ inl (told_is p q hp.0 hq.0 ∙ e ∙ own_is q) | inr e ↦ inr (told_is p q hp.0 hq.0 ∙ e) ]

  module _ (steady : all_clear b.clear b.round (t + 1) ≡ true) where
    lossless : Lossless n t b.bad T
    lossless p q α lp sp path short sound =
        let (c, f, e) = fill_answered b b.round n (record { plane = b; trees = own s }) (from_self b) (t + 1) p q α begins.timely lp path (omega arith) in
        e ∙ (f.frame.keeps bears.keeps).clears [] q p (T q α) (sound_in f.frame (path.0, sound)) (sound_in f.frame (lp, sp)) (ap (λ (g : ℕ → Bool). g c.round) f.frame.clear ∙ ap b.clear f.round_is ∙ clear_at b.clear b.round (t + 1) (length α) steady (omega arith))

    delivers : (p q : ℕ) → Sound n b.bad p → Sound n b.bad q → told p q ≡ slice_index_or s q None
    delivers p q hp hq = told_is p q hp.0 hq.0 ∙ sound_told same tells n t b.bad room few T lossy lossless t p q [] hp.0 hp.1 (hq.0, refl, tt) (omega arith) hq.1 ∙ own_is q

    agrees : (p p' q : ℕ) → Sound n b.bad p → Sound n b.bad p' → q < n → told p q ≡ told p' q
    agrees p p' q hp hp' lq =
        elim (cases_Bool (b.bad q)) [ inl bad ↦ told_is p q hp.0 lq ∙ bad_common same tells n t b.bad room few T lossy lossless t p p' (q ∷ []) hp.0 hp.1 hp'.0 hp'.1 (lq, refl, tt) (bad, tt) (omega arith) ∙ sym (told_is p' q hp'.0 lq) | inr sound ↦ delivers p q hp (lq, sound) ∙ sym (delivers p' q hp' (lq, sound)) ]

pub tree_well : {I : Type 0} (same : I → I → Bool) → Tells same → (t : ℕ) → Well (tree_way same t)
tree_well same tells t = record {
  longer = omega arith;
  frame = λ b s f. fill_frame b.boards (record { plane = b; trees = own s }) (t + 1);
  round = λ b s f l. (fill_from b b.round b.boards (record { plane = b; trees = own s }) (from_self b) (t + 1) l).round_is;
  whole = λ b s begins. length-map-range_with_len _ 0 (b.boards * b.boards);
  faithful = λ b s begins bears. faithful same tells t b s begins bears;
  delivers = λ b s begins bears. delivers same tells t b s begins bears;
  agrees = λ b s begins bears. agrees same tells t b s begins bears;
}

pub trees_keep : {I : Type 0} → TreesKeep I
trees_keep same tells t b keeps = over_keeps (tree_way same t) (tree_well same tells t) b keeps
