-- Reading and writing labels at any place, for every kind.
use Rattle.std.proofs.Common.{◌≡◌, ℕ, ◌+◌, ◌-◌, ◌≤◌, Bool, true, false, List, length, take, drop, Some, None, Ok, Err, Option, Result, sym, refl, ap, ◌∙◌, arith}
use Rattle.std.proofs.lemmas.Bool.{cond-true, le-leb, leb-true, true≢false}
use Rattle.labels.specs.Bytes.{Bytes, laid}
use Rattle.labels.specs.Coding.{Coding, Own, RoundTrips, room, read_as, read_at, written}
use Rattle.labels.specs.Faults.{Numbered, require}
use Rattle.labels.specs.declared.fault.Reader.TheVariants.{Label}
use Rattle.labels.proofs.Laying.{laid_length, laid_part, laid_own, bytes_take, bytes_drop}

require_true : {X : Type 0} (b : Bool) (f : Numbered) (k : Result X Numbered) → b ≡ true → require b f k ≡ k
require_true true f k e = refl
require_true false f k e = absurd (true≢false (sym e))

module _ {L : Type 0} (c : Coding L) (own : Own c) where
  pub has_room : (b : List ℕ) (p : ℕ) → p + c.width ≤ length b → room c b p ≡ true
  has_room b p h = le-leb _ _ (omega arith)

  within : (b : List ℕ) (p : ℕ) → room c b p ≡ true → p + c.width ≤ length b
  within b p e =
      let some = own.some in
      let h : c.width ≤ length b - p = leb-true _ _ e in
      omega arith

  -- the bytes of a label at p are the part there
  part_of : (l : L) (b : List ℕ) (p : ℕ) → p + c.width ≤ length b → laid (c.write l) p b ≡ b → take c.width (drop p b) ≡ c.write l
  part_of l b p h e =
      let wide = own.wide l in
      ap (λ m. take c.width (drop p m)) (sym e) ∙ ap (λ n. take n (drop p (laid (c.write l) p b))) (sym wide) ∙ laid_part (c.write l) b p (omega arith)

  -- what stands at p read as a label is that label's bytes
  own_part : (b : List ℕ) (p : ℕ) (l : L) → Bytes b → p + c.width ≤ length b → c.read (take c.width (drop p b)) ≡ Some l → written c l b p ≡ b
  own_part b p l k h e =
      let at = own.only (take c.width (drop p b)) l (bytes_take c.width (drop p b) (bytes_drop p b k)) e in
      cond-true _ (laid (c.write l) p b) b (has_room b p h) ∙ laid_own (c.write l) b p c.width at (own.wide l)

  pub trips : RoundTrips c
  trips = record {
    reads_back = λ l m p h.
        let wide = own.wide l in
        let m' = laid (c.write l) p m in
        let same : length m' ≡ length m = laid_length (c.write l) m p (omega arith) in
        let is : written c l m p ≡ m' = cond-true _ m' m (has_room m p h) in
        let part : take c.width (drop p m') ≡ c.write l = ap (λ n. take n (drop p m')) (sym wide) ∙ laid_part (c.write l) m p (omega arith) in
        ap (λ b. read_at c b p) is ∙ require_true (room c m' p) _ _ (has_room m' p (omega arith)) ∙ ap (λ b. read_as c p (c.read b)) part ∙ ap (read_as c p) (own.back l);
    writes_back = λ b p q l k e. go b p q l k (room c b p) refl e;
    refuses = λ b p k h. (λ e l w. never b p h l (require_true (room c b p) _ _ (has_room b p h)) e w, λ none. only_none b p k h none);
  }
    where
      some_of : (p q : ℕ) (l : L) (o : Option L) → read_as c p o ≡ Ok (l, q) → o ≡ Some l
      some_of p q l None e = absurd (cc)
      some_of p q l (Some x) e = let s : ◌≡◌ {A = L × ℕ} (x, p + c.width) (l, q) = cc in ap (λ z. Some z.0) s

      go : (b : List ℕ) (p q : ℕ) (l : L) → Bytes b → (t : Bool) → room c b p ≡ t → require t (13, p, Label) (read_as c p (c.read (take c.width (drop p b)))) ≡ Ok (l, q) → written c l b p ≡ b
      go b p q l k true r e = own_part b p l k (within b p r) (some_of p q l _ e)
      go b p q l k false r e = absurd (cc)

      none_of : (p : ℕ) (o : Option L) → read_as c p o ≡ Err (16, p, Label) → o ≡ None
      none_of p None e = refl
      none_of p (Some x) e = absurd (cc)

      never : (b : List ℕ) (p : ℕ) (h : p + c.width ≤ length b) (l : L) → read_at c b p ≡ read_as c p (c.read (take c.width (drop p b))) → read_at c b p ≡ Err (16, p, Label) → written c l b p ≡ b → ⊥
      never b p h l was e w =
          let none : c.read (take c.width (drop p b)) ≡ None = none_of p _ (sym was ∙ e) in
          let part = part_of l b p h (sym (cond-true _ (laid (c.write l) p b) b (has_room b p h)) ∙ w) in
          let some : c.read (take c.width (drop p b)) ≡ Some l = ap c.read part ∙ own.back l in
          cc

      only_none : (b : List ℕ) (p : ℕ) → Bytes b → (h : p + c.width ≤ length b) → ((l : L) → written c l b p ≡ b → ⊥) → read_at c b p ≡ Err (16, p, Label)
      only_none b p k h none = require_true (room c b p) _ _ (has_room b p h) ∙ at (c.read (take c.width (drop p b))) refl
        where
          at : (o : Option L) → c.read (take c.width (drop p b)) ≡ o → read_as c p o ≡ Err (16, p, Label)
          at None e = refl
          at (Some l) e = absurd (none l (own_part b p l k h e))
