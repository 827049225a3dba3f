-- How far a reader goes: past its field, and not past the end.
use Rattle.std.proofs.lemmas.Grind.{common_steps}
use Rattle.std.proofs.Common.{◌≡◌, ℕ, zero, suc, ◌+◌, ◌≤◌, ltb, leb, List, [], ◌∷◌, length, Ok, sym, refl, ap, ◌∙◌, subst, arith, le-ltb, le-leb}
use lib.Count.{ones}
use Rattle.labels.specs.Coding.{Coding, Own, read_at}
use Rattle.script.specs.Entries.{Entry, slip, fixed, entry, entries}
use Rattle.script.specs.Header.{header, bad_map}
use Rattle.script.specs.Script.{Script, decode, most}
use Rattle.script.specs.Readers.{Read}
use Rattle.script.specs.Fields.{many}
use Rattle.script.proofs.Follow.{then_inv, cond_inv, ok_same, require_inv}

abbrev pub Moves : {X : Type 0} → (List ℕ → ℕ → Read X) → ℕ → Type 0
Moves {X} f k = (b : List ℕ) (p : ℕ) (x : X) (q : ℕ) → f b p ≡ Ok (x, q) → (p + k ≤ q) × (q ≤ length b)

module _ {L : Type 0} (C : Coding L) (own : Own C) where
  pub label_moves : Moves (read_at C) 1
  label_moves b p x q h = grind (arith, common_steps)

  pub slip_moves : Moves (slip C) 1
  slip_moves b p x q h = grind (arith, common_steps)

pub many_moves : {X : Type 0} (f : List ℕ → ℕ → Read X) → Moves f 1 → (k : ℕ) (b : List ℕ) (p : ℕ) (xs : List X) (q : ℕ) → many k f b p ≡ Ok (xs, q) → (p + k ≤ q) × (p ≤ length b → q ≤ length b) × (length xs ≡ k)
many_moves f g zero b p xs q h =
    let o = ok_same [] xs p q h in
    let u = o.1 in
    (omega arith, omega arith, ap length (sym o.0))
many_moves f g (suc k) b p xs q h =
    then_inv (f b p) _ _ h (λ x r e h₁.
    then_inv (many k f b r) _ _ h₁ (λ ys s e₁ h₂.
    let o = ok_same (x ∷ ys) xs s q h₂ in
    let u = o.1 in
    let a = g b p x r e in
    let c = many_moves f g k b r ys s e₁ in
    (omega arith, (λ w. let v : s ≤ length b = c.1 a.1 in omega arith), ap length (sym o.0) ∙ ap suc c.2)))

pub fixed_moves : (n bad a c : ℕ) → Moves (fixed n bad a c) 5
fixed_moves n bad a c b p r q h = grind (arith, common_steps)

-- a record's slips are as many as its map names
pub entry_moves : {L : Type 0} (C : Coding L) (own : Own C) (n bad a c : ℕ) (b : List ℕ) (p : ℕ) (x : Entry L) (q : ℕ) → entry C n bad a c b p ≡ Ok (x, q) → (p + 5 + ones x.note.forged ≤ q) × (q ≤ length b) × (length x.slips ≡ ones x.note.forged)
entry_moves {L} C own n bad a c b p x q h =
    then_inv (fixed n bad a c b p) _ _ h (λ r p₁ e₁ h₁.
    then_inv (many (ones r.forged) (slip C) b p₁) _ _ h₁ (λ ss p₂ e₂ h₂.
    let y : Entry L = record { note = r; slips = ss } in
    let o = ok_same y x p₂ q h₂ in
    let u = o.1 in
    let f = fixed_moves n bad a c b p r p₁ e₁ in
    let m = many_moves (slip C) (slip_moves C own) (ones r.forged) b p₁ ss p₂ e₂ in
    let v : p₂ ≤ length b = m.1 f.1 in
    let far : p + 5 + ones r.forged ≤ q = omega arith in
    let made : (p + 5 + ones y.note.forged ≤ q) × (q ≤ length b) × (length y.slips ≡ ones y.note.forged) = (far, omega arith, m.2) in
    subst (λ z. (p + 5 + ones z.note.forged ≤ q) × (q ≤ length b) × (length z.slips ≡ ones z.note.forged)) o.0 made))

-- each record has as many slips as its map names
abbrev pub Whole : {L : Type 0} → List (Entry L) → Type 0
Whole [] = Unit {0}
Whole (e ∷ es) = (length e.slips ≡ ones e.note.forged) × Whole es

module _ {L : Type 0} (C : Coding L) (own : Own C) where
  entries_whole : (n bad k a c : ℕ) (b : List ℕ) (p : ℕ) (es : List (Entry L)) (q : ℕ) → entries C n bad k a c b p ≡ Ok (es, q) → Whole es
  entries_whole n bad zero a c b p es q e = subst Whole (ok_same [] es p q (require_inv (leb (length b) p) _ _ _ e).1).0 tt
  entries_whole n bad (suc k) a c b p es q e =
      cond_inv (ltb p (length b)) _ _ (es, q) e
      (λ t h. then_inv (entry C n bad a c b p) _ _ h (λ x p₁ e₁ h₁.
      then_inv (entries C n bad k x.note.round x.note.sender b p₁) _ _ h₁ (λ xs p₂ e₂ h₂.
      subst Whole (ok_same (x ∷ xs) es p₂ q h₂).0 ((entry_moves C own n bad a c b p x p₁ e₁).2, entries_whole n bad k x.note.round x.note.sender b p₁ xs p₂ e₂))))
      (λ t h. subst Whole (ok_same [] es p q h).0 tt)

  -- what is read has as many proposals as boards, and each record all its slips
  pub decode_whole : (b : List ℕ) (s : Script L) → decode C b ≡ Ok s → (length s.proposals ≡ s.head.boards) × Whole s.records
  decode_whole b s e =
      let t = require_inv (leb (length b) most) _ _ _ e in
      then_inv (header C.kind b 0) _ _ t.1 (λ h p e₁ h₁.
      then_inv (many h.boards (read_at C) b p) _ _ h₁ (λ ps q e₂ h₂.
      then_inv (entries C h.boards (bad_map h) (length b) 0 0 b q) _ _ h₂ (λ es r e₃ h₃.
      let y : Script L = record { head = h; proposals = ps; records = es } in
      let o : y ≡ s = cc in
      subst (λ z. (length z.proposals ≡ z.head.boards) × Whole z.records) o ((many_moves (read_at C) (label_moves C own) h.boards b p ps q e₂).2, entries_whole h.boards (bad_map h) (length b) 0 0 b q es r e₃))))

-- where nothing is left, there are no more records
pub ended : {L : Type 0} (C : Coding L) (n bad k a c : ℕ) (b : List ℕ) (p : ℕ) → length b ≤ p → entries C n bad k a c b p ≡ Ok ([], p)
ended C n bad zero a c b p h = rw (le-leb (length b) p h) refl
ended C n bad (suc k) a c b p h = rw (le-ltb p (length b) h) refl
