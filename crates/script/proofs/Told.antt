-- What readers tell of bytes that a writer wrote.
use Rattle.std.proofs.lemmas.Grind.{common_steps}
use Rattle.std.proofs.Common.{◌≡◌, ℕ, zero, suc, ◌+◌, ◌*◌, ◌^◌, ◌<◌, ◌≤◌, Bool, true, false, cond, not, eqb, ltb, leb, ◌⊎◌, List, [], ◌∷◌, ◌++◌, length, take, drop, is_some, Some, None, Ok, Option, Result, sym, refl, ap, ◌∙◌, subst, inl, inr, append_assoc, append-nil, arith}
use lib.Count.{ones}
use Rattle.std.proofs.lemmas.List.{length-append, length-drop, length-take-le, take_all}
use Rattle.std.proofs.lemmas.Bool.{cases_lt, le-leb, lt-leb, lt-ltb, leb-true}
use Rattle.labels.specs.Coding.{Coding, Own, read_at}
use Rattle.labels.specs.Faults.{Numbered}
use Rattle.labels.specs.declared.fault.Reader.{Reader}
use Rattle.labels.specs.declared.fault.Reader.TheVariants.{Record as InRecord, Script as InScript}
use Rattle.labels.specs.declared.slip.Slip.{Slip}
use Rattle.script.specs.declared.model.Header.{Header}
use Rattle.script.specs.declared.model.Record.{Record}
use Rattle.script.specs.Entries.{Entry, slip, slip_bytes, later, maps, fixed, fixed_bytes, entry, entry_bytes, entries}
use Rattle.script.specs.Fields.{first, byte, first_two, pair, pair_bytes, many, joined}
use Rattle.script.specs.Header.{boards_ok, faults_ok, faults_default, bad_ok, phases_ok, bit, field, fields, header, header_bytes, header_map, listed, stands}
use Rattle.script.specs.Memory.{with_slips}
use Rattle.script.specs.Readers.{Read, then}
use Rattle.script.proofs.Follow.{then_inv, bind_inv, ok_same, require_inv, past, past_one}
use Rattle.script.proofs.Moves.{Moves, slip_moves, ended}

-- a chain whose first answer is known
then_at : {X Y : Type 0} (m : Read X) (f : X → ℕ → Result Y Numbered) (y : Y) (x : X) (q : ℕ) → m ≡ Ok (x, q) → then m f ≡ Ok y → f x q ≡ Ok y
then_at m f y x q e h = sym (ap (λ r. then r f) e) ∙ h

-- a reader reads what a writer writes, wherever it stands
abbrev pub Forth : {X : Type 0} → (List ℕ → ℕ → Read X) → (X → List ℕ) → Type 0
Forth {X} f w = (b : List ℕ) (p : ℕ) (x : X) (l : List ℕ) → drop p b ≡ w x ++ l → f b p ≡ Ok (x, p + length (w x))

pub byte_forth : (d : Reader) → Forth (byte d) (λ x. x ∷ [])
byte_forth d b p x l e = ap (first d p) e

pub pair_forth : (d : Reader) → Forth (pair d) pair_bytes
pair_forth d b p x l e = ap (first_two d p) e ∙ ap (λ y. Ok (y, p + 2)) (omega arith)

module _ {L : Type 0} (C : Coding L) (own : Own C) where
  pub label_forth : Forth (read_at C) C.write
  label_forth b p x l e = grind (arith, common_steps)

  pub slip_forth : Forth (slip C) (slip_bytes C)
  slip_forth b p x l e =
      let a = label_forth b (p + 1) x.label l (past_one b p _ _ e) in
      rw (e, a) (ap (λ q. Ok (x, q)) (omega arith))

-- rows of like fields
module _ {X : Type 0} (f : List ℕ → ℕ → Read X) (w : X → List ℕ) (forth : Forth f w) (moves : Moves f 1) where
  many_forth : (b : List ℕ) (p : ℕ) (xs : List X) (l : List ℕ) → drop p b ≡ joined w xs ++ l → many (length xs) f b p ≡ Ok (xs, p + length (joined w xs))
  many_forth b p [] l e = ap (λ q. Ok ([], q)) (omega arith)
  many_forth b p (x ∷ xs) l e =
      let e₁ : drop p b ≡ w x ++ (joined w xs ++ l) = e ∙ append_assoc (w x) (joined w xs) l in
      let q : ℕ = p + length (w x) in
      let a = forth b p x _ e₁ in
      let c = many_forth b q xs l (past b p (w x) _ e₁) in
      rw (a, c) (ap (λ r. Ok (x ∷ xs, r)) (simp length-append (omega arith)))

  many_short : (n : ℕ) (xs : List X) (b : List ℕ) (p : ℕ) (ys : List X) (q : ℕ) → drop p b ≡ joined w xs → length xs < n → many n f b p ≡ Ok (ys, q) → ⊥
  many_short zero xs b p ys q e h k = omega arith
  many_short (suc n) [] b p ys q e h k =
      then_inv (f b p) _ _ k (λ x r e₁ h₁.
      let m = moves b p x r e₁ in
      let c = ap length e in
      omega (arith, length-drop p b))
  many_short (suc n) (x ∷ xs) b p ys q e h k =
      let k₁ = then_at (f b p) (λ z r. then (many n f b r) (λ zs s. Ok (z ∷ zs, s))) (ys, q) x (p + length (w x)) (forth b p x (joined w xs) e) k in
      then_inv (many n f b (p + length (w x))) _ _ k₁ (λ zs r e₁ h₁.
      many_short n xs b (p + length (w x)) zs r (past b p (w x) (joined w xs) e) (omega arith) e₁)

  -- a row that was read whole was there whole
  pub row_told : (n : ℕ) (xs : List X) (b : List ℕ) (p : ℕ) (l : List ℕ) (ys : List X) (q : ℕ) → drop p b ≡ joined w (take n xs) ++ l → (length xs < n → l ≡ []) → many n f b p ≡ Ok (ys, q) → (n ≤ length xs) × (ys ≡ take n xs) × (q ≡ p + length (joined w (take n xs)))
  row_told n xs b p l ys q e cut k = go (cases_lt (length xs) n)
    where
      go : (length xs < n) ⊎ (n ≤ length xs) → (n ≤ length xs) × (ys ≡ take n xs) × (q ≡ p + length (joined w (take n xs)))
      go (inl short) =
          absurd (many_short n xs b p ys q (e ∙ ap (λ z. joined w (take n xs) ++ z) (cut short) ∙ append-nil (joined w (take n xs)) ∙ ap (joined w) (take_all n xs (omega arith))) short k)
      go (inr enough) =
          let a = many_forth b p (take n xs) l e in
          let is : many n f b p ≡ Ok (take n xs, p + length (joined w (take n xs))) = subst (λ z. many z f b p ≡ Ok (take n xs, p + length (joined w (take n xs)))) (length-take-le n xs enough) a in
          let o = ok_same (take n xs) ys (p + length (joined w (take n xs))) q (sym is ∙ k) in
          (enough, sym o.0, sym o.1)

-- a header field that was read is the one that stood
field_told : (s : Bool) (ok : ℕ → Bool) (d : ℕ) (o : Option ℕ) (b : List ℕ) (p : ℕ) (l : List ℕ) (t : Option ℕ) (q : ℕ) → s ≡ is_some o → drop p b ≡ listed o ++ l → field s ok d b p ≡ Ok (t, q) → (t ≡ o) × (drop q b ≡ l) × (q ≡ p + length (listed o))
field_told false ok d None b p l t q i e h = let s = ok_same None t p q h in (sym s.0, ap (λ z. drop z b) (sym s.1) ∙ e, let v = s.1 in omega arith)
field_told false ok d (Some v) b p l t q i e h = absurd (cc)
field_told true ok d None b p l t q i e h = absurd (cc)
field_told true ok d (Some v) b p l t q i e h =
    let h₁ = then_at (byte InScript b p) _ _ v (p + 1) (byte_forth InScript b p v l e) h in
    let h₂ = (require_inv (ok v) _ _ _ h₁).1 in
    let h₃ = (require_inv (not (eqb v d)) _ _ _ h₂).1 in
    let s = ok_same (Some v) t (p + 1) q h₃ in
    (sym s.0, ap (λ z. drop z b) (sym s.1) ∙ past_one b p v l e, sym s.1)

bits_of : (t d f : Option ℕ) → let m : ℕ = stands t + 2 * stands d + 4 * stands f in (bit m 0 ≡ is_some t) × (bit m 1 ≡ is_some d) × (bit m 2 ≡ is_some f)
bits_of None None None = (refl, refl, refl)
bits_of None None (Some f) = (refl, refl, refl)
bits_of None (Some d) None = (refl, refl, refl)
bits_of None (Some d) (Some f) = (refl, refl, refl)
bits_of (Some t) None None = (refl, refl, refl)
bits_of (Some t) None (Some f) = (refl, refl, refl)
bits_of (Some t) (Some d) None = (refl, refl, refl)
bits_of (Some t) (Some d) (Some f) = (refl, refl, refl)

fields_told : (h : Header) (b : List ℕ) (p : ℕ) (l : List ℕ) (t : Header) (q : ℕ) → drop p b ≡ listed h.faults ++ (listed h.bad ++ (listed h.phases ++ l)) → fields h.boards (header_map h) b p ≡ Ok (t, q) → (t ≡ h) × (drop q b ≡ l)
fields_told h b p l t q e k =
    let n = h.boards in
    let m = header_map h in
    let i = bits_of h.faults h.bad h.phases in
    then_inv (field (bit m 0) (faults_ok n) (faults_default n) b p) _ _ k (λ t₁ q₁ e₁ k₁.
    then_inv (field (bit m 1) (bad_ok n) 0 b q₁) _ _ k₁ (λ t₂ q₂ e₂ k₂.
    then_inv (field (bit m 2) phases_ok 8 b q₂) _ _ k₂ (λ t₃ q₃ e₃ k₃.
    let a₁ = field_told (bit m 0) (faults_ok n) (faults_default n) h.faults b p _ t₁ q₁ i.0 e e₁ in
    let a₂ = field_told (bit m 1) (bad_ok n) 0 h.bad b q₁ _ t₂ q₂ i.1 a₁.1 e₂ in
    let a₃ = field_told (bit m 2) phases_ok 8 h.phases b q₂ _ t₃ q₃ i.2 a₂.1 e₃ in
    let o = ok_same (record { boards = n; faults = t₁; bad = t₂; phases = t₃ }) t q₃ q k₃ in
    (sym o.0 ∙ (λ j. record { boards = n; faults = a₁.0 j; bad = a₂.0 j; phases = a₃.0 j }), ap (λ z. drop z b) (sym o.1) ∙ a₃.1))))

pub header_told : (kind : ℕ) (h : Header) (b : List ℕ) (p : ℕ) (l : List ℕ) (t : Header) (q : ℕ) → drop p b ≡ header_bytes kind h ++ l → header kind b p ≡ Ok (t, q) → (t ≡ h) × (drop q b ≡ l)
header_told kind h b p l t q e k =
    let e₁ = past_one b p _ _ e in
    let e₂ = past_one b (p + 1) _ _ e₁ in
    let e₃ = past_one b (p + 1 + 1) _ _ e₂ in
    let e₄ = past_one b (p + 1 + 1 + 1) _ _ e₃ in
    let e₅ = e₄ ∙ append_assoc (listed h.faults) (listed h.bad ++ listed h.phases) l ∙ ap (λ r. listed h.faults ++ r) (append_assoc (listed h.bad) (listed h.phases) l) in
    let k₁ = then_at (byte InScript b p) _ _ 1 (p + 1) (byte_forth InScript b p 1 _ e) k in
    let k₂ = then_at (byte InScript b (p + 1)) _ _ h.boards (p + 1 + 1) (byte_forth InScript b (p + 1) h.boards _ e₁) k₁ in
    let k₃ = then_at (byte InScript b (p + 1 + 1)) _ _ kind (p + 1 + 1 + 1) (byte_forth InScript b (p + 1 + 1) kind _ e₂) (require_inv (boards_ok h.boards) _ _ _ k₂).1 in
    let k₄ = then_at (byte InScript b (p + 1 + 1 + 1)) _ _ (header_map h) (p + 1 + 1 + 1 + 1) (byte_forth InScript b (p + 1 + 1 + 1) (header_map h) _ e₃) (require_inv (eqb kind kind) _ _ _ k₃).1 in
    fields_told h b (p + 1 + 1 + 1 + 1) l t q e₅ (require_inv (leb (header_map h) 7) _ _ _ k₄).1

fixed_told : (n bad a c : ℕ) (r : Record) (b : List ℕ) (p : ℕ) (l : List ℕ) (t : Record) (q : ℕ) → drop p b ≡ fixed_bytes r ++ l → fixed n bad a c b p ≡ Ok (t, q) → (t ≡ r) × (drop q b ≡ l)
fixed_told n bad a c r b p l t q e k =
    let e₂ = past b p (pair_bytes r.round) _ e in
    let e₃ = past_one b (p + 2) _ _ e₂ in
    let e₄ = past_one b (p + 2 + 1) _ _ e₃ in
    let e₅ = past_one b (p + 2 + 1 + 1) _ _ e₄ in
    let k₁ = then_at (pair InRecord b p) _ _ r.round (p + 2) (pair_forth InRecord b p r.round _ e) k in
    let k₂ = then_at (byte InRecord b (p + 2)) _ _ r.sender (p + 2 + 1) (byte_forth InRecord b (p + 2) r.sender _ e₂) k₁ in
    let j₁ = (require_inv (later a c r.round r.sender) _ _ _ k₂).1 in
    let j₂ = (require_inv (ltb r.sender n) _ _ _ j₁).1 in
    let k₃ = then_at (byte InRecord b (p + 2 + 1)) _ _ r.lost (p + 2 + 1 + 1) (byte_forth InRecord b (p + 2 + 1) r.lost _ e₃) j₂ in
    let j₃ = (require_inv (ltb r.lost (2 ^ n)) _ _ _ k₃).1 in
    let k₄ = then_at (byte InRecord b (p + 2 + 1 + 1)) _ _ r.forged (p + 2 + 1 + 1 + 1) (byte_forth InRecord b (p + 2 + 1 + 1) r.forged _ e₄) j₃ in
    bind_inv (maps n bad r.sender r.lost r.forged (p + 2 + 1 + 1)) _ _ k₄ (λ _ i j.
    let o = ok_same r t (p + 2 + 1 + 1 + 1) q j in
    (sym o.0, ap (λ z. drop z b) (sym o.1) ∙ e₅))

-- the records that were read are those in memory, each with all its slips
module _ {L : Type 0} (C : Coding L) (own : Own C) (n bad : ℕ) where
  rest_of : List Record → List (Slip L) → ℕ → List ℕ
  rest_of rs ss k = joined (entry_bytes C) (cond (leb k (length ss)) (with_slips rs (drop k ss)) [])

  entry_told : (a c : ℕ) (r : Record) (rs : List Record) (ss : List (Slip L)) (b : List ℕ) (p : ℕ) (x : Entry L) (q : ℕ) → drop p b ≡ fixed_bytes r ++ (joined (slip_bytes C) (take (ones r.forged) ss) ++ rest_of rs ss (ones r.forged)) → entry C n bad a c b p ≡ Ok (x, q) → (x ≡ record { note = r; slips = take (ones r.forged) ss }) × (ones r.forged ≤ length ss) × (drop q b ≡ rest_of rs ss (ones r.forged))
  unfolding rest_of
  entry_told a c r rs ss b p x q e k =
      then_inv (fixed n bad a c b p) _ _ k (λ t p₁ e₁ k₁.
      then_inv (many (ones t.forged) (slip C) b p₁) _ _ k₁ (λ us p₂ e₂ k₂.
      let w = ones r.forged in
      let f = fixed_told n bad a c r b p _ t p₁ e e₁ in
      let e₃ : many w (slip C) b p₁ ≡ Ok (us, p₂) = ap (λ z. many (ones z.forged) (slip C) b p₁) (sym f.0) ∙ e₂ in
      let m = row_told (slip C) (slip_bytes C) (slip_forth C own) (slip_moves C own) w ss b p₁ (rest_of rs ss w) us p₂ f.1 (λ short. ap (λ z. joined (entry_bytes C) (cond z (with_slips rs (drop w ss)) [])) (lt-leb w (length ss) short)) e₃ in
      let y : Entry L = record { note = t; slips = us } in
      let o = ok_same y x p₂ q k₂ in
      let on : drop p₂ b ≡ rest_of rs ss w = ap (λ z. drop z b) m.2 ∙ past b p₁ (joined (slip_bytes C) (take w ss)) (rest_of rs ss w) f.1 in
      (sym o.0 ∙ (λ j. record { note = f.0 j; slips = m.1 j }), m.0, ap (λ z. drop z b) (sym o.1) ∙ on)))

  pub entries_told : (rs : List Record) (ss : List (Slip L)) (k a c : ℕ) (b : List ℕ) (p : ℕ) (es : List (Entry L)) (q : ℕ) → drop p b ≡ joined (entry_bytes C) (with_slips rs ss) → entries C n bad k a c b p ≡ Ok (es, q) → (es ≡ with_slips rs ss) × (length es ≡ length rs)
  unfolding rest_of
  entries_told [] ss k a c b p es q e h =
      let ends : length b ≤ p = omega (arith, length-drop p b, ap length e) in
      let o = ok_same [] es p q (sym (ended C n bad k a c b p ends) ∙ h) in
      (sym o.0, ap length (sym o.0))
  entries_told (r ∷ rs) ss zero a c b p es q e h =
      let ends = leb-true _ _ (require_inv (leb (length b) p) _ _ _ h).0 in
      absurd (omega (arith, length-drop p b, ap length e))
  entries_told (r ∷ rs) ss (suc k) a c b p es q e h =
      let more : p < length b = omega (arith, length-drop p b, ap length e) in
      let h₁ : then (entry C n bad a c b p) (λ x z. then (entries C n bad k x.note.round x.note.sender b z) (λ xs u. Ok (x ∷ xs, u))) ≡ Ok (es, q) = ap (λ z. cond z (then (entry C n bad a c b p) (λ x z. then (entries C n bad k x.note.round x.note.sender b z) (λ xs u. Ok (x ∷ xs, u)))) (Ok ([], p))) (sym (lt-ltb p (length b) more)) ∙ h in
      then_inv (entry C n bad a c b p) _ _ h₁ (λ x p₁ e₁ k₁.
      then_inv (entries C n bad k x.note.round x.note.sender b p₁) _ _ k₁ (λ xs p₂ e₂ k₂.
      let w = ones r.forged in
      let f = entry_told a c r rs ss b p x p₁ (e ∙ append_assoc (fixed_bytes r) (joined (slip_bytes C) (take w ss)) _) e₁ in
      let full : leb w (length ss) ≡ true = le-leb w (length ss) f.1 in
      let on : drop p₁ b ≡ joined (entry_bytes C) (with_slips rs (drop w ss)) = f.2 ∙ ap (λ z. joined (entry_bytes C) (cond z (with_slips rs (drop w ss)) [])) full in
      let m = entries_told rs (drop w ss) k x.note.round x.note.sender b p₁ xs p₂ on e₂ in
      let o = ok_same (x ∷ xs) es p₂ q k₂ in
      (sym o.0 ∙ (λ j. f.0 j ∷ m.0 j) ∙ ap (λ z. record { note = r; slips = take w ss } ∷ cond z (with_slips rs (drop w ss)) []) (sym full), ap length (sym o.0) ∙ ap suc m.1)))
