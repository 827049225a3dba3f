-- Bytes that read as a script are the bytes of that script.
use Rattle.std.proofs.lemmas.Grind.{common_steps}
use Rattle.std.proofs.Common.{◌≡◌, ℕ, zero, suc, ◌+◌, ◌*◌, ◌/◌, ◌%◌, ◌^◌, ◌≤◌, Bool, true, false, not, eqb, ltb, leb, List, [], ◌∷◌, ◌++◌, length, take, drop, is_some, Some, None, Ok, Option, sym, refl, ap, ◌∙◌, subst, append_assoc, arith, take-append-drop, ltb-false, eqb-true, leb-true}
use lib.Count.{ones}
use Rattle.std.proofs.lemmas.List.{drop-drop, drop_all}
use Rattle.script.specs.declared.model.Header.{Header}
use Rattle.script.specs.declared.model.Record.{Record}
use Rattle.labels.specs.declared.fault.Reader.{Reader}
use Rattle.labels.specs.declared.fault.Reader.TheVariants.{Record as InRecord, Script as InScript}
use Rattle.labels.specs.Bytes.{Bytes}
use Rattle.labels.specs.Coding.{Coding, Own, room, read_as, read_at}
use Rattle.labels.proofs.Laying.{bytes_take, bytes_drop}
use Rattle.script.specs.Entries.{Entry, slip, slip_bytes, later, maps, fixed, fixed_bytes, entry, entry_bytes, entries}
use Rattle.script.specs.Readers.{Read}
use Rattle.script.specs.Fields.{first, byte, first_two, pair, pair_bytes, many, joined}
use Rattle.script.specs.Header.{boards_ok, faults_ok, faults_default, bad_ok, phases_ok, bit, field, fields, header, header_bytes, header_map, listed, stands, bad_map}
use Rattle.script.specs.Script.{Script, encode, decode, most}
use Rattle.script.proofs.Follow.{then_inv, bind_inv, cond_inv, ok_same, require_inv, past, past_one}

-- what a reader took is what a writer writes
abbrev pub Back : {X : Type 0} → (List ℕ → ℕ → Read X) → (X → List ℕ) → Type 0
Back {X} f w = (b : List ℕ) (p : ℕ) (x : X) (q : ℕ) → Bytes b → f b p ≡ Ok (x, q) → drop p b ≡ w x ++ drop q b

first_back : (d : Reader) (b : List ℕ) (p x q : ℕ) (l : List ℕ) → drop p b ≡ l → first d p l ≡ Ok (x, q) → drop p b ≡ x ∷ drop q b
first_back d b p x q [] e h = absurd (cc)
first_back d b p x q (y ∷ l) e h =
    let r : drop (p + 1) b ≡ l = past_one b p y l e in
    let o = ok_same y x (p + 1) q h in
    let v : y ≡ x = o.0 in
    let u : p + 1 ≡ q = o.1 in
    cc

pub byte_back : (d : Reader) → Back (byte d) (λ x. x ∷ [])
byte_back d b p x q k h = first_back d b p x q (drop p b) refl h

two_back : (d : Reader) (b : List ℕ) (p x q : ℕ) (l : List ℕ) → Bytes l → drop p b ≡ l → first_two d p l ≡ Ok (x, q) → drop p b ≡ pair_bytes x ++ drop q b
two_back d b p x q [] k e h = absurd (cc)
two_back d b p x q (y ∷ []) k e h = absurd (cc)
two_back d b p x q (y ∷ (z ∷ l)) k e h =
    let r : drop (p + 2) b ≡ l = past b p (y ∷ (z ∷ [])) l e in
    let o = ok_same (y * 256 + z) x (p + 2) q h in
    let v : y * 256 + z ≡ x = o.0 in
    let u : p + 2 ≡ q = o.1 in
    let hi : y ≡ x / 256 = omega arith in
    let lo : z ≡ x % 256 = omega arith in
    cc

pub pair_back : (d : Reader) → Back (pair d) pair_bytes
pair_back d b p x q k h = two_back d b p x q (drop p b) (bytes_drop p b k) refl h

pub many_back : {X : Type 0} (f : List ℕ → ℕ → Read X) (w : X → List ℕ) → Back f w → (k : ℕ) (b : List ℕ) (p : ℕ) (xs : List X) (q : ℕ) → Bytes b → many k f b p ≡ Ok (xs, q) → drop p b ≡ joined w xs ++ drop q b
many_back f w g zero b p xs q k h =
    let o = ok_same [] xs p q h in
    ap (λ z. drop z b) o.1 ∙ ap (λ ys. joined w ys ++ drop q b) o.0
many_back f w g (suc n) b p xs q k h =
    then_inv (f b p) _ _ h (λ x r e h₁.
    then_inv (many n f b r) _ _ h₁ (λ ys s e₁ h₂.
    let o = ok_same (x ∷ ys) xs s q h₂ in
    g b p x r k e ∙ ap (λ l. w x ++ l) (many_back f w g n b r ys s k e₁) ∙ sym (append_assoc (w x) (joined w ys) (drop s b)) ∙ ap (λ z. joined w (x ∷ ys) ++ drop z b) o.1 ∙ ap (λ zs. joined w zs ++ drop q b) o.0))

pub read_as_back : {L : Type 0} (C : Coding L) (p : ℕ) (o : Option L) (x : L) (q : ℕ) → read_as C p o ≡ Ok (x, q) → (o ≡ Some x) × (p + C.width ≡ q)
read_as_back C p None x q h = absurd (cc)
read_as_back C p (Some l) x q h = let o = ok_same l x (p + C.width) q h in (ap Some o.0, o.1)

module _ {L : Type 0} (C : Coding L) (own : Own C) where
  pub label_back : Back (read_at C) C.write
  label_back b p x q k h =
      let t = require_inv (room C b p) _ _ _ h in
      let r = read_as_back C p _ x q t.1 in
      let a : C.write x ≡ take C.width (drop p b) = own.only _ x (bytes_take C.width (drop p b) (bytes_drop p b k)) r.0 in
      sym (take-append-drop C.width (drop p b)) ∙ ap (λ l. l ++ drop C.width (drop p b)) (sym a) ∙ ap (λ l. C.write x ++ l) (drop-drop C.width p b ∙ ap (λ z. drop z b) r.1)

  pub slip_back : Back (slip C) (slip_bytes C)
  slip_back b p x q k h =
      then_inv (byte InRecord b p) _ _ h (λ f r e h₁.
      then_inv (read_at C b r) _ _ h₁ (λ l s e₁ h₂.
      let o = ok_same (record { label = l; phase = f }) x s q h₂ in
      byte_back InRecord b p f r k e ∙ ap (λ t. f ∷ t) (label_back b r l s k e₁) ∙ ap (λ z. f ∷ (C.write l ++ drop z b)) o.1 ∙ ap (λ z. slip_bytes C z ++ drop q b) o.0))

pub field_back : (s : Bool) (ok : ℕ → Bool) (d : ℕ) (b : List ℕ) (p : ℕ) (o : Option ℕ) (q : ℕ) → Bytes b → field s ok d b p ≡ Ok (o, q) → (drop p b ≡ listed o ++ drop q b) × (is_some o ≡ s)
field_back false ok d b p o q k h =
    let e = ok_same None o p q h in
    (ap (λ z. drop z b) e.1 ∙ ap (λ z. listed z ++ drop q b) e.0, ap is_some (sym e.0))
field_back true ok d b p o q k h =
    then_inv (byte InScript b p) _ _ h (λ v r e h₁.
    let g = require_inv (ok v) _ _ _ h₁ in
    let i = require_inv (not (eqb v d)) _ _ _ g.1 in
    let s = ok_same (Some v) o r q i.1 in
    (byte_back InScript b p v r k e ∙ ap (λ z. v ∷ drop z b) s.1 ∙ ap (λ z. listed z ++ drop q b) s.0, ap is_some (sym s.0)))

-- three bits make the map
map_back : (m : ℕ) (t d f : Option ℕ) → m ≤ 7 → is_some t ≡ bit m 0 → is_some d ≡ bit m 1 → is_some f ≡ bit m 2 → stands t + 2 * stands d + 4 * stands f ≡ m
map_back m t d f h a b c = grind (arith, common_steps)

-- what was read of the fields after the header map
pub record FieldsBack (n m : ℕ) (b : List ℕ) (p : ℕ) (h : Header) (q : ℕ) : Type 0 where
  pub here : drop p b ≡ listed h.faults ++ (listed h.bad ++ (listed h.phases ++ drop q b))
  pub boards_is : h.boards ≡ n
  pub bit_0 : is_some h.faults ≡ bit m 0
  pub bit_1 : is_some h.bad ≡ bit m 1
  pub bit_2 : is_some h.phases ≡ bit m 2

pub fields_back : (n m : ℕ) (b : List ℕ) (p : ℕ) (h : Header) (q : ℕ) → Bytes b → fields n m b p ≡ Ok (h, q) → FieldsBack n m b p h q
fields_back n m b p h q k e =
    then_inv (field (bit m 0) (faults_ok n) (faults_default n) b p) _ _ e (λ t q₁ e₁ h₁.
    then_inv (field (bit m 1) (bad_ok n) 0 b q₁) _ _ h₁ (λ d q₂ e₂ h₂.
    then_inv (field (bit m 2) phases_ok 8 b q₂) _ _ h₂ (λ f q₃ e₃ h₃.
    let a₁ = field_back _ _ _ b p t q₁ k e₁ in
    let a₂ = field_back _ _ _ b q₁ d q₂ k e₂ in
    let a₃ = field_back _ _ _ b q₂ f q₃ k e₃ in
    let o = ok_same (record { boards = n; faults = t; bad = d; phases = f }) h q₃ q h₃ in
    let made : FieldsBack n m b p (record { boards = n; faults = t; bad = d; phases = f }) q₃ =
    record {
      here = a₁.0 ∙ ap (λ l. listed t ++ l) (a₂.0 ∙ ap (λ l. listed d ++ l) a₃.0);
      boards_is = refl;
      bit_0 = a₁.1;
      bit_1 = a₂.1;
      bit_2 = a₃.1;
    } in
    subst (λ z. FieldsBack n m b p h z) o.1 (subst (λ z. FieldsBack n m b p z q₃) o.0 made))))

pub header_back : (kind : ℕ) (b : List ℕ) (p : ℕ) (h : Header) (q : ℕ) → Bytes b → header kind b p ≡ Ok (h, q) → drop p b ≡ header_bytes kind h ++ drop q b
header_back kind b p h q k e =
    then_inv (byte InScript b p) _ _ e (λ v p₁ e₁ h₁.
    let t₁ = require_inv (eqb v 1) _ _ _ h₁ in
    then_inv (byte InScript b p₁) _ _ t₁.1 (λ n p₂ e₂ h₂.
    let t₂ = require_inv (boards_ok n) _ _ _ h₂ in
    then_inv (byte InScript b p₂) _ _ t₂.1 (λ c p₃ e₃ h₃.
    let t₃ = require_inv (eqb c kind) _ _ _ h₃ in
    then_inv (byte InScript b p₃) _ _ t₃.1 (λ m p₄ e₄ h₄.
    let t₄ = require_inv (leb m 7) _ _ _ h₄ in
    let f = fields_back n m b p₄ h q k t₄.1 in
    let a₁ = byte_back InScript b p v p₁ k e₁ in
    let a₂ = byte_back InScript b p₁ n p₂ k e₂ in
    let a₃ = byte_back InScript b p₂ c p₃ k e₃ in
    let a₄ = byte_back InScript b p₃ m p₄ k e₄ in
    let v₁ : v ≡ 1 = eqb-true v 1 t₁.0 in
    let c₁ : c ≡ kind = eqb-true c kind t₃.0 in
    let m₁ : header_map h ≡ m = map_back m _ _ _ (leb-true m 7 t₄.0) f.bit_0 f.bit_1 f.bit_2 in
    let tail : listed h.faults ++ (listed h.bad ++ (listed h.phases ++ drop q b)) ≡ (listed h.faults ++ (listed h.bad ++ listed h.phases)) ++ drop q b = simp append_assoc in
    let n₁ = f.boards_is in
    let all : drop p b ≡ v ∷ (n ∷ (c ∷ (m ∷ ((listed h.faults ++ (listed h.bad ++ listed h.phases)) ++ drop q b)))) = a₁ ∙ ap (λ l. v ∷ l) (a₂ ∙ ap (λ l. n ∷ l) (a₃ ∙ ap (λ l. c ∷ l) (a₄ ∙ ap (λ l. m ∷ l) (f.here ∙ tail)))) in
    cc))))

pub fixed_back : (n bad a c : ℕ) (b : List ℕ) (p : ℕ) (r : Record) (q : ℕ) → Bytes b → fixed n bad a c b p ≡ Ok (r, q) → drop p b ≡ fixed_bytes r ++ drop q b
fixed_back n bad a c b p r q k e =
    then_inv (pair InRecord b p) _ _ e (λ v p₁ e₁ h₁.
    then_inv (byte InRecord b p₁) _ _ h₁ (λ s p₂ e₂ h₂.
    let t₁ = require_inv (later a c v s) _ _ _ h₂ in
    let t₂ = require_inv (ltb s n) _ _ _ t₁.1 in
    then_inv (byte InRecord b p₂) _ _ t₂.1 (λ l p₃ e₃ h₃.
    let t₃ = require_inv (ltb l (2 ^ n)) _ _ _ h₃ in
    then_inv (byte InRecord b p₃) _ _ t₃.1 (λ f p₄ e₄ h₄.
    bind_inv (maps n bad s l f p₃) _ _ h₄ (λ _ e₅ h₅.
    let x : Record = record { round = v; sender = s; lost = l; forged = f } in
    let o = ok_same x r p₄ q h₅ in
    let here : drop p b ≡ fixed_bytes x ++ drop p₄ b = pair_back InRecord b p v p₁ k e₁ ∙ ap (λ z. pair_bytes v ++ z) (byte_back InRecord b p₁ s p₂ k e₂ ∙ ap (λ z. s ∷ z) (byte_back InRecord b p₂ l p₃ k e₃ ∙ ap (λ z. l ∷ z) (byte_back InRecord b p₃ f p₄ k e₄))) in
    here ∙ ap (λ z. fixed_bytes x ++ drop z b) o.1 ∙ ap (λ z. fixed_bytes z ++ drop q b) o.0)))))

module _ {L : Type 0} (C : Coding L) (own : Own C) (n bad : ℕ) where
  pub entry_back : (a c : ℕ) (b : List ℕ) (p : ℕ) (x : Entry L) (q : ℕ) → Bytes b → entry C n bad a c b p ≡ Ok (x, q) → drop p b ≡ entry_bytes C x ++ drop q b
  entry_back a c b p x q k e =
      then_inv (fixed n bad a c b p) _ _ e (λ r p₁ e₁ h₁.
      then_inv (many (ones r.forged) (slip C) b p₁) _ _ h₁ (λ ss p₂ e₂ h₂.
      let y : Entry L = record { note = r; slips = ss } in
      let o = ok_same y x p₂ q h₂ in
      let here : drop p b ≡ entry_bytes C y ++ drop p₂ b = fixed_back n bad a c b p r p₁ k e₁ ∙ ap (λ z. fixed_bytes r ++ z) (many_back (slip C) (slip_bytes C) (slip_back C own) (ones r.forged) b p₁ ss p₂ k e₂) in
      here ∙ ap (λ z. entry_bytes C y ++ drop z b) o.1 ∙ ap (λ z. entry_bytes C z ++ drop q b) o.0))

  none_back : (b : List ℕ) (p : ℕ) (es : List (Entry L)) (q : ℕ) → length b ≤ p → ◌≡◌ {A = Read (List (Entry L))} (Ok ([], p)) (Ok (es, q)) → drop p b ≡ joined (entry_bytes C) es
  none_back b p es q h e = drop_all p b h ∙ ap (joined (entry_bytes C)) (ok_same [] es p q e).0

  pub entries_back : (k a c : ℕ) (b : List ℕ) (p : ℕ) (es : List (Entry L)) (q : ℕ) → Bytes b → entries C n bad k a c b p ≡ Ok (es, q) → drop p b ≡ joined (entry_bytes C) es
  entries_back zero a c b p es q z e =
      let t = require_inv (leb (length b) p) _ _ _ e in
      none_back b p es q (leb-true _ _ t.0) t.1
  entries_back (suc k) a c b p es q z e =
      cond_inv (ltb p (length b)) _ _ (es, q) e
      (λ t h. then_inv (entry C n bad a c b p) _ _ h (λ x p₁ e₁ h₁.
      then_inv (entries C n bad k x.note.round x.note.sender b p₁) _ _ h₁ (λ xs p₂ e₂ h₂.
      entry_back a c b p x p₁ z e₁ ∙ ap (λ l. entry_bytes C x ++ l) (entries_back k x.note.round x.note.sender b p₁ xs p₂ z e₂) ∙ ap (joined (entry_bytes C)) (ok_same (x ∷ xs) es p₂ q h₂).0)))
      (λ t h. none_back b p es q (ltb-false p (length b) t) h)

-- bytes that read as a script are the bytes of that script
pub encodes_back : {L : Type 0} (C : Coding L) → Own C → (b : List ℕ) (s : Script L) → Bytes b → decode C b ≡ Ok s → encode C s ≡ b
encodes_back {L} C own b s z e =
    let t = require_inv (leb (length b) most) _ _ _ e in
    then_inv (header C.kind b 0) _ _ t.1 (λ h p e₁ h₁.
    then_inv (many h.boards (read_at C) b p) _ _ h₁ (λ ps q e₂ h₂.
    then_inv (entries C h.boards (bad_map h) (length b) 0 0 b q) _ _ h₂ (λ es r e₃ h₃.
    let y : Script L = record { head = h; proposals = ps; records = es } in
    let o : y ≡ s = cc in
    let f = header_back C.kind b 0 h p z e₁ in
    let m = many_back (read_at C) C.write (label_back C own) h.boards b p ps q z e₂ in
    let g = entries_back C own h.boards (bad_map h) (length b) 0 0 b q es r z e₃ in
    ap (encode C) (sym o) ∙ sym (f ∙ ap (λ l. header_bytes C.kind h ++ l) (m ∙ ap (λ l. joined C.write ps ++ l) g)))))
