-- The two round trips, over scripts as they lie in memory.
use Rattle.std.proofs.Common.{◌≡◌, ℕ, ◌≤◌, true, cond, leb, List, [], ◌∷◌, ◌++◌, length, take, drop, Ok, sym, refl, ap, ◌∙◌, append_assoc, arith}
use lib.Count.{ones}
use Rattle.std.proofs.lemmas.List.{length-append, length-take-le, take_at, drop_at}
use Rattle.std.proofs.lemmas.Bool.{le-leb, lt-leb, leb-true}
use Rattle.labels.specs.Coding.{Coding, Own, read_at}
use Rattle.labels.specs.Faults.{require}
use Rattle.labels.specs.declared.fault.Reader.TheVariants.{Record as InRecord, Script as InScript}
use Rattle.labels.specs.declared.slip.Slip.{Slip}
use Rattle.script.specs.declared.model.Header.{Header}
use Rattle.script.specs.Entries.{Entry, entries, entry_bytes}
use Rattle.script.specs.Fields.{many, joined}
use Rattle.script.specs.Header.{header, bad_map}
use Rattle.script.specs.Memory.{Lists, lists, with_slips, held, notes, all_slips, laid, room, reads, filled, formed, last_checks, written, ReadsBack, WritesBack}
use Rattle.script.specs.Readers.{bind}
use Rattle.script.specs.Script.{Script, encode, decode, most}
use Rattle.script.proofs.Back.{encodes_back}
use Rattle.script.proofs.Follow.{then_inv, bind_inv, require_inv, past}
use Rattle.script.proofs.Moves.{Whole, label_moves, decode_whole}
use Rattle.script.proofs.Outputs.{writes_read}
use Rattle.script.proofs.Storing.{length_notes}
use Rattle.script.proofs.Told.{label_forth, row_told, header_told, entries_told}

-- a script in the front of three lists is the one that they hold
with_own : {L : Type 0} (es : List (Entry L)) (ss : List (Slip L)) → Whole es → with_slips (notes es) (all_slips es ++ ss) ≡ es
with_own [] ss w = refl
with_own (e ∷ es) ss w =
    let k : ℕ = ones e.note.forged in
    let split : (e.slips ++ all_slips es) ++ ss ≡ e.slips ++ (all_slips es ++ ss) = append_assoc e.slips (all_slips es) ss in
    let front : take k ((e.slips ++ all_slips es) ++ ss) ≡ e.slips = ap (take k) split ∙ take_at e.slips (all_slips es ++ ss) k w.0 in
    let rest : drop k ((e.slips ++ all_slips es) ++ ss) ≡ all_slips es ++ ss = ap (drop k) split ∙ drop_at e.slips (all_slips es ++ ss) k w.0 in
    let n : k ≤ length ((e.slips ++ all_slips es) ++ ss) = omega (arith, length-append (e.slips ++ all_slips es) ss, length-append e.slips (all_slips es), w.0) in
    (λ i. record { note = e.note; slips = front i } ∷ cond (le-leb k (length ((e.slips ++ all_slips es) ++ ss)) n i) (with_slips (notes es) (rest i)) []) ∙ ap (λ l. e ∷ l) (with_own es ss w.1)

held_laid : {L : Type 0} (s : Script L) (m : Lists L) → length s.proposals ≡ s.head.boards → Whole s.records → held s.head (length s.records) (lists (laid s.proposals m.proposals) (laid (notes s.records) m.records) (laid (all_slips s.records) m.slips)) ≡ s
held_laid {L} s m n w =
    let ps : List L = laid s.proposals m.proposals in
    let labels : take s.head.boards ps ≡ s.proposals = take_at s.proposals _ s.head.boards n in
    let all : leb s.head.boards (length ps) ≡ true = le-leb _ _ (omega (arith, length-append s.proposals (drop (length s.proposals) m.proposals))) in
    let rs : take (length s.records) (laid (notes s.records) m.records) ≡ notes s.records = take_at (notes s.records) _ (length s.records) (length_notes s.records) in
    (λ i. record { head = s.head; proposals = labels i; records = cond (all i) (with_slips (rs i) (laid (all_slips s.records) m.slips)) [] }) ∙ ap (λ es. record { head = s.head; proposals = s.proposals; records = es }) (with_own s.records (drop (length (all_slips s.records)) m.slips) w)

-- what the lists hold once a script was read into them
after_read : {L : Type 0} (C : Coding L) (own : Own C) (b : List ℕ) (s : Script L) (given : Lists L) (h : Header) (count : ℕ) → decode C b ≡ Ok s → room s given ≡ true → s.head ≡ h → length s.records ≡ count → held h count (filled (decode C b) given) ≡ s
after_read {L} C own b s given h count d t u v =
    let m : Lists L = lists (laid s.proposals given.proposals) (laid (notes s.records) given.records) (laid (all_slips s.records) given.slips) in
    let w = decode_whole C own b s d in
    let after : filled (decode C b) given ≡ m = ap (λ r. filled r given) d ∙ ap (λ c. cond c m given) t in
    (λ i. held (sym u i) (sym v i) (after i)) ∙ held_laid s given w.0 w.1

pub writes_back : {L : Type 0} (C : Coding L) → Own C → WritesBack C
writes_back {L} C own b given h count z e size fits =
    bind_inv (decode C b) _ _ e (λ s d e₁.
    let t = require_inv (room s given) _ _ _ e₁ in
    let o : ◌≡◌ {A = Header × ℕ} (s.head, length s.records) (h, count) = cc t.1 in
    let m : Lists L = filled (decode C b) given in
    let is : held h count m ≡ s = after_read C own b s given h count d t.0 (ap (λ x. x.0) o) (ap (λ x. x.1) o) in
    let bytes : formed C h count m ≡ b = ap (encode C) is ∙ encodes_back C own b s z d in
    let rs : m.records ≡ laid (notes s.records) given.records = ap (λ r. (filled r given).records) d ∙ ap (λ c. (cond c (lists (laid s.proposals given.proposals) (laid (notes s.records) given.records) (laid (all_slips s.records) given.slips)) given).records) t.0 in
    let n : length s.records ≡ count = ap (λ x. x.1) o in
    let all : count ≤ length m.records = omega (arith, ap length rs, length-append (notes s.records) (drop (length (notes s.records)) given.records), length_notes s.records) in
    let short : length (formed C h count m) ≤ size = omega (arith, ap length bytes) in
    let passes : Ok tt ≡ last_checks count (length m.records) (length (formed C h count m)) size = (λ i. require (sym (le-leb count (length m.records) all) i) (13, length (formed C h count m), InRecord) (require (sym (le-leb (length (formed C h count m)) size short) i) (22, size, InScript) (Ok tt))) in
    let a = writes_read C own h count m size s (ap (decode C) bytes ∙ d) (Ok tt) passes in
    (sym a ∙ ap (λ l. Ok (length l)) bytes, bytes))

-- the script that was read of bytes that were written is the one in memory
told : {L : Type 0} (C : Coding L) → Own C → (h : Header) (count : ℕ) (m : Lists L) (b : List ℕ) (s : Script L) → b ≡ formed C h count m → decode C b ≡ Ok s → (s ≡ held h count m) × (length s.records ≡ length (take count m.records))
told {L} C own h count m b s is e =
    let t = require_inv (leb (length b) most) _ _ _ e in
    then_inv (header C.kind b 0) _ _ t.1 (λ g p e₁ h₁.
    then_inv (many g.boards (read_at C) b p) _ _ h₁ (λ ps q e₂ h₂.
    then_inv (entries C g.boards (bad_map g) (length b) 0 0 b q) _ _ h₂ (λ es r e₃ h₃.
    let n : ℕ = h.boards in
    let all : List (Entry L) = with_slips (take count m.records) m.slips in
    let rest : List ℕ = joined (entry_bytes C) (cond (leb n (length m.proposals)) all []) in
    let a = header_told C.kind h b 0 (joined C.write (take n m.proposals) ++ rest) g p is e₁ in
    let e₄ : many n (read_at C) b p ≡ Ok (ps, q) = ap (λ z. many z.boards (read_at C) b p) (sym a.0) ∙ e₂ in
    let c = row_told (read_at C) C.write (label_forth C own) (label_moves C own) n m.proposals b p rest ps q a.1 (λ short. ap (λ z. joined (entry_bytes C) (cond z all [])) (lt-leb n (length m.proposals) short)) e₄ in
    let full : leb n (length m.proposals) ≡ true = le-leb n (length m.proposals) c.0 in
    let on : drop q b ≡ joined (entry_bytes C) all = ap (λ z. drop z b) c.2 ∙ past b p (joined C.write (take n m.proposals)) rest a.1 ∙ ap (λ z. joined (entry_bytes C) (cond z all [])) full in
    let e₅ : entries C n (bad_map h) (length b) 0 0 b q ≡ Ok (es, r) = ap (λ z. entries C z.boards (bad_map z) (length b) 0 0 b q) (sym a.0) ∙ e₃ in
    let d = entries_told C own n (bad_map h) (take count m.records) m.slips (length b) 0 0 b q es r on e₅ in
    let y : Script L = record { head = g; proposals = ps; records = es } in
    let o : y ≡ s = cc in
    (sym o ∙ (λ i. record { head = a.0 i; proposals = c.1 i; records = d.0 i }) ∙ ap (λ z. record { head = h; proposals = take n m.proposals; records = cond z all [] }) (sym full), ap (λ z. length z.records) (sym o) ∙ d.1))))

pub reads_back : {L : Type 0} (C : Coding L) → Own C → ReadsBack C
reads_back {L} C own h count m out k e given has =
    bind_inv (decode C (formed C h count m)) _ _ e (λ s d e₁.
    bind_inv (last_checks count (length m.records) (length (formed C h count m)) (length out)) _ _ e₁ (λ _ e₂ e₃.
    let t₁ = require_inv (leb count (length m.records)) _ _ _ e₂ in
    let size : length (formed C h count m) ≡ k = cc (e₃) in
    let w = told C own h count m (formed C h count m) s refl d in
    let n : length s.records ≡ count = w.1 ∙ length-take-le count m.records (leb-true _ _ t₁.0) in
    let u : s.head ≡ h = ap (λ z. z.head) w.0 in
    let fits : room s given ≡ true = ap (λ z. room z given) w.0 ∙ has in
    let b : List ℕ = take k (written (Ok k) (formed C h count m) out) in
    let is : b ≡ formed C h count m = take_at (formed C h count m) (drop (length (formed C h count m)) out) k size in
    let d₁ : decode C b ≡ Ok s = ap (decode C) is ∙ d in
    let answer : reads C b given ≡ Ok (h, count) = ap (λ z. bind z (λ s. require (room s given) (10, length b, InScript) (Ok (s.head, length s.records)))) d₁ ∙ ap (λ z. require z (10, length b, InScript) (Ok (s.head, length s.records))) fits ∙ (λ i. Ok (u i, n i)) in
    (answer, after_read C own b s given h count d₁ fits u n ∙ w.0)))
