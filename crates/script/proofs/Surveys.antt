-- The two passes of read together.
use Rattle.std.proofs.lemmas.Grind.{common_steps}
use Rattle.std.proofs.Common.{◌≡◌, ℕ, ◌≤◌, Bool, true, false, cond, leb, List, ◌++◌, length, take, drop, Ok, Err, Result, sym, refl, ap, ◌∙◌, subst, arith, le-leb}
use Rattle.std.proofs.lemmas.Bool.{and_from}
use Rattle.labels.specs.Faults.{Numbered, require}
use Rattle.script.specs.declared.model.Header.{Header}
use Rattle.script.specs.declared.model.Record.{Record}
use Rattle.labels.specs.declared.slip.Slip.{Slip}
use Rattle.script.specs.declared.survey.Survey.{Survey}
use Rattle.labels.specs.declared.fault.Reader.TheVariants.{Script as InScript}
use Rattle.labels.specs.Coding.{Coding, Own, read_at}
use Rattle.script.specs.Entries.{Entry, entries}
use Rattle.script.specs.Readers.{Read, then, bind}
use Rattle.script.specs.Fields.{many}
use Rattle.script.specs.Header.{header, bad_map}
use Rattle.script.specs.Memory.{Lists, lists, room, reads, filled, notes, all_slips, laid}
use Rattle.script.specs.Passes.{placed, counted, surveyed, Filled, Room, Stored}
use Rattle.script.specs.Script.{Script, decode, most}
use Rattle.script.proofs.Follow.{then_inv, require_inv}
use Rattle.script.proofs.Moves.{many_moves, label_moves}

-- what a first pass that succeeds has found
pub record Found {L : Type 0} (C : Coding L) (b : List ℕ) (v : Survey) : Type 0 where
  pub ps : List L
  pub es : List (Entry L)
  pub last : ℕ
  pub labels_are : many v.head.boards (read_at C) b v.start ≡ Ok (ps, v.rest)
  pub entries_are : entries C v.head.boards (bad_map v.head) (length b) 0 0 b v.rest ≡ Ok (es, last)
  pub counts : v.records ≡ length es
  pub counts_slips : v.slips ≡ length (all_slips es)
  pub counts_labels : length ps ≡ v.head.boards
  pub decodes : decode C b ≡ Ok (record { head = v.head; proposals = ps; records = es })

module _ {L : Type 0} (C : Coding L) (own : Own C) (b : List ℕ) where
  of_entries : (h : Header) (p q : ℕ) (m : Read (List (Entry L))) (v : Survey) {G : Type 0} → bind (counted m) (λ c. Ok (record { head = h; start = p; rest = q; records = c.0; slips = c.1 })) ≡ Ok v → ((es : List (Entry L)) (z : ℕ) → m ≡ Ok (es, z) → ◌≡◌ {A = Survey} (record { head = h; start = p; rest = q; records = length es; slips = length (all_slips es) }) v → G) → G
  of_entries h p q (Ok x) v e k = k x.0 x.1 refl (cc)
  of_entries h p q (Err g) v e k = absurd (cc)

  of_placed : {X : Type 0} (m : Read X) (f : ℕ → Result Survey Numbered) (v : Survey) {G : Type 0} → bind (placed m) f ≡ Ok v → ((x : X) (q : ℕ) → m ≡ Ok (x, q) → f q ≡ Ok v → G) → G
  of_placed (Ok x) f v e k = k x.0 x.1 refl e
  of_placed (Err g) f v e k = absurd (cc)

  pub found : (v : Survey) → Ok v ≡ surveyed C b → Found C b v
  found v u =
      let t = require_inv (leb (length b) most) _ _ _ (sym u) in
      then_inv (header C.kind b 0) _ _ t.1 (λ h p e₁ h₁.
      of_placed (many h.boards (read_at C) b p) _ v h₁ (λ ps q e₂ h₂.
      of_entries h p q (entries C h.boards (bad_map h) (length b) 0 0 b q) v h₂ (λ es z e₃ o.
      let made : Found C b (record { head = h; start = p; rest = q; records = length es; slips = length (all_slips es) }) = record {
        ps = ps;
        es = es;
        last = z;
        labels_are = e₂;
        entries_are = e₃;
        counts = refl;
        counts_slips = refl;
        counts_labels = (many_moves (read_at C) (label_moves C own) h.boards b p ps q e₂).2;
        decodes = rw (t.0, e₁, e₂, e₃) refl;
      } in
      subst (Found C b) o made)))

  entries_fault : (h : Header) (ps : List L) (p q : ℕ) (m : Read (List (Entry L))) (g : Numbered) → bind {Y = Survey} (counted m) (λ c. Ok (record { head = h; start = p; rest = q; records = c.0; slips = c.1 })) ≡ Err g → then {Y = Script L} m (λ es r. Ok (record { head = h; proposals = ps; records = es })) ≡ Err g
  entries_fault h ps p q (Ok x) g e = absurd (cc)
  entries_fault h ps p q (Err f) g e = let i : f ≡ g = cc in ap Err i

  labels_fault : (h : Header) (p : ℕ) (m : Read (List L)) (g : Numbered) → bind {Y = Survey} (placed m) (λ q. bind {Y = Survey} (counted (entries C h.boards (bad_map h) (length b) 0 0 b q)) (λ c. Ok (record { head = h; start = p; rest = q; records = c.0; slips = c.1 }))) ≡ Err g → then {Y = Script L} m (λ ps q. then {Y = Script L} (entries C h.boards (bad_map h) (length b) 0 0 b q) (λ es r. Ok (record { head = h; proposals = ps; records = es }))) ≡ Err g
  labels_fault h p (Ok x) g e = entries_fault h x.0 p x.1 (entries C h.boards (bad_map h) (length b) 0 0 b x.1) g e
  labels_fault h p (Err f) g e = let i : f ≡ g = cc in ap Err i

  header_fault : (m : Read Header) (g : Numbered) → then {Y = Survey} m (λ h p. bind {Y = Survey} (placed (many h.boards (read_at C) b p)) (λ q. bind {Y = Survey} (counted (entries C h.boards (bad_map h) (length b) 0 0 b q)) (λ c. Ok (record { head = h; start = p; rest = q; records = c.0; slips = c.1 })))) ≡ Err g → then {Y = Script L} m (λ h p. then {Y = Script L} (many h.boards (read_at C) b p) (λ ps q. then {Y = Script L} (entries C h.boards (bad_map h) (length b) 0 0 b q) (λ es r. Ok (record { head = h; proposals = ps; records = es })))) ≡ Err g
  header_fault (Ok x) g e = labels_fault x.0 x.1 (many x.0.boards (read_at C) b x.1) g e
  header_fault (Err f) g e = let i : f ≡ g = cc in ap Err i

  require_fault : (t : Bool) (f g : Numbered) (m : Result Survey Numbered) (k : Result (Script L) Numbered) → (m ≡ Err g → k ≡ Err g) → require t f m ≡ Err g → require t f k ≡ Err g
  require_fault true f g m k h e = h e
  require_fault false f g m k h e = let i : f ≡ g = cc in ap Err i

  pub same_fault : (g : Numbered) → Err g ≡ surveyed C b → decode C b ≡ Err g
  same_fault g e = require_fault (leb (length b) most) _ g _ _ (header_fault (header C.kind b 0) g) (sym e)

  pub reads_fault : (g : Numbered) (m : Lists L) → Err g ≡ surveyed C b → (Err g ≡ reads C b m) × (m ≡ filled (decode C b) m)
  reads_fault g m e = let d = sym (same_fault g e) in (ap (λ z. bind z (λ s. require (room s m) (10, length b, InScript) (Ok (s.head, length s.records)))) d, ap (λ z. filled z m) d)

module _ {L : Type 0} {C : Coding L} {b : List ℕ} {v : Survey} (f : Found C b v) where
  whole : Script L
  whole = record { head = v.head; proposals = f.ps; records = f.es }

  -- what read does, once the script is known and whether there is room
  answers : (m : Lists L) (t : Bool) → room whole m ≡ t → (require t (10, length b, InScript) (Ok (v.head, length f.es)) ≡ reads C b m) × (cond t (lists (laid f.ps m.proposals) (laid (notes f.es) m.records) (laid (all_slips f.es) m.slips)) m ≡ filled (decode C b) m)
  unfolding whole
  answers m t e = (
    ap (λ k. require k (10, length b, InScript) (Ok (v.head, length f.es))) (sym e) ∙ ap (λ z. bind z (λ s. require (room s m) (10, length b, InScript) (Ok (s.head, length s.records)))) (sym f.decodes),
    ap (λ k. cond k (lists (laid f.ps m.proposals) (laid (notes f.es) m.records) (laid (all_slips f.es) m.slips)) m) (sym e) ∙ ap (λ z. filled z m) (sym f.decodes),
  )

  no_room : (m : Lists L) (t : Bool) → room whole m ≡ t → (v.head.boards ≤ length m.proposals → v.records ≤ length m.records → v.slips ≤ length m.slips → ⊥) → t ≡ false
  unfolding whole
  no_room m true e h = grind (arith, common_steps)
  no_room m false e h = refl

  pub reads_short : (m : Lists L) → (v.head.boards ≤ length m.proposals → v.records ≤ length m.records → v.slips ≤ length m.slips → ⊥) → (Err (10, length b, InScript) ≡ reads C b m) × (m ≡ filled (decode C b) m)
  reads_short m h = answers m false (no_room m (room whole m) refl h)

  labels_at : (m : Lists L) → v.head.boards ≤ length m.proposals → many (length (take v.head.boards m.proposals)) (read_at C) b v.start ≡ Ok (f.ps, v.rest)
  labels_at m a = grind (arith, common_steps)

  pub no_label_fault : (m : Lists L) → v.head.boards ≤ length m.proposals → (g : Numbered) (new : List L) → Filled (many (length (take v.head.boards m.proposals)) (read_at C) b v.start) (Err g) new → ⊥
  no_label_fault m a g new h = grind (arith, common_steps)

  pub enough : (m k : ℕ) → v.records ≤ m → v.slips ≤ k → Room (entries C v.head.boards (bad_map v.head) (length b) 0 0 b v.rest) m k
  enough m k h i = grind (arith, common_steps)

  pub no_entry_fault : (g : Numbered) (a c : List Record) (d e : List (Slip L)) → Stored (entries C v.head.boards (bad_map v.head) (length b) 0 0 b v.rest) (Err g) a c d e → ⊥
  no_entry_fault g a c d e h = grind (arith, common_steps)

  pub reads_all : (q : ℕ) (m : Lists L) (own ps : List L) (rs : List Record) (ss : List (Slip L)) → v.head.boards ≤ length m.proposals → v.records ≤ length m.records → v.slips ≤ length m.slips → Filled (many (length (take v.head.boards m.proposals)) (read_at C) b v.start) (Ok q) own → ps ≡ own ++ drop v.head.boards m.proposals → Stored (entries C v.head.boards (bad_map v.head) (length b) 0 0 b v.rest) (Ok tt) m.records rs m.slips ss → (Ok (v.head, v.records) ≡ reads C b m) × (lists ps rs ss ≡ filled (decode C b) m)
  unfolding whole
  reads_all q m own ps rs ss a c d h put i =
      let x = f.counts in
      let y = f.counts_slips in
      let z = f.counts_labels in
      let a₁ : length f.ps ≤ length m.proposals = omega arith in
      let c₁ : length f.es ≤ length m.records = omega arith in
      let d₁ : length (all_slips f.es) ≤ length m.slips = omega arith in
      let fits : room whole m ≡ true = and_from _ _ (le-leb _ _ a₁) (and_from _ _ (le-leb _ _ c₁) (le-leb _ _ d₁)) in
      let o = answers m true fits in
      let p : ps ≡ laid f.ps m.proposals = put ∙ ap (λ l. l ++ drop v.head.boards m.proposals) (subst (λ t. Filled t (Ok q) own) (labels_at m a) h).1 ∙ ap (λ k. f.ps ++ drop k m.proposals) (sym z) in
      let s = subst (λ t. Stored t (Ok tt) m.records rs m.slips ss) f.entries_are i in
      (ap (λ k. Ok (v.head, k)) x ∙ o.0, (λ j. lists (p j) (s.1 j) (s.2 j)) ∙ o.1)
