-- The second pass over the records as a loop.
use Rattle.std.proofs.Common.{◌≡◌, ℕ, suc, ◌+◌, ◌-◌, ◌<◌, ◌≤◌, List, [], ◌∷◌, ◌++◌, length, get_or, take, drop, set, Ok, Err, sym, refl, ap, ◌∙◌, subst, append_assoc, append-nil, arith, lt-ltb}
use lib.Count.{ones}
use Rattle.std.proofs.lemmas.List.{length-append, length-take, length-drop, drop-drop, take_at, drop_at, set_at, drop_more}
use Rattle.labels.specs.Faults.{Numbered}
use Rattle.script.specs.declared.model.Record.{Record}
use Rattle.script.specs.declared.records.Turn.{Turn}
use Rattle.labels.specs.declared.slip.Slip.{Slip}
use Rattle.labels.specs.Coding.{Coding, Own}
use Rattle.script.specs.Entries.{Entry, slip, fixed, entry, entries}
use Rattle.script.specs.Readers.{Read, then}
use Rattle.script.specs.Fields.{many}
use Rattle.script.specs.Memory.{all_slips, notes, laid}
use Rattle.script.specs.Passes.{Filled, Room, Stored}
use Rattle.script.proofs.Loops.{onto, none_onto, one_onto}
use Rattle.script.proofs.Follow.{ok_same}
use Rattle.script.proofs.Moves.{entry_moves, ended}

pub length_notes : {L : Type 0} (es : List (Entry L)) → length (notes es) ≡ length es
length_notes [] = refl
length_notes (e ∷ es) = ap suc (length_notes es)

notes_push : {L : Type 0} (es : List (Entry L)) (e : Entry L) → notes (es ++ (e ∷ [])) ≡ notes es ++ (e.note ∷ [])
notes_push [] e = refl
notes_push (x ∷ es) e = ap (λ l. x.note ∷ l) (notes_push es e)

slips_push : {L : Type 0} (es : List (Entry L)) (e : Entry L) → all_slips (es ++ (e ∷ [])) ≡ all_slips es ++ e.slips
slips_push [] e = append-nil e.slips
slips_push (x ∷ es) e = ap (λ l. x.slips ++ l) (slips_push es e) ∙ sym (append_assoc x.slips (all_slips es) e.slips)

slips_append : {L : Type 0} (es fs : List (Entry L)) → length (all_slips (es ++ fs)) ≡ length (all_slips es) + length (all_slips fs)
slips_append [] fs = omega arith
slips_append (x ∷ es) fs = length-append x.slips (all_slips (es ++ fs)) ∙ ap (λ k. length x.slips + k) (slips_append es fs) ∙ (let h = length-append x.slips (all_slips es) in omega arith)

-- there is room for one record more
more_room : {L : Type 0} (ds : List (Entry L)) (e : Entry L) (m k : ℕ) (rest : Read (List (Entry L))) → Room (onto (ds ++ (e ∷ [])) rest) m k → (length ds < m) × (length (all_slips ds) + length e.slips ≤ k)
more_room ds e m k (Ok y) h =
    let a = length-append (ds ++ (e ∷ [])) y.0 in
    let b = length-append ds (e ∷ []) in
    let c = slips_append (ds ++ (e ∷ [])) y.0 in
    let d = ap length (slips_push ds e) ∙ length-append (all_slips ds) e.slips in
    (omega arith, omega arith)
more_room ds e m k (Err g) h = absurd h

push_note : {L : Type 0} (ds : List (Entry L)) (e : Entry L) (old new : List Record) (count : ℕ) (r : Record) → length ds ≡ count → count < length old → new ≡ notes ds ++ drop count old → r ≡ e.note → set new count r ≡ notes (ds ++ (e ∷ [])) ++ drop (count + 1) old
push_note ds e old new count r c within h same =
    ap (λ l. set l count r) (h ∙ ap (λ l. notes ds ++ l) (drop_more old count r within))
    ∙ set_at (notes ds) (get_or old count r) (drop (count + 1) old) r count (length_notes ds ∙ c)
    ∙ sym (append_assoc (notes ds) (r ∷ []) (drop (count + 1) old))
    ∙ ap (λ z. (notes ds ++ (z ∷ [])) ++ drop (count + 1) old) same
    ∙ ap (λ l. l ++ drop (count + 1) old) (sym (notes_push ds e))

push_slips : {L : Type 0} (ds : List (Entry L)) (e : Entry L) (old new ns : List (Slip L)) (done w : ℕ) → length (all_slips ds) ≡ done → new ≡ all_slips ds ++ drop done old → ns ≡ take done new ++ (e.slips ++ drop (done + w) new) → ns ≡ all_slips (ds ++ (e ∷ [])) ++ drop (done + w) old
push_slips ds e old new ns done w c h f =
    let front : take done new ≡ all_slips ds = ap (take done) h ∙ take_at (all_slips ds) (drop done old) done c in
    let rest : drop (done + w) new ≡ drop (done + w) old = sym (drop-drop w done new) ∙ ap (drop w) (ap (drop done) h ∙ drop_at (all_slips ds) (drop done old) done c) ∙ drop-drop w done old in
    f ∙ ap (λ l. l ++ (e.slips ++ drop (done + w) new)) front ∙ ap (λ l. all_slips ds ++ (e.slips ++ l)) rest
    ∙ sym (append_assoc (all_slips ds) e.slips (drop (done + w) old)) ∙ ap (λ l. l ++ drop (done + w) old) (sym (slips_push ds e))

-- what one step reads, and the room for it
record Step {L : Type 0} (C : Coding L) (n bad : ℕ) (b : List ℕ) (p count done round sender m k : ℕ) : Type 0 where
  pub e : Entry L
  pub mid : ℕ
  pub end : ℕ
  pub head_is : fixed n bad round sender b p ≡ Ok (e.note, mid)
  pub slips_is : many (ones e.note.forged) (slip C) b mid ≡ Ok (e.slips, end)
  pub entry_is : entry C n bad round sender b p ≡ Ok (e, end)
  pub slips_are : length e.slips ≡ ones e.note.forged
  pub room : count < m
  pub room_slips : done + ones e.note.forged ≤ k
  pub on : p < end
  pub in_bytes : end ≤ length b

-- what the loop keeps
pub record Storing {L : Type 0} (C : Coding L) (n bad : ℕ) (b : List ℕ) (start : ℕ) (old : List Record) (old_slips : List (Slip L)) (p count done round sender : ℕ) (new : List Record) (new_slips : List (Slip L)) : Type 0 where
  pub ds : List (Entry L)
  pub reads : entries C n bad (length b) 0 0 b start ≡ onto ds (entries C n bad (length b - count) round sender b p)
  pub low : count ≤ p
  pub counts : length ds ≡ count
  pub counts_slips : length (all_slips ds) ≡ done
  pub holds : new ≡ notes ds ++ drop count old
  pub holds_slips : new_slips ≡ all_slips ds ++ drop done old_slips

pub storing_none : {L : Type 0} (C : Coding L) (n bad : ℕ) (b : List ℕ) (start : ℕ) (old : List Record) (old_slips : List (Slip L)) → Storing C n bad b start old old_slips start 0 0 0 0 old old_slips
storing_none {L} C n bad b start old old_slips =
    let e : length b ≡ length b - 0 = omega arith in
    record { ds = []; reads = none_onto (entries C n bad (length b) 0 0 b start) ∙ ap (λ k. onto {X = Entry L} [] (entries C n bad k 0 0 b start)) e; low = omega arith; counts = refl; counts_slips = refl; holds = refl; holds_slips = refl }

module _ {L : Type 0} {C : Coding L} (own : Own C) {n bad : ℕ} {b : List ℕ} {start : ℕ} {old : List Record} {old_slips : List (Slip L)} {p count done round sender : ℕ} {new : List Record} {new_slips : List (Slip L)} (s : Storing C n bad b start old old_slips p count done round sender new new_slips) (more : p < length b) (room : Room (entries C n bad (length b) 0 0 b start) (length old) (length old_slips)) where
  rest_of : Entry L → ℕ → Read (List (Entry L))
  rest_of e q = entries C n bad (length b - (count + 1)) e.note.round e.note.sender b q

  opened : entries C n bad (length b - count) round sender b p ≡ then (entry C n bad round sender b p) (λ e q. then (rest_of e q) (λ es r. Ok (e ∷ es, r)))
  unfolding rest_of
  opened =
      let low = s.low in
      let left : length b - count ≡ suc (length b - (count + 1)) = omega arith in
      rw (left, lt-ltb p (length b) more) refl

  step : Step C n bad b p count done round sender (length old) (length old_slips)
  step = with_fixed (fixed n bad round sender b p) refl (subst (λ z. Room z (length old) (length old_slips)) (s.reads ∙ ap (onto s.ds) opened) room)
    where
      with_slips : (r : Record) (mid : ℕ) → fixed n bad round sender b p ≡ Ok (r, mid) → (x : Read (List (Slip L))) → many (ones r.forged) (slip C) b mid ≡ x → Room (onto s.ds (then (then x (λ ss q. Ok (record { note = r; slips = ss }, q))) (λ e q. then (rest_of e q) (λ es r. Ok (e ∷ es, r))))) (length old) (length old_slips) → Step C n bad b p count done round sender (length old) (length old_slips)
      with_slips r mid h (Ok x) a z =
          let y : Entry L = record { note = r; slips = x.0 } in
          let is : entry C n bad round sender b p ≡ Ok (y, x.1) = rw (h, a) refl in
          let mv = entry_moves C own n bad round sender b p y x.1 is in
          let w = more_room s.ds y (length old) (length old_slips) (rest_of y x.1) (subst (λ u. Room u (length old) (length old_slips)) (one_onto y s.ds (rest_of y x.1)) z) in
          let c₁ = s.counts in
          let c₂ = s.counts_slips in
          record { e = y; mid = mid; end = x.1; head_is = h; slips_is = a; entry_is = is; slips_are = mv.2; room = omega arith; room_slips = omega (arith, mv.2); on = omega arith; in_bytes = mv.1 }
      with_slips r mid h (Err f) a z = absurd z

      with_fixed : (x : Read Record) → fixed n bad round sender b p ≡ x → Room (onto s.ds (then (then x (λ r q. then (many (ones r.forged) (slip C) b q) (λ ss t. Ok (record { note = r; slips = ss }, t)))) (λ e q. then (rest_of e q) (λ es r. Ok (e ∷ es, r))))) (length old) (length old_slips) → Step C n bad b p count done round sender (length old) (length old_slips)
      with_fixed (Ok x) h z = with_slips x.0 x.1 h (many (ones x.0.forged) (slip C) b x.1) refl z
      with_fixed (Err f) h z = absurd z

  pub no_fault : {g : Numbered} → Err g ≡ fixed n bad round sender b p → ⊥
  no_fault h = let i = step.head_is in cc (h, i)

  module _ {r : Record} {q w : ℕ} (h : Ok (r, q) ≡ fixed n bad round sender b p) (v : w ≡ ones r.forged) where
    note_is : r ≡ step.e.note
    note_is = (ok_same r step.e.note q step.mid (h ∙ step.head_is)).0

    ones_is : w ≡ ones step.e.note.forged
    ones_is = v ∙ ap (λ z. ones z.forged) note_is

    pub has_room : (count < length old) × (done + w ≤ length old_slips)
    has_room = (step.room, let a = step.room_slips in let c = ones_is in omega arith)

    -- the part of the list that the slips fill
    pub own_part : length (take (done + w - done) (drop done new_slips)) ≡ w
    own_part =
        let c = has_room.1 in
        let e = ap length s.holds_slips in
        let d = s.counts_slips in
        let long : length new_slips ≡ length old_slips = e ∙ simp (length-append, length-drop) (omega arith) in
        simp (length-take, length-drop) (omega arith)

    read_part : many (length (take (done + w - done) (drop done new_slips))) (slip C) b q ≡ Ok (step.e.slips, step.end)
    read_part = ap (λ z. many z (slip C) b q) (own_part ∙ ones_is) ∙ ap (λ z. many (ones step.e.note.forged) (slip C) b z) (ok_same r step.e.note q step.mid (h ∙ step.head_is)).1 ∙ step.slips_is

    pub no_slip_fault : (g : Numbered) (part : List (Slip L)) → Filled (many (length (take (done + w - done) (drop done new_slips))) (slip C) b q) (Err g) part → ⊥
    no_slip_fault g part f = let i = (subst (λ z. Filled z (Err g) part) read_part f).0 in cc (i)

    module _ (end : ℕ) (part : List (Slip L)) (f : Filled (many (length (take (done + w - done) (drop done new_slips))) (slip C) b q) (Ok end) part) where
      filled : (end ≡ step.end) × (part ≡ step.e.slips)
      filled = let i = subst (λ z. Filled z (Ok end) part) read_part f in let e : end ≡ step.end = cc (i.0) in (e, i.1)

      pub goes_on : (p < end) × (end ≤ length b)
      goes_on =
          let e = filled.0 in
          let a = step.on in
          let c = step.in_bytes in
          (omega arith, omega arith)

      pub storing_more : (t : Turn) (ns : List (Slip L)) → t ≡ record { round = r.round; sender = r.sender } → ns ≡ take done new_slips ++ (part ++ drop (done + w - done) (drop done new_slips)) → Storing C n bad b start old old_slips end (count + 1) (done + w) t.round t.sender (set new count r) ns
      unfolding rest_of
      storing_more t ns turn put =
          let e = sym filled.0 in
          let whole : done + (done + w - done) ≡ done + w = omega arith in
          let read : entries C n bad (length b - count) round sender b p ≡ then (rest_of step.e step.end) (λ es z. Ok (step.e ∷ es, z)) = opened ∙ ap (λ z. then z (λ x y. then (rest_of x y) (λ es u. Ok (x ∷ es, u)))) step.entry_is in
          let as_read : rest_of step.e step.end ≡ entries C n bad (length b - (count + 1)) r.round r.sender b end = ap (λ z. entries C n bad (length b - (count + 1)) z.round z.sender b step.end) (sym note_is) ∙ ap (λ z. entries C n bad (length b - (count + 1)) r.round r.sender b z) e in
          let low = s.low in
          let on = step.on in
          let c₁ = s.counts in
          let c₂ = s.counts_slips in
          let l₁ = length-append s.ds (step.e ∷ []) in
          let l₂ = ap length (slips_push s.ds step.e) ∙ length-append (all_slips s.ds) step.e.slips in
          let l₃ = step.slips_are in
          let l₄ = ones_is in
          let same : entries C n bad (length b - (count + 1)) r.round r.sender b end ≡ entries C n bad (length b - (count + 1)) t.round t.sender b end = ap (λ z. entries C n bad (length b - (count + 1)) z.round z.sender b end) (sym turn) in
          record {
            ds = s.ds ++ (step.e ∷ []);
            reads = s.reads ∙ ap (onto s.ds) read ∙ one_onto step.e s.ds (rest_of step.e step.end) ∙ ap (onto (s.ds ++ (step.e ∷ []))) (as_read ∙ same);
            low = omega arith;
            counts = omega arith;
            counts_slips = omega arith;
            holds = push_note s.ds step.e old new count r c₁ step.room s.holds note_is;
            holds_slips = push_slips s.ds step.e old_slips new_slips ns done w c₂ s.holds_slips (put ∙ ap (λ l. take done new_slips ++ (l ++ drop (done + w - done) (drop done new_slips))) filled.1 ∙ ap (λ l. take done new_slips ++ (step.e.slips ++ l)) (drop-drop (done + w - done) done new_slips ∙ ap (λ k. drop k new_slips) whole));
          }

pub storing_all : {L : Type 0} {C : Coding L} {n bad : ℕ} {b : List ℕ} {start : ℕ} {old : List Record} {old_slips : List (Slip L)} {p count done round sender : ℕ} {new : List Record} {new_slips : List (Slip L)} → Storing C n bad b start old old_slips p count done round sender new new_slips → length b ≤ p → Stored (entries C n bad (length b) 0 0 b start) (Ok tt) old new old_slips new_slips
storing_all {C = C} {n = n} {bad = bad} {b = b} {start = start} {old = old} {old_slips = old_slips} {p = p} {count = count} {round = round} {sender = sender} {new = new} {new_slips = new_slips} s h =
    let all : entries C n bad (length b) 0 0 b start ≡ Ok (s.ds, p) = s.reads ∙ ap (onto s.ds) (ended C n bad (length b - count) round sender b p h) ∙ ap (λ l. Ok (l, p)) (append-nil s.ds) in
    let a : new ≡ laid (notes s.ds) old = s.holds ∙ ap (λ z. notes s.ds ++ drop z old) (sym (length_notes s.ds ∙ s.counts)) in
    let c : new_slips ≡ laid (all_slips s.ds) old_slips = s.holds_slips ∙ ap (λ z. all_slips s.ds ++ drop z old_slips) (sym s.counts_slips) in
    subst (λ z. Stored z (Ok tt) old new old_slips new_slips) (sym all) (refl, a, c)
