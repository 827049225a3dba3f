-- The first pass over the records as a loop.
use Rattle.std.proofs.lemmas.Grind.{common_steps}
use Rattle.std.proofs.Common.{◌≡◌, ℕ, suc, ◌+◌, ◌-◌, ◌<◌, ◌≤◌, List, ◌∷◌, length, Ok, Err, Result, sym, refl, ap, ◌∙◌, add-zero, arith, lt-ltb}
use lib.Count.{ones}
use Rattle.labels.specs.Faults.{Numbered}
use Rattle.script.specs.declared.model.Record.{Record}
use Rattle.script.specs.declared.records.Turn.{Turn}
use Rattle.labels.specs.Coding.{Coding, Own}
use Rattle.script.specs.Entries.{Entry, entry, entries}
use Rattle.script.specs.Readers.{Read, then}
use Rattle.script.specs.Memory.{all_slips}
use Rattle.script.specs.Passes.{noted, counted}
use Rattle.script.proofs.Follow.{ok_same}
use Rattle.script.proofs.Moves.{entry_moves, ended}

-- so many records and slips more
abbrev pub added : {L : Type 0} → ℕ → ℕ → Read (List (Entry L)) → Result (ℕ × ℕ) Numbered
added c s (Ok x) = Ok (c + length x.0, s + length (all_slips x.0))
added c s (Err e) = Err e

one_added : {L : Type 0} (c s : ℕ) (e : Entry L) (m : Read (List (Entry L))) → added c s (then m (λ es r. Ok (e ∷ es, r))) ≡ added (c + 1) (s + length e.slips) m
one_added c s e (Ok x) = grind (arith, common_steps)
one_added c s e (Err g) = refl

noted_ok : {L : Type 0} {G : Type 0} (m : Read (Entry L)) (r : Record) (q : ℕ) → Ok (r, q) ≡ noted m → ((e : Entry L) → m ≡ Ok (e, q) → e.note ≡ r → G) → G
noted_ok (Ok x) r q h k = let o = ok_same r x.0.note q x.1 h in k x.0 (ap (λ z. Ok (x.0, z)) (sym o.1)) (sym o.0)
noted_ok (Err g) r q h k = absurd (cc)

noted_err : {L : Type 0} (m : Read (Entry L)) (g : Numbered) → Err g ≡ noted m → m ≡ Err g
noted_err (Ok x) g h = absurd (cc)
noted_err (Err f) g h = cc

-- what the loop keeps
pub record Counting {L : Type 0} (C : Coding L) (n bad : ℕ) (b : List ℕ) (start p count slips round sender : ℕ) : Type 0 where
  pub reads : counted (entries C n bad (length b) 0 0 b start) ≡ added count slips (entries C n bad (length b - count) round sender b p)
  pub low : count ≤ p
  pub few : slips ≤ p

module _ {L : Type 0} {C : Coding L} (own : Own C) {n bad : ℕ} {b : List ℕ} {start p count slips round sender : ℕ} (i : Counting C n bad b start p count slips round sender) (more : p < length b) where
  -- one record more: how far it goes, and what the loop then keeps
  pub counting_more : {r : Record} {q : ℕ} → Ok (r, q) ≡ noted (entry C n bad round sender b p) → (p < q) × (q ≤ length b) × (slips + ones r.forged ≤ q) × ((k : ℕ) (t : Turn) → k ≡ ones r.forged → t ≡ record { round = r.round; sender = r.sender } → Counting C n bad b start q (count + 1) (slips + k) t.round t.sender)
  counting_more {r} {q} h =
      noted_ok (entry C n bad round sender b p) r q h (λ e a same.
      let m = entry_moves C own n bad round sender b p e q a in
      let f : ones e.note.forged ≡ ones r.forged = ap (λ z. ones z.forged) same in
      let low = i.low in
      let few = i.few in
      let left : length b - count ≡ suc (length b - (count + 1)) = omega arith in
      let step : entries C n bad (length b - count) round sender b p ≡ then (entry C n bad round sender b p) (λ x z. then (entries C n bad (length b - (count + 1)) x.note.round x.note.sender b z) (λ es s. Ok (x ∷ es, s))) = rw (left, lt-ltb p (length b) more) refl in
      let on : added count slips (entries C n bad (length b - count) round sender b p) ≡ added (count + 1) (slips + length e.slips) (entries C n bad (length b - (count + 1)) e.note.round e.note.sender b q) = ap (added count slips) (step ∙ ap (λ w. then w (λ x z. then (entries C n bad (length b - (count + 1)) x.note.round x.note.sender b z) (λ es s. Ok (x ∷ es, s)))) a) ∙ one_added count slips e (entries C n bad (length b - (count + 1)) e.note.round e.note.sender b q) in (
        omega arith,
        m.1,
        omega arith,
        λ k t u v.
            let as_read : added (count + 1) (slips + length e.slips) (entries C n bad (length b - (count + 1)) e.note.round e.note.sender b q) ≡ added (count + 1) (slips + k) (entries C n bad (length b - (count + 1)) t.round t.sender b q) =
            ap (λ z. added (count + 1) (slips + z) (entries C n bad (length b - (count + 1)) e.note.round e.note.sender b q)) (m.2 ∙ f ∙ sym u) ∙ ap (λ z. added (count + 1) (slips + k) (entries C n bad (length b - (count + 1)) z.round z.sender b q)) same ∙ ap (λ z. added (count + 1) (slips + k) (entries C n bad (length b - (count + 1)) z.round z.sender b q)) (sym v) in
            record { reads = i.reads ∙ on ∙ as_read; low = omega arith; few = omega arith },
      ))

  pub counting_fault : {g : Numbered} → Err g ≡ noted (entry C n bad round sender b p) → Err g ≡ counted (entries C n bad (length b) 0 0 b start)
  counting_fault {g} h =
      let a = noted_err (entry C n bad round sender b p) g h in
      let low = i.low in
      let left : length b - count ≡ suc (length b - (count + 1)) = omega arith in
      let step : entries C n bad (length b - count) round sender b p ≡ Err g = rw (left, lt-ltb p (length b) more, a) refl in
      sym (i.reads ∙ ap (added count slips) step)

pub counting_all : {L : Type 0} {C : Coding L} {n bad : ℕ} {b : List ℕ} {start p count slips round sender : ℕ} → Counting C n bad b start p count slips round sender → length b ≤ p → Ok (count, slips) ≡ counted (entries C n bad (length b) 0 0 b start)
counting_all {C = C} {n = n} {bad = bad} {b = b} {p = p} {count = count} {slips = slips} {round = round} {sender = sender} i h =
    let e = ended C n bad (length b - count) round sender b p h in
    let c : count + 0 ≡ count = add-zero count in
    let s : slips + 0 ≡ slips = add-zero slips in
    let all : added count slips (entries C n bad (length b - count) round sender b p) ≡ Ok (count + 0, slips + 0) = ap (added count slips) e in
    let reads = i.reads in
    cc
