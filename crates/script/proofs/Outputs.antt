-- What write answers, once the bytes are formed.
use Rattle.std.proofs.lemmas.Grind.{common_steps}
use Rattle.std.proofs.Common.{◌≡◌, ℕ, ◌≤◌, List, [], length, take, Ok, Err, Result, sym, ap, ◌∙◌, arith}
use Rattle.labels.specs.Coding.{Coding, Own}
use Rattle.labels.specs.Faults.{Numbered}
use Rattle.script.specs.declared.model.Header.{Header}
use Rattle.script.specs.declared.survey.Survey.{Survey}
use Rattle.script.specs.Memory.{Lists, formed, last_checks, writes}
use Rattle.script.specs.Passes.{Puts, surveyed}
use Rattle.script.specs.Readers.{bind}
use Rattle.script.specs.Script.{Script, decode}
use Rattle.script.proofs.Surveys.{found, same_fault}

-- what was put from the start of a buffer
pub put_front : (bytes new : List ℕ) (q : ℕ) → Puts bytes [] 0 (Ok q) new → (q ≡ length bytes) × (take q new ≡ bytes) × (q ≤ length new)
put_front bytes new q h = grind (arith, common_steps)

module _ {L : Type 0} (C : Coding L) (own : Own C) (h : Header) (count : ℕ) (m : Lists L) (size : ℕ) where
  -- what write answers after what read does
  finish : Result (Script L) Numbered → Result ℕ Numbered
  finish z = bind z (λ s. bind (last_checks count (length m.records) (length (formed C h count m)) size) (λ _. Ok (length (formed C h count m))))

  finished : (z : Result (Script L) Numbered) → decode C (formed C h count m) ≡ z → finish z ≡ writes C h count m size
  unfolding finish
  finished z e = ap finish (sym e)

  -- the bytes read as a script
  pub writes_read : (s : Script L) → decode C (formed C h count m) ≡ Ok s → (r : Result (Unit {0}) Numbered) → r ≡ last_checks count (length m.records) (length (formed C h count m)) size → bind r (λ _. Ok (length (formed C h count m))) ≡ writes C h count m size
  unfolding finish
  writes_read s d r e = grind (arith, common_steps)

  module _ (b : List ℕ) (is : b ≡ formed C h count m) where
    pub writes_fault : (g : Numbered) → Err g ≡ surveyed C b → Err g ≡ writes C h count m size
    unfolding finish
    writes_fault g e = finished (Err g) (ap (decode C) (sym is) ∙ same_fault C own b g e)

    pub writes_last : (v : Survey) → Ok v ≡ surveyed C b → (r : Result (Unit {0}) Numbered) (k : ℕ) → k ≡ length (formed C h count m) → r ≡ last_checks count (length m.records) k size → bind r (λ _. Ok (length (formed C h count m))) ≡ writes C h count m size
    writes_last v e r k u c =
        let f = found C own b v e in
        writes_read (record { head = v.head; proposals = f.ps; records = f.es }) (ap (decode C) (sym is) ∙ f.decodes) r (c ∙ ap (λ z. last_checks count (length m.records) z size) u)
