-- The history of a script that is run: the calls that it makes on a new panel.
use Rattle.std.specs.Prelude.{◌≡◌, ℕ, zero, suc, ◌+◌, cond, List, [], ◌∷◌, ◌++◌, map, length, take, Some, None, Ok, Err, Option, Result, nat_lt}
use Rattle.std.specs.List.{range_with_len}
use Rattle.std.specs.Option.{option_or, unwrap_or}
use Rattle.labels.specs.Refusals.{row}
use Rattle.labels.specs.Slip.{same_slip}
use Rattle.labels.specs.declared.refusal.Refusal.{Refusal}
use Rattle.labels.specs.declared.slip.Slip.{Slip}
use Rattle.exchanges.specs.Exchange.{Exchange}
use Rattle.exchanges.specs.Trees.{tree_meaning}
use Rattle.panel.specs.Slots.{Slot, Comparison, label_of}
use Rattle.panel.specs.Panel.{State, Event, Lengths, fit, propose, phase, refusal, step, run, after, new, asks, after_asks, at, verdict_place}
use Rattle.script.specs.declared.model.Header.{Header}
use Rattle.script.specs.Header.{faults_default, bad_map}
use Rattle.script.specs.Memory.{Lists, laid}
use Rattle.script.specs.ScriptAnswers.{script}

-- how many boards may be bad, and how many phases are run
abbrev pub borne : Header → ℕ
borne h = unwrap_or h.faults (faults_default h.boards)

abbrev pub phases_due : Header → ℕ
phases_due h = unwrap_or h.phases 8

-- each board proposes its label, from board q on
abbrev pub proposing : {L : Type 0} → ℕ → List L → List (Event L)
proposing q [] = []
proposing q (v ∷ vs) = propose q v ∷ proposing (q + 1) vs

-- the calls so far, and the exchange as it then is
pub record Course (L : Type 0) : Type 0 where
  pub calls : List (Event L)
  pub exchange : Exchange (Slip L)

-- k phases more of a panel that was s, over an exchange that was x, with blocks of the given lengths: each phase gets
-- the exchange as the phases before have left it
abbrev pub phases : {L : Type 0} → Comparison L → Lengths → State L → Exchange (Slip L) → ℕ → Course L
phases o l s x zero = record { calls = []; exchange = x }
phases o l s x (suc k) =
    let c = phases o l s x k in
    let p = run o s c.calls in
    record {
      calls = c.calls ++ (phase c.exchange l ∷ []);
      exchange = after_asks c.exchange (asks o p.boards p.faults (p.phases + 1) c.exchange p.slots);
    }

-- the calls before the phases
abbrev pub opening : {L : Type 0} → Header → List L → List (Event L)
opening h ps = fit h.boards (borne h) ∷ proposing 0 (take h.boards ps)

-- the tree exchange over the script's backplane
abbrev pub script_trees : {L : Type 0} → Comparison L → Header → ℕ → Lists L → Exchange (Slip L)
script_trees o h count m = tree_meaning (same_slip o) (borne h) (script h.boards (bad_map h) (take count m.records) m.slips 0)

-- the history of the script in memory, on a new panel over the given slots
abbrev pub history : {L : Type 0} → Comparison L → List (Slot L) → Lengths → Header → ℕ → Lists L → List (Event L)
history o slots l h count m =
    opening h m.proposals ++ (phases o l (after o slots (opening h m.proposals)) (script_trees o h count m) (phases_due h)).calls

-- the number of the first refusal in a list of calls
abbrev pub first_refusal : {L : Type 0} → Comparison L → State L → List (Event L) → Option ℕ
first_refusal o s [] = None
first_refusal o s (e ∷ h) = option_or (refusal s e) (first_refusal o (step o s e) h)

-- the verdicts of n boards
abbrev pub verdicts : {L : Type 0} → ℕ → State L → List (Option L)
verdicts n s = map (λ q. label_of (at s.slots q verdict_place)) (range_with_len 0 n)

-- what a run of the calls h for n boards answers, and what it leaves in the list of verdicts: where no call is refused,
-- the number of phases, and the verdicts that the boards then hold, with what lies past them as it was; else the first
-- refusal, and the list as it was. A list without room for all boards is refused before any call
abbrev pub Ran : {L : Type 0} → Comparison L → List (Slot L) → List (Event L) → ℕ → ℕ → List (Option L) → List (Option L) → Result ℕ Refusal → Type 0
Ran o slots h n k vs vs' (Ok f) =
    (cond (nat_lt (length vs) n) (Some 10) (first_refusal o (new slots) h) ≡ None) × (f ≡ k) × (vs' ≡ laid (verdicts n (after o slots h)) vs)
Ran o slots h n k vs vs' (Err e) = (cond (nat_lt (length vs) n) (Some 10) (first_refusal o (new slots) h) ≡ Some (row e)) × (vs' ≡ vs)

-- what a part of a run answers, and how it leaves the panel where it answers well
abbrev pub Went : {L U : Type 0} → Comparison L → State L → List (Event L) → State L → Result U Refusal → Type 0
Went o s h s' (Ok u) = (first_refusal o s h ≡ None) × (s' ≡ run o s h)
Went o s h s' (Err e) = first_refusal o s h ≡ Some (row e)
