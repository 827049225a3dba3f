-- What is promised of the verdicts of a panel, over every history.
use Rattle.std.specs.Prelude.{◌≡◌, ℕ, ◌+◌, ◌*◌, ◌<◌, ◌≤◌, Bool, true, List, [], ◌∷◌, ◌++◌, Some, None, Ok, Option, Result}
use Rattle.labels.specs.declared.refusal.Refusal.{Refusal}
use Rattle.labels.specs.Slip.{same_slip}
use Rattle.labels.specs.declared.slip.Slip.{Slip}
use Rattle.exchanges.specs.Boards.{count, Sound}
use Rattle.exchanges.specs.Plane as planes
use Rattle.exchanges.specs.Plane.{Plane}
use Rattle.exchanges.specs.CutLines.{cut_plane}
use Rattle.exchanges.specs.Exchange.{Exchange, Keeps}
use Rattle.exchanges.specs.Trees.{tree_meaning}
use Rattle.panel.specs.Slots.{Slot, Comparison}
use Rattle.panel.specs.Panel.{State, at, Event, Lengths, phase, propose, refusal, after, verdict_place}

-- a history h is a list of calls on a new panel over the memory m
module _ {L : Type 0} (o : Comparison L) (m : List (Slot L)) where
  -- the call e is made in h after h₁, and is accepted
  abbrev pub Accepted : List (Event L) → List (Event L) → Event L → Type 0
  Accepted h h₁ e = (h₂ : List (Event L)) × (h ≡ h₁ ++ (e ∷ h₂)) × (refusal (after o m h₁) e ≡ None)

  -- after h the slip s is the verdict of board q
  abbrev pub HoldsSlip : List (Event L) → ℕ → Slip L → Type 0
  HoldsSlip h q s = (q < (after o m h).boards) × (at (after o m h).slots q verdict_place ≡ Some s)

  -- board q holds the verdict v after h
  abbrev pub Holds : List (Event L) → ℕ → L → Type 0
  Holds h q v = (s : Slip L) × HoldsSlip h q s × (s.label ≡ v)

  -- board q proposed v in h
  abbrev pub Proposed : List (Event L) → ℕ → L → Type 0
  Proposed h q v = (h₁ : List (Event L)) × Accepted h h₁ (propose q v)

  -- q is a board of the panel after h, and is not bad
  abbrev pub SoundIn : (ℕ → Bool) → List (Event L) → ℕ → Type 0
  SoundIn bad h q = Sound (after o m h).boards bad q

  -- the exchange of each accepted phase keeps its meaning, and its bad boards are those given, at most as many as it bears
  abbrev pub Fair : (ℕ → Bool) → List (Event L) → Type 0
  Fair bad h = (h₁ : List (Event L)) (x : Exchange (Slip L)) (l : Lengths) → Accepted h h₁ (phase x l) → Keeps x × ((q : ℕ) → q < x.boards → x.bad q ≡ bad q) × (count bad x.boards ≤ x.faults)

  -- all exchanges of the phase that is the next after h are steady or clear at the rounds at which they begin
  abbrev pub Good : List (Event L) → Exchange (Slip L) → Type 0
  Good h x =
      ((g : ℕ) → g ≤ (after o m h).phases → x.steady (x.round + g * x.firm_rounds) ≡ true)
      × (x.clear (x.round + ((after o m h).phases + 1) * x.firm_rounds) ≡ true)
      × (x.clear (x.round + ((after o m h).phases + 1) * x.firm_rounds + 1) ≡ true)

  -- what is promised, where `bad` are the bad boards of every accepted phase
  pub record SettledFor (bad : ℕ → Bool) : Type 0 where
    -- two sound boards never hold different verdicts
    pub agreement : (h : List (Event L)) → Fair bad h → (p q : ℕ) (v w : L) → SoundIn bad h p → SoundIn bad h q → Holds h p v → Holds h q w → v ≡ w
    -- a verdict is kept for good, label and number
    pub lasting : (h more : List (Event L)) (q : ℕ) (s : Slip L) → HoldsSlip h q s → HoldsSlip (h ++ more) q s
    -- where every sound board proposed v, no sound board holds another verdict
    pub validity : (h : List (Event L)) → Fair bad h → (v : L) → ((q : ℕ) → SoundIn bad h q → Proposed h q v) → (p : ℕ) (w : L) → SoundIn bad h p → Holds h p w → w ≡ v
    -- after an accepted phase of steady and clear exchanges every sound board holds a verdict
    pub termination : (h : List (Event L)) (x : Exchange (Slip L)) (l : Lengths) → Fair bad (h ++ (phase x l ∷ [])) → refusal (after o m h) (phase x l) ≡ None → Good h x → (q : ℕ) → SoundIn bad (h ++ (phase x l ∷ [])) q → (v : L) × Holds (h ++ (phase x l ∷ [])) q v

  abbrev pub Settled : Type 0
  Settled = (bad : ℕ → Bool) → SettledFor bad

-- what a panel in state s promises as it answers r for the verdict of board q
pub record Promised {L : Type 0} (o : Comparison L) (s : State L) (q : ℕ) (r : Result (Option L) Refusal) : Type 0 where
  -- the law of all histories
  pub always : (m : List (Slot L)) → Settled o m
  -- our trees are exchanges that keep their meaning, over every backplane that keeps its own, with lines cut or none
  pub trees : (t : ℕ) (b : Plane (Slip L)) → planes.Keeps b → Keeps (tree_meaning (same_slip o) t b)
  pub cut_trees : (rows : List ℕ) (t : ℕ) (b : Plane (Slip L)) → planes.Keeps b → Keeps (tree_meaning (same_slip o) t (cut_plane rows b))
  -- for every history that leads here, the answer is v just where the board holds v
  pub told : (m : List (Slot L)) (h : List (Event L)) → s ≡ after o m h → (v : L) → (r ≡ Ok (Some v) → Holds o m h q v) × (Holds o m h q v → r ≡ Ok (Some v))
