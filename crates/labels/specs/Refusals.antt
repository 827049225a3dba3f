-- The numbers of the refusals. Contracts name a refusal by its number.
use Rattle.std.specs.Prelude.{◌≡◌, ℕ, Bool, cond, List, [], ◌∷◌, Some, None, Option}
use Rattle.labels.specs.declared.refusal.Refusal.{Refusal}
use Rattle.labels.specs.declared.refusal.Refusal.TheVariants.{AlreadyFitted, BadCounts, NotFitted, NoSuchBoard, PhaseHasRun, AlreadyProposed, ProposalMissing, PhasesSpent, OtherCounts, MemoryTooShort, RoundLimit, ScriptTooLong, InputEnds, FieldOutOfRange, DefaultStands, NoLabel, RecordOrder, NoBoardOfRecord, EmptyRecord, LostAndForged, SoundForger, OutputTooShort}

abbrev pub row : Refusal → ℕ
row AlreadyFitted = 1
row BadCounts = 2
row NotFitted = 3
row NoSuchBoard = 4
row PhaseHasRun = 5
row AlreadyProposed = 6
row ProposalMissing = 7
row PhasesSpent = 8
row OtherCounts = 9
row MemoryTooShort = 10
row RoundLimit = 11
row ScriptTooLong = 12
row InputEnds = 13
row FieldOutOfRange = 14
row DefaultStands = 15
row NoLabel = 16
row RecordOrder = 17
row NoBoardOfRecord = 18
row EmptyRecord = 19
row LostAndForged = 20
row SoundForger = 21
row OutputTooShort = 22

-- no two refusals have one number
abbrev pub RowsDiffer : Type 0
RowsDiffer = (a b : Refusal) → row a ≡ row b → a ≡ b

-- the first row of a table whose test holds
abbrev pub first_row : List (Bool × ℕ) → Option ℕ
first_row [] = None
first_row (r ∷ rs) = cond r.0 (Some r.1) (first_row rs)
