-- What a reader answers, and how one reader follows another.
use Rattle.std.specs.Prelude.{ℕ, Ok, Err, Result}
use Rattle.labels.specs.Faults.{Numbered}

-- a value and the place after it, or a fault
abbrev pub Read : Type 0 → Type 0
Read X = Result (X × ℕ) Numbered

-- go on from a value and a place; a fault passes unchanged
abbrev pub then : {X Y : Type 0} → Read X → (X → ℕ → Result Y Numbered) → Result Y Numbered
then (Ok x) f = f x.0 x.1
then (Err e) f = Err e

-- go on from a value
abbrev pub bind : {X Y : Type 0} → Result X Numbered → (X → Result Y Numbered) → Result Y Numbered
bind (Ok x) f = f x
bind (Err e) f = Err e
