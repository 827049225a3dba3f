-- What comes of a script that is read and written, but not run.
use Rattle.std.specs.Prelude.{Ok, Err, Result, ⊤}
use Rattle.report.specs.declared.error.ScriptError.{ScriptError}
use Rattle.report.specs.declared.error.ScriptError.TheVariants.{NoMemory, Unreadable, Refused}

-- no run is refused, since there is none
abbrev pub NotRefused : {A : Type 0} → Result A ScriptError → Type 0
NotRefused (Ok x) = ⊤
NotRefused (Err (NoMemory e)) = ⊤
NotRefused (Err (Unreadable f)) = ⊤
NotRefused (Err (Refused r)) = ⊥
