-- What the script backplane means.
use Rattle.std.specs.Cow.{cow_slice_items}
use Rattle.exchanges.specs.Plane.{Plane}
use Rattle.script.specs.ScriptAnswers.{script}
use Rattle.script.specs.declared.script_plane.ScriptBackplane.{ScriptBackplane}

abbrev pub script_plane : {I : Type 0} → ScriptBackplane I → Plane I
script_plane b =
    script b.boards b.bad (cow_slice_items b.rules.records) (cow_slice_items b.slips) b.rules.round
