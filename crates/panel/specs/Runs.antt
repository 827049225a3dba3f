-- What goes on with a run.
use Rattle.std.specs.Prelude.{◌≡◌}
use Rattle.labels.specs.declared.slip.Slip.{Slip}
use Rattle.exchanges.specs.declared.exchange.Exchange.{Ghosts}
use Rattle.panel.specs.declared.run.Run.{Run}

-- it is of the same phase, and holds the same exchange and memory
abbrev pub GoesOn : {L E : Type 0} {x : Ghosts E (Slip L)} → Run L E x → Run L E x → Type 0
GoesOn a b = (b.phase ≡ a.phase) × (b.exchange.ghost_name ≡ a.exchange.ghost_name) × (b.heard.ghost_name ≡ a.heard.ghost_name) × (b.blocks.ghost_name ≡ a.blocks.ghost_name) × (b.work.ghost_name ≡ a.work.ghost_name)
