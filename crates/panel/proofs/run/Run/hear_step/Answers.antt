use Rattle.std.proofs.Common.{◌≤◌, ℕ, List, length, rules, refl, ap, ◌∙◌, arith}
use Rattle.panel.specs.Slots.{Slot}
use Rattle.panel.specs.Phase.{best_heard}
use Rattle.panel.specs.Votes.{block_row}
use Rattle.panel.specs.Panel.{at, column, put}
use Rattle.panel.proofs.Hearing.{plain_went}
use Rattle.panel.proofs.Running.{square_at_least}
use Rattle.panel.proofs.run.Run.hear_step.Goals as goal

pub returns : goal.returns
returns g c =
    let meaning = g.E.Exchange.meaning in
    let n = c.args.self.now.phase.size.boards in
    let to = c.args.to in
    let slots = c.args.slots.now in
    let wide : n ≤ length c.copy_column.new.sent = omega (arith, square_at_least n, c.args.self.now.room) in
    let h = plain_went meaning c.args.self.now.exchange.now c.plain.new.self c.args.self.now.heard.now c.plain.new.heard n c.args.self.now.ready.same c.args.self.now.square c.copy_column.new.sent (column n slots c.args.from) wide c.copy_column.ensures _ c.args.self.now.ready.fit c.requires.rounds c.plain.ensures in
    let taken = λ (h : List (Slot g.row.L.Denot)) (p : ℕ). best_heard g.L.Ordered.order n c.args.many c.args.self.now.phase.number (block_row n p h 0) in
    record {
      kept = (refl, refl, refl, refl, refl);
      slots = λ f m.
          c.put_each.ensures (λ p s. f s (taken c.plain.new.heard p)) (λ p s r l k. m s _ r (search rules))
          ∙ ap (λ h. put to (λ p. f (at slots p to) (taken h p)) slots n) h.1;
      exchange = h.0;
    }

pub copy_column-requires-clause-room : goal.copy_column-requires-clause-room
copy_column-requires-clause-room g c = omega (arith, square_at_least c.args.self.now.phase.size.boards, c.args.self.now.room)
