use Rattle.std.proofs.Common.{◌∙◌}
use Rattle.exchanges.specs.Asked.{short}
use Rattle.exchanges.proofs.Dues.{undue, none_due, long_heard}
use Rattle.exchanges.proofs.Runs.{plain_ran}
use Rattle.exchanges.proofs.plain.plain_over.Goals as goal

pub returns : goal.returns
returns g c =
    let plane = g.B.Backplane.plane in
    let b = plane c.args.b.now in
    let t = c.args.faults in
    let sent = c.args.sent.now in
    let heard = c.args.heard.now in
    let none = none_due c.boards-boards.result b.boards t c.round.result b.round 1 (λ n. short n sent heard) c.too_short-short.result c.boards-boards.ensures c.too_short-short.ensures c.round.ensures c.in_ok-size.ensures.0 in
    let room = long_heard b.boards sent heard (undue b.boards t b.round 1 (short b.boards sent heard) none).room in
    let ran = plain_ran c.in_ok-size.size.boards b (plane c.turn.new.self) (plane c.send_all.new.b) sent heard c.send_all.new.heard (c.in_ok-size.ensures.1 ∙ c.boards-boards.ensures) c.in_ok-turn.ensures.1 c.send_all.ensures room in
    (none, ran.0, ran.1)
