use Rattle.std.proofs.Common.{◌∙◌}
use Rattle.script.specs.Memory.{lists}
use Rattle.script.proofs.Putting.{form_all, form_short}
use Rattle.script.proofs.forming.form.Goals as goal

pub returns : goal.returns
returns g c =
    let s = c.args.script in
    form_all g.L.Label.coding s.head s.count (lists s.proposals.now s.records.now s.slips.now) c.args.out.now _ _ _ c.KIND.result c.in_ok-start.start c.in_ok-rest.rest c.min-there.result c.min.result _ (c.KIND.ensures ∙ g.met.L.Label.numbered) c.in_ok-start.ensures (rw c.from-n.ensures at c.min-there.ensures) c.in_ok-rest.ensures (rw c.from-n.ensures at c.if-there-n.false) c.min.ensures c.put_records.ensures

pub returns-then-there-n : goal.returns-then-there-n
returns-then-there-n g c =
    let s = c.args.script in
    form_short g.L.Label.coding s.head s.count (lists s.proposals.now s.records.now s.slips.now) c.args.out.now _ _ c.KIND.result c.in_ok-start.start c.in_ok-rest.rest c.min-there.result (c.KIND.ensures ∙ g.met.L.Label.numbered) c.in_ok-start.ensures (rw c.from-n.ensures at c.min-there.ensures) c.in_ok-rest.ensures (rw c.from-n.ensures at c.if-there-n.true)
