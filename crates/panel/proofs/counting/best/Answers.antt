use Rattle.std.proofs.Common.{◌≡◌, rules, length, None, ap, ◌∙◌, arith}
use Rattle.std.proofs.lemmas.List.{get_or_read}
use Rattle.panel.specs.Phase.{best, only}
use Rattle.panel.specs.Votes.{row_of}
use Rattle.panel.proofs.Loops.{best_more}
use Rattle.panel.proofs.Tests.{only_told, better_told, beats_told}
use Rattle.panel.proofs.counting.best.Goals as goal

pub loop-slot-preserved : goal.loop-slot-preserved
loop-slot-preserved g c = λ P R h k.
    let kept = only_told _ P c.slot-item.result c.filter-slot.result (λ p b e. h p.now b (search rules)) c.filter-slot.ensures in
    let chosen = better_told _ R c.filter-slot.result c.loop-slot.top c.filter.result (λ p b e. beats_told _ R p.now c.loop-slot.top b k (search rules)) c.filter.ensures in
    let here = get_or_read c.args.row.now _ _ c.loop-slot-test.true c.slot-item.is None in
    best_more R (λ q. only P (row_of c.args.row.now q)) c.loop-slot.slot-index c.loop-slot.top _ _ (c.loop-slot.invariant P R h k) (kept ∙ ap (only P) here) (c.or-top.ensures ∙ chosen)

pub returns : goal.returns
returns g c = λ P R h k.
    let e : c.loop-slot.slot-index ≡ length c.args.row.now = omega arith in
    c.loop-slot.invariant P R h k ∙ ap (best R (λ q. only P (row_of c.args.row.now q))) e
