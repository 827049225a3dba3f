use Rattle.std.proofs.Common.{◌≡◌, ◌*◌, ◌<◌, take, drop, [], refl, ap, ◌∙◌, subst, arith}
use Rattle.exchanges.specs.Exchange.{firm, after_ask}
use Rattle.panel.specs.Panel.{column, after_asks, firsts}
use Rattle.panel.proofs.Hearing.{rounds_at, asked_more, filled_more}
use Rattle.panel.proofs.Running.{on_and_on}
use Rattle.panel.proofs.run.Run.hear_all.Goals as goal

pub loop-g-init : goal.loop-g-init
loop-g-init g c = ((refl, refl, refl, refl, refl), refl, λ k lt. absurd (omega (arith, lt)))

pub hear_block-requires : goal.hear_block-requires
hear_block-requires g c =
    let n = c.args.self.now.phase.size.boards in
    let x = g.E.Exchange.meaning c.args.self.now.exchange.now in
    let y = g.E.Exchange.meaning c.loop-g.self.exchange.now in
    let same = ap (λ p. p.number) c.loop-g.invariant.0.0 in
    let lt : c.loop-g.g < c.args.self.now.phase.number = omega (arith, c.loop-g-test.true, c.from-g-end.ensures) in
    record {
      inside = omega (arith, lt, same);
      rounds = rounds_at x n c.args.slots.now c.loop-g.g c.args.self.now.phase.number y c.loop-g.invariant.1 lt c.requires.rounds;
    }

pub loop-g-preserved : goal.loop-g-preserved
loop-g-preserved g c =
    let n = c.args.self.now.phase.size.boards in
    let x = g.E.Exchange.meaning c.args.self.now.exchange.now in
    let y = g.E.Exchange.meaning c.loop-g.self.exchange.now in
    let slots = c.args.slots.now in
    let k = c.loop-g.g in
    let was = c.loop-g.self.blocks.now in
    let blocks = c.hear_block.new.self.blocks.now in
    let i = c.loop-g.invariant in
    let h = c.hear_block.ensures in
    let same = i.0.0 in (
      on_and_on c.args.self.now c.loop-g.self c.hear_block.new.self i.0 h.kept,
      asked_more x n slots k y _ i.1 (h.leaves ∙ ap (λ p. after_ask y (firm (column p.size.boards slots k))) same),
      filled_more x n slots k y was blocks i.1 i.2
          (subst (λ p. take (k * (p.size.boards * p.size.boards)) blocks ≡ take (k * (p.size.boards * p.size.boards)) was) same h.before)
          (subst (λ p. take (p.size.boards * p.size.boards) (drop (k * (p.size.boards * p.size.boards)) blocks) ≡ y.fills [] (firm (column p.size.boards slots k))) same h.here),
    )

pub returns : goal.returns
returns g c =
    let e : c.loop-g.g ≡ c.args.self.now.phase.number = omega (arith, c.from-g-end.ensures) in
    record {
      kept = c.loop-g.invariant.0;
      leaves = c.loop-g.invariant.1 ∙ ap (λ k. after_asks (g.E.Exchange.meaning c.args.self.now.exchange.now) (firsts c.args.self.now.phase.size.boards c.args.slots.now k)) e;
      fills = λ k lt. c.loop-g.invariant.2 k (omega (arith, lt, e));
    }
