use Rattle.std.proofs.Common.{◌≡◌, ℕ, ◌+◌, ◌-◌, ◌*◌, [], ap, ◌∙◌, of_calls, rules, arith}
use Rattle.exchanges.specs.Exchange.{plain, after_ask}
use Rattle.panel.specs.declared.phase.Phase.{Phase}
use Rattle.panel.specs.Slots.{or_else}
use Rattle.panel.specs.Phase.{best_heard}
use Rattle.panel.specs.Votes.{block_row}
use Rattle.panel.specs.Panel.{at, column, put}
use Rattle.panel.proofs.Hearing.{round_at}
use Rattle.panel.proofs.Running.{plain_round, on_and_on, ran}
use Rattle.panel.proofs.run.Run.decide.Goals as goal

pub choose_step-requires : goal.choose_step-requires
choose_step-requires g c = record { rounds = omega (arith, c.requires.rounds) }

pub hear_step-requires : goal.hear_step-requires
hear_step-requires g c =
    let x = g.E.Exchange.meaning c.args.self.now.exchange.now in
    let y = g.E.Exchange.meaning c.choose_step.new.self.exchange.now in
    let k = round_at x c.args.self.now.phase.size.boards c.args.slots.now c.args.self.now.phase.number y c.choose_step.ensures.exchange (omega (arith, c.requires.rounds)) in
    record {
      out = omega (arith, c.from-picks.ensures, c.args.self.now.phase.last);
      back = search rules;
      callable = search of_calls;
      rounds = omega (arith, c.requires.rounds, k);
    }

pub hear_step-requires-2 : goal.hear_step-requires-2
hear_step-requires-2 g c =
    let x = g.E.Exchange.meaning c.args.self.now.exchange.now in
    let y = g.E.Exchange.meaning c.choose_step.new.self.exchange.now in
    let z = g.E.Exchange.meaning c.hear_step.new.self.exchange.now in
    let k = round_at x c.args.self.now.phase.size.boards c.args.slots.now c.args.self.now.phase.number y c.choose_step.ensures.exchange (omega (arith, c.requires.rounds)) in
    let i = plain_round y z _ c.hear_step.ensures.exchange (omega (arith, c.requires.rounds, k)) in
    record {
      out = search rules;
      back = search rules;
      callable = search of_calls;
      rounds = omega (arith, c.requires.rounds, k, i);
    }

pub returns : goal.returns
returns g c =
    let m = g.E.Exchange.meaning in
    let o = g.L.Ordered.order in
    let phase = c.args.self.now.phase in
    let n = phase.size.boards in
    let t = phase.size.faults in
    let f = phase.number in
    let once = c.choose_step.new.self in
    let twice = c.hear_step.new.self in
    let kept = on_and_on c.args.self.now once twice c.choose_step.ensures.kept c.hear_step.ensures.kept in
    let same = c.choose_step.ensures.kept.0 in
    let y = m once.exchange.now in
    let z = m twice.exchange.now in
    let s = c.choose_step.new.slots in
    let u = c.hear_step.new.slots in
    let enough : c.n-n.result - c.t-t.result ≡ n - t = cc in
    let most : 2 * c.t-t.result + 1 ≡ 2 * t + 1 = cc in
    let adopted = λ (a : Phase) (k : ℕ) (j : ℕ). put 0 (λ p. or_else (best_heard o a.size.boards k a.number (block_row a.size.boards p (y.fills [] (plain (column a.size.boards s j))) 0)) (at s p 0)) s a.size.boards in
    let settled = λ (a : Phase) (k : ℕ). put 9 (λ p. or_else (at u p 9) (best_heard o a.size.boards k a.number (block_row a.size.boards p (z.fills [] (plain (column a.size.boards u 0))) 0))) u a.size.boards in
    let h = ran o n t f (m c.args.self.now.exchange.now) c.args.slots.now y z (m c.hear_step-2.new.self.exchange.now) s u c.hear_step-2.new.slots c.choose_step.ensures.exchange c.choose_step.ensures.slots
    (c.hear_step.ensures.slots (λ a b. or_else b a) (λ a b r k. search rules)
    ∙ (ap (λ a. adopted a (c.n-n.result - c.t-t.result) c.from-picks.result) same
    ∙ (ap (λ k. adopted phase k c.from-picks.result) enough ∙ ap (adopted phase (n - t)) c.from-picks.ensures)))
    (c.hear_step.ensures.exchange
    ∙ (ap (λ a. after_ask y (plain (column a.size.boards s c.from-picks.result))) same
    ∙ ap (λ j. after_ask y (plain (column n s j))) c.from-picks.ensures))
    (c.hear_step-2.ensures.slots or_else (λ a b r k. search rules) ∙ (ap (λ a. settled a (2 * c.t-t.result + 1)) kept.0 ∙ ap (settled phase) most))
    (c.hear_step-2.ensures.exchange ∙ ap (λ a. after_ask z (plain (column a.size.boards u 0))) kept.0) in
    record {
      kept = on_and_on c.args.self.now twice c.hear_step-2.new.self kept c.hear_step-2.ensures.kept;
      slots = h.0;
      exchange = h.1;
    }
