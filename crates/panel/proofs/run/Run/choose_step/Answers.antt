use Rattle.std.proofs.Common.{◌≡◌, ℕ, ◌-◌, ◌*◌, ◌≤◌, List, map, length, take, drop, ap, ◌∙◌, rules, arith}
use borrow.Rule.Slice.PartMut.{put_mid}
use Rattle.panel.specs.Slots.{Slot, with_phase}
use Rattle.panel.specs.Phase.{as_claim, choice_of}
use Rattle.panel.specs.Votes.{block_row}
use Rattle.panel.specs.Panel.{put}
use Rattle.panel.specs.Steps.{Filled}
use Rattle.panel.proofs.Running.{picks_chosen}
use Rattle.panel.proofs.run.Run.choose_step.Goals as goal

pub returns : goal.returns
returns g c =
    let o = g.L.Ordered.order in
    let n = c.args.self.now.phase.size.boards in
    let t = c.args.self.now.phase.size.faults in
    let f = c.args.self.now.phase.number in
    let m = c.n-n.result in
    let x = g.E.Exchange.meaning c.args.self.now.exchange.now in
    let slots = c.args.slots.now in
    let blocks = c.hear_all.new.self.blocks.now in
    let claims = c.keep_claims.new.heard in
    let after_all = c.hear_all.new.self in
    let same = c.hear_all.ensures.kept.0 in
    let long : length blocks ≡ 8 * (n * n) = after_all.room ∙ ap (λ p. 8 * (p.size.boards * p.size.boards)) same in
    let room : n * n ≤ length blocks = omega (arith, long) in
    let filled : Filled x n slots f blocks = c.hear_all.ensures.fills in
    let after = λ (k : ℕ). put_mid 0 (k * k - 0) blocks claims in
    let picks = λ (h : List (Slot g.row.L.Denot)) (p : ℕ). with_phase f (choice_of o n t (block_row n p h 0) (block_row n p h)) in
    let kept : claims ≡ map (as_claim f) (take (n * n - 0) (drop 0 blocks)) = c.keep_claims.ensures ∙ ap (λ k. map (as_claim f) (take (k * k - 0) (drop 0 blocks))) c.n-n.ensures in
    let chosen : c.put_each.new.slots ≡ put f (picks (after n)) slots n =
    c.put_each.ensures (λ p s. picks (after m) p) (λ p s r l k. search rules)
    ∙ (ap (λ k. put k (picks (after m)) slots n) c.from.ensures ∙ ap (λ k. put f (picks (after k)) slots n) c.n-n.ensures) in
    record {
      kept = c.hear_all.ensures.kept;
      slots = picks_chosen g.met.L.Ordered.total n t f x slots blocks claims c.args.self.now.phase.first filled room kept _ chosen;
      exchange = c.hear_all.ensures.leaves;
    }
