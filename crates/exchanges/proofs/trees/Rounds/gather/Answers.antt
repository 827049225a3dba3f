use Rattle.std.proofs.Common.{◌≡◌, ℕ, ◌+◌, ◌*◌, fold, drop, sym, refl, ◌∙◌, subst, add-one, arith}
use Rattle.exchanges.specs.declared.path.Shape.{Shape}
use Rattle.exchanges.specs.Trees.{hops, fill, Run}
use Rattle.exchanges.specs.Slots.{Work, Worked, carried}
use Rattle.exchanges.proofs.Stand.{Agrees}
use Rattle.exchanges.proofs.Whole.{first, agrees_round, agrees_last, turned_on, below_last}
use Rattle.exchanges.proofs.trees.Rounds.gather.Goals as goal

pub loop-r-preserved : goal.loop-r-preserved
loop-r-preserved g c =
    let plane = g.B.Backplane.plane in
    let s = c.args.self.now.shape in
    let own = c.args.self.now.own.now in
    let b₀ = plane c.args.self.now.plane.now in
    let ws = c.args.self.now.slots.now in
    let R : Run g.row.I.Denot = first s.n s.t s.size own b₀ ws in
    let rest = drop (s.n * s.size) ws in
    let i = c.loop-r.invariant in
    let b = plane c.loop-r.self.plane.now in
    let was = c.loop-r.self.slots.now in
    let k = c.spread.ensures.kept in
    let b' = plane c.spread.new.self.plane.now in
    let now = c.spread.new.self.slots.now in
    let turned = turned_on plane c.loop-r.self.plane.now c.turn.new.self c.turn.result c.turn.ensures (below_last b₀ b s.n c.loop-r.r R refl i.1.planes (omega (arith, c.requires.timely, c.loop-r-test.true))) in
    let w : Work g.row.I.Denot = record { plane = plane c.turn.new.self; slots = was } in
    let shaped = subst (λ (x : Shape). Worked b' now (fold (carried x.n x.size c.loop-r.self.own.now) w (hops x.n c.loop-r.r))) i.0.0 c.spread.ensures.made in
    let made = subst (λ o. Worked b' now (fold (carried s.n s.size o.now) w (hops s.n c.loop-r.r))) i.0.1 shaped in
    let done = agrees_round s.n s.t s.size own s.sized rest b (plane c.turn.new.self) b' was now (fill s.n c.loop-r.r R) c.loop-r.r (omega (arith, c.loop-r-test.true)) i.1 turned made in (
      (k.0 ∙ i.0.0, k.1 ∙ i.0.1, k.2 ∙ i.0.2, k.3 ∙ i.0.3),
      subst (λ (k : ℕ). Agrees s.n s.t s.size own rest (record { plane = b'; slots = now }) (fill s.n k R)) (sym (add-one c.loop-r.r)) done,
    )

pub returns-clause-plane : goal.returns-clause-plane
returns-clause-plane g c =
    let plane = g.B.Backplane.plane in
    let s = c.args.self.now.shape in
    let own = c.args.self.now.own.now in
    let b₀ = plane c.args.self.now.plane.now in
    let ws = c.args.self.now.slots.now in
    let R : Run g.row.I.Denot = first s.n s.t s.size own b₀ ws in
    let rest = drop (s.n * s.size) ws in
    let i = c.loop-r.invariant in
    let b = plane c.loop-r.self.plane.now in
    let was = c.loop-r.self.slots.now in
    let all : c.loop-r.r ≡ s.t + 1 = omega arith in
    (agrees_last s.n s.t s.size own rest b₀ b ws was (subst (λ (k : ℕ). Agrees s.n s.t s.size own rest (record { plane = b; slots = was }) (fill s.n k R)) all i.1)).0

pub returns-clause-slots : goal.returns-clause-slots
returns-clause-slots g c =
    let plane = g.B.Backplane.plane in
    let s = c.args.self.now.shape in
    let own = c.args.self.now.own.now in
    let b₀ = plane c.args.self.now.plane.now in
    let ws = c.args.self.now.slots.now in
    let R : Run g.row.I.Denot = first s.n s.t s.size own b₀ ws in
    let rest = drop (s.n * s.size) ws in
    let i = c.loop-r.invariant in
    let b = plane c.loop-r.self.plane.now in
    let was = c.loop-r.self.slots.now in
    let all : c.loop-r.r ≡ s.t + 1 = omega arith in
    (agrees_last s.n s.t s.size own rest b₀ b ws was (subst (λ (k : ℕ). Agrees s.n s.t s.size own rest (record { plane = b; slots = was }) (fill s.n k R)) all i.1)).1
