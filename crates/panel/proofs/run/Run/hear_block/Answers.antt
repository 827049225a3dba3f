use Rattle.std.proofs.Common.{◌≡◌, ◌+◌, ◌-◌, ◌*◌, ◌≤◌, length, take, drop, sym, refl, ap, ◌∙◌, rules, arith, length-drop, length-take}
use borrow.Author.Rules.{scaled_fits≤}
use borrow.Rule.Slice.PartMut.{put_mid}
use Rattle.panel.specs.Panel.{column}
use Rattle.panel.proofs.Hearing.{next_within, firm_went, block_here, block_before}
use Rattle.panel.proofs.Running.{square_at_least}
use Rattle.panel.proofs.run.Run.hear_block.Goals as goal

pub returns : goal.returns
returns g c =
    let meaning = g.E.Exchange.meaning in
    let n = c.args.self.now.phase.size.boards in
    let m = c.n-n.result in
    let e : m ≡ n = c.n-n.ensures in
    let blocks = c.args.self.now.blocks.now in
    let at = c.args.g * (m * m) in
    let heard = c.firm.new.heard in
    let area : m * m ≡ n * n = ap (λ k. k * k) e in
    let start : at ≡ c.args.g * (n * n) = ap (λ k. c.args.g * k) area in
    let room : c.args.g * (n * n) + n * n ≤ length blocks = next_within c.args.g 8 (n * n) (length blocks) (omega (arith, c.requires.inside, c.args.self.now.phase.last)) (omega (arith, c.args.self.now.room)) in
    let within : at + m * m ≤ length blocks = omega (arith, room) in
    let now = put_mid at (at + m * m - at) blocks heard in
    let wide : n ≤ length c.copy_column.new.sent = omega (arith, square_at_least n, c.args.self.now.square) in
    let long : length heard ≡ at + m * m - at = c.firm.auto.heard ∙ simp (length-take, length-drop) (omega (arith, within)) in
    let square : length (take (at + m * m - at) (drop at blocks)) ≡ n * n = simp (length-take, length-drop) (omega (arith, within, area)) in
    let h = firm_went meaning c.args.self.now.exchange.now c.firm.new.self (take (at + m * m - at) (drop at blocks)) heard n c.args.self.now.ready.same square c.copy_column.new.sent (column n c.args.slots.now c.args.g) wide c.copy_column.ensures c.args.self.now.work.now _ _ c.args.self.now.ready.fit c.args.self.now.ready.space c.requires.rounds c.firm.ensures in
    record {
      kept = (refl, refl, refl, refl, refl);
      leaves = h.0;
      here = ap (λ k. take (k * k) (drop (c.args.g * (k * k)) now)) (sym e) ∙ (block_here at (m * m) blocks heard within long ∙ h.1);
      before = ap (λ k. take (c.args.g * (k * k)) now) (sym e) ∙ (block_before at (m * m) blocks heard within long ∙ ap (λ k. take (c.args.g * (k * k)) blocks) e);
    }

pub copy_column-requires-clause-room : goal.copy_column-requires-clause-room
copy_column-requires-clause-room g c = omega (arith, square_at_least c.args.self.now.phase.size.boards, c.args.self.now.square)

pub offset_bounds-self-start : goal.offset_bounds-self-start
offset_bounds-self-start g c =
    let n = c.args.self.now.phase.size.boards in
    let blocks = c.args.self.now.blocks.now in
    let area : c.n-n.result * c.n-n.result ≡ n * n = ap (λ k. k * k) c.n-n.ensures in
    let start : c.args.g * (c.n-n.result * c.n-n.result) ≡ c.args.g * (n * n) = ap (λ k. c.args.g * k) area in
    let room : c.args.g * (n * n) + n * n ≤ length blocks = next_within c.args.g 8 (n * n) (length blocks) (omega (arith, c.requires.inside, c.args.self.now.phase.last)) (omega (arith, c.args.self.now.room)) in
    let within : c.args.g * (c.n-n.result * c.n-n.result) ≤ length blocks = omega (arith, room) in
    scaled_fits≤ _ (length blocks) _ within (search rules)
