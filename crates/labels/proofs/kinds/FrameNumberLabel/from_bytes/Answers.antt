use Rattle.std.proofs.Common.{◌≡◌, length, sym, ◌∙◌, arith, eq-eqb}
use Rattle.std.proofs.lemmas.Bool.{cond-true}
use Rattle.labels.specs.Codings.{frame_is}
use Rattle.labels.proofs.kinds.FrameNumberLabel.from_bytes.Goals as goal

pub returns : goal.returns
returns c =
    let long : length c.args.bytes.now ≡ 4 = omega arith in
    sym (cond-true _ _ _ (eq-eqb _ _ long) ∙ frame_is _ c.new.result (sym (c.new.ensures ∙ c.number_at.ensures)))
