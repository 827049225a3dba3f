use Rattle.std.proofs.Common.{◌≡◌, ◌<◌, arith, ℕ, false, [], ◌^◌, ◌-◌, List, ◌++◌, codes, decimal, ap, ◌∙◌, subst}
use Rattle.std.specs.Fmt.{HasWritten, styled_decimal, padded_integral, format_spec}
use Rattle.labels.specs.Kinds.{time_text, stamp_text}
use Rattle.labels.proofs.Texts.{eight_digits}
use Rattle.labels.proofs.kinds.TriggerStampDisplay.fmt.Goals as goal

pub returns-clause-writes : goal.returns-clause-writes
returns-clause-writes g c plain ok =
    let padded : styled_decimal c.laid_out.result c.ticks-ticks.result ≡ padded_integral (format_spec 32 0 4 8 (2 ^ 64 - 1)) false [] (decimal c.ticks-ticks.result) = ap (λ s. styled_decimal s c.ticks-ticks.result) c.laid_out.ensures in
    let small : c.ticks-ticks.result < 100000000 = omega (arith, c.ticks-ticks.ensures, c.args.self.now.below) in
    let digits = ap (λ l. decimal c.seconds-seconds.result ++ (codes "." ++ l)) (padded ∙ eight_digits c.ticks-ticks.result small) in
    let own : time_text c.seconds-seconds.result c.ticks-ticks.result ≡ stamp_text c.args.self.now = λ i. time_text (c.seconds-seconds.ensures i) (c.ticks-ticks.ensures i) in
    subst (λ (bs : List ℕ). HasWritten g.W.Write.write_str_gives c.args.f.now bs c.write.new.self) (digits ∙ own) (c.write.ensures.writes plain ok)
