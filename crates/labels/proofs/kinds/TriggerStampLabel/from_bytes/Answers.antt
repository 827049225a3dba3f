use Rattle.std.proofs.Common.{◌≡◌, ℕ, ◌≤◌, length, Ok, Err, Result, sym, ap, ◌∙◌, arith, eq-eqb, MatchResult}
use Rattle.std.proofs.lemmas.Bool.{cond-true}
use Rattle.std.specs.Result.{result_ok}
use Rattle.labels.specs.Kinds.{stamp_of}
use Rattle.labels.specs.Refusals.{row}
use Rattle.labels.specs.declared.refusal.Refusal.{Refusal}
use Rattle.labels.specs.declared.trigger_stamp.TriggerStamp.{TriggerStamp}
use Rattle.labels.specs.Codings.{stamp_is, stamp_none}
use Rattle.labels.proofs.kinds.TriggerStampLabel.from_bytes.Goals as goal

-- the stamp that was made, or none, is that of the two numbers
made : (m n : ℕ) (r : Result TriggerStamp Refusal) → MatchResult r (λ s. (s.seconds ≡ m) × (s.ticks ≡ n)) (λ e. (row e ≡ 16) × (100000000 ≤ n)) → result_ok r ≡ stamp_of m n
made m n (Ok s) h = sym (stamp_is m n s (sym h.0) (sym h.1))
made m n (Err e) h = sym (stamp_none m n h.1)

pub returns : goal.returns
returns c =
    let long : length c.args.bytes.now ≡ 8 = omega arith in
    c.ok.ensures.value ∙ made _ _ c.new.result c.new.ensures ∙ ap (λ n. stamp_of n c.number_at-2.result) c.number_at.ensures ∙ ap (stamp_of _) c.number_at-2.ensures ∙ sym (cond-true _ _ _ (eq-eqb _ _ long))
