-- An order in which the later frame comes first.
use Rattle.std.specs.declared.cmp.Ordering.{Ordering}
use Rattle.std.proofs.Common.{sym}
use Rattle.labels.specs.Kinds.{frame_order}
use Rattle.labels.specs.Order.{Total}
use Rattle.labels.specs.Orders.{frame_total}
use Rattle.labels_tests.specs.declared.ranked.Rank.{Rank}

abbrev pub rank_order : Rank → Rank → Ordering
rank_order a b = frame_order b.frame a.frame

pub rank_total : Total rank_order
rank_total = record {
  itself = λ a. frame_total.itself a.frame;
  same = λ a b e. sym (λ i. record { frame = frame_total.same b.frame a.frame e i });
  turned = λ a b. frame_total.turned b.frame a.frame;
  through = λ a b c e f. frame_total.through c.frame b.frame a.frame f e;
}
