-- The choice and the counts keep their laws.
use Rattle.std.proofs.Common.{◌≡◌, ℕ, ◌+◌, ◌-◌, ◌<◌, ◌≤◌, Bool, true, false, cond, eqb, leb, ◌⊎◌, is_some, Some, None, Option, Ordering, Less, Equal, Greater, sym, refl, ap, ◌∙◌, subst, inl, inr, arith}
use Rattle.std.proofs.lemmas.Bool.{or_left, or_right, lt-ltb, cases_lt, and_parts, and_from, eqb-true, eq-eqb, leb-true, le-leb, lt-leb, true≢false}
use Rattle.exchanges.specs.Boards.{count}
use Rattle.panel.specs.Slots.{Comparison, Slot, smaller, same, has_label, is_slip, label_of}
use Rattle.labels.specs.declared.slip.Slip.{Slip}
use Rattle.panel.specs.Phase.{Row, ahead, later, wins_often, supports, best, only, as_claim, as_pick, unphased, stands, times, most_often, fallback, choice_of, choice, heard_enough, enough}
use Rattle.panel.specs.Phase as spec
use Rattle.std.specs.Ordering.{is_lt}
use Rattle.labels.specs.Order.{Total}
use Rattle.panel.specs.Laws.{Many, Claims, Stands, Says, Open, Chooses, Smallest, Laws}
use Rattle.panel.proofs.Counts.{some_board, count_mono}
use Rattle.panel.proofs.Slips.{Strict, smaller_strict, slip, same_refl, is_true, is_made, has_true, has_made, only_from, only_made, claim_from, claim_made, pick_from, pick_made, supports_from, unphased_from}
use Rattle.panel.proofs.Rows.{Ahead, ahead_true, best_from, best_some, best_top, level_same}
use Rattle.panel.proofs.Chosen.{Standing, often_strict, stood, stood_test}

no_true : (b : Bool) → (b ≡ true → ⊥) → b ≡ false
no_true true h = absurd (h refl)
no_true false h = refl

no_some : {A : Type 0} (x : Option A) → ((a : A) → x ≡ Some a → ⊥) → x ≡ None
no_some None h = refl
no_some (Some a) h = absurd (h a refl)

-- one that is no further on, and level only where its label does not win
behind : {L : Type 0} {wins : L → L → Bool} (W : Strict wins) (M : Slip L → ℕ) (r s : Slip L) → (M r < M s) ⊎ ((M r ≡ M s) × (wins r.label s.label ≡ false)) → ahead wins M r s ≡ false
behind {L} {wins} W M r s h = no_true _ (λ a. go h (ahead_true W M r s a))
  where
    go : (M r < M s) ⊎ ((M r ≡ M s) × (wins r.label s.label ≡ false)) → Ahead W M r s → ⊥
    go (inl x) (inl y) = omega arith
    go (inl x) (inr y) = let e = y.0 in omega arith
    go (inr x) (inl y) = let e = x.0 in omega arith
    go (inr x) (inr y) = true≢false (sym y.1 ∙ x.1)

module _ {L : Type 0} {o : Comparison L} (T : Total o) (n t : ℕ) (claims : Row L) (picks : ℕ → Row L) where
  abbrev stand_row : Row L
  stand_row q = only (stands o n t claims picks) (claims q)

  abbrev number : Slip L → ℕ
  number s = s.phase

  best_stands : (r : Slip L) → spec.standing o n t claims picks ≡ Some r → Standing o n t claims picks r
  best_stands r e =
      let p = best_from (later o) stand_row n r e in
      let c = only_from (stands o n t claims picks) (claims p.0) r p.2 in
      stood T n t claims picks r p.0 p.1 c.0 c.1

  abbrev pick_one : Slot L → Option L
  pick_one S = label_of (cond (is_some S) S (fallback o n t claims))

  by_standing : (s : Slip L) → Standing o n t claims picks s → ((r : Slip L) → Standing o n t claims picks r → (r.phase < s.phase) ⊎ ((r.phase ≡ s.phase) × (smaller o r.label s.label ≡ false))) → choice_of o n t claims picks ≡ Some s.label
  by_standing s h top =
      let here : stand_row h.from ≡ Some s = only_made (stands o n t claims picks) (claims h.from) s h.is (stood_test T n t claims picks s h) in
      let b = best_some (later o) stand_row n h.from s h.below here in
      let x : later o s b.0 ≡ false = no_true _ (best_top (smaller_strict T) number stand_row n b.0 b.1 h.from s h.below here) in
      let y : later o b.0 s ≡ false = behind (smaller_strict T) number b.0 s (top b.0 (best_stands b.0 b.1)) in
      ap pick_one b.1 ∙ ap Some (sym (level_same (smaller_strict T) number s b.0 x y))

  none_stands : ((r : Slip L) → Standing o n t claims picks r → ⊥) → spec.standing o n t claims picks ≡ None
  none_stands out = no_some _ (λ r e. out r (best_stands r e))

  abbrev often : Slip L → ℕ
  often s = times o n claims s.label

  by_count : ((r : Slip L) → Standing o n t claims picks r → ⊥) → n - t ≤ count (λ q. unphased (claims q)) n → (v : L) → 1 ≤ times o n claims v → ((u : L) → (times o n claims u < times o n claims v) ⊎ ((times o n claims u ≡ times o n claims v) × (wins_often o u v ≡ false))) → choice_of o n t claims picks ≡ Some v
  by_count out z v heard top =
      let p = some_board (λ q. has_label o v (claims q)) n heard in
      let k = has_true T v (claims p.0) p.2 in
      let b = best_some (ahead (wins_often o) often) claims n p.0 k.0 p.1 k.1 in
      let x : ahead (wins_often o) often k.0 b.0 ≡ false = no_true _ (best_top (often_strict T) often claims n b.0 b.1 p.0 k.0 p.1 k.1) in
      let y : ahead (wins_often o) often b.0 k.0 ≡ false = behind (often_strict T) often b.0 k.0 (subst (λ w. (often b.0 < times o n claims w) ⊎ ((often b.0 ≡ times o n claims w) × (wins_often o b.0.label w ≡ false))) (sym k.2) (top b.0.label)) in
      ap pick_one (none_stands out)
      ∙ (ap (λ c. label_of (cond c (most_often o n claims) None)) (le-leb _ _ z)
      ∙ (ap label_of b.1 ∙ ap Some (sym (level_same (often_strict T) often k.0 b.0 x y) ∙ k.2)))

  by_none : ((r : Slip L) → Standing o n t claims picks r → ⊥) → count (λ q. unphased (claims q)) n < n - t → choice_of o n t claims picks ≡ None
  by_none out z = ap pick_one (none_stands out) ∙ ap (λ c. label_of (cond c (most_often o n claims) None)) (lt-leb _ _ z)

not_less : (k : Ordering) → (k ≡ Less → ⊥) → is_lt k ≡ false
not_less Less h = absurd (h refl)
not_less Equal h = refl
not_less Greater h = refl

-- many boards, and counts of a test that tells them
many_count : (k n : ℕ) (P : ℕ → Type 0) (b : ℕ → Bool) → ((q : ℕ) → q < n → P q → b q ≡ true) → Many k n P → k ≤ count b n
many_count k n P b h m = let c = count_mono m.0 b n (λ q l e. h q l (m.2 q l e)) in let d = m.1 in omega arith

too_few : (k n : ℕ) (P : ℕ → Type 0) (b : ℕ → Bool) → ((q : ℕ) → q < n → b q ≡ true → P q) → (Many k n P → ⊥) → count b n < k
too_few k n P b h out = go (cases_lt (count b n) k)
  where
    go : (count b n < k) ⊎ (k ≤ count b n) → count b n < k
    go (inl l) = l
    go (inr l) = absurd (out (b, l, h))

-- the laws speak of what was heard, the choice of what counts of it
module _ {L : Type 0} {o : Comparison L} (T : Total o) (n t f : ℕ) (claims : Row L) (picks : ℕ → Row L) where
  abbrev counted : Row L
  counted q = as_claim f (claims q)

  abbrev counted_picks : ℕ → Row L
  counted_picks g q = as_pick g (picks g q)

  abbrev Backer : Slip L → ℕ → Type 0
  Backer s q = (r : Slip L) × Claims o n t f claims picks q r × ((r.label ≡ s.label) ⊎ (r.phase < s.phase))

  claim_in : (q : ℕ) (s : Slip L) → Claims o n t f claims picks q s → counted q ≡ Some s
  claim_in q s c = claim_made f (claims q) s c.0 c.1

  backs : (s : Slip L) (q : ℕ) → q < n → Backer s q → supports o s.label s.phase (counted q) ≡ true
  backs s q l b = ap (supports o s.label s.phase) (claim_in q b.0 b.1) ∙ go b.2
    where
      go : (b.0.label ≡ s.label) ⊎ (b.0.phase < s.phase) → supports o s.label s.phase (Some b.0) ≡ true
      go (inl e) = or_left _ _ (ap (same o s.label) e ∙ same_refl T s.label)
      go (inr h) = or_right (same o s.label b.0.label) _ (lt-ltb _ _ h)

  backer : (s : Slip L) (q : ℕ) → q < n → supports o s.label s.phase (counted q) ≡ true → Backer s q
  backer s q l h = let k = supports_from T s.label s.phase (counted q) h in (k.0, claim_from f (claims q) k.0 k.1, go k.0 k.2)
    where
      go : (r : Slip L) → (s.label ≡ r.label) ⊎ (r.phase < s.phase) → (r.label ≡ s.label) ⊎ (r.phase < s.phase)
      go r (inl e) = inl (sym e)
      go r (inr e) = inr e

  abbrev LawStands : Slip L → Type 0
  LawStands s = Stands o n t f claims picks s

  to_standing : (s : Slip L) → LawStands s → Standing o n t counted counted_picks s
  to_standing s h = record {
    from = h.from;
    below = h.below;
    is = claim_in h.from s h.claimed;
    late = h.late;
    backed = many_count (n - t) n (Backer s) (λ q. supports o s.label s.phase (counted q)) (backs s) h.backed;
    picked = many_count (t + 1) n (λ q. picks s.phase q ≡ Some s) (λ q. is_slip o s.label s.phase (counted_picks s.phase q)) (λ q l e. is_made T s.label s.phase (counted_picks s.phase q) (pick_made s.phase (picks s.phase q) s e refl)) h.picked;
  }

  from_standing : (s : Slip L) → Standing o n t counted counted_picks s → LawStands s
  from_standing s h = record {
    from = h.from;
    below = h.below;
    claimed = claim_from f (claims h.from) s h.is;
    late = h.late;
    backed = ((λ q. supports o s.label s.phase (counted q)), h.backed, backer s);
    picked = ((λ q. is_slip o s.label s.phase (counted_picks s.phase q)), h.picked, λ q l e. (pick_from s.phase (picks s.phase q) s (is_true T s.label s.phase (counted_picks s.phase q) e)).0);
  }

  says_made : (v : L) (q : ℕ) → q < n → Says o n t f claims picks v q → has_label o v (counted q) ≡ true
  says_made v q l h = has_made T v (counted q) h.0 (claim_in q h.0 h.1) h.2

  says_from : (v : L) (q : ℕ) → q < n → has_label o v (counted q) ≡ true → Says o n t f claims picks v q
  says_from v q l h = let k = has_true T v (counted q) h in (k.0, claim_from f (claims q) k.0 k.1, k.2)

  abbrev Zero : ℕ → Type 0
  Zero q = (s : Slip L) × Claims o n t f claims picks q s × (s.phase ≡ 0)

  zero_made : (q : ℕ) → q < n → Zero q → unphased (counted q) ≡ true
  zero_made q l h = ap unphased (claim_in q h.0 h.1) ∙ eq-eqb _ _ h.2

  zero_from : (q : ℕ) → q < n → unphased (counted q) ≡ true → Zero q
  zero_from q l h = let k = unphased_from (counted q) h in (k.0, claim_from f (claims q) k.0 k.1, k.2)

  none_counted : ((r : Slip L) → LawStands r → ⊥) → (r : Slip L) → Standing o n t counted counted_picks r → ⊥
  none_counted out r h = out r (from_standing r h)

  abbrev said : L → ℕ
  said v = times o n counted v

  open_counted : Open o n t f claims picks → n - t ≤ count (λ q. unphased (counted q)) n
  open_counted z = many_count (n - t) n Zero (λ q. unphased (counted q)) zero_made z

  rank : (v : L) (k : ℕ) → k ≤ said v → ((u : L) → Many (k + 1) n (Says o n t f claims picks u) → ⊥) → ((u : L) → o u v ≡ Less → Many k n (Says o n t f claims picks u) → ⊥) → (u : L) → (said u < said v) ⊎ ((said u ≡ said v) × (wins_often o u v ≡ false))
  rank v k m top least u =
      let a = too_few (k + 1) n (Says o n t f claims picks u) (λ q. has_label o u (counted q)) (says_from u) (top u) in
      let b = too_few (k + 1) n (Says o n t f claims picks v) (λ q. has_label o v (counted q)) (says_from v) (top v) in
      go a b (cases_lt (said u) k)
    where
      go : said u < k + 1 → said v < k + 1 → (said u < k) ⊎ (k ≤ said u) → (said u < said v) ⊎ ((said u ≡ said v) × (wins_often o u v ≡ false))
      go a b (inl l) = inl (omega arith)
      go a b (inr l) = inr (omega arith, not_less (o u v) (λ e. least u e ((λ q. has_label o u (counted q)), l, says_from u)))

  pub chooses_by : Chooses o n t f claims picks
  unfolding choice
  chooses_by = record {
    standing = λ s h top. by_standing T n t counted counted_picks s (to_standing s h) (λ r hr. behind_by r s (top r (from_standing r hr)));
    most = λ out z v k one m top least.
        let c = many_count k n (Says o n t f claims picks v) (λ q. has_label o v (counted q)) (says_made v) m in
        by_count T n t counted counted_picks (none_counted out) (open_counted z) v (omega arith) (rank v k c top least);
    none = λ out z. by_none T n t counted counted_picks (none_counted out) (too_few (n - t) n Zero (λ q. unphased (counted q)) zero_from z);
  }
    where
      behind_by : (r s : Slip L) → (r.phase < s.phase) ⊎ ((r.phase ≡ s.phase) × (o r.label s.label ≡ Less → ⊥)) → (r.phase < s.phase) ⊎ ((r.phase ≡ s.phase) × (smaller o r.label s.label ≡ false))
      behind_by r s (inl l) = inl l
      behind_by r s (inr h) = inr (h.0, not_less (o r.label s.label) h.1)

module _ {L : Type 0} {o : Comparison L} (T : Total o) (n k f : ℕ) (row : Row L) (pos : 1 ≤ k) where
  abbrev level_row : Row L
  level_row q = only (heard_enough o n k f row) (row q)

  enough_parts : (q : ℕ) (s : Slip L) → level_row q ≡ Some s → (s.phase ≡ f) × (k ≤ count (λ q. is_slip o s.label f (row q)) n)
  enough_parts q s e =
      let c = only_from (heard_enough o n k f row) (row q) s e in
      let a = and_parts (eqb s.phase f) (leb k (count (λ q. is_slip o s.label f (row q)) n)) c.1 in
      (eqb-true _ _ a.0, leb-true _ _ a.1)

  abbrev heard_times : L → ℕ
  heard_times v = count (λ q. is_slip o v f (row q)) n

  heard_made : (v : L) → Many k n (λ q. row q ≡ Some (slip v f)) → k ≤ heard_times v
  heard_made v = many_count k n (λ q. row q ≡ Some (slip v f)) (λ q. is_slip o v f (row q)) (λ q l e. is_made T v f (row q) e)

  heard_from : (v : L) → k ≤ heard_times v → Many k n (λ q. row q ≡ Some (slip v f))
  heard_from v l = ((λ q. is_slip o v f (row q)), l, λ q lq e. is_true T v f (row q) e)

  pub smallest : Smallest o n k f row
  unfolding enough
  smallest = record {
    some = λ v m least.
        let h = heard_made v m in
        let p = some_board (λ q. is_slip o v f (row q)) n (omega arith) in
        let e = is_true T v f (row p.0) p.2 in
        let here : level_row p.0 ≡ Some (slip v f) = only_made (heard_enough o n k f row) (row p.0) (slip v f) e (and_from (eqb f f) (leb k (heard_times v)) (eq-eqb f f refl) (le-leb _ _ h)) in
        let b = best_some (later o) level_row n p.0 (slip v f) p.1 here in
        let m = best_from (later o) level_row n b.0 b.1 in
        let u = enough_parts m.0 b.0 m.2 in
        let x : later o (slip v f) b.0 ≡ false = no_true _ (best_top (smaller_strict T) (λ s. s.phase) level_row n b.0 b.1 p.0 (slip v f) p.1 here) in
        let y : later o b.0 (slip v f) ≡ false = behind (smaller_strict T) (λ s. s.phase) b.0 (slip v f) (inr (u.0, not_less (o b.0.label v) (λ l. least b.0.label l (heard_from b.0.label u.1)))) in
        ap label_of b.1 ∙ ap Some (sym (level_same (smaller_strict T) (λ s. s.phase) (slip v f) b.0 x y));
    none = λ out. ap label_of (no_some (best (later o) level_row n) (λ s e.
        let m = best_from (later o) level_row n s e in
        let u = enough_parts m.0 s m.2 in
        out s.label (heard_from s.label u.1)));
  }

pub lawful : {L : Type 0} {o : Comparison L} → Total o → Laws o
lawful T = record { chooses = chooses_by T; smallest = smallest T }
