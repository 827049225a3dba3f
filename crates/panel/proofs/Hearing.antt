-- When an exchange is not refused, what it then leaves, and the exchange after several.
use Rattle.std.proofs.Common.{◌≡◌, ℕ, ◌+◌, ◌-◌, ◌*◌, ◌<◌, ◌≤◌, Bool, true, false, not, ltb, List, [], ◌∷◌, ◌++◌, length, take, drop, None, Ok, Err, Option, Result, sym, refl, ap, ◌∙◌, subst, append-nil, mul-le-mul_right, add-mul, one-mul, add-one, arith, below_more}
use borrow.Rule.Slice.PartMut.{put_mid}
use Rattle.std.proofs.lemmas.List.{drop_all, take-take, drop-take}
use Rattle.std.proofs.lemmas.Slice.{between-put_mid, take-put_mid_below}
use Rattle.std.proofs.lemmas.Bool.{cond-false, le-ltb, or_from}
use Rattle.labels.specs.declared.refusal.Refusal.{Refusal}
use Rattle.labels.specs.declared.slip.Slip.{Slip}
use Rattle.labels.specs.Refusals.{row}
use Rattle.exchanges.specs.Boards.{fits}
use Rattle.exchanges.specs.Plane.{last_round}
use Rattle.exchanges.specs.Exchange.{Exchange, Ask, plain, firm, round_after, after_ask}
use Rattle.exchanges.specs.Asked.{due, short, Asked, PlainAsked, FirmAsked}
use Rattle.panel.specs.Slots.{Slot}
use Rattle.panel.specs.Panel.{column, firsts, after_asks}
use Rattle.panel.specs.Steps.{Filled}
use Rattle.panel.proofs.Slips.{none≢some}
use Rattle.panel.proofs.Phases.{round_firsts}

due_none : (n t : ℕ) (sh : Bool) (r k : ℕ) → fits n t ≡ true → sh ≡ false → r + k ≤ last_round → due n t sh r k ≡ None
due_none n t sh r k f s l =
    cond-false (not (fits n t)) _ _ (ap not f)
    ∙ (cond-false sh _ _ s ∙ cond-false (ltb last_round (r + k)) _ _ (le-ltb last_round (r + k) l))

module _ {I X : Type 0} (meaning : X → Exchange I) (x x' : X) (h h' : List (Option I)) (n : ℕ) (same : (meaning x).boards ≡ n) (square : length h ≡ n * n) where
  area : (meaning x).boards * (meaning x).boards ≡ n * n
  area = ap (λ b. b * b) same

  -- what an exchange leaves where no refusal is due
  asked_went : {U : Type 0} (a : Ask I) (d : Option ℕ) (r : Result U Refusal) → Asked meaning x x' a d h h' r → d ≡ None → (meaning x' ≡ after_ask (meaning x) a) × (h' ≡ (meaning x).fills [] a)
  asked_went a d (Ok u) k e =
      let z = area in
      (k.1, k.2 ∙ (ap (λ l. (meaning x).fills [] a ++ l) (drop_all ((meaning x).boards * (meaning x).boards) h (omega arith)) ∙ append-nil ((meaning x).fills [] a)))
  asked_went a d (Err e) k n = absurd (none≢some (row e) (sym n ∙ k.0))

  roomy : (s : List (Option I)) → n ≤ length s → short (meaning x).boards s h ≡ false
  roomy s l =
      let z = area in
      or_from _ _ (le-ltb (length s) (meaning x).boards (omega (arith, same))) (le-ltb (length h) ((meaning x).boards * (meaning x).boards) (omega arith))

  module _ (s col : List (Option I)) (wide : n ≤ length s) (front : take n s ≡ col) where
    sends : take (meaning x).boards s ≡ col
    sends = ap (λ b. take b s) same ∙ front

    pub plain_went : {U : Type 0} (r : Result U Refusal) → fits (meaning x).boards (meaning x).faults ≡ true → (meaning x).round + 1 ≤ last_round → PlainAsked meaning x x' s h h' r → (meaning x' ≡ after_ask (meaning x) (plain col)) × (h' ≡ (meaning x).fills [] (plain col))
    plain_went r f l k = subst (λ u. (meaning x' ≡ after_ask (meaning x) (plain u)) × (h' ≡ (meaning x).fills [] (plain u))) sends
        (asked_went (plain (take (meaning x).boards s)) _ r k (due_none (meaning x).boards (meaning x).faults _ (meaning x).round 1 f (roomy s wide) l))

    pub firm_went : {U : Type 0} (w w' : List (Option I)) (r : Result U Refusal) → fits (meaning x).boards (meaning x).faults ≡ true → (meaning x).workspace ≤ length w → (meaning x).round + (meaning x).firm_rounds ≤ last_round → FirmAsked meaning x x' s h h' w w' r → (meaning x' ≡ after_ask (meaning x) (firm col)) × (h' ≡ (meaning x).fills [] (firm col))
    firm_went w w' r f sp l k = subst (λ u. (meaning x' ≡ after_ask (meaning x) (firm u)) × (h' ≡ (meaning x).fills [] (firm u))) sends
        (asked_went (firm (take (meaning x).boards s)) _ r k.asked (due_none (meaning x).boards (meaning x).faults _ (meaning x).round (meaning x).firm_rounds f (or_from _ _ (roomy s wide) (le-ltb (length w) (meaning x).workspace sp)) l))

-- the exchange after a list of exchanges
pub after_snoc : {I : Type 0} (x : Exchange I) (l : List (Ask I)) (a : Ask I) → after_asks x (l ++ (a ∷ [])) ≡ after_ask (after_asks x l) a
after_snoc x [] a = refl
after_snoc x (b ∷ l) a = after_snoc (after_ask x b) l a

pub after_fills : {I : Type 0} (x : Exchange I) (l k : List (Ask I)) (a : Ask I) → (after_asks x l).fills k a ≡ x.fills (l ++ k) a
after_fills x [] k a = refl
after_fills x (b ∷ l) k a = after_fills (after_ask x b) l k a

pub fills_after : {I : Type 0} (x : Exchange I) (l : List (Ask I)) (y : Exchange I) (a : Ask I) → y ≡ after_asks x l → y.fills [] a ≡ x.fills l a
fills_after x l y a e = ap (λ q. q.fills [] a) e ∙ (after_fills x l [] a ∙ ap (λ k. x.fills k a) (append-nil l))

pub after_firm : {I : Type 0} (x : Exchange I) (l : List (Ask I)) → (after_asks x l).firm_rounds ≡ x.firm_rounds
after_firm x [] = refl
after_firm x (b ∷ l) = after_firm (after_ask x b) l

pub after_round : {I : Type 0} (x : Exchange I) (l : List (Ask I)) → (after_asks x l).round ≡ round_after x.firm_rounds x.round l
after_round x [] = refl
after_round x (b ∷ l) = after_round (after_ask x b) l

-- one more block lies below the room
pub next_within : (g f k room : ℕ) → g < f → f * k ≤ room → g * k + k ≤ room
next_within g f k room lt h =
    let le : g + 1 ≤ f = omega arith in
    let more : (g + 1) * k ≤ f * k = mul-le-mul_right k le in
    let split : (g + 1) * k ≡ g * k + k = add-mul g 1 k ∙ ap (λ m. g * k + m) (one-mul k) in
    omega arith

-- a part below a place is as it was where the front up to the place is
part_below : {X : Type 0} (xs ys : List X) (a k at : ℕ) → a + k ≤ at → take at ys ≡ take at xs → take k (drop a ys) ≡ take k (drop a xs)
part_below xs ys a k at h e =
    sym (drop-take a k ys) ∙ (ap (drop a) (sym (take-take (a + k) at ys h) ∙ (ap (take (a + k)) e ∙ take-take (a + k) at xs h)) ∙ drop-take a k xs)

-- a block that is filled through a part of the memory
module _ {X : Type 0} (at area : ℕ) (blocks into : List X) (within : at + area ≤ length blocks) (long : length into ≡ at + area - at) where
  pub block_here : take area (drop at (put_mid at (at + area - at) blocks into)) ≡ into
  block_here =
      let k : area ≡ at + area - at = omega arith in
      ap (λ m. take m (drop at (put_mid at (at + area - at) blocks into))) k ∙ between-put_mid at (at + area - at) blocks into (at + area) (omega arith) long

  pub block_before : take at (put_mid at (at + area - at) blocks into) ≡ take at blocks
  block_before = take-put_mid_below at (at + area - at) blocks into at (omega arith) (omega arith)

-- the firm exchanges one after another
module _ {L : Type 0} (x : Exchange (Slip L)) (n : ℕ) (slots : List (Slot L)) where
  pub round_at : (g : ℕ) (y : Exchange (Slip L)) → y ≡ after_asks x (firsts n slots g) → x.round + g * x.firm_rounds ≤ last_round → y.round ≡ x.round + g * x.firm_rounds
  round_at g y e l = ap (λ z. z.round) e ∙ (after_round x (firsts n slots g) ∙ round_firsts n slots x.firm_rounds x.round g l)

  pub rounds_at : (g f : ℕ) (y : Exchange (Slip L)) → y ≡ after_asks x (firsts n slots g) → g < f → x.round + f * x.firm_rounds ≤ last_round → y.round + y.firm_rounds ≤ last_round
  rounds_at g f y e lt h =
      let w : g * x.firm_rounds + x.firm_rounds ≤ f * x.firm_rounds = next_within g f x.firm_rounds (f * x.firm_rounds) lt (omega arith) in
      let r = round_at g y e (omega arith) in
      let k : y.firm_rounds ≡ x.firm_rounds = ap (λ z. z.firm_rounds) e ∙ after_firm x (firsts n slots g) in
      omega arith

  pub asked_more : (g : ℕ) (y z : Exchange (Slip L)) → y ≡ after_asks x (firsts n slots g) → z ≡ after_ask y (firm (column n slots g)) → z ≡ after_asks x (firsts n slots (g + 1))
  asked_more g y z e h =
      h ∙ (ap (λ q. after_ask q (firm (column n slots g))) e
      ∙ (sym (after_snoc x (firsts n slots g) (firm (column n slots g))) ∙ ap (λ k. after_asks x (firsts n slots k)) (sym (add-one g))))

  pub filled_more : (g : ℕ) (y : Exchange (Slip L)) (before now : List (Slot L)) → y ≡ after_asks x (firsts n slots g) → Filled x n slots g before → take (g * (n * n)) now ≡ take (g * (n * n)) before → take (n * n) (drop (g * (n * n)) now) ≡ y.fills [] (firm (column n slots g)) → Filled x n slots (g + 1) now
  filled_more g y before now e was kept here =
      below_more (λ c. take (n * n) (drop (c * (n * n)) now) ≡ x.fills (firsts n slots c) (firm (column n slots c))) g
      (λ c lt. part_below before now (c * (n * n)) (n * n) (g * (n * n)) (next_within c g (n * n) (g * (n * n)) lt (omega arith)) kept ∙ was c lt)
      (here ∙ fills_after x (firsts n slots g) y (firm (column n slots g)) e)
