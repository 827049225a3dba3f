-- Bytes that are put into a buffer, one after another.
use Rattle.std.proofs.lemmas.Grind.{common_steps}
use Rattle.std.proofs.Common.{◌≡◌, ℕ, ◌+◌, ◌<◌, ◌≤◌, min, List, [], ◌∷◌, ◌++◌, length, get_or, take, drop, Ok, Err, Result, sym, refl, ap, ◌∙◌, subst, append_assoc, append-nil, arith}
use lib.Count.{ones}
use Rattle.std.proofs.lemmas.List.{take_more, take-append-drop}
use Rattle.labels.specs.Coding.{Coding}
use Rattle.labels.specs.Faults.{Numbered}
use Rattle.labels.specs.declared.slip.Slip.{Slip}
use Rattle.script.specs.declared.model.Header.{Header}
use Rattle.script.specs.declared.model.Record.{Record}
use Rattle.script.specs.Entries.{fixed_bytes, entry_bytes, slip_bytes}
use Rattle.script.specs.Header.{header_bytes}
use Rattle.script.specs.Memory.{Lists, with_slips, formed}
use Rattle.script.specs.Fields.{joined}
use Rattle.script.specs.Passes.{Puts}

-- one after another
pub puts_then : (a b old mid new : List ℕ) (at q : ℕ) (r : Result ℕ Numbered) → Puts a old at (Ok q) mid → Puts b mid q r new → Puts (a ++ b) old at r new
puts_then a b old mid new at q (Ok s) h k = grind (arith, common_steps)
puts_then a b old mid new at q (Err e) h k = grind (arith, common_steps)

-- the first of two passes the end
pub puts_stop : (a b old new : List ℕ) (at : ℕ) (e : Numbered) (r : Result ℕ Numbered) → r ≡ Err e → Puts a old at (Err e) new → Puts (a ++ b) old at r new
puts_stop a b old new at e (Ok q) w h = absurd (cc)
puts_stop a b old new at e (Err f) w h = grind (arith, common_steps)

-- rows of like fields
module _ {X : Type 0} (w : X → List ℕ) where
  joined_append : (xs ys : List X) → joined w (xs ++ ys) ≡ joined w xs ++ joined w ys
  joined_append [] ys = refl
  joined_append (x ∷ xs) ys = ap (λ l. w x ++ l) (joined_append xs ys) ∙ sym (append_assoc (w x) (joined w xs) (joined w ys))

  module _ (xs : List X) (i : ℕ) (x : X) (within : i < length xs) (is : x ≡ get_or xs i x) where
    front_more : joined w (take (i + 1) xs) ≡ joined w (take i xs) ++ w x
    front_more = ap (joined w) (take_more xs i x within) ∙ joined_append (take i xs) (get_or xs i x ∷ []) ∙ ap (λ l. joined w (take i xs) ++ l) (append-nil (w (get_or xs i x)) ∙ ap w (sym is))

    pub row_more : (old mid new : List ℕ) (at p q : ℕ) → Puts (joined w (take i xs)) old at (Ok p) mid → Puts (w x) mid p (Ok q) new → Puts (joined w (take (i + 1) xs)) old at (Ok q) new
    row_more old mid new at p q h k = subst (λ l. Puts l old at (Ok q) new) (sym front_more) (puts_then (joined w (take i xs)) (w x) old mid new at p (Ok q) h k)

    pub row_stop : (old mid new : List ℕ) (at p : ℕ) (e : Numbered) (r : Result ℕ Numbered) → r ≡ Err e → Puts (joined w (take i xs)) old at (Ok p) mid → Puts (w x) mid p (Err e) new → Puts (joined w xs) old at r new
    row_stop old mid new at p e r u h k =
        let ys : List X = drop (i + 1) xs in
        let all : joined w xs ≡ joined w (take i xs) ++ (w x ++ joined w ys) =
        ap (joined w) (sym (take-append-drop (i + 1) xs)) ∙ joined_append (take (i + 1) xs) ys ∙ ap (λ l. l ++ joined w ys) front_more ∙ append_assoc (joined w (take i xs)) (w x) (joined w ys) in
        subst (λ l. Puts l old at r new) (sym all) (puts_then (joined w (take i xs)) (w x ++ joined w ys) old mid new at p r h (puts_stop (w x) (joined w ys) mid new p e r u k))

-- what the loop over the records keeps: the bytes so far, and those to come
pub record Placing {L : Type 0} (C : Coding L) (rs : List Record) (ss : List (Slip L)) (old : List ℕ) (at i p : ℕ) (rest : List (Slip L)) (new : List ℕ) : Type 0 where
  pub done : List ℕ
  pub puts : Puts done old at (Ok p) new
  pub whole : joined (entry_bytes C) (with_slips rs ss) ≡ done ++ joined (entry_bytes C) (with_slips (drop i rs) rest)

-- one record more, of whose k slips t are there
module _ {L : Type 0} {C : Coding L} {rs : List Record} {ss : List (Slip L)} {old : List ℕ} {at i p : ℕ} {rest : List (Slip L)} {new : List ℕ} (s : Placing C rs ss old at i p rest new) (x : Record) (more : i < length rs) (is : get_or rs i x ≡ x) {k t : ℕ} {own left : List (Slip L)} (due : k ≡ ones x.forged) (there : t ≡ min k (length rest)) (front : own ≡ take t rest) (back : left ≡ drop t rest) where
  module _ (mid : List ℕ) (q : ℕ) (h : Puts (fixed_bytes x) new p (Ok q) mid) where
    pub slips_stop : (last : List ℕ) (e : Numbered) (r : Result ℕ Numbered) → r ≡ Err e → Puts (joined (slip_bytes C) own) mid q (Err e) last → Puts (joined (entry_bytes C) (with_slips rs ss)) old at r last
    slips_stop last e r u k = grind (arith, common_steps)

    module _ (last : List ℕ) (z : ℕ) (w : Puts (joined (slip_bytes C) own) mid q (Ok z) last) where
      pub ends_short : t < k → Puts (joined (entry_bytes C) (with_slips rs ss)) old at (Ok z) last
      ends_short short = grind (arith, common_steps)

      pub placing_more : k ≤ t → Placing C rs ss old at (i + 1) z left last
      placing_more enough = record {
        done = s.done ++ (fixed_bytes x ++ joined (slip_bytes C) own);
        puts = grind (arith, common_steps);
        whole = grind (arith, common_steps);
      }

-- the header, and the labels where they end too soon, make the script
pub form_short : {L : Type 0} (C : Coding L) (h : Header) (count : ℕ) (m : Lists L) (old mid last : List ℕ) (kind p q t : ℕ) → kind ≡ C.kind → Puts (header_bytes kind h) old 0 (Ok p) mid → t ≡ min h.boards (length m.proposals) → Puts (joined C.write (take t m.proposals)) mid p (Ok q) last → t < h.boards → Puts (formed C h count m) old 0 (Ok q) last
form_short C h count m old mid last kind p q t own_kind first there labels short = grind (arith, common_steps)

-- the header, all labels and the records make the script
pub form_all : {L : Type 0} (C : Coding L) (h : Header) (count : ℕ) (m : Lists L) (old mid last end : List ℕ) (kind p q t z : ℕ) (r : Result ℕ Numbered) → kind ≡ C.kind → Puts (header_bytes kind h) old 0 (Ok p) mid → t ≡ min h.boards (length m.proposals) → Puts (joined C.write (take t m.proposals)) mid p (Ok q) last → h.boards ≤ t → z ≡ min count (length m.records) → Puts (joined (entry_bytes C) (with_slips (take z m.records) m.slips)) last q r end → Puts (formed C h count m) old 0 r end
form_all C h count m old mid last end kind p q t z r own_kind first there labels enough u w = grind (arith, common_steps)
