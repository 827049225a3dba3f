-- What a script backplane obeys, said of the records as they stand.
use Rattle.std.specs.Prelude.{◌≡◌, ℕ, ◌+◌, ◌<◌, true, false, ◌&&◌, List, [], ◌∷◌, ◌++◌, None, Decides, Option, ◌≢◌, count_ones}
use Rattle.std.specs.List.{slice_get, AllByRecursion}
use Rattle.exchanges.specs.Boards.{Sound, bit, count}
use Rattle.exchanges.specs.Plane.{Plane, Call, round_after}
use Rattle.script.specs.declared.model.Record.{Record}

-- no record of the list is for the round and sender
abbrev pub Unsaid : List Record → ℕ → ℕ → Type 0
Unsaid l r s = AllByRecursion (λ c. c.round ≡ r → c.sender ≢ s) l

-- c is the first of the records for the round and sender, and these stand before it
pub record First (records earlier : List Record) (c : Record) (r s : ℕ) : Type 0 where
  pub later : List Record
  pub stands : records ≡ earlier ++ (c ∷ later)
  pub unsaid : Unsaid earlier r s
  pub of_round : c.round ≡ r
  pub of_sender : c.sender ≡ s

-- how many forged items the records have: one for each bit of their forged maps
abbrev pub forged_items : List Record → ℕ
forged_items [] = 0
forged_items (c ∷ l) = count_ones c.forged + forged_items l

-- no first record for the round and a sound sender loses an item to a sound board
abbrev pub Lossless : ℕ → ℕ → List Record → ℕ → Type 0
Lossless n bad records r =
    (s d : ℕ) → Sound n (λ p. bit bad p) s → Sound n (λ p. bit bad p) d → (earlier : List Record) (c : Record) → First records earlier c r s → bit c.lost d ≡ false

-- the first record for the round and sender decides what d hears where s sends x, after any calls
pub record Obeys {I : Type 0} (n bad : ℕ) (records : List Record) (slips : List I) (b : Plane I) : Type 0 where
  -- where there is none, what was sent
  pub unsaid : (l : List (Call I)) (s d : ℕ) (x : Option I) → s < n → d < n → Unsaid records (round_after b.round l) s → b.answer l s d x ≡ x
  -- silence in its lost map
  pub lost : (l : List (Call I)) (s d : ℕ) (x : Option I) → s < n → d < n → (earlier : List Record) (c : Record) → First records earlier c (round_after b.round l) s → bit c.lost d ≡ true → b.answer l s d x ≡ None
  -- else in its forged map, from a bad sender, the next item after those of the records before it and of the lower boards in its forged map
  pub forged : (l : List (Call I)) (s d : ℕ) (x : Option I) → s < n → d < n → (earlier : List Record) (c : Record) → First records earlier c (round_after b.round l) s → bit c.lost d ≡ false → bit bad s ≡ true → bit c.forged d ≡ true → b.answer l s d x ≡ slice_get slips (forged_items earlier + count (λ q. bit c.forged q) d)
  -- else what was sent
  pub sent : (l : List (Call I)) (s d : ℕ) (x : Option I) → s < n → d < n → (earlier : List Record) (c : Record) → First records earlier c (round_after b.round l) s → bit c.lost d ≡ false → (bit bad s && bit c.forged d) ≡ false → b.answer l s d x ≡ x
  -- a round is clear exactly when nothing is lost between sound boards
  pub clear : (r : ℕ) → Decides (b.clear r) (Lossless n bad records r)
