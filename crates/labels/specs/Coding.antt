-- How labels of one kind stand in bytes.
use Rattle.std.specs.Prelude.{◌≡◌, ℕ, ◌+◌, ◌-◌, ◌<◌, ◌≤◌, Bool, cond, List, length, take, drop, Some, None, Ok, Err, Option, Result, ◌==◌, ◌≢◌, nat_le}
use Rattle.labels.specs.Bytes.{Bytes, laid}
use Rattle.labels.specs.Faults.{Numbered, require}
use Rattle.labels.specs.declared.fault.Reader.TheVariants.{Label}

pub record Coding (L : Type 0) : Type 0 where
  -- the number of the kind
  pub kind : ℕ
  -- how many bytes a label has
  pub width : ℕ
  pub write : L → List ℕ
  pub read : List ℕ → Option L

-- what every kind owes: only a label's own bytes read as that label
pub record Own {L : Type 0} (c : Coding L) : Type 0 where
  pub some : 0 < c.width
  pub wide : (l : L) → length (c.write l) ≡ c.width
  pub back : (l : L) → c.read (c.write l) ≡ Some l
  pub only : (b : List ℕ) (l : L) → Bytes b → c.read b ≡ Some l → c.write l ≡ b

module _ {L : Type 0} (c : Coding L) where
  -- whether a label has room at place p of so long an input or output
  abbrev pub room : List ℕ → ℕ → Bool
  room b p = nat_le c.width (length b - p)

  -- a label and the place after it, where the bytes at p are one
  abbrev pub read_as : ℕ → Option L → Result (L × ℕ) Numbered
  read_as p (Some l) = Ok (l, p + c.width)
  read_as p None = Err (16, p, Label)

  -- what reading a label at place p answers: 13 where the input ends too early, 16 where the bytes are no label
  abbrev pub read_at : List ℕ → ℕ → Result (L × ℕ) Numbered
  read_at b p = require (room b p) (13, p, Label) (read_as p (c.read (take c.width (drop p b))))

  -- what writing a label at place p answers, and the memory afterwards: 22 where the output is too short
  abbrev pub write_at : L → List ℕ → ℕ → Result ℕ Numbered
  write_at l m p = require (room m p) (22, length m, Label) (Ok (p + c.width))

  abbrev pub written : L → List ℕ → ℕ → List ℕ
  written l m p = cond (room m p) (laid (c.write l) p m) m

  -- reading and writing at any place of any memory
  pub record RoundTrips : Type 0 where
    -- reading what was written gives the label back
    pub reads_back : (l : L) (m : List ℕ) (p : ℕ) → p + c.width ≤ length m → read_at (written l m p) p ≡ Ok (l, p + c.width)
    -- bytes that read as a label are the bytes that writing it gives
    pub writes_back : (b : List ℕ) (p q : ℕ) (l : L) → Bytes b → read_at b p ≡ Ok (l, q) → written l b p ≡ b
    -- exactly the bytes of no label are refused
    pub refuses : (b : List ℕ) (p : ℕ) → Bytes b → p + c.width ≤ length b → (read_at b p ≡ Err (16, p, Label) → (l : L) → written l b p ≢ b) × (((l : L) → written l b p ≢ b) → read_at b p ≡ Err (16, p, Label))

-- m' is bytes, where m had as many, and r tells; else m
abbrev pub Overwrites : List ℕ → List ℕ → List ℕ → Bool → Type 0
Overwrites bytes m m' r = (r ≡ (length m == length bytes)) × (m' ≡ cond r bytes m)
