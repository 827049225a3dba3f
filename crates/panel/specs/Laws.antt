-- What the choice and the counts are, without saying how they are worked out.
use Rattle.std.specs.Prelude.{◌≡◌, ℕ, ◌+◌, ◌-◌, ◌<◌, ◌≤◌, Bool, true, ◌⊎◌, Some, None, ◌≢◌}
use Rattle.std.specs.declared.cmp.Ordering.TheVariants.{Less}
use Rattle.exchanges.specs.Boards.{count}
use Rattle.labels.specs.declared.slip.Slip.{Slip}
use Rattle.panel.specs.Slots.{Comparison}
use Rattle.panel.specs.Phase.{Row, choice, enough}

-- at least k of the boards below n have the property
abbrev pub Many : ℕ → ℕ → (ℕ → Type 0) → Type 0
Many k n P = (these : ℕ → Bool) × (k ≤ count these n) × ((q : ℕ) → q < n → these q ≡ true → P q)

-- What board p heard: claims from each board, and picks of each phase from each board.
module _ {L : Type 0} (o : Comparison L) (n t f : ℕ) (claims : Row L) (picks : ℕ → Row L) where
  -- the claim heard from q, which counts only with a number below f
  abbrev pub Claims : ℕ → Slip L → Type 0
  Claims q s = (claims q ≡ Some s) × (s.phase < f)

  -- a heard claim (v, c) with c at least 1 stands
  pub record Stands (s : Slip L) : Type 0 where
    pub from : ℕ
    pub below : from < n
    pub claimed : Claims from s
    pub late : 1 ≤ s.phase
    -- at least n - t heard claims have label v or a number below c
    pub backed : Many (n - t) n (λ q. (r : Slip L) × Claims q r × ((r.label ≡ s.label) ⊎ (r.phase < s.phase)))
    -- at least t + 1 boards were heard with pick v of phase c
    pub picked : Many (t + 1) n (λ q. picks s.phase q ≡ Some s)

  -- q was heard to claim v
  abbrev pub Says : L → ℕ → Type 0
  Says v q = (s : Slip L) × Claims q s × (s.label ≡ v)

  -- at least n - t heard claims have number 0
  abbrev pub Open : Type 0
  Open = Many (n - t) n (λ q. (s : Slip L) × Claims q s × (s.phase ≡ 0))

  -- the choice of phase f
  pub record Chooses : Type 0 where
    -- the label of the standing claim with the greatest number, then the smallest label
    pub standing : (s : Slip L) → Stands s → ((r : Slip L) → Stands r → (r.phase < s.phase) ⊎ ((r.phase ≡ s.phase) × (o r.label s.label ≢ Less))) → choice o n t f claims picks ≡ Some s.label
    -- if none stands, and enough claims have number 0: the label heard most often, k times, and the smallest of these
    pub most : ((r : Slip L) → Stands r → ⊥) → Open → (v : L) (k : ℕ) → 1 ≤ k → Many k n (Says v) → ((u : L) → Many (k + 1) n (Says u) → ⊥) → ((u : L) → o u v ≡ Less → Many k n (Says u) → ⊥) → choice o n t f claims picks ≡ Some v
    -- otherwise there is none
    pub none : ((r : Slip L) → Stands r → ⊥) → (Open → ⊥) → choice o n t f claims picks ≡ None

-- the smallest label that was heard with number f at least k times
pub record Smallest {L : Type 0} (o : Comparison L) (n k f : ℕ) (row : Row L) : Type 0 where
  pub some : (v : L) → Many k n (λ q. row q ≡ Some (record { label = v; phase = f })) → ((w : L) → o w v ≡ Less → Many k n (λ q. row q ≡ Some (record { label = w; phase = f })) → ⊥) → enough o n k f row ≡ Some v
  pub none : ((w : L) → Many k n (λ q. row q ≡ Some (record { label = w; phase = f })) → ⊥) → enough o n k f row ≡ None

-- both, for any rows
pub record Laws {L : Type 0} (o : Comparison L) : Type 0 where
  pub chooses : (n t f : ℕ) (claims : Row L) (picks : ℕ → Row L) → Chooses o n t f claims picks
  pub smallest : (n k f : ℕ) (row : Row L) → 1 ≤ k → Smallest o n k f row
