-- Counts of boards: bounds, and boards that two counts have in common.
use Rattle.std.proofs.Common.{◌≡◌, ℕ, zero, suc, ◌+◌, ◌<◌, ◌≤◌, Bool, true, false, cond, ◌||◌, ◌⊎◌, sym, refl, ap, ◌∙◌, inl, inr, arith}
use Rattle.std.proofs.lemmas.Bool.{cases_eq, true≢false}
use Rattle.exchanges.specs.Boards.{count}

abbrev bit : Bool → ℕ
bit b = cond b 1 0

-- more boards pass a weaker test
pub count_mono : (P Q : ℕ → Bool) (n : ℕ) → ((q : ℕ) → q < n → P q ≡ true → Q q ≡ true) → count P n ≤ count Q n
count_mono P Q zero h = omega arith
count_mono P Q (suc n) h =
    let ih : count P n ≤ count Q n = count_mono P Q n (λ q l. h q (omega arith)) in
    go (P n) (Q n) (h n (omega arith)) ih
  where
    go : (a b : Bool) → (a ≡ true → b ≡ true) → count P n ≤ count Q n → bit a + count P n ≤ bit b + count Q n
    go true true k i = omega arith
    go true false k i = let z : ◌≡◌ {A = Bool} false true = k refl in let y : ◌≡◌ {A = ℕ} 0 1 = ap bit z in omega arith
    go false true k i = omega arith
    go false false k i = omega arith

pub count_same : (P Q : ℕ → Bool) (n : ℕ) → ((q : ℕ) → q < n → P q ≡ Q q) → count P n ≡ count Q n
count_same P Q n h =
    let a : count P n ≤ count Q n = count_mono P Q n (λ q l e. sym (h q l) ∙ e) in
    let b : count Q n ≤ count P n = count_mono Q P n (λ q l e. h q l ∙ e) in
    omega arith

pub count_le : (P : ℕ → Bool) (n : ℕ) → count P n ≤ n
count_le P zero = omega arith
count_le P (suc n) = go (P n) (count_le P n)
  where
    go : (a : Bool) → count P n ≤ n → bit a + count P n ≤ suc n
    go true i = omega arith
    go false i = omega arith

pub count_none : (n : ℕ) → count (λ q. false) n ≡ 0
count_none zero = refl
count_none (suc n) = let i = count_none n in omega arith

-- where at most one test's boards are counted twice
pub count_or : (P Q : ℕ → Bool) (n : ℕ) → count (λ q. P q || Q q) n ≤ count P n + count Q n
count_or P Q zero = omega arith
count_or P Q (suc n) = go (P n) (Q n) (count_or P Q n)
  where
    go : (a b : Bool) → count (λ q. P q || Q q) n ≤ count P n + count Q n → bit (a || b) + count (λ q. P q || Q q) n ≤ (bit a + count P n) + (bit b + count Q n)
    go true true i = omega arith
    go true false i = omega arith
    go false true i = omega arith
    go false false i = omega arith

-- a board that passes the one test and not the other
pub found : (P Q : ℕ → Bool) (n : ℕ) → count Q n < count P n → (q : ℕ) × (q < n) × (P q ≡ true) × (Q q ≡ false)
found P Q zero h = absurd (omega arith)
found P Q (suc n) h = go (P n) (Q n) refl refl (found P Q n)
  where
    on : (q : ℕ) × (q < n) × (P q ≡ true) × (Q q ≡ false) → (q : ℕ) × (q < suc n) × (P q ≡ true) × (Q q ≡ false)
    on r = let l : r.0 < n = r.1 in (r.0, omega arith, r.2, r.3)

    go : (a b : Bool) → P n ≡ a → Q n ≡ b → (count Q n < count P n → (q : ℕ) × (q < n) × (P q ≡ true) × (Q q ≡ false)) → (q : ℕ) × (q < suc n) × (P q ≡ true) × (Q q ≡ false)
    go true true ea eb ih = let ka = ap bit ea in let kb = ap bit eb in on (ih (omega arith))
    go true false ea eb ih = (n, omega arith, ea, eb)
    go false true ea eb ih = let ka = ap bit ea in let kb = ap bit eb in on (ih (omega arith))
    go false false ea eb ih = let ka = ap bit ea in let kb = ap bit eb in on (ih (omega arith))

-- two large sets of boards share one outside a small third
pub meet : (P Q R : ℕ → Bool) (n : ℕ) → n + count R n < count P n + count Q n → (q : ℕ) × (q < n) × (P q ≡ true) × (Q q ≡ true) × (R q ≡ false)
meet P Q R zero h = absurd (omega arith)
meet P Q R (suc n) h = go (P n) (Q n) (R n) refl refl refl (meet P Q R n)
  where
    on : (q : ℕ) × (q < n) × (P q ≡ true) × (Q q ≡ true) × (R q ≡ false) → (q : ℕ) × (q < suc n) × (P q ≡ true) × (Q q ≡ true) × (R q ≡ false)
    on r = let l : r.0 < n = r.1 in (r.0, omega arith, r.2, r.3, r.4)

    go : (a b c : Bool) → P n ≡ a → Q n ≡ b → R n ≡ c → (n + count R n < count P n + count Q n → (q : ℕ) × (q < n) × (P q ≡ true) × (Q q ≡ true) × (R q ≡ false)) → (q : ℕ) × (q < suc n) × (P q ≡ true) × (Q q ≡ true) × (R q ≡ false)
    go true true false ea eb ec ih = (n, omega arith, ea, eb, ec)
    go true true true ea eb ec ih = let ka = ap bit ea in let kb = ap bit eb in let kc = ap bit ec in on (ih (omega arith))
    go true false c ea eb ec ih = let ka = ap bit ea in let kb = ap bit eb in on (ih (omega arith))
    go false b c ea eb ec ih = let ka = ap bit ea in on (ih (le_one b eb ka))
      where
        le_one : (b : Bool) → Q n ≡ b → bit (P n) ≡ 0 → n + count R n < count P n + count Q n
        le_one true eb ka = let kb = ap bit eb in omega arith
        le_one false eb ka = let kb = ap bit eb in omega arith

-- two sets of boards too large to be apart
pub share : (P Q : ℕ → Bool) (n : ℕ) → n < count P n + count Q n → (q : ℕ) × (q < n) × (P q ≡ true) × (Q q ≡ true)
share P Q n h =
    let z = count_none n in
    let r = meet P Q (λ q. false) n (omega arith) in
    (r.0, r.1, r.2, r.3)

-- some board passes
pub some_board : (P : ℕ → Bool) (n : ℕ) → 0 < count P n → (q : ℕ) × (q < n) × (P q ≡ true)
some_board P n h =
    let z = count_none n in
    let r = found P (λ q. false) n (omega arith) in
    (r.0, r.1, r.2)

-- the boards that pass and those that do not
pub count_not : (P Q : ℕ → Bool) (n : ℕ) → ((q : ℕ) → q < n → P q ≡ false → Q q ≡ true) → n ≤ count P n + count Q n
count_not P Q zero h = omega arith
count_not P Q (suc n) h =
    let ih : n ≤ count P n + count Q n = count_not P Q n (λ q l. h q (omega arith)) in
    go (P n) (Q n) (h n (omega arith)) ih
  where
    go : (a b : Bool) → (a ≡ false → b ≡ true) → n ≤ count P n + count Q n → suc n ≤ (bit a + count P n) + (bit b + count Q n)
    go true true k i = omega arith
    go true false k i = omega arith
    go false true k i = omega arith
    go false false k i = let z : ◌≡◌ {A = Bool} false true = k refl in let y : ◌≡◌ {A = ℕ} 0 1 = ap bit z in omega arith

-- where all are counted, each passes
count_all_go : (P : ℕ → Bool) (n : ℕ) → n ≤ count P n → (q : ℕ) → q < n → P q ≡ false → ⊥
count_all_go P zero h q l e = omega arith
count_all_go P (suc n) h q l e = go (P n) refl (cases_eq q n) (λ a b. count_all_go P n a q b e)
  where
    go : (b : Bool) → P n ≡ b → (q ≡ n) ⊎ (q ≡ n → ⊥) → (n ≤ count P n → q < n → ⊥) → ⊥
    go true eb (inl k) ih = true≢false (sym eb ∙ (ap P (sym k) ∙ e))
    go true eb (inr k) ih = let kb = ap bit eb in ih (omega arith) (omega arith)
    go false eb c ih = let kb = ap bit eb in let m = count_le P n in omega arith

pub count_all : (P : ℕ → Bool) (n : ℕ) → n ≤ count P n → (q : ℕ) → q < n → P q ≡ true
count_all P n h q l = go (P q) refl
  where
    go : (b : Bool) → P q ≡ b → P q ≡ true
    go true e = e
    go false e = absurd (count_all_go P n h q l e)
