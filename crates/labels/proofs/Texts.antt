-- A stamp's ticks as eight digits.
use Rattle.std.proofs.Common.{◌≡◌, ℕ, zero, suc, ◌+◌, ◌-◌, ◌*◌, ◌/◌, ◌%◌, ◌^◌, ◌<◌, ◌≤◌, false, ◌⊎◌, List, [], ◌∷◌, ◌++◌, map, length, replicate, decimal, sym, refl, ap, ◌∙◌, inl, inr, arith, add-one, append_assoc, length-append}
use Rattle.std.proofs.lemmas.Bool.{cases_lt}
use Rattle.std.proofs.lemmas.Fmt.{decimal_digit, decimal_step}
use Rattle.std.proofs.lemmas.List.{replicate-append-replicate, append-nil}
use Rattle.std.proofs.Math.Nat.{pow-suc}
use Rattle.std.specs.Fmt.{padded_integral, format_spec, char_count}
use Rattle.labels.specs.Kinds.{digit}

-- the last w digits
abbrev last_digits : ℕ → ℕ → List ℕ
last_digits zero t = []
last_digits (suc w) t = last_digits w (t / 10) ++ ((48 + t % 10) ∷ [])

zeros : (w : ℕ) → last_digits w 0 ≡ replicate w 48
zeros zero = refl
zeros (suc w) = ap (λ l. l ++ (48 ∷ [])) (zeros w) ∙ replicate-append-replicate w 1 48 ∙ ap (λ n. replicate n 48) (add-one w)

-- zeros in front of a number that has at most w + 1 digits
led : (w t : ℕ) → t < 10 ^ suc w → t < 2 ^ 64 → replicate (suc w - length (decimal t)) 48 ++ decimal t ≡ last_digits (suc w) t
led w t h k = go w t h k (cases_lt t 10)
  where
    one : (w t : ℕ) → t < 10 → replicate (suc w - length (decimal t)) 48 ++ decimal t ≡ last_digits (suc w) t
    one w t h =
        let none : t / 10 ≡ 0 = omega arith in
        let last : t % 10 ≡ t = omega arith in
        let less : suc w - 1 ≡ w = omega arith in
        ap (λ l. replicate (suc w - length l) 48 ++ l) (decimal_digit t h) ∙ ap (λ n. replicate n 48 ++ ((48 + t) ∷ [])) less ∙ ap (λ l. l ++ ((48 + t) ∷ [])) (sym (zeros w)) ∙ ap (λ n. last_digits w n ++ ((48 + t) ∷ [])) (sym none) ∙ ap (λ n. last_digits w (t / 10) ++ ((48 + n) ∷ [])) (sym last)

    go : (w t : ℕ) → t < 10 ^ suc w → t < 2 ^ 64 → (t < 10) ⊎ (10 ≤ t) → replicate (suc w - length (decimal t)) 48 ++ decimal t ≡ last_digits (suc w) t
    go w t h k (inl l) = one w t l
    go zero t h k (inr l) = absurd (omega arith)
    go (suc w) t h k (inr l) =
        let ds = decimal (t / 10) in
        let d = (48 + t % 10) ∷ [] in
        let long : suc (suc w) - length (ds ++ d) ≡ suc w - length ds = simp length-append (omega arith) in
        let wide : t < 10 ^ suc w * 10 = rw (pow-suc 10 (suc w)) at h in
        let small : t / 10 < 10 ^ suc w = omega arith in
        ap (λ l. replicate (suc (suc w) - length l) 48 ++ l) (decimal_step t l k) ∙ ap (λ n. replicate n 48 ++ (ds ++ d)) long ∙ sym (append_assoc (replicate (suc w - length ds) 48) ds d) ∙ ap (λ l. l ++ d) (go w (t / 10) small (omega arith) (cases_lt (t / 10) 10))

-- the quotients by ten, one after another
parts : (t : ℕ) → last_digits 8 t ≡ map (digit t) (7 ∷ 6 ∷ 5 ∷ 4 ∷ 3 ∷ 2 ∷ 1 ∷ 0 ∷ [])
parts t =
    let b : t / 10 / 10 ≡ t / 100 = omega arith in
    let c : t / 10 / 10 / 10 ≡ t / 1000 = ap (λ n. n / 10) b ∙ omega arith in
    let d : t / 10 / 10 / 10 / 10 ≡ t / 10000 = ap (λ n. n / 10) c ∙ omega arith in
    let e : t / 10 / 10 / 10 / 10 / 10 ≡ t / 100000 = ap (λ n. n / 10) d ∙ omega arith in
    let f : t / 10 / 10 / 10 / 10 / 10 / 10 ≡ t / 1000000 = ap (λ n. n / 10) e ∙ omega arith in
    let g : t / 10 / 10 / 10 / 10 / 10 / 10 / 10 ≡ t / 10000000 = ap (λ n. n / 10) f ∙ omega arith in
    let a : t ≡ t / 1 = omega arith in
    λ i. (48 + g i % 10) ∷ (48 + f i % 10) ∷ (48 + e i % 10) ∷ (48 + d i % 10) ∷ (48 + c i % 10) ∷ (48 + b i % 10) ∷ (48 + t / 10 % 10) ∷ (48 + a i % 10) ∷ []

pub eight_digits : (t : ℕ) → t < 100000000 → padded_integral (format_spec 32 0 4 8 (2 ^ 64 - 1)) false [] (decimal t) ≡ map (digit t) (7 ∷ 6 ∷ 5 ∷ 4 ∷ 3 ∷ 2 ∷ 1 ∷ 0 ∷ [])
unfolding padded_integral char_count
eight_digits t h =
    let all : replicate (8 - length (decimal t)) 48 ++ (decimal t ++ []) ≡ last_digits 8 t = ap (λ l. replicate (8 - length (decimal t)) 48 ++ l) (append-nil (decimal t)) ∙ led 7 t h (omega arith) in
    let is : padded_integral (format_spec 32 0 4 8 (2 ^ 64 - 1)) false [] (decimal t) ≡ replicate (8 - length (decimal t)) 48 ++ (decimal t ++ []) = ap (λ n. replicate n 48 ++ (decimal t ++ [])) (omega arith) in
    is ∙ all ∙ parts t
