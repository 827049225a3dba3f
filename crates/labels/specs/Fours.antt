-- Four bytes and the number in them.
use Rattle.std.specs.Prelude.{◌≡◌, ℕ, zero, suc, ◌+◌, ◌*◌, ◌/◌, ◌%◌, ◌^◌, ◌<◌, ◌≤◌, List, [], ◌∷◌, length, take, drop, slice_index}
use Rattle.std.proofs.Common.{ap, sym, ◌∙◌, arith}
use Rattle.std.proofs.lemmas.List.{drop_more}
use Rattle.labels.specs.Bytes.{Bytes, four_bytes, from_four}
use Rattle.labels.specs.Kinds.{number_at}

four_parts : (n x y z a b c d : ℕ) → n ≡ x * 256 + d → x ≡ y * 256 + c → y ≡ z * 256 + b → a ≡ z → from_four a b c d ≡ n
four_parts n x y z a b c d e f g h = omega arith

pub four_back : (n : ℕ) → n < 2 ^ 32 → from_four (n / 16777216 % 256) (n / 65536 % 256) (n / 256 % 256) (n % 256) ≡ n
four_back n h =
    let one : n ≡ n / 256 * 256 + n % 256 = omega arith in
    let two : n / 256 ≡ n / 65536 * 256 + n / 256 % 256 = omega arith in
    let three : n / 65536 ≡ n / 16777216 * 256 + n / 65536 % 256 = omega arith in
    let four : n / 16777216 % 256 ≡ n / 16777216 = omega arith in
    four_parts n (n / 256) (n / 65536) (n / 16777216) (n / 16777216 % 256) (n / 65536 % 256) (n / 256 % 256) (n % 256) one two three four

last_digit : (m x r : ℕ) → r < 256 → m ≡ x * 256 + r → m % 256 ≡ r
last_digit m x r h e = omega arith

four_digits : (p q r s n : ℕ) → p < 256 → q < 256 → r < 256 → s < 256 → n ≡ from_four p q r s → four_bytes n ≡ p ∷ q ∷ r ∷ s ∷ []
four_digits p q r s n hp hq hr hs e =
    let low = last_digit n (p * 65536 + q * 256 + r) s hs (omega arith) in
    let third = last_digit (n / 256) (p * 256 + q) r hr (omega arith) in
    let second = last_digit (n / 65536) p q hq (omega arith) in
    let first = last_digit (n / 16777216) 0 p hp (omega arith) in
    cc

byte_at : (b : List ℕ) (i : ℕ) → Bytes b → slice_index b i < 256
byte_at [] i h = omega arith
byte_at (x ∷ l) zero h = h.0
byte_at (x ∷ l) (suc i) h = byte_at l i h.1

four_at : (b : List ℕ) (at : ℕ) → at + 4 ≤ length b → take 4 (drop at b) ≡ slice_index b at ∷ slice_index b (at + 1) ∷ slice_index b (at + 2) ∷ slice_index b (at + 3) ∷ []
four_at b at h =
    let one : drop at b ≡ slice_index b at ∷ drop (at + 1) b = drop_more b at 0 (omega arith) in
    let two : drop (at + 1) b ≡ slice_index b (at + 1) ∷ drop (at + 2) b = drop_more b (at + 1) 0 (omega arith) ∙ ap (λ k. slice_index b (at + 1) ∷ drop k b) (omega arith) in
    let three : drop (at + 2) b ≡ slice_index b (at + 2) ∷ drop (at + 3) b = drop_more b (at + 2) 0 (omega arith) ∙ ap (λ k. slice_index b (at + 2) ∷ drop k b) (omega arith) in
    let four : drop (at + 3) b ≡ slice_index b (at + 3) ∷ drop (at + 4) b = drop_more b (at + 3) 0 (omega arith) ∙ ap (λ k. slice_index b (at + 3) ∷ drop k b) (omega arith) in
    ap (take 4) (one ∙ ap (λ l. slice_index b at ∷ l) (two ∙ ap (λ l. slice_index b (at + 1) ∷ l) (three ∙ ap (λ l. slice_index b (at + 2) ∷ l) four)))

-- the four bytes from a place on are those of the number in them
pub four_taken : (b : List ℕ) (at : ℕ) → Bytes b → at + 4 ≤ length b → four_bytes (number_at b at) ≡ take 4 (drop at b)
four_taken b at k h =
    four_digits (slice_index b at) (slice_index b (at + 1)) (slice_index b (at + 2)) (slice_index b (at + 3)) _ (byte_at b at k) (byte_at b (at + 1) k) (byte_at b (at + 2) k) (byte_at b (at + 3) k) (omega arith) ∙ sym (four_at b at h)
