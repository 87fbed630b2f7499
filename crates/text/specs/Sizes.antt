-- How long texts are. Assumes nothing.
use Rattle.std.specs.Prelude.{ℕ, zero, suc, ◌+◌, ◌*◌, ◌/◌, ◌≤◌, ◌≡◌, refl, List, [], ◌∷◌, length}
use Rattle.std.proofs.Common.{arith, length-append}
use Rattle.text.specs.Text.{digits, decimal, hexadecimal, or_dash}

length_digits : (k n : ℕ) → length (digits k n) ≤ k
unfolding digits
length_digits zero n = omega arith
length_digits (suc k) zero = omega arith
length_digits (suc k) (suc n) = let h = length_digits k (suc n / 10) in rw (length-append (digits k (suc n / 10)) _) (omega arith)

pub length_decimal : (n : ℕ) → length (decimal n) ≤ 20
unfolding decimal
length_decimal n = let h = length_digits 19 (n / 10) in rw (length-append (digits 19 (n / 10)) _) (omega arith)

pub length_hexadecimal : (s : List ℕ) → length (hexadecimal s) ≡ 2 * length s
unfolding hexadecimal
length_hexadecimal [] = refl
length_hexadecimal (b ∷ s) = let h = length_hexadecimal s in omega arith

pub length_dash : (s : List ℕ) → length (or_dash s) ≤ 1 + 2 * length s
unfolding or_dash
length_dash [] = omega arith
length_dash (b ∷ s) = let h = length_hexadecimal (b ∷ s) in omega arith
