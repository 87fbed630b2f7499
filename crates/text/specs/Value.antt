-- A number's text, read back digit by digit, is the number: none of its digits is lost; and it is what std's `{}` prints. Assumes nothing.
use Rattle.std.specs.Prelude.{ℕ, zero, suc, ◌+◌, ◌-◌, ◌*◌, ◌/◌, ◌%◌, ◌^◌, ◌≤◌, ◌<◌, ◌≡◌, refl, List, [], ◌∷◌, ◌++◌}
use Rattle.std.proofs.Common.{ap, ◌∙◌, arith, lt-ltb}
use Rattle.std.proofs.Math.Nat.{pow-succ'}
use Rattle.std.specs.Fmt.{decimal as printed}
use Rattle.std.proofs.lemmas.Fmt.{decimal_by_steps_wide}
use Rattle.text.specs.Text.{digit_of, digits, decimal}

-- the number of a text of digits, behind digits of the number n
unfoldable pub value_from : ℕ → List ℕ → ℕ
value_from n [] = n
value_from n (c ∷ cs) = value_from (n * 10 + (c - 48)) cs

value_append : (n : ℕ) (s t : List ℕ) → value_from n (s ++ t) ≡ value_from (value_from n s) t
unfolding value_from
value_append n [] t = refl
value_append n (c ∷ s) t = value_append (n * 10 + (c - 48)) s t

-- one digit behind the others
value_last : (s : List ℕ) (n : ℕ) → value_from 0 s ≡ n / 10 → value_from 0 (s ++ (digit_of (n % 10) ∷ [])) ≡ n
unfolding value_from digit_of
value_last s n e = value_append 0 s _ ∙ rw (e, lt-ltb (n % 10) 10 (omega arith)) (omega arith)

value_digits : (k n : ℕ) → n < 10 ^ k → value_from 0 (digits k n) ≡ n
unfolding digits value_from
value_digits zero n h = omega arith
value_digits (suc k) zero h = refl
value_digits (suc k) (suc n) h = value_last (digits k (suc n / 10)) (suc n) (value_digits k (suc n / 10) (go (10 ^ k) (rw (pow-succ' 10 k) at h)))
  where
    go : (p : ℕ) → suc n < 10 * p → suc n / 10 < p
    go p m = omega arith

pub value_decimal : (n : ℕ) → n < 10 ^ 20 → value_from 0 (decimal n) ≡ n
unfolding decimal
value_decimal n h = value_last (digits 19 (n / 10)) n (value_digits 19 (n / 10) (omega arith))

-- ds is the text of n, by as many digits as it has or more
abbrev as_printed : (n : ℕ) (ds : List ℕ) → Type 0
as_printed n ds = (k : ℕ) → n < 10 ^ suc k → digits k (n / 10) ++ (digit_of (n % 10) ∷ []) ≡ ds

digit_below_ten : (x : ℕ) → x < 10 → digit_of x ≡ 48 + x
unfolding digit_of
digit_below_ten x h = rw (lt-ltb x 10 h)

-- all digits are put
pub no_digits : (k : ℕ) → digits k 0 ≡ []
unfolding digits
no_digits zero = refl
no_digits (suc k) = refl

one_printed : (n : ℕ) → n < 10 → as_printed n ((48 + n) ∷ [])
one_printed n h k l =
    let z : n / 10 ≡ 0 = omega arith in
    let m : n % 10 ≡ n = omega arith in
    rw (z, m, no_digits k, digit_below_ten n h)

digits_last : (k m : ℕ) → 0 < m → digits (suc k) m ≡ digits k (m / 10) ++ (digit_of (m % 10) ∷ [])
unfolding digits
digits_last k zero z = absurd (omega arith)
digits_last k (suc m) z = refl

more_printed : (n : ℕ) (ds : List ℕ) → 10 ≤ n → as_printed (n / 10) ds → as_printed n (ds ++ ((48 + n % 10) ∷ []))
more_printed n ds h e zero l = absurd (omega arith)
more_printed n ds h e (suc k) l =
    rw (digit_below_ten (n % 10) (omega arith)) (ap (λ (s : List ℕ). s ++ ((48 + n % 10) ∷ [])) (digits_last k (n / 10) (omega arith) ∙ e k (fewer (10 ^ suc k) (rw (pow-succ' 10 (suc k)) at l))))
  where
    fewer : (p : ℕ) → n < 10 * p → n / 10 < p
    fewer p z = omega arith

-- what std's `{}` prints of n
pub printed_decimal : (n : ℕ) → n < 10 ^ 20 → decimal n ≡ printed n
unfolding decimal
printed_decimal n h = decimal_by_steps_wide as_printed one_printed more_printed n (omega arith) 19 h
