-- Digits put one before another from the end of an array, and pairs of them one behind another. Assumes nothing.
use Prim.Native.Nat.{ℕ, zero, suc, ◌+◌, ◌-◌, ◌*◌, ◌/◌, ◌%◌, ◌^◌, ◌≤◌, ◌<◌}
use mathlib.Core.Path.{◌≡◌, refl, sym, ap, ◌∙◌}
use mathlib.Core.List.{List, [], ◌∷◌, ◌++◌, append_assoc}
use native.Mathlib.Omega.{arith}
use native.Mathlib.Nat.{pow-succ'}
use native.Mathlib.Numerals.{add-one, sub-one}
use lib.ListN.{length, take, drop, get_or, set, length-append, length-drop}
use borrow.Rule.Slice.Mut.{set_vals}
use borrow.Rule.Slice.PartMut.{put_mid}
use lib.Seq.{set_split, drop_at, length-take-le, take-suc, take_all}
use Rattle.std.proofs.Common.{drop_of_length-le}
use Rattle.number.specs.Part.{over, length_over, take_over}
use Rattle.text.specs.Text.{ascii, digit_of, digits, decimal, hexadecimal, or_dash}
use Rattle.text.specs.declared.Page.{Page}
use Rattle.text.specs.Sizes.{length_hexadecimal}
use Rattle.text.specs.Written.{Written, then, named}

-- a digit stored at k stands in front of what is behind it
stored : (t : List ℕ) (k x : ℕ) → k < length t → drop k (set t k x) ≡ x ∷ drop (suc k) t
stored t k x h = ap (drop k) (set_split t k x h) ∙ drop_at (take k t) (x ∷ drop (suc k) t) k (length-take-le k t (omega arith))

-- a number below 10 ^ k has at most k of them: there is a place for the next
pub some_left : (k r : ℕ) → 0 < r → r < 10 ^ k → 0 < k
some_left zero r h l = omega arith
some_left (suc k) r h l = omega arith

pub fewer : (k r : ℕ) → 0 < k → r < 10 ^ k → r / 10 < 10 ^ (k - 1)
fewer zero r h l = absurd (omega arith)
fewer (suc k) r h l = rw (sub-one (suc k)) (go (10 ^ k) (rw (pow-succ' 10 k) at l))
  where
    go : (p : ℕ) → r < 10 * p → r / 10 < p
    go p m = omega arith

-- one digit more
pub more_digits : (k r x : ℕ) (t w : List ℕ) → 0 < r → 0 < k → k ≤ length t → x ≡ digit_of (r % 10) → digits k r ++ drop k t ≡ w → digits (k - 1) (r / 10) ++ drop (k - 1) (set t (k - 1) x) ≡ w
unfolding digits
more_digits zero r x t w p q l e h = absurd (omega arith)
more_digits (suc k) zero x t w p q l e h = absurd (omega arith)
more_digits (suc k) (suc r) x t w p q l e h =
    rw (sub-one (suc k), stored t k x (omega arith), e) (sym (append_assoc (digits k (suc r / 10)) (digit_of (suc r % 10) ∷ []) (drop (suc k) t)) ∙ h)

-- the first of them, in the last place
pub last_digit : (n x : ℕ) (t : List ℕ) → length t ≡ 20 → x ≡ digit_of (n % 10) → digits 19 (n / 10) ++ drop 19 (set t 19 x) ≡ decimal n
unfolding decimal
last_digit n x t l e = rw (stored t 19 x (omega arith), drop_of_length-le t {i = 20} (omega arith), e)

-- the part of an array from a place on
pub from_place : (t w : List ℕ) (k : ℕ) → length t ≡ 20 → drop k t ≡ w → take (20 - k) (drop k t) ≡ w
from_place t w k l e = take_all (20 - k) (drop k t) (rw (length-drop k t, l) (omega arith)) ∙ e

-- ---- two digits to a byte

hexadecimal_append : (s t : List ℕ) → hexadecimal (s ++ t) ≡ hexadecimal s ++ hexadecimal t
unfolding hexadecimal
hexadecimal_append [] t = refl
hexadecimal_append (b ∷ s) t = ap (λ (l : List ℕ). digit_of (b / 16) ∷ digit_of (b % 16) ∷ l) (hexadecimal_append s t)

-- the digits of one byte more
pub next_byte : (s : List ℕ) (i x y : ℕ) {p q r : Page} → i < length s → x ≡ digit_of (get_or s i 0 / 16) → y ≡ digit_of (get_or s i 0 % 16)
    → Written (hexadecimal (take i s)) p q → Written (x ∷ y ∷ []) q r → Written (hexadecimal (take (i + 1) s)) p r
unfolding hexadecimal
next_byte s i x y h ex ey a b =
    let more : hexadecimal (take i s) ++ (x ∷ y ∷ []) ≡ hexadecimal (take (i + 1) s) = rw (add-one i, take-suc s i 0 h, hexadecimal_append, ex, ey) in
    named more (then a b)

-- two digits more at most for each byte that is left
pub bytes_left : (s : List ℕ) (i : ℕ) → i < length s → length (hexadecimal (take i s)) + 2 ≤ length (hexadecimal s)
bytes_left s i h = rw (length_hexadecimal s, length_hexadecimal (take i s), length-take-le i s (omega arith)) (omega arith)

-- behind w stands what stood there
drop_over : (a : ℕ) (w xs : List ℕ) → a ≤ length xs → drop (a + length w) (over a w xs) ≡ drop (length w) (drop a xs)
drop_over a w xs h = ap (drop (a + length w)) (sym (append_assoc (take a xs) w (drop (length w) (drop a xs)))) ∙ drop_at (take a xs ++ w) (drop (length w) (drop a xs)) (a + length w) (rw (length-append, length-take-le a xs h))

-- ---- a word behind the text
pub put : (p : Page) (w ys : List ℕ) → p.at + length w ≤ length p.out.now → ys ≡ w
    → Written w p (record { out = set_vals (put_mid p.at (p.at + length w - p.at) p.out.now ys) p.out; at = p.at + length w })
put p w ys h e =
    let xs = p.out.now in
    let n : p.at + length w - p.at ≡ length w = omega arith in
    let o : put_mid p.at (p.at + length w - p.at) xs ys ≡ over p.at w xs = rw (n, e) in
    record {
      part = refl;
      size = ap length o ∙ length_over p.at w xs h;
      count = refl;
      text = ap (take (p.at + length w)) o ∙ take_over p.at w xs (omega arith);
      rest = ap (drop (p.at + length w)) o ∙ drop_over p.at w xs (omega arith);
    }

-- ---- bytes, or `-`
pub dash : (s : List ℕ) → length s ≡ 0 → ascii "-" ≡ or_dash s
unfolding or_dash
dash [] h = refl
dash (b ∷ s) h = absurd (omega arith)

pub no_dash : (s : List ℕ) → (length s ≡ 0 → ⊥) → hexadecimal s ≡ or_dash s
unfolding or_dash
no_dash [] h = absurd (h refl)
no_dash (b ∷ s) h = refl
