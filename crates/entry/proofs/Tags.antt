-- What the arms of a match on a decoder's answer know: which case it is not. A law by cases on the answer takes one of these, and its
-- impossible clause is `absurd (not refl)`. Assumes nothing.
use Prim.Native.Nat.{ℕ}
use mathlib.Core.Logic.{◌≢◌}
use mathlib.Core.Path.{refl}
use native.Mathlib.Omega.{arith}
use denote.Enum.Declared.{tag_of}
use Rattle.entry.specs.contracts.Decoded.{the_type}
use Rattle.entry.specs.declared.Decoded.{Decoded}
use Rattle.entry.specs.declared.Decoded.TheVariants.{Start, Item, End, Clear}

abbrev pub tag : Decoded → ℕ
tag e = tag_of the_type e

abbrev pub NotStart : Decoded → Type 0
NotStart e = tag e ≢ 0

abbrev pub NotItem : Decoded → Type 0
NotItem e = tag e ≢ 1

abbrev pub NotEnd : Decoded → Type 0
NotEnd e = tag e ≢ 2

abbrev pub NotClear : Decoded → Type 0
NotClear e = tag e ≢ 3

-- the arm of a `let .. else` or of a `_`: what it knows of each case that another arm took
pub not_start : (e : Decoded) → ((c q n : ℕ) → e ≢ Start c q n) → NotStart e
not_start (Start c q n) h = absurd (h c q n refl)
not_start (Item ty ks ka kl va vl n) h = λ q. omega (arith, q)
not_start (End sum n) h = λ q. omega (arith, q)
not_start (Clear k n) h = λ q. omega (arith, q)

pub not_item : (e : Decoded) → ((ty ks ka kl va vl n : ℕ) → e ≢ Item ty ks ka kl va vl n) → NotItem e
not_item (Start c q n) h = λ q. omega (arith, q)
not_item (Item ty ks ka kl va vl n) h = absurd (h ty ks ka kl va vl n refl)
not_item (End sum n) h = λ q. omega (arith, q)
not_item (Clear k n) h = λ q. omega (arith, q)

pub not_end : (e : Decoded) → ((sum n : ℕ) → e ≢ End sum n) → NotEnd e
not_end (Start c q n) h = λ q. omega (arith, q)
not_end (Item ty ks ka kl va vl n) h = λ q. omega (arith, q)
not_end (End sum n) h = absurd (h sum n refl)
not_end (Clear k n) h = λ q. omega (arith, q)

pub not_clear : (e : Decoded) → ((k n : ℕ) → e ≢ Clear k n) → NotClear e
not_clear (Start c q n) h = λ q. omega (arith, q)
not_clear (Item ty ks ka kl va vl n) h = λ q. omega (arith, q)
not_clear (End sum n) h = λ q. omega (arith, q)
not_clear (Clear k n) h = absurd (h k n refl)
