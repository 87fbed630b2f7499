-- Numbers and bytes as text in ASCII.
use Rattle.std.specs.Prelude.{ℕ, zero, suc, ◌+◌, ◌/◌, ◌%◌, cond, List, [], ◌∷◌, ◌++◌, ltb}
use Prim.Native.Char.{code}
use Prim.Native.String.{String, [] as none, ◌∷◌ as ◌before◌}

-- the codes of a text's characters
abbrev pub ascii : String → List ℕ
ascii none = []
ascii (c before s) = code c ∷ ascii s

-- 0 to 9, and for the next six a to f
unfoldable pub digit_of : ℕ → ℕ
digit_of x = cond (ltb x 10) (48 + x) (87 + x)

-- the digits of n, the highest first, none for 0; the last k of them if there are more
unfoldable pub digits : ℕ → ℕ → List ℕ
digits zero n = []
digits (suc k) zero = []
digits (suc k) (suc n) = digits k (suc n / 10) ++ (digit_of (suc n % 10) ∷ [])

-- a number below 10 ^ 20, as each of 64 bits is, with no zero in front
unfoldable pub decimal : ℕ → List ℕ
decimal n = digits 19 (n / 10) ++ (digit_of (n % 10) ∷ [])

-- two digits to a byte, the higher first, in lower case
unfoldable pub hexadecimal : List ℕ → List ℕ
hexadecimal [] = []
hexadecimal (b ∷ bs) = digit_of (b / 16) ∷ digit_of (b % 16) ∷ hexadecimal bs

-- none as `-`
unfoldable pub or_dash : List ℕ → List ℕ
or_dash [] = ascii "-"
or_dash (b ∷ bs) = hexadecimal (b ∷ bs)
