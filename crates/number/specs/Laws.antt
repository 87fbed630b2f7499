-- Laws of numbers in bytes, over the width where it is any.
use Rattle.std.specs.Prelude.{◌≡◌, ℕ, zero, suc, ◌+◌, ◌*◌, ◌/◌, ◌%◌, ◌^◌, ◌<◌, ◌≤◌, List, [], ◌∷◌, length, take, drop, slice_index, refl}
use Rattle.std.proofs.Common.{ap, ◌∙◌, add-zero, add_assoc, zero-add, mul_left_comm, mul-add, length-drop, get_or-take, get_or-drop}
use native.Mathlib.Omega.{arith}
use Rattle.std.proofs.Math.Nat.{pow-succ'}
use Rattle.number.specs.Number.{le, bytes}

-- ---- written out

pub le2 : (s : List ℕ) (i : ℕ) → le 2 s i ≡ slice_index s i + slice_index s (i + 1) * 0x100
unfolding le
le2 s i = rw (add-zero i) (omega arith)

pub le4 : (s : List ℕ) (i : ℕ) → le 4 s i ≡ slice_index s i + slice_index s (i + 1) * 0x100 + slice_index s (i + 2) * 0x1_0000 + slice_index s (i + 3) * 0x100_0000
unfolding le
le4 s i = rw (add-zero i) (omega arith)

pub le8 : (s : List ℕ) (i : ℕ) → le 8 s i ≡ le 4 s i + le 4 s (i + 4) * 0x1_0000_0000
unfolding le
le8 s i = simp (add-zero, add_assoc) (omega arith)

-- ---- a number and its bytes

le_take : (m n : ℕ) (s : List ℕ) → n ≤ m → le n (take m s) 0 ≡ le n s 0
unfolding le
le_take m zero s h = refl
le_take m (suc n) s h = rw (le_take m n s (omega arith), zero-add n, get_or-take m s n 0 (omega arith))

le_drop : (n : ℕ) (s : List ℕ) (i : ℕ) → le n (drop i s) 0 ≡ le n s i
unfolding le
le_drop zero s i = refl
le_drop (suc n) s i = rw (le_drop n s i, zero-add n, get_or-drop i s n 0)

-- the number at i is that of the n bytes that stand at i
pub le_part : (n : ℕ) (s : List ℕ) (i : ℕ) → le n (take n (drop i s)) 0 ≡ le n s i
le_part n s i = le_take n n (drop i s) (omega arith) ∙ le_drop n s i

-- the lowest byte comes first
pub le_cons : (n b : ℕ) (s : List ℕ) → le (suc n) (b ∷ s) 0 ≡ b + 256 * le n s 0
unfolding le
le_cons zero b s = omega arith
le_cons (suc n) b s = rw (le_cons n b s, zero-add (suc n), zero-add n, pow-succ' 256 n) (go (slice_index s n) (256 ^ n) (le n s 0))
  where
    go : (g p x : ℕ) → b + 256 * x + g * (256 * p) ≡ b + 256 * (x + g * p)
    go g p x = rw (mul-add 256 x (g * p), mul_left_comm g 256 p) (omega arith)

pub length_bytes : (n x : ℕ) → length (bytes n x) ≡ n
unfolding bytes
length_bytes zero x = refl
length_bytes (suc n) x = ap suc (length_bytes n (x / 256))

-- a number that fits is read back from its bytes
pub le_bytes : (n x : ℕ) → x < 256 ^ n → le n (bytes n x) 0 ≡ x
unfolding bytes
le_bytes zero x h = unfold le in omega arith
le_bytes (suc n) x h = rw (le_cons n (x % 256) (bytes n (x / 256)), le_bytes n (x / 256) (omega arith)) (omega arith)

-- every element is a byte
abbrev pub Octets : List ℕ → Type 0
Octets s = (j : ℕ) → slice_index s j < 256

front_bytes : (n : ℕ) (s : List ℕ) → Octets s → n ≤ length s → bytes n (le n s 0) ≡ take n s
unfolding bytes
front_bytes zero s o h = refl
front_bytes (suc n) [] o h = absurd (omega arith)
front_bytes (suc n) (b ∷ s) o h =
    let l : b < 256 = o 0 in
    let x = le n s 0 in
    let m : (b + 256 * x) % 256 ≡ b = omega arith in
    let q : (b + 256 * x) / 256 ≡ x = omega arith in
    rw (le_cons n b s, m, q) (ap (λ (t : List ℕ). b ∷ t) (front_bytes n s (λ j. o (suc j)) (omega arith)))

-- bytes are those of the number that is read from them
pub bytes_le : (n : ℕ) (s : List ℕ) (i : ℕ) → Octets s → i + n ≤ length s → bytes n (le n s i) ≡ take n (drop i s)
bytes_le n s i o h = rw (← (le_drop n s i)) (front_bytes n (drop i s) (λ j. rw (get_or-drop i s j 0) (o (i + j))) (simp length-drop (omega arith)))
