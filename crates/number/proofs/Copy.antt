-- A loop that copies s over the front of d, byte by byte: after one turn more, and at the end. Assumes nothing.
use Rattle.std.proofs.Common.{◌≡◌, ℕ, suc, ◌+◌, ◌<◌, ◌≤◌, List, ◌++◌, length, get_or, take, drop, set, ap, ◌∙◌, append_assoc, le_antisymm, add-one, arith, length-take-le, drop-cons, take-suc}
use lib.Seq.{set_at, take-length}
use Rattle.number.specs.Part.{front}

pub copy_more : (i : ℕ) (s d e : List ℕ) → e ≡ take i s ++ drop i d → i < length s → length s ≤ length d → set e i (get_or s i 0) ≡ take (i + 1) s ++ drop (i + 1) d
copy_more i s d e h p q =
    let r : i < length d = omega arith in
    let l : length (take i s) ≡ i = length-take-le i s (omega arith) in
    rw (add-one, h, drop-cons d i 0 r, set_at (take i s) (get_or d i 0) (drop (suc i) d) (get_or s i 0) i l, take-suc s i 0 p, append_assoc)

pub copy_done : (i : ℕ) (s d e : List ℕ) → e ≡ take i s ++ drop i d → i ≤ length s → length s ≤ i → e ≡ front s d
copy_done i s d e h p q =
    let k : i ≡ length s = le_antisymm p q in
    h ∙ ap (λ (n : ℕ). take n s ++ drop n d) k ∙ ap (λ (l : List ℕ). l ++ drop (length s) d) (take-length s)
