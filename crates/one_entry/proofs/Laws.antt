-- A batch of one entry, as its parts are written one behind another. Assumes nothing.
use Prim.Native.Nat.{ℕ, ◌+◌, ◌-◌, ◌≤◌}
use mathlib.Core.Path.{◌≡◌, sym, ap, ◌∙◌}
use mathlib.Core.Bool.{true}
use mathlib.Core.List.{List, [], ◌∷◌, ◌++◌, append_assoc}
use native.Mathlib.Omega.{arith}
use lib.ListN.{length, take, drop, length-append, length-drop, take-append-drop}
use lib.Seq.{length-take-le}
use borrow.Rule.Slice.PartMut.{mid_of}
use Rattle.number.specs.Part.{front, tailed, then_put, body_of}
use Rattle.xxh3.specs.Xxh3.{xxh3_64}
use Rattle.dialect.specs.declared.Dialect.{Dialect}
use Rattle.dialect.specs.Dialect.{good}
use Rattle.dialect.specs.Good.{is_good}
use Rattle.entry.specs.Entry.{Put, start, body, end, put, put_all, hashed, put_batch}
use Rattle.entry.specs.Sizes.{start_size, batch_parts, one_size}
use Rattle.writer.specs.Writing.{hashed_from}
use Rattle.writer.specs.Laws.{hashed_stands}

-- under a good dialect
pub batch_length : (d : Dialect) (seqno : ℕ) (p : Put) → good d ≡ true → length (put_batch d xxh3_64 seqno (p ∷ [])) ≡ 22 + d.length + length (put d (body p) [])
batch_length d seqno p g = omega (arith, one_size d xxh3_64 seqno p, (is_good d g).size)

-- what stands from k on, up to the end of w, where w stands at the front
rest_of : (k : ℕ) (w xs zs : List ℕ) → k ≤ length w → zs ≡ front w xs → take (length w - k) (drop k zs) ≡ drop k w
rest_of k w xs zs h e =
    ap (λ (n : ℕ). take n (drop k zs)) (sym (length-drop k w))
    ∙ body_of k (take k w) (drop k w) xs zs (length-take-le k w h) (e ∙ ap (λ (l : List ℕ). front l xs) (sym (take-append-drop k w)))

-- a: behind the Start. b: the tail behind the entry was put there. c: the tail behind the End was put there. `to`: where the End begins
pub batch_filled : (d : Dialect) (seqno : ℕ) (p : Put) (to sum : ℕ) (xs a b c : List ℕ)
    → 13 + length (put d (body p) []) ≡ to
    → a ≡ front (put d (start 1 seqno) []) xs
    → b ≡ front (put d (body p) []) (mid_of 13 (length a - 13) a)
    → sum ≡ xxh3_64 (take (to - hashed_from) (drop hashed_from (tailed 13 a b)))
    → c ≡ front (put d (end sum) []) (mid_of to (length (tailed 13 a b) - to) (tailed 13 a b))
    → tailed to (tailed 13 a b) c ≡ front (put_batch d xxh3_64 seqno (p ∷ [])) xs
unfolding put_all
batch_filled d seqno p to sum xs a b c l ha hb hs hc =
    let S = put d (start 1 seqno) [] in
    let B = put d (body p) [] in
    let zs = tailed 13 a b in
    let k : length S ≡ 13 = start_size d 1 seqno in
    let q : length (S ++ B) ≡ to = length-append S B ∙ omega arith in
    let z : zs ≡ front (S ++ B) xs = then_put 13 S B xs a b k ha hb in
    let h : take (to - hashed_from) (drop hashed_from zs) ≡ hashed d 1 seqno (p ∷ []) =
    ap (λ (n : ℕ). take (n - hashed_from) (drop hashed_from zs)) (sym q) ∙ rest_of hashed_from (S ++ B) xs zs (omega arith) z ∙ hashed_stands d 1 seqno (p ∷ []) in
    let e : sum ≡ xxh3_64 (hashed d 1 seqno (p ∷ [])) = hs ∙ ap xxh3_64 h in
    let E = put d (end (xxh3_64 (hashed d 1 seqno (p ∷ [])))) [] in
    then_put to (S ++ B) (put d (end sum) []) xs zs c q z hc
    ∙ ap (λ (n : ℕ). front ((S ++ B) ++ put d (end n) []) xs) e
    ∙ ap (λ (l : List ℕ). front l xs) (append_assoc S B E ∙ sym (batch_parts d xxh3_64 seqno (p ∷ [])))
