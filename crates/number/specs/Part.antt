-- Bytes put into a lent part: what is then in the whole. A callee speaks of the tail `&mut xs[a..]` alone.
use Rattle.std.specs.Prelude.{◌≡◌, ℕ, ◌+◌, ◌-◌, ◌≤◌, List, [], ◌++◌, length, take, drop, refl}
use Rattle.std.proofs.Common.{sym, ap, ◌∙◌, append_assoc, append-nil, arith, length-append, length-drop, length-take, drop_of_length-le, take_all, take_at, drop_at, drop-drop, length-take-le, take-add}
use borrow.Rule.Slice.PartMut.{mid_of, put_mid}

-- w over the front of xs
abbrev pub front : List ℕ → List ℕ → List ℕ
front w xs = w ++ drop (length w) xs

-- w over xs from the place a on
abbrev pub over : ℕ → List ℕ → List ℕ → List ℕ
over a w xs = take a xs ++ front w (drop a xs)

-- ---- laws of `over`

-- the buffer stays as long as it was
pub length_over : (a : ℕ) (w xs : List ℕ) → a + length w ≤ length xs → length (over a w xs) ≡ length xs
length_over a w xs h = simp (length-append, length-drop, length-take) (omega arith)

-- up to the end of w stands what stood before a, and w
pub take_over : (a : ℕ) (w xs : List ℕ) → a ≤ length xs → take (a + length w) (over a w xs) ≡ take a xs ++ w
take_over a w xs h =
    ap (take (a + length w)) (sym (append_assoc (take a xs) w (drop (length w) (drop a xs))))
    ∙ take_at (take a xs ++ w) (drop (length w) (drop a xs)) (a + length w) (rw (length-append, length-take-le a xs h))

-- putting v behind w is putting both
pub over_front : (n : ℕ) (w v xs : List ℕ) → length w ≡ n → over n v (front w xs) ≡ front (w ++ v) xs
over_front n w v xs h = rw (take_at w (drop (length w) xs) n h, drop_at w (drop (length w) xs) n h, drop-drop, length-append, append_assoc)

-- what stands between two places, where the front is known up to the second
pub between : (from to : ℕ) (xs u v : List ℕ) → from ≤ to → to ≤ length xs → take to xs ≡ u ++ v → length u ≡ from → take (to - from) (drop from xs) ≡ v
between from to xs u v h k e l =
    let n : to ≡ from + (to - from) = omega arith in
    let p : take from xs ++ take (to - from) (drop from xs) ≡ u ++ v = sym (ap (λ (j : ℕ). take j xs) n ∙ take-add from (to - from) xs) ∙ e in
    let q : length (take from xs) ≡ from = length-take-le from xs (omega arith) in
    sym (drop_at (take from xs) (take (to - from) (drop from xs)) from q) ∙ ap (drop from) p ∙ drop_at u v from l

-- what stands behind w, where w and v stand at the front
pub body_of : (n : ℕ) (w v xs zs : List ℕ) → length w ≡ n → zs ≡ front (w ++ v) xs → take (length v) (drop n zs) ≡ v
body_of n w v xs zs h e =
    rw (e, append_assoc, drop_at w (v ++ drop (length (w ++ v)) xs) n h, take_at v (drop (length (w ++ v)) xs) (length v) refl)

-- the same bytes under another name
pub read_as : (w v xs zs : List ℕ) → w ≡ v → zs ≡ front w xs → zs ≡ front v xs
read_as w v xs zs e h = h ∙ ap (λ (l : List ℕ). front l xs) e

-- ---- a tail lent and given back

-- xs with ys in the place of its tail from a on, as the borrow checker has it once the part is back
abbrev pub tailed : ℕ → List ℕ → List ℕ → List ℕ
tailed a xs ys = put_mid a (length xs - a) xs ys

-- the tail that is lent
pub tail_mid : (a : ℕ) (xs : List ℕ) → mid_of a (length xs - a) xs ≡ drop a xs
tail_mid a xs = take_all (length xs - a) (drop a xs) (simp length-drop (omega arith))

-- a tail of n bytes or more
pub tail_room : (a n : ℕ) (xs : List ℕ) → n + a ≤ length xs → n ≤ length (mid_of a (length xs - a) xs)
tail_room a n xs h = rw tail_mid (simp length-drop (omega arith))

-- a tail that comes back as ys
pub tail_back : (a : ℕ) (xs ys : List ℕ) → tailed a xs ys ≡ take a xs ++ ys
tail_back a xs ys =
    let none : drop (length xs - a) (drop a xs) ≡ [] = drop_of_length-le (drop a xs) {i = length xs - a} (simp length-drop (omega arith)) in
    ap (λ (l : List ℕ). take a xs ++ (ys ++ l)) none ∙ ap (λ (l : List ℕ). take a xs ++ l) (append-nil ys)

-- a tail that comes back with w over its front
pub tail_put : (a : ℕ) (w xs ys : List ℕ) → ys ≡ front w (mid_of a (length xs - a) xs) → tailed a xs ys ≡ over a w xs
tail_put a w xs ys e = tail_back a xs ys ∙ ap (λ (l : List ℕ). take a xs ++ l) (e ∙ ap (front w) (tail_mid a xs))

-- w stands at the front, and the tail behind it comes back with v over its front
pub then_put : (n : ℕ) (w v xs zs ys : List ℕ) → length w ≡ n → zs ≡ front w xs → ys ≡ front v (mid_of n (length zs - n) zs) → tailed n zs ys ≡ front (w ++ v) xs
then_put n w v xs zs ys h e f = tail_put n v zs ys f ∙ ap (over n v) e ∙ over_front n w v xs h

-- a part of just n bytes, filled by the n bytes of w
pub filled : (n : ℕ) (w xs zs : List ℕ) → length w ≡ n → length xs ≡ n → zs ≡ front w xs → zs ≡ w
filled n w xs zs h k e =
    let none : drop (length w) xs ≡ [] = drop_of_length-le xs {i = length w} (omega arith) in
    e ∙ ap (λ (l : List ℕ). w ++ l) none ∙ append-nil w
