-- Whole blocks of a piece, taken in straight from it, and a piece that the hold has room for. Assumes nothing.
use mathlib.Core.Path.{◌≡◌, refl, sym, ap, ◌∙◌}
use mathlib.Core.List.{List, [], ◌∷◌, ◌++◌, append-nil}
use Prim.Native.Nat.{ℕ, zero, suc, ◌+◌, ◌-◌, ◌*◌, ◌/◌, ◌%◌, ◌<◌, ◌≤◌}
use native.Mathlib.Nat.{add-zero}
use native.Mathlib.Omega.{arith}
use lib.ListN.{length, get_or, take, drop, take-append-drop, length-drop, drop_of_length-le}
use lib.Seq.{sets, sets-eq, length-take-le, take-length, take-add, get_or-take, get_or-drop}
use borrow.Author.Tests.{eq-eqb, ne_eqb}
use Rattle.xxh3.specs.Stripes.{stripes, no_stripes, stripes_split}
use Rattle.stream.specs.declared.Hasher.{Hasher}
use Rattle.stream.specs.Stream.{state, consumed, absorbs}
use Rattle.stream.specs.Same.{stripes_same}
use Rattle.stream.specs.Laws.{absorbs_none, absorbs_append}
use Rattle.stream.proofs.Chunks.{chunk_law, tail}

-- a list of the same length over all of another
sets_all : (h b : List ℕ) → length h ≡ length b → sets h 0 b ≡ b
sets_all h b e =
    let l : length h ≤ 0 + length b = omega arith in
    sets-eq b h 0 (omega arith) ∙ ap (λ (x : List ℕ). b ++ x) (drop_of_length-le h {i = 0 + length b} l) ∙ append-nil b

consumed_full : (k a h : List ℕ) (n : ℕ) → n % 256 ≡ 0 → 0 < n → consumed k a h n ≡ stripes k h 4 0 (n / 64 - 4) a
unfolding consumed
consumed_full k a h n z l = rw (eq-eqb (n % 256) 0 z, ne_eqb n 0 (λ e. omega arith))

-- a block alone
block : (k a h b : List ℕ) (n : ℕ) → n % 256 ≡ 0 → length h ≡ 256 → length b ≡ 256 → absorbs k (state a h n) b ≡ state (consumed k a h n) b (n + 256)
block k a h b n z eh eb =
    let e : sets h (n % 256) b ≡ b = ap (λ (i : ℕ). sets h i b) z ∙ sets_all h b (omega arith) in
    sym (chunk_law k a h n b (omega arith) (omega arith)) ∙ (λ i. state (consumed k a h n) (e i) (n + eb i))

module _ (k p a h : List ℕ) (n : ℕ) (z : n % 256 ≡ 0) (wide : length h ≡ 256) where
  -- the accumulators with what was held and q blocks of p taken in
  after : ℕ → List ℕ
  after q = stripes k p (q * 4) 0 (n / 64) (consumed k a h n)

  -- the block q of p
  part : ℕ → List ℕ
  part q = take 256 (drop (q * 256) p)

  part_long : (q : ℕ) → suc q * 256 ≤ length p → length (part q) ≡ 256
  unfolding part
  part_long q l =
      let d : length (drop (q * 256) p) ≡ length p - q * 256 = length-drop (q * 256) p in
      length-take-le 256 (drop (q * 256) p) (omega arith)

  -- with the block q in the hold, the next byte takes it into the accumulators
  next : (q : ℕ) → consumed k (after q) (part q) (n + suc q * 256) ≡ after (suc q)
  unfolding part after
  next q =
      let f : (n + suc q * 256) % 256 ≡ 0 = omega arith in
      let t : (n + suc q * 256) / 64 - 4 ≡ n / 64 + q * 4 = omega arith in
      let m : suc q * 4 ≡ q * 4 + 4 = omega arith in
      let b : List ℕ = stripes k p (q * 4) 0 (n / 64) (consumed k a h n) in
      consumed_full k b (take 256 (drop (q * 256) p)) (n + suc q * 256) f (omega arith)
      ∙ ap (λ (j : ℕ). stripes k (take 256 (drop (q * 256) p)) 4 0 j b) t
      ∙ stripes_same k (take 256 (drop (q * 256) p)) p 4 0 (0 + q * 4 * 64) (n / 64 + q * 4) b
      (λ x l. get_or-take 256 (drop (q * 256) p) (0 + x) 0 (omega arith) ∙ get_or-drop (q * 256) p (0 + x) 0 ∙ ap (λ (j : ℕ). get_or p j 0) (omega arith))
      ∙ sym (stripes_split k p (q * 4) 4 0 (n / 64) (consumed k a h n)) ∙ ap (λ (j : ℕ). stripes k p j 0 (n / 64) (consumed k a h n)) (sym m)

  first : absorbs k (state a h n) (take 256 p) ≡ state (consumed k a h n) (take 256 p) (n + 256) → absorbs k (state a h n) (take (1 * 256) p) ≡ state (after 0) (part 0) (n + 1 * 256)
  unfolding part after
  first e = e ∙ ap (λ (x : List ℕ). state x (take 256 p) (n + 256)) (sym (no_stripes k p 0 (n / 64) (consumed k a h n)))

  cut : (q : ℕ) → take (suc (suc q) * 256) p ≡ take (suc q * 256) p ++ part (suc q)
  unfolding part
  cut q =
      let e : suc (suc q) * 256 ≡ suc q * 256 + 256 = omega arith in
      ap (λ (m : ℕ). take m p) e ∙ take-add (suc q * 256) 256 p

  blocks : (q : ℕ) → suc q * 256 ≤ length p → absorbs k (state a h n) (take (suc q * 256) p) ≡ state (after q) (part q) (n + suc q * 256)
  blocks zero l = first (block k a h (take 256 p) n z wide (length-take-le 256 p (omega arith)))
  blocks (suc q) l =
      let t : n + suc q * 256 + 256 ≡ n + suc (suc q) * 256 = omega arith in
      ap (absorbs k (state a h n)) (cut q) ∙ absorbs_append k (state a h n) (take (suc q * 256) p) (part (suc q))
      ∙ ap (λ (g : Hasher). absorbs k g (part (suc q))) (blocks q (omega arith))
      ∙ block k (after q) (part q) (part (suc q)) (n + suc q * 256) (omega arith) (part_long q (omega arith)) (part_long (suc q) l)
      ∙ (λ i. state (next q i) (part (suc q)) (t i))

  -- q + 1 blocks, and a rest of 1 to 256 bytes over the last of them
  run : (q : ℕ) → suc q * 256 < length p → length p ≤ suc q * 256 + 256 → absorbs k (state a h n) p ≡ state (after (suc q)) (sets (part q) 0 (drop (suc q * 256) p)) (n + length p)
  run q l m =
      let r : List ℕ = drop (suc q * 256) p in
      let d : length (drop (suc q * 256) p) ≡ length p - suc q * 256 = length-drop (suc q * 256) p in
      let f : (n + suc q * 256) % 256 ≡ 0 = omega arith in
      let t : n + suc q * 256 + length (drop (suc q * 256) p) ≡ n + length p = omega arith in
      ap (absorbs k (state a h n)) (sym (take-append-drop (suc q * 256) p)) ∙ absorbs_append k (state a h n) (take (suc q * 256) p) r
      ∙ ap (λ (g : Hasher). absorbs k g r) (blocks q (omega arith))
      ∙ sym (chunk_law k (after q) (part q) (n + suc q * 256) r (omega arith) (omega arith))
      ∙ (λ i. state (next q i) (sets (part q) (f i) r) (t i))

  -- the same by its parts
  pub run_parts : (e : ℕ) (a₁ a₂ h₁ h₂ : List ℕ) → e ≡ (length p - 1) / 256 * 256 → 0 < e → a₁ ≡ consumed k a h n → a₂ ≡ stripes k p (e / 64) 0 (n / 64) a₁ → h₁ ≡ sets h 0 (take (e - (e - 256)) (drop (e - 256) p)) → h₂ ≡ sets h₁ 0 (take (length p - e) (drop e p))
      → state a₂ h₂ (n + length p) ≡ absorbs k (state a h n) p
  unfolding part after
  run_parts e a₁ a₂ h₁ h₂ ee l ea₁ ea₂ eh₁ eh₂ =
      let q : ℕ = e / 256 - 1 in
      let eq : e ≡ suc (e / 256 - 1) * 256 = omega arith in
      let es : e / 64 ≡ suc (e / 256 - 1) * 4 = omega arith in
      let ef : e - 256 ≡ (e / 256 - 1) * 256 = omega arith in
      let et : e - (e - 256) ≡ 256 = omega arith in
      let d : length (drop e p) ≡ length p - e = length-drop e p in
      let b : List ℕ = take 256 (drop ((e / 256 - 1) * 256) p) in
      let w : length (take 256 (drop ((e / 256 - 1) * 256) p)) ≡ 256 = part_long q (omega arith) in
      let acc : a₂ ≡ stripes k p (suc q * 4) 0 (n / 64) (consumed k a h n) = ea₂ ∙ (λ i. stripes k p (es i) 0 (n / 64) (ea₁ i)) in
      let kept : h₁ ≡ b = eh₁ ∙ (λ i. sets h 0 (take (et i) (drop (ef i) p))) ∙ sets_all h b (omega arith) in
      let rest : take (length p - e) (drop e p) ≡ drop (suc q * 256) p = ap (λ (m : ℕ). take m (drop e p)) (sym d) ∙ take-length (drop e p) ∙ ap (λ (m : ℕ). drop m p) eq in
      let hold : h₂ ≡ sets b 0 (drop (suc q * 256) p) = eh₂ ∙ (λ i. sets (kept i) 0 (rest i)) in
      (λ i. state (acc i) (hold i) (n + length p)) ∙ sym (run q (omega arith) (omega arith))

-- a piece of at most 256 bytes from the first place on
pub only : (k p a h : List ℕ) (n : ℕ) (a₁ h₁ : List ℕ) → n % 256 ≡ 0 → 0 < length p → length p ≤ 256 → a₁ ≡ consumed k a h n → h₁ ≡ sets h 0 p → state a₁ h₁ (n + length p) ≡ absorbs k (state a h n) p
only k p a h n a₁ h₁ z l m ea eh = (λ i. state (ea i) ((eh ∙ ap (λ (j : ℕ). sets h j p) (sym z)) i) (n + length p)) ∙ chunk_law k a h n p l (omega arith)

-- a piece that the hold has room for
pub fits : (k p a h : List ℕ) (n : ℕ) → length p ≤ (256 - n % 256) % 256 → state a (sets h (n % 256) p) (n + length p) ≡ absorbs k (state a h n) p
fits k [] a h n l = ap (state a h) (add-zero n) ∙ sym (absorbs_none k (state a h n))
fits k (b ∷ p) a h n l =
    let f : 0 < n % 256 = omega arith in
    sym (tail k (b ∷ p) a h n (n % 256) f (omega arith) (λ q. refl))

-- a piece that it has none for: what fills it, and then the rest
pub over : (k p a h : List ℕ) (n m : ℕ) (a₁ h₁ h₂ : List ℕ) → m ≡ (256 - n % 256) % 256 → m < length p → h₁ ≡ sets h (n % 256) (take m p) → state a₁ h₂ (n + m + length (take (length p - m) (drop m p))) ≡ absorbs k (state a h₁ (n + m)) (take (length p - m) (drop m p))
    → state a₁ h₂ (n + length p) ≡ absorbs k (state a h n) p
over k p a h n m a₁ h₁ h₂ em l eh r =
    let d : length (drop m p) ≡ length p - m = length-drop m p in
    let t : length (take m p) ≡ m = length-take-le m p (omega arith) in
    let y : take (length p - m) (drop m p) ≡ drop m p = ap (λ (j : ℕ). take j (drop m p)) (sym d) ∙ take-length (drop m p) in
    let o : length (take (length p - m) (drop m p)) ≡ length p - m = ap length y ∙ d in
    let v : n + length p ≡ n + m + length (take (length p - m) (drop m p)) = omega arith in
    let u : n + m ≡ n + length (take m p) = omega arith in
    ap (state a₁ h₂) v ∙ r
    ∙ (λ i. absorbs k (state a (eh i) (u i)) (y i))
    ∙ ap (λ (g : Hasher). absorbs k g (drop m p)) (fits k (take m p) a h n (omega arith))
    ∙ sym (absorbs_append k (state a h n) (take m p) (drop m p)) ∙ ap (absorbs k (state a h n)) (take-append-drop m p)
