-- What stripes read: two lists that agree on the bytes in question give the same.
use Rattle.std.specs.Prelude.{◌≡◌, refl, List, ℕ, zero, suc, ◌+◌, ◌*◌, ◌%◌, ◌^◌, ◌<◌, ◌≤◌, get_or}
use Rattle.std.proofs.Common.{sym, ap, ◌∙◌, add_assoc, lt-suc_self, arith}
use Rattle.number.specs.Number.{le}
use Rattle.xxh3.specs.Xxh3.{accumulate}
use Rattle.xxh3.specs.Stripes.{stripes, block_end, no_stripes, suc_stripes}

pub le_same : (n : ℕ) (s t : List ℕ) (i j : ℕ) → ((x : ℕ) → x < n → get_or s (i + x) 0 ≡ get_or t (j + x) 0) → le n s i ≡ le n t j
unfolding le
le_same zero s t i j h = refl
le_same (suc n) s t i j h = λ q. le_same n s t i j (λ x l. h x (omega arith)) q + h n (lt-suc_self n) q * 256 ^ n

module _ (k s t : List ℕ) (i j : ℕ) (h : (x : ℕ) → x < 64 → get_or s (i + x) 0 ≡ get_or t (j + x) 0) where
  word : (c : ℕ) → c + 8 ≤ 64 → le 8 s (i + c) ≡ le 8 t (j + c)
  word c l = le_same 8 s t (i + c) (j + c) (λ x m. ap (λ (n : ℕ). get_or s n 0) (add_assoc i c x) ∙ h (c + x) (omega arith) ∙ ap (λ (n : ℕ). get_or t n 0) (sym (add_assoc j c x)))

  pub accumulate_same : (o : ℕ) (a : List ℕ) → accumulate k s i o a ≡ accumulate k t j o a
  unfolding accumulate
  accumulate_same o a =
      let w₀ = word 0 (omega arith) in
      let w₁ = word 8 (omega arith) in
      let w₂ = word 16 (omega arith) in
      let w₃ = word 24 (omega arith) in
      let w₄ = word 32 (omega arith) in
      let w₅ = word 40 (omega arith) in
      let w₆ = word 48 (omega arith) in
      let w₇ = word 56 (omega arith) in
      rw (w₀, w₁, w₂, w₃, w₄, w₅, w₆, w₇)

pub stripes_same : (k s t : List ℕ) (m i j c : ℕ) (a : List ℕ) → ((x : ℕ) → x < m * 64 → get_or s (i + x) 0 ≡ get_or t (j + x) 0) → stripes k s m i c a ≡ stripes k t m j c a
stripes_same k s t zero i j c a h = no_stripes k s i c a ∙ sym (no_stripes k t j c a)
stripes_same k s t (suc m) i j c a h =
    suc_stripes k s m i c a ∙ ap (λ (b : List ℕ). stripes k s m (i + 64) (c + 1) (block_end k c b)) (accumulate_same k s t i j (λ x l. h x (omega arith)) (c % 16 * 8) a)
    ∙ stripes_same k s t m (i + 64) (j + 64) (c + 1) (block_end k c (accumulate k t j (c % 16 * 8) a)) (λ x l. ap (λ (n : ℕ). get_or s n 0) (add_assoc i 64 x) ∙ h (64 + x) (omega arith) ∙ ap (λ (n : ℕ). get_or t n 0) (sym (add_assoc j 64 x)))
    ∙ sym (suc_stripes k t m j c a)
