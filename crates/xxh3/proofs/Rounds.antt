-- Four rounds, each with its own test, are those that an input of at most 128 bytes has.
use Prim.Native.Nat.{ℕ, suc, ◌+◌, ◌-◌, ◌*◌, ◌/◌, ◌^◌, ◌≤◌, ◌<◌}
use mathlib.Core.Path.{◌≡◌, refl, sym, ap, ◌∙◌}
use mathlib.Core.List.{List}
use native.Mathlib.Decide.{dec_le}
use native.Mathlib.Omega.{arith}
use lib.ListN.{length}
use borrow.Author.Tests.{le-leb, lt-leb}
use Rattle.number.specs.Number.{plus}
use Rattle.xxh3.specs.Xxh3.{mix_step, rounds17to128, num_rounds}
use Rattle.xxh3.specs.Rounds.{round_if}

module _ (k s : List ℕ) where
  has : (i acc : ℕ) → i * 32 < length s → round_if k s i acc ≡ plus (plus acc (mix_step k s (i * 16) (i * 32))) (mix_step k s (length s - i * 16 - 16) (i * 32 + 16))
  unfolding round_if
  has i acc l = rw (lt-leb (length s) (i * 32) l)

  lacks : (i acc : ℕ) → length s ≤ i * 32 → round_if k s i acc ≡ acc
  unfolding round_if
  lacks i acc l = rw (le-leb (length s) (i * 32) l)

  -- a round more
  step : (i acc : ℕ) → i * 32 < length s → rounds17to128 k s (suc i) acc ≡ rounds17to128 k s i (round_if k s i acc)
  unfolding rounds17to128
  step i acc l = ap (rounds17to128 k s i) (sym (has i acc l))

  none : (acc : ℕ) → rounds17to128 k s 0 acc ≡ acc
  unfolding rounds17to128
  none acc = refl

  -- the rounds from i down, of which an input of at most (i + 1) * 32 bytes has as many as it needs
  upto : (i acc : ℕ) → length s ≤ i * 32 + 32 → i * 32 < length s → rounds17to128 k s (num_rounds s) acc ≡ rounds17to128 k s i (round_if k s i acc)
  upto i acc l m =
      let e : (length s - 1) / 2 ^ 5 + 1 ≡ suc i = omega arith in
      ap (λ (n : ℕ). rounds17to128 k s n acc) e ∙ step i acc m

  pub four_rounds : (acc : ℕ) → 0 < length s → length s ≤ 128 → rounds17to128 k s (num_rounds s) acc ≡ round_if k s 0 (round_if k s 1 (round_if k s 2 (round_if k s 3 acc)))
  four_rounds acc z l = go (dec_le (length s) 32) (dec_le (length s) 64) (dec_le (length s) 96)
    where
      ends : (b : ℕ) → rounds17to128 k s 0 (round_if k s 0 b) ≡ round_if k s 0 b
      ends b = none (round_if k s 0 b)

      go : Dec (length s ≤ 32) → Dec (length s ≤ 64) → Dec (length s ≤ 96) → rounds17to128 k s (num_rounds s) acc ≡ round_if k s 0 (round_if k s 1 (round_if k s 2 (round_if k s 3 acc)))
      go (yes p) q r =
          upto 0 acc (omega arith) (omega arith) ∙ ends acc
          ∙ ap (round_if k s 0) (sym (ap (round_if k s 1) (ap (round_if k s 2) (lacks 3 acc (omega arith)) ∙ lacks 2 acc (omega arith)) ∙ lacks 1 acc (omega arith)))
      go (no f) (yes q) r =
          upto 1 acc (omega arith) (omega arith) ∙ step 0 (round_if k s 1 acc) (omega arith) ∙ ends (round_if k s 1 acc)
          ∙ ap (λ (b : ℕ). round_if k s 0 (round_if k s 1 b)) (sym (ap (round_if k s 2) (lacks 3 acc (omega arith)) ∙ lacks 2 acc (omega arith)))
      go (no f) (no g) (yes r) =
          let b : ℕ = round_if k s 2 acc in
          upto 2 acc (omega arith) (omega arith) ∙ step 1 b (omega arith) ∙ step 0 (round_if k s 1 b) (omega arith) ∙ ends (round_if k s 1 b)
          ∙ ap (λ (x : ℕ). round_if k s 0 (round_if k s 1 (round_if k s 2 x))) (sym (lacks 3 acc (omega arith)))
      go (no f) (no g) (no h) =
          let b : ℕ = round_if k s 3 acc in
          upto 3 acc (omega arith) (omega arith) ∙ step 2 b (omega arith) ∙ step 1 (round_if k s 2 b) (omega arith) ∙ step 0 (round_if k s 1 (round_if k s 2 b)) (omega arith)
          ∙ ends (round_if k s 1 (round_if k s 2 b))
