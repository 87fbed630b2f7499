use Rattle.std.proofs.Common.{◌≡◌, ℕ, zero, suc, ◌+◌, ◌*◌, ◌%◌, ◌^◌, ◌<◌, ◌≤◌, List, slice_index, refl, sym, ap, ◌∙◌, subst, add-one, arith, pow-add, rules}
use Rattle.std.proofs.Math.Nat.{pow-le-pow_right, pow-succ'}
use Rattle.std.proofs.lemmas.Nat.{shl_whole}
use lib.Arith.{digits_lt}
use Rattle.number.specs.Number.{le}
use Rattle.number.proofs.read.Goals as goal

places : (n : ℕ) → 2 ^ (8 * n) ≡ 256 ^ n
places zero = refl
places (suc n) =
    let e : 8 * suc n ≡ 8 + 8 * n = omega arith in
    ap (λ (k : ℕ). 2 ^ k) e ∙ pow-add 2 8 (8 * n) ∙ ap (λ (p : ℕ). 256 * p) (places n) ∙ sym (pow-succ' 256 n)

le_suc : (n : ℕ) (s : List ℕ) (i : ℕ) → le (n + 1) s i ≡ le n s i + slice_index s (i + n) * 256 ^ n
unfolding le
le_suc n s i = rw (add-one n)

-- a byte put above n bytes
placed : (n b : ℕ) → n < 8 → b < 256 → b * 2 ^ (8 * n) % 2 ^ 64 ≡ b * 256 ^ n
placed n b l m = shl_whole b 8 (8 * n) 64 m (omega arith) ∙ ap (λ (p : ℕ). b * p) (places n)

more_lt : (n v b : ℕ) → v < 256 ^ n → b < 256 → v + b * 256 ^ n < 256 ^ (n + 1)
more_lt n v b l m =
    let d : b * 256 ^ n + v < 256 * 256 ^ n = digits_lt m l in
    rw (add-one n, pow-succ' 256 n) (omega arith)

within : (n v : ℕ) → n ≤ 8 → v < 256 ^ n → v < 2 ^ 64
within n v l m =
    let p : 256 ^ n ≤ 256 ^ 8 = pow-le-pow_right (omega arith) l in
    omega arith

pub loop-n-init : goal.loop-n-init
unfolding le
loop-n-init g c = search rules

pub overflow_add-value-in-loop-n : goal.overflow_add-value-in-loop-n
overflow_add-value-in-loop-n g c =
    let l = c.loop-n in
    let b = slice_index c.args.s.now (c.args.i + l.n) in
    let f : slice_index c.args.s.now (c.args.i + l.n) < 256 = (c.type_inv.s (c.args.i + l.n)).fits in
    record {
      fits =
          rw (placed l.n b (omega arith) f)
          (within (l.n + 1) (l.value + b * 256 ^ l.n) (omega arith) (more_lt l.n l.value b l.invariant.1 f));
    }

pub loop-n-preserved : goal.loop-n-preserved
loop-n-preserved g c =
    let l = c.loop-n in
    let b = slice_index c.args.s.now (c.args.i + l.n) in
    let f : slice_index c.args.s.now (c.args.i + l.n) < 256 = (c.type_inv.s (c.args.i + l.n)).fits in
    rw (placed l.n b (omega arith) f)
    (ap (λ (v : ℕ). v + b * 256 ^ l.n) l.invariant.0 ∙ sym (le_suc l.n c.args.s.now c.args.i), more_lt l.n l.value b l.invariant.1 f)

pub returns : goal.returns
returns g c =
    let l = c.loop-n in
    let e : l.n ≡ g.row.N = omega arith in
    subst (λ (n : ℕ). (l.value ≡ le n c.args.s.now c.args.i) × (l.value < 256 ^ n)) e l.invariant
