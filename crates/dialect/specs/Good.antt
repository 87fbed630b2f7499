-- What a good dialect gives. Assumes nothing.
use Rattle.std.specs.Prelude.{ℕ, zero, suc, ◌-◌, ◌≤◌, ◌<◌, ◌≡◌, refl, ◌≢◌, Bool, true, false, not, ◌&&◌, List, [], ◌∷◌, length, get_or, drop, eqb, leb}
use Rattle.std.proofs.Common.{sym, ◌∙◌, arith, get_or-take, length-take-le, leb-true}
use Rattle.std.proofs.lemmas.Bool.{eqb-false}
use Rattle.dialect.specs.declared.Dialect.{Dialect}
use Rattle.dialect.specs.Dialect.{zeros, apart, good, trailer, SHIPPED, TEST}

-- both sides of a true `&&`
pub both : (a b : Bool) → a && b ≡ true → (a ≡ true) × (b ≡ true)
both true b h = (refl, h)
both false b h = let z : false ≡ true = h in (z, cc)

-- a list with a byte that is not 0 reaches so far
reaches : (s : List ℕ) (i : ℕ) → get_or s i 0 ≢ 0 → i < length s
reaches [] zero h = absurd (h refl)
reaches [] (suc i) h = absurd (h refl)
reaches (x ∷ s) zero h = omega arith
reaches (x ∷ s) (suc i) h = let z = reaches s i h in omega arith

is_false : (b : Bool) → not b ≡ true → b ≡ false
is_false true h = sym h
is_false false h = refl

pub record Good (d : Dialect) : Type 0 where
  pub some : 1 ≤ d.length
  pub most : d.length ≤ 8
  pub size : length (trailer d) ≡ d.length
  pub last : get_or (trailer d) (d.length - 1) 0 ≢ 0

pub is_good : (d : Dialect) → good d ≡ true → Good d
unfolding good trailer
is_good d h =
    let rest : Bool = zeros (drop d.length d.magic) && apart d.value d.tombstone d.weak d.indirection in
    let last : Bool = not (eqb (get_or d.magic (d.length - 1) 0) 0) in
    let p = both (leb 1 d.length) (leb d.length 8 && (last && rest)) h in
    let q = both (leb d.length 8) (last && rest) p.1 in
    let r = both last rest q.1 in
    let one : 1 ≤ d.length = leb-true _ _ p.0 in
    let used : get_or d.magic (d.length - 1) 0 ≢ 0 = eqb-false _ _ (is_false (eqb (get_or d.magic (d.length - 1) 0) 0) r.0) in
    let long : d.length - 1 < length d.magic = reaches d.magic (d.length - 1) used in
    record {
      some = one;
      most = leb-true _ _ q.0;
      size = length-take-le d.length d.magic (omega arith);
      last = λ z. used (sym (get_or-take d.length d.magic (d.length - 1) 0 (omega arith)) ∙ z);
    }

-- both named dialects are good
pub shipped_good : good SHIPPED ≡ true
unfolding good apart
shipped_good = refl

pub test_good : good TEST ≡ true
unfolding good apart
test_good = refl
