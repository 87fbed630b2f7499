-- What the codes of a dialect say of types. Assumes nothing.
use Rattle.std.specs.Prelude.{ℕ, ◌-◌, not, get_or, drop, leb, ◌≡◌, Bool, true, false, ◌||◌, cond, eqb, refl, Some, None, is_some}
use Rattle.std.proofs.Common.{arith}
use Rattle.dialect.specs.declared.Dialect.{Dialect}
use Rattle.dialect.specs.declared.ValueType.{ValueType}
use Rattle.dialect.specs.declared.ValueType.TheVariants.{Value, Tombstone, WeakTombstone, Indirection}
use Rattle.dialect.specs.Good.{both}
use Rattle.dialect.specs.Dialect.{good, zeros, apart, code_of, type_of_code}

-- a code has a type if it is one of the four
pub typed : (d : Dialect) (code : ℕ) → is_some (type_of_code d code) ≡ (eqb code d.value || (eqb code d.tombstone || (eqb code d.weak || eqb code d.indirection)))
unfolding type_of_code
typed d code = go (eqb code d.value) (eqb code d.tombstone) (eqb code d.weak) (eqb code d.indirection)
  where
    go : (v t w i : Bool) → is_some (cond v (Some Value) (cond t (Some Tombstone) (cond w (Some WeakTombstone) (cond i (Some Indirection) None)))) ≡ (v || (t || (w || i)))
    go true t w i = refl
    go false true w i = refl
    go false false true i = refl
    go false false false true = refl
    go false false false false = refl

-- it is its type's code
pub code_of_type : (d : Dialect) (code : ℕ) (t : ValueType) → type_of_code d code ≡ Some t → code_of d t ≡ code
unfolding type_of_code
code_of_type d code t h = grind arith

found : (a b c e : ℕ) (t : ValueType) (d : Dialect) → d.value ≡ a → d.tombstone ≡ b → d.weak ≡ c → d.indirection ≡ e → apart a b c e ≡ true → type_of_code d (code_of d t) ≡ Some t
unfolding type_of_code apart
found a b c e Value d p q r s h = grind arith
found a b c e Tombstone d p q r s h = grind arith
found a b c e WeakTombstone d p q r s h = grind arith
found a b c e Indirection d p q r s h = grind arith

-- in a good dialect each type is that of its code
pub type_of_its_code : (d : Dialect) (t : ValueType) → good d ≡ true → type_of_code d (code_of d t) ≡ Some t
unfolding good
type_of_its_code d t h =
    let last : Bool = not (eqb (get_or d.magic (d.length - 1) 0) 0) in
    let p = both (leb 1 d.length) _ h in
    let q = both (leb d.length 8) _ p.1 in
    let r = both last _ q.1 in
    let s = both (zeros (drop d.length d.magic)) _ r.1 in
    found _ _ _ _ t d refl refl refl refl s.1
