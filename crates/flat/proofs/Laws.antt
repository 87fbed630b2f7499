-- What the numbers that C hands over say of types. Assumes nothing.
use Rattle.std.specs.Prelude.{ℕ, ◌<◌, ◌≡◌, refl, true, false}
use Rattle.std.proofs.Common.{subst}
use Rattle.std.proofs.lemmas.Bool.{lt-leb}
use Rattle.dialect.specs.declared.ValueType.{ValueType}
use Rattle.dialect.specs.declared.ValueType.TheVariants.{Value, Tombstone, WeakTombstone, Indirection}
use Rattle.dialect.specs.Dialect.{number_of_type}
use Rattle.flat.specs.Flat.{is_type, type_of}

-- a type's number is one of the four, and stands for it
own : (t : ValueType) → (is_type (number_of_type t) ≡ true) × (type_of (number_of_type t) ≡ t)
own Value = (refl, refl)
own Tombstone = (refl, refl)
own WeakTombstone = (refl, refl)
own Indirection = (refl, refl)

pub typed : (t : ValueType) (n : ℕ) → number_of_type t ≡ n → (is_type n ≡ true) × (type_of n ≡ t)
typed t n e = subst (λ (m : ℕ). (is_type m ≡ true) × (type_of m ≡ t)) e (own t)

-- a number above 3 is none
pub untyped : (n : ℕ) → 3 < n → is_type n ≡ false
untyped n h = lt-leb n 3 h
