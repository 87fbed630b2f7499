-- What a call may count on that was not refused. Assumes nothing.
use Rattle.std.specs.Prelude.{◌≡◌, refl, Bool, true, false, ◌||◌, Result, Ok, Err, ⊤}
use Rattle.std.proofs.Common.{true≢false}
use Rattle.refusal.specs.declared.Refusal.{Refusal}
use Rattle.refusal.specs.Refusal.{when_of, first_of}

-- neither of two is given
pub first_ok : (a b : Result ⊤ Refusal) → first_of a b ≡ Ok tt → (a ≡ Ok tt) × (b ≡ Ok tt)
first_ok (Ok tt) b h = (refl, h)
first_ok (Err r) b h = absurd (cc)

-- a test whose refusal is not given did not hold
pub when_ok : (t : Bool) (r : Refusal) → when_of t r ≡ Ok tt → t ≡ false
when_ok true r h = absurd (cc)
when_ok false r h = refl

pub not_or : (a b : Bool) → (a || b) ≡ false → (a ≡ false) × (b ≡ false)
not_or true b e = absurd (true≢false e)
not_or false b e = (refl, e)

-- a refusal that is given stands before those behind it
pub first_err : (a b : Result ⊤ Refusal) (r : Refusal) → a ≡ Err r → first_of a b ≡ Err r
first_err (Ok u) b r h = absurd (cc)
first_err (Err s) b r h = h
