-- What a call may count on that was not refused. Assumes nothing.
use Rattle.std.specs.Prelude.{ℕ, ◌≤◌, ◌≡◌, refl, Bool, true, false, not, Ok}
use Rattle.std.proofs.Common.{sym, ltb-false}
use Rattle.number.specs.Limit.{limit}
use Rattle.refusal.specs.Laws.{first_ok, when_ok}
use Rattle.dialect.specs.declared.Dialect.{Dialect}
use Rattle.dialect.specs.Dialect.{good}
use Rattle.dialect.specs.Asked.{buffer_refusal, image_refusal}

pub is_true : (b : Bool) → not b ≡ false → b ≡ true
is_true true h = refl
is_true false h = sym h

pub record Fine (d : Dialect) (n : ℕ) : Type 0 where
  pub fine : good d ≡ true
  pub short : n ≤ limit

pub buffer_ok : (d : Dialect) (n : ℕ) → buffer_refusal d n ≡ Ok tt → Fine d n
unfolding buffer_refusal
buffer_ok d n h =
    let p = first_ok _ _ h in
    record { fine = is_true (good d) (when_ok _ _ p.0); short = ltb-false limit n (when_ok _ _ p.1) }

pub record Sound (d : Dialect) (n at : ℕ) : Type 0 where
  pub fine : good d ≡ true
  pub short : n ≤ limit
  pub within : at ≤ n

pub image_ok : (d : Dialect) (n at : ℕ) → image_refusal d n at ≡ Ok tt → Sound d n at
unfolding image_refusal
image_ok d n at h =
    let p = first_ok _ _ h in
    let f = buffer_ok d n p.0 in
    record { fine = f.fine; short = f.short; within = ltb-false n at (when_ok _ _ p.1) }
