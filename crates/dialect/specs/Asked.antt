-- What is asked of each call on a dialect and a buffer or an image. Functions of numbers alone; no buffer is looked at.
use Rattle.std.specs.Prelude.{ℕ, ltb, not, Result, ⊤}
use Rattle.number.specs.Limit.{limit}
use Rattle.refusal.specs.declared.Refusal.{Refusal}
use Rattle.refusal.specs.declared.Refusal.TheVariants as refusal
use Rattle.refusal.specs.Refusal.{when_of, first_of}
use Rattle.dialect.specs.declared.Dialect.{Dialect}
use Rattle.dialect.specs.Dialect.{good}

-- 20 DIALECT and 21 TOO LONG, of a call on an image or a buffer of n bytes
unfoldable pub buffer_refusal : Dialect → ℕ → Result ⊤ Refusal
buffer_refusal d n = first_of (when_of (not (good d)) refusal.Dialect) (when_of (ltb limit n) refusal.TooLong)

-- and 22 STATE, where the position lies past it
unfoldable pub image_refusal : Dialect → ℕ → ℕ → Result ⊤ Refusal
image_refusal d n at = first_of (buffer_refusal d n) (when_of (ltb n at) refusal.State)
