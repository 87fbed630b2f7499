-- The rounds of a medium input one by one, each with its own test: as the code goes them.
use Rattle.std.specs.Prelude.{ℕ, ◌+◌, ◌-◌, ◌*◌, cond, List, length, leb}
use Rattle.number.specs.Number.{plus}
use Rattle.xxh3.specs.Xxh3.{mix_step}

-- the round i, of an input that is long enough to have it
unfoldable pub round_if : List ℕ → List ℕ → ℕ → ℕ → ℕ
round_if k s i acc = cond (leb (length s) (i * 32)) acc (plus (plus acc (mix_step k s (i * 16) (i * 32))) (mix_step k s (length s - i * 16 - 16) (i * 32 + 16)))
