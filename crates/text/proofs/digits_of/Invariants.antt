use Rattle.text.specs.Text.{digits, decimal}
use lib.ListN.{length, drop}
use mathlib.Core.List.{◌++◌}
use mathlib.Core.Path.{◌≡◌}
use Prim.Native.Nat.{◌≤◌, ◌<◌, ◌^◌}
use Rattle.text.proofs.digits_of.Given as goal

abbrev pub invariant-loop-rest : goal.invariant-loop-rest
invariant-loop-rest l = (l.from ≤ 19) × (length l.text ≡ 20) × (l.rest < 10 ^ l.from) × (digits l.from l.rest ++ drop l.from l.text ≡ decimal l.n)

abbrev pub decreases-loop-rest : goal.decreases-loop-rest
decreases-loop-rest l = l.rest
