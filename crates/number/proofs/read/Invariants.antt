use Rattle.std.proofs.Common.{◌≡◌, ◌^◌, ◌<◌}
use Rattle.number.specs.Number.{le}
use Rattle.number.proofs.read.Given as goal

abbrev pub invariant-loop-n : goal.invariant-loop-n
invariant-loop-n g l = (l.value ≡ le l.n l.s l.i) × (l.value < 256 ^ l.n)
