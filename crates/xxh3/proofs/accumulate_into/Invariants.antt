use Rattle.std.proofs.Common.{◌≡◌, ◌+◌, ◌-◌, ◌*◌}
use Rattle.xxh3.specs.Stripes.{stripes}
use Rattle.xxh3.proofs.accumulate_into.Given as goal

abbrev pub invariant-loop-n : goal.invariant-loop-n
invariant-loop-n l = stripes l.k l.s (l.m - l.n) (l.i + l.n * 64) (l.t + l.n) l.acc ≡ stripes l.k l.s l.m l.i l.t l.initial.acc
