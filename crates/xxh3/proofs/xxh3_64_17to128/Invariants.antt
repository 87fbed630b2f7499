use Rattle.std.proofs.Common.{◌≡◌}
use Rattle.xxh3.specs.Xxh3.{rounds17to128}
use Rattle.xxh3.proofs.xxh3_64_17to128.Given as goal

abbrev pub invariant-loop-i : goal.invariant-loop-i
invariant-loop-i l = rounds17to128 l.k l.s l.i l.acc ≡ rounds17to128 l.k l.s l.initial.i l.initial.acc
