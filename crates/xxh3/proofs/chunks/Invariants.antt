use Rattle.std.proofs.Common.{◌≡◌, ◌+◌, ◌-◌, ◌*◌}
use Rattle.xxh3.specs.Xxh3.{chunks}
use Rattle.xxh3.proofs.chunks.Given as goal

abbrev pub invariant-loop-c : goal.invariant-loop-c
invariant-loop-c l = chunks l.k l.s (l.m - l.c) (l.i + l.c * 16) (l.j + l.c * 16) l.acc ≡ chunks l.k l.s l.m l.i l.j l.a
