use Rattle.std.proofs.Common.{◌≡◌, ◌++◌, take, drop}
use Rattle.number.proofs.copy_front.Given as goal

abbrev pub invariant-loop-i : goal.invariant-loop-i
invariant-loop-i l = l.dst ≡ take l.i l.src ++ drop l.i l.initial.dst
