use Rattle.std.proofs.Common.{◌≡◌, take}
use Rattle.stream.specs.Stream.{gather}
use Rattle.stream.proofs.gathered.Given as goal

abbrev pub invariant-loop-i : goal.invariant-loop-i
invariant-loop-i l = take l.i l.byte-items ≡ gather l.hold l.i l.from
