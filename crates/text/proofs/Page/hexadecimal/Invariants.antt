use Rattle.std.proofs.Common.{take}
use Rattle.text.specs.Text.{hexadecimal}
use Rattle.text.specs.Written.{Written}
use Rattle.text.proofs.Page.hexadecimal.Given as goal

abbrev pub invariant-loop-b : goal.invariant-loop-b
invariant-loop-b l = Written (hexadecimal (take l.b-index l.s)) l.initial.self l.self
