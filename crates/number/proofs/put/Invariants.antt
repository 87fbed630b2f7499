use Rattle.std.proofs.Common.{◌≡◌, ◌-◌, ◌++◌, take}
use Rattle.number.specs.Number.{bytes}
use Rattle.number.proofs.put.Given as goal

-- what stands there, and what is still to come
abbrev pub invariant-loop-byte : goal.invariant-loop-byte
invariant-loop-byte g l = take l.byte-index l.byte-items ++ bytes (g.row.N - l.byte-index) l.rest ≡ bytes g.row.N l.v
