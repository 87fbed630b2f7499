use Rattle.text.specs.Written.{named}
use Rattle.text.proofs.Laws.{dash, no_dash}
use Rattle.std.proofs.Common.{arith, length, ap}
use Rattle.text.proofs.Page.bytes.Goals as goal

pub word-requires : goal.word-requires
word-requires c = omega (arith, ap length (dash c.args.s.now (grind arith)), c.requires)

pub returns-then-is_empty : goal.returns-then-is_empty
returns-then-is_empty c = named (dash _ (grind arith)) c.word.ensures

pub hexadecimal-requires : goal.hexadecimal-requires
hexadecimal-requires c = rw (no_dash c.args.s.now (grind arith)) c.requires

pub returns-else-is_empty : goal.returns-else-is_empty
returns-else-is_empty c = named (no_dash _ (grind arith)) c.hexadecimal.ensures
