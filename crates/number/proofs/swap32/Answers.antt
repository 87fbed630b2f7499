use Rattle.std.proofs.Common.{arith}
use Rattle.number.specs.Number.{swapped}
use Rattle.number.proofs.swap32.Goals as goal

pub returns : goal.returns
unfolding swapped
returns c = (omega (arith, c.swap_bytes.ensures), omega (arith, c.swap_bytes.ensures))
