use Rattle.std.proofs.Common.{◌-◌}
use Rattle.number.specs.Limit.{limit}
use Rattle.xxh3sum.proofs.Input.{StandsFor}
use Rattle.xxh3sum.proofs.absorb_input.Given as goal

abbrev pub invariant-loop-n : goal.invariant-loop-n
invariant-loop-n g l = StandsFor (g.R.Read.remaining l.initial.input) (g.R.Read.remaining l.input) l.state

abbrev pub decreases-loop-n : goal.decreases-loop-n
decreases-loop-n g l = limit - l.state.total
