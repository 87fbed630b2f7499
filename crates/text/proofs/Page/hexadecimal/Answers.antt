use Rattle.std.proofs.Common.{arith}
use Rattle.text.specs.Text.{hexadecimal}
use Rattle.text.specs.Written.{nothing}
use Rattle.text.proofs.Laws.{next_byte, bytes_left}
use Rattle.text.proofs.Page.hexadecimal.Goals as goal

pub loop-b-init : goal.loop-b-init
unfolding hexadecimal
loop-b-init c = nothing _

pub word-requires : goal.word-requires
word-requires c = let l = c.loop-b in omega (arith, bytes_left c.args.s.now l.b-index (omega arith), l.invariant.count, l.invariant.size, c.requires)

pub loop-b-preserved : goal.loop-b-preserved
loop-b-preserved c = next_byte _ _ _ _ (omega arith) c.digit.ensures c.digit-in-loop-b.ensures c.loop-b.invariant c.word.ensures
