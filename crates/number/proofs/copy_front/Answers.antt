use Rattle.std.proofs.Common.{refl}
use Rattle.number.proofs.Copy.{copy_more, copy_done}
use Rattle.number.proofs.copy_front.Goals as goal

pub loop-i-init : goal.loop-i-init
loop-i-init c = refl

pub loop-i-preserved : goal.loop-i-preserved
loop-i-preserved c = copy_more c.loop-i.i c.args.src.now c.args.dst.now c.loop-i.dst c.loop-i.invariant c.loop-i-test.true c.requires

pub returns : goal.returns
returns c = copy_done c.loop-i.i c.args.src.now c.args.dst.now c.loop-i.dst c.loop-i.invariant c.loop-i.auto.i-end c.loop-i-test.false
