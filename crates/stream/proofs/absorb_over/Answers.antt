use Rattle.stream.proofs.Blocks.{over}
use native.Mathlib.Omega.{arith}
use Rattle.stream.proofs.absorb_over.Goals as goal

pub returns : goal.returns
returns c =
    let a = c.args in
    let m = c.room-m in
    let r = c.absorb_blocks in
    over a.k.now a.p.now a.acc.now a.hold.now a.n m.result r.new.acc c.fill.new.hold r.new.hold m.ensures.0 (omega arith) c.fill.ensures r.ensures
