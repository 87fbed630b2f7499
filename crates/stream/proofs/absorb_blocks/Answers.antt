use Prim.Native.Nat.{◌-◌, ◌/◌, ◌*◌}
use mathlib.Core.Path.{refl}
use native.Mathlib.Omega.{arith}
use lib.ListN.{length}
use Rattle.stream.proofs.Blocks.{only, run_parts}
use Rattle.std.proofs.Common.{rules}
use Rattle.stream.proofs.absorb_blocks.Goals as goal

pub returns-then-e-eq0 : goal.returns-then-e-eq0
returns-then-e-eq0 c =
    let a = c.args in
    only a.k.now a.p.now a.acc.now a.hold.now a.n c.consume.new.acc c.fill.new.hold (search rules) (search rules) (omega arith) c.consume.ensures c.fill.ensures

pub returns : goal.returns
returns c =
    let a = c.args in
    let first = c.consume in
    let blocks = c.accumulate_into in
    let kept = c.fill-2 in
    run_parts a.k.now a.p.now a.acc.now a.hold.now a.n (search rules) c.told-hold ((length a.p.now - 1) / 256 * 256)
    first.new.acc blocks.new.a kept.new.hold c.fill-3.new.hold refl (omega arith) first.ensures blocks.ensures kept.ensures c.fill-3.ensures
