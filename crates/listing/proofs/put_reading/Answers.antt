use Rattle.std.proofs.Common.{refl, arith, length-append}
use Rattle.listing.proofs.Steps.{taken, over}
use Rattle.text.specs.Written.{all_put, next_room, next_put}
use Rattle.listing.proofs.put_reading.Goals as goal

pub put_end-requires : goal.put_end-requires
put_end-requires c =
    let j = c.args.journal.now in
    let l = c.loop-batch in
    let w = over _ _ j.fine j.short l.state l.invariant.0 l.invariant.1 _ c.step-stepped.ensures _ c.in_default.is in
    (w.sound, next_room l.invariant.2 w.lines c.requires)

pub returns-in_default : goal.returns-in_default
returns-in_default c =
    let j = c.args.journal.now in
    let l = c.loop-batch in
    let w = over _ _ j.fine j.short l.state l.invariant.0 l.invariant.1 _ c.step-stepped.ensures _ c.in_default.is in
    all_put (next_put l.invariant.2 w.lines c.put_end.ensures) refl

pub put_batch-requires : goal.put_batch-requires
put_batch-requires c =
    let j = c.args.journal.now in
    let l = c.loop-batch in
    let w = taken _ _ j.fine j.short l.state l.invariant.0 l.invariant.1 _ c.step-stepped.ensures _ c.in-Ok.is in
    let r = simp length-append at (next_room l.invariant.2 w.lines c.requires) in
    (w.begins, omega (arith, r))

pub loop-batch-smaller : goal.loop-batch-smaller
loop-batch-smaller c =
    let j = c.args.journal.now in
    let l = c.loop-batch in
    let w = taken _ _ j.fine j.short l.state l.invariant.0 l.invariant.1 _ c.step-stepped.ensures _ c.in-Ok.is in
    omega (arith, w.onward, w.inside)

pub loop-batch-preserved : goal.loop-batch-preserved
loop-batch-preserved c =
    let j = c.args.journal.now in
    let l = c.loop-batch in
    let w = taken _ _ j.fine j.short l.state l.invariant.0 l.invariant.1 _ c.step-stepped.ensures _ c.in-Ok.is in
    (w.fresh, w.inside, next_put l.invariant.2 w.lines c.put_batch.ensures)
