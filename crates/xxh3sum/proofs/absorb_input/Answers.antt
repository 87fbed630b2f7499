use Rattle.std.proofs.Common.{sym, ◌∙◌, arith}
use Rattle.xxh3sum.proofs.Input.{at_start, more, nears, at_end, at_refusal}
use Rattle.xxh3sum.proofs.absorb_input.Goals as goal

pub loop-n-init : goal.loop-n-init
loop-n-init g c = at_start _ _ c.new-state.ensures

pub returns-then-n-eq0 : goal.returns-then-n-eq0
returns-then-n-eq0 g c =
    let read = c.in_ok-n.ensures in
    at_end _ _ _ _ _ _ c.loop-n.invariant read.bytes.0 (sym read.bound.1 ∙ c.if-n-eq0.true) (read.bytes.1 c.if-n-eq0.true (omega arith)) c.finish.ensures.0

pub returns-in-Err : goal.returns-in-Err
returns-in-Err g c = at_refusal _ _ _ _ _ _ c.loop-n.invariant c.in_ok-n.ensures.bytes.0 (sym c.absorb_into.ensures.0 ∙ c.in-Err.is)

pub loop-n-smaller : goal.loop-n-smaller
loop-n-smaller g c =
    let read = c.in_ok-n.ensures in
    let taken = c.absorb_into.ensures in
    nears _ _ _ _ _ _ c.loop-n.invariant read.bytes.0 (sym taken.0 ∙ c.in_default.is) taken.1 (omega (arith, read.bound.1))

pub loop-n-preserved : goal.loop-n-preserved
loop-n-preserved g c =
    let taken = c.absorb_into.ensures in
    more _ _ _ _ _ _ c.loop-n.invariant c.in_ok-n.ensures.bytes.0 (sym taken.0 ∙ c.in_default.is) taken.1
