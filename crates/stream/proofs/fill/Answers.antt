use Rattle.std.proofs.Common.{◌+◌, sym, ◌∙◌}
use Rattle.stream.proofs.Turns.{sets_turn, sets_done}
use Rattle.stream.proofs.fill.Goals as goal

pub loop-i-preserved : goal.loop-i-preserved
loop-i-preserved c =
    let l = c.loop-i in
    sym (sets_turn l.hold c.args.p.now c.args.at l.i c.loop-i-test.true) ∙ l.invariant

pub returns : goal.returns
returns c =
    let l = c.loop-i in
    sym (sets_done l.hold c.args.p.now (c.args.at + l.i) l.i c.loop-i-test.false) ∙ l.invariant
