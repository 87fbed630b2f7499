use Rattle.listing.proofs.Entries.{lines_more, no_lines, next_within}
use Rattle.text.specs.Written.{all_put, next_room, next_put}
use native.Mathlib.Omega.{arith}
use Rattle.listing.proofs.put_entries.Goals as goal

pub put_entry-at-requires : goal.put_entry-at-requires
put_entry-at-requires c =
    let a = c.args in
    let l = c.loop in
    (l.invariant.0, next_room l.invariant.1 (lines_more _ _ l.at a.count l.counter (omega arith)) c.requires.1)

pub loop-preserved : goal.loop-preserved
loop-preserved c =
    let a = c.args in
    let l = c.loop in
    let e = c.put_entry-at.ensures in
    rw e.1 (next_within _ _ l.at l.invariant.0, next_put l.invariant.1 (lines_more _ _ l.at a.count l.counter (omega arith)) e.0)

pub returns : goal.returns
returns c = all_put c.loop.invariant.1 (no_lines _ _ c.loop.at _ (omega arith))
