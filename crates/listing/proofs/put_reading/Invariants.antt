use Rattle.listing.specs.Walk.{lines_from}
use Rattle.text.specs.Written.{Partly}
use Rattle.reader.specs.Reading.{reader}
use Rattle.std.proofs.Common.{◌≡◌, ◌≤◌, ◌-◌, length}
use Rattle.listing.proofs.put_reading.Given as goal

abbrev pub invariant-loop-batch : goal.invariant-loop-batch
invariant-loop-batch l =
    let d = l.journal.dialect in
    let s = l.journal.image.now in
    let at = l.state.position in
    (l.state ≡ reader at) × (at ≤ length s) × Partly (lines_from d s 0) (lines_from d s at) l.initial.page l.page

abbrev pub decreases-loop-batch : goal.decreases-loop-batch
decreases-loop-batch l = length l.journal.image.now - l.state.position
