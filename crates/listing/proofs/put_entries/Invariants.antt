use Rattle.listing.specs.Walk.{lines_at}
use Rattle.text.specs.Written.{Partly}
use Rattle.std.proofs.Common.{length, ◌≤◌, ◌-◌}
use Rattle.listing.proofs.put_entries.Given as goal

abbrev pub invariant-loop : goal.invariant-loop
invariant-loop l =
    let d = l.journal.dialect in
    let s = l.journal.image.now in
    (l.at ≤ length s) × Partly (lines_at d s l.count l.body) (lines_at d s (l.count - l.counter) l.at) l.initial.page l.page
