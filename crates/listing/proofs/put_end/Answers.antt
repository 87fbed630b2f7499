use Rattle.std.proofs.Common.{◌≡◌}
use Rattle.text.specs.Written.{then, then_both}
use Rattle.reader.specs.Reading.{keep}
use Rattle.listing.specs.Listing.{state_line, end_line}
use Rattle.listing.proofs.Ends.{kept_bytes}
use Rattle.listing.proofs.put_end.Goals as goal

pub returns : goal.returns
unfolding state_line end_line
returns c =
    let a = c.args in
    let q = kept_bytes a.n a.state c.requires.0 in
    let e : c.in-Ok.bytes ≡ keep a.n a.state = cc in
    rw (← e, ← c.unwrap_or.ensures) (then (then_both _ _ (then_both _ _ c.named.ensures c.named-2.ensures) c.named-3.ensures) c.end_line.ensures)
