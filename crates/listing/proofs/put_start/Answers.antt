use Rattle.text.specs.Written.{then, then_both}
use Rattle.listing.specs.Listing.{batch_line}
use Rattle.listing.proofs.put_start.Goals as goal

pub returns : goal.returns
unfolding batch_line
returns c = then (then_both _ _ (then_both _ _ c.named.ensures c.named-2.ensures) c.named-3.ensures) c.end_line.ensures
