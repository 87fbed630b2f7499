use Rattle.text.specs.Written.{then}
use Rattle.listing.specs.Listing.{entry_line}
use Rattle.listing.proofs.put_clear.Goals as goal

pub returns : goal.returns
unfolding entry_line
returns c = then c.named.ensures c.end_line.ensures
