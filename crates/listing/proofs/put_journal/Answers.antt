use Rattle.text.specs.Written.{then}
use Rattle.listing.specs.Listing.{journal_line}
use Rattle.listing.proofs.put_journal.Goals as goal

pub returns : goal.returns
unfolding journal_line
returns c = then c.named.ensures c.word.ensures
