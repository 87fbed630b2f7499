use Rattle.listing.proofs.Lines.{item_pieces}
use Rattle.text.specs.Written.{then, named}
use Rattle.listing.proofs.put_item.Goals as goal

pub returns : goal.returns
returns c = named (item_pieces _ _ _ _ _) (then (then c.named.ensures c.put_type.ensures) c.pair.ensures)
