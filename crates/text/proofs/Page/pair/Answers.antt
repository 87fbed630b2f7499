use Rattle.text.specs.Written.{then}
use Rattle.text.proofs.Page.pair.Goals as goal

pub returns : goal.returns
returns c = then (then (then c.bytes.ensures c.word.ensures) c.bytes-2.ensures) c.end_line.ensures
