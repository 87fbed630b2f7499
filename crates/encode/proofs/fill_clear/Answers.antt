use Rattle.encode.proofs.Rows.{clear_shape}
use Rattle.number.specs.Part.{then_put, read_as}
use Rattle.number.specs.Number.{bytes}
use mathlib.Core.List.{[], ◌∷◌}
use mathlib.Core.Path.{refl}
use Rattle.encode.proofs.fill_clear.Goals as goal

pub returns : goal.returns
returns c =
    let a = c.args in
    read_as _ _ a.buf.now _ (clear_shape a.keyspace)
    (then_put 1 (4 ∷ []) (bytes 8 a.keyspace) a.buf.now _ _ refl c.put_u8.ensures c.put.ensures)
