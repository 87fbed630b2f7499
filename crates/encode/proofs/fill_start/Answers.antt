use Rattle.encode.proofs.Rows.{start_shape}
use Rattle.number.specs.Part.{then_put, read_as}
use Rattle.number.specs.Number.{bytes}
use mathlib.Core.List.{[], ◌∷◌}
use mathlib.Core.Path.{refl}
use Rattle.encode.proofs.fill_start.Goals as goal

pub returns : goal.returns
unfolding bytes
returns c =
    let a = c.args in
    read_as _ _ a.buf.now _ (start_shape a.count a.seqno)
    (then_put 5 (1 ∷ bytes 4 a.count) (bytes 8 a.seqno) a.buf.now _ _ refl
    (then_put 1 (1 ∷ []) (bytes 4 a.count) a.buf.now _ _ refl c.put_u8.ensures c.put.ensures)
    c.put-2.ensures)
