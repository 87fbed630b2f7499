use Rattle.encode.proofs.Rows.{end_shape}
use Rattle.dialect.specs.Dialect.{trailer}
use Rattle.number.specs.Part.{then_put, read_as}
use Rattle.number.specs.Number.{bytes}
use lib.ListN.{take}
use mathlib.Core.List.{[], ◌∷◌}
use mathlib.Core.Path.{refl}
use Rattle.encode.proofs.fill_end.Goals as goal

pub returns : goal.returns
unfolding bytes trailer
returns c =
    let a = c.args in
    read_as _ _ a.buf.now _ (end_shape a.checksum (take a.d.length a.d.magic))
    (then_put 9 (3 ∷ bytes 8 a.checksum) (take a.d.length a.d.magic) a.buf.now _ _ refl
    (then_put 1 (3 ∷ []) (bytes 8 a.checksum) a.buf.now _ _ refl c.put_u8.ensures c.put.ensures)
    c.copy_front.ensures)
