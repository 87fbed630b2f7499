use Rattle.encode.proofs.Rows.{head_shape}
use Rattle.number.specs.Part.{then_put, read_as}
use Rattle.number.specs.Number.{bytes}
use mathlib.Core.List.{List, [], ◌∷◌, ◌++◌}
use Prim.Native.Nat.{ℕ}
use mathlib.Core.Path.{refl}
use Rattle.encode.proofs.fill_head.Goals as goal

pub returns : goal.returns
unfolding bytes
returns c =
    let a = c.args in
    let t : List ℕ = 2 ∷ a.code ∷ a.none ∷ [] in
    read_as _ _ a.buf.now _ (head_shape a.code a.none a.keyspace a.key a.value)
    (then_put 17 (((t ++ bytes 8 a.keyspace) ++ bytes 2 a.key) ++ bytes 4 a.value) (bytes 4 a.value) a.buf.now _ _ refl
    (then_put 13 ((t ++ bytes 8 a.keyspace) ++ bytes 2 a.key) (bytes 4 a.value) a.buf.now _ _ refl
    (then_put 11 (t ++ bytes 8 a.keyspace) (bytes 2 a.key) a.buf.now _ _ refl
    (then_put 3 t (bytes 8 a.keyspace) a.buf.now _ _ refl c.copy_front.ensures c.put.ensures)
    c.put-2.ensures)
    c.put-3.ensures)
    c.put-4.ensures)
