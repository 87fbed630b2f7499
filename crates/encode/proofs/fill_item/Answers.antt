use Rattle.encode.proofs.Rows.{item_shape}
use Rattle.dialect.specs.Dialect.{code_of}
use Rattle.entry.specs.Sizes.{head_size}
use Rattle.entry.specs.Entry.{head_row, joined}
use Rattle.number.specs.Part.{front, then_put, read_as}
use lib.ListN.{length, length-append}
use mathlib.Core.List.{◌++◌}
use mathlib.Core.Path.{ap, ◌∙◌}
use Prim.Native.Nat.{ℕ, ◌+◌}
use Rattle.encode.proofs.fill_item.Goals as goal

pub returns : goal.returns
returns c =
    let a = c.args in
    let i = a.item in
    let code = code_of a.d i.value_type in
    let l = head_size code a.d.none i.keyspace (length i.key.now) (length i.value.now) in
    let h = joined (head_row code a.d.none i.keyspace (length i.key.now) (length i.value.now)) in
    read_as _ _ a.buf.now _ (item_shape code a.d.none i.keyspace i.key.now i.value.now)
    (then_put (21 + length i.key.now) (h ++ i.key.now) i.value.now a.buf.now _ _ (length-append h i.key.now ∙ ap (λ (n : ℕ). n + length i.key.now) l)
    (then_put 21 h i.key.now a.buf.now _ _ l (c.fill_head.ensures ∙ ap (λ (n : ℕ). front (joined (head_row n a.d.none i.keyspace (length i.key.now) (length i.value.now))) a.buf.now) c.code.ensures) c.copy_front.ensures)
    c.copy_front-2.ensures)
