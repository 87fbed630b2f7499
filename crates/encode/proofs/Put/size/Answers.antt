use Rattle.std.proofs.Common.{sym}
use Rattle.dialect.specs.Dialect.{code_of}
use Rattle.entry.specs.Sizes.{item_size, clear_size}
use Rattle.encode.proofs.Put.size.Goals as goal

pub returns-in-Item-clause-bytes : goal.returns-in-Item-clause-bytes
returns-in-Item-clause-bytes c d =
    let i = c.in-Item.item in
    rw (c.in-Item.is) (sym (item_size d (code_of d i.value_type) i.keyspace i.key.now i.value.now))

pub returns-in-Clear-clause-bytes : goal.returns-in-Clear-clause-bytes
returns-in-Clear-clause-bytes c d = rw (c.in-Clear.is) (sym (clear_size d c.in-Clear.keyspace))
