use Rattle.reader.proofs.Tags.{room, item_placed, item_taken, head_filled}
use Rattle.entry.proofs.Places.{placed}
use Rattle.std.specs.Prelude.{Ok}
use mathlib.Core.Path.{refl, sym, ap, ◌∙◌}
use Rattle.reader.proofs.anew_at.Goals as goal

pub other_anew-requires : goal.other_anew-requires
other_anew-requires c =
    let j = c.args.journal.now in
    room j.dialect j.image.now c.args.at _ c.in-Ok.e c.in_default-e.not-Item (placed _ _ _ c.requires.0 c.in-Ok.e c.in-Ok.ensures) j.short c.requires.1

pub returns : goal.returns
returns c =
    let i = c.in-Item in
    let j = c.args.journal.now in
    let b = head_filled i.value_type j.dialect.none i.keyspace i.key_len i.value_len _ c.fill_head.ensures in
    let p = item_placed j.dialect j.image.now c.args.at _ _ _ _ _ _ _ c.requires.0 (sym c.in-Ok.ensures ∙ ap Ok i.is) in
    rw (← c.in-Ok.ensures, i.is)
    (refl, item_taken c.args.secret.now j.dialect j.image.now c.args.at c.args.hasher.now _ _ _ _ _ i.value_type i.keyspace i.key_at i.key_len i.value_at i.value_len _ b p c.absorb_parts.ensures c.absorb_parts-2.ensures)
