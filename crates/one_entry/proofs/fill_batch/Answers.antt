use Rattle.one_entry.proofs.Laws.{batch_filled}
use Rattle.entry.specs.Entry.{layout}
use Rattle.encode.specs.Encoding.{put_of}
use Prim.Native.Nat.{ℕ, ◌+◌}
use mathlib.Core.Path.{sym, ap}
use Rattle.one_entry.proofs.fill_batch.Goals as goal

pub returns : goal.returns
unfolding layout
returns c =
    let a = c.args in
    batch_filled a.d a.seqno (put_of a.d a.entry) _ _ a.buf.now _ _ _ (ap (λ (n : ℕ). 13 + n) (sym (c.size.ensures.bytes a.d))) c.fill_start.ensures c.fill.ensures c.hash_default-checksum.ensures c.fill_end.ensures
