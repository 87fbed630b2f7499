-- A listing is no longer than four times its image and 128 bytes. Assumes nothing.
use Prim.Native.Nat.{ℕ, ◌+◌, ◌*◌, ◌≤◌}
use mathlib.Core.Path.{◌≡◌, sym, ap, ◌∙◌}
use Rattle.std.specs.Prelude.{Option, Some, None, unwrap_or}
use mathlib.Core.List.{List, [], ◌∷◌, ◌++◌, append-nil}
use native.Mathlib.Omega.{arith}
use native.Mathlib.Nat.{zero-add}
use lib.ListN.{length, length-append}
use Rattle.xxh3.specs.Xxh3.{default_secret, hash}
use Rattle.plan.specs.Plan.{Plan, ok, later, run, run_at, Takes}
use Rattle.plan.specs.Reading.{clean, broken, read, Parsed, none, ends, more, read_nil, read_stop, read_next}
use Rattle.plan.proofs.Reading.{parsed}
use Rattle.plan.specs.Place.{at_run}
use Rattle.dialect.specs.declared.Dialect.{Dialect}
use Rattle.dialect.specs.declared.ValueType.{ValueType}
use Rattle.dialect.specs.declared.ValueType.TheVariants.{Value, Tombstone, WeakTombstone, Indirection}
use Rattle.dialect.specs.Dialect.{type_of_code}
use Rattle.entry.specs.Entry.{Put, item, clear, body, Stop, entry}
use Rattle.entry.proofs.Exact.{ItemAt, exact_of}
use Rattle.reader.specs.declared.Reader.{Reader}
use Rattle.reader.specs.Batch.{Batch, batch, batch_plan}
use Rattle.reader.specs.Reading.{keep, ending}
use Rattle.reader.proofs.Bridge.{hungry}
use Rattle.text.specs.Text.{decimal, or_dash}
use Rattle.text.specs.Sizes.{length_decimal, length_dash}
use Rattle.listing.specs.Listing.{journal_line, batch_line, end_line, state_line, name_of, type_name, entry_line, entry_lines, reading_lines, listing, room_for}
use Rattle.reader.specs.Body.{Body, held}

-- ---- lines, by their numbers and bytes

pub journal_size : (n : ℕ) → length (journal_line n) ≡ 15 + length (decimal n)
unfolding journal_line
journal_size n = simp length-append (omega arith)

pub batch_size : (position seqno count : ℕ) → length (batch_line position seqno count) ≡ 16 + length (decimal position) + length (decimal seqno) + length (decimal count)
unfolding batch_line
batch_size position seqno count = simp length-append (omega arith)

pub end_size : (n : ℕ) (r : Reader) → length (state_line n r) ≡ 18 + length (decimal (unwrap_or r.outcome 0)) + length (decimal r.position) + length (decimal (keep n r))
unfolding state_line end_line
end_size n r = simp length-append (omega arith)

module _ (d : Dialect) where
  pub clear_size : (keyspace : ℕ) → length (entry_line d (clear keyspace)) ≡ 7 + length (decimal keyspace)
  unfolding entry_line
  clear_size keyspace = simp length-append (omega arith)

  pub item_size : (code keyspace : ℕ) (key value : List ℕ)
      → length (entry_line d (item code keyspace key value)) ≡ 9 + length (decimal keyspace) + length (type_name d code) + length (or_dash key) + length (or_dash value)
  unfolding entry_line
  item_size code keyspace key value = simp length-append (omega arith)

  name_size : (code : ℕ) → length (type_name d code) ≤ 2
  name_size code = go (type_of_code d code)
    where
      go : (t : Option ValueType) → length (name_of t) ≤ 2
      go (Some Value) = omega arith
      go (Some Tombstone) = omega arith
      go (Some WeakTombstone) = omega arith
      go (Some Indirection) = omega arith
      go None = omega arith

  -- ---- what they come to

  module _ (s : List ℕ) where
    -- an entry of a body: an Item has 21 bytes and its key and value, a Clear has 9
    entry_bound : (p : Put) (at j : ℕ) → at ≤ length s → run_at (entry d) s at ≡ ok (body p) j → (length (entry_line d p) + 4 * at ≤ 4 * j) × (j ≤ length s)
    entry_bound (item code keyspace key value) at j h e =
        let w : ItemAt s at key value j = exact_of d s at h (ok (body (item code keyspace key value)) j) e in
        let g : j ≡ at + 21 + length key + length value = w.ends in
        (omega (arith, item_size code keyspace key value, name_size code, length_decimal keyspace, length_dash key, length_dash value), w.fits)
    entry_bound (clear keyspace) at j h e =
        let w = exact_of d s at h (ok (body (clear keyspace)) j) e in
        let g : j ≡ at + 9 = w.0 in
        (omega (arith, clear_size keyspace, length_decimal keyspace), w.1)

    entries_bound : (ps : List Put) (at e : ℕ) → at ≤ length s → Body d s at ps e → length (entry_lines d ps) + 4 * at ≤ 4 * e
    unfolding Body entry_lines
    entries_bound [] at e h b = omega arith
    entries_bound (p ∷ ps) at e h b =
        let w = entry_bound p at b.0 h b.1 in
        let r = entries_bound ps b.0 e w.1 b.2 in
        rw (length-append (entry_line d p) (entry_lines d ps)) (omega (arith, w.0))

  end_bound : (n : ℕ) (r : Reader) → length (state_line n r) ≤ 78
  end_bound n r = omega (arith, end_size n r, length_decimal (unwrap_or r.outcome 0), length_decimal r.position, length_decimal (keep n r))

  abbrev t : Plan Stop Batch
  t = batch_plan d (hash default_secret)

  -- an accepted batch of the bytes u
  batch_bound : (u : List ℕ) (at count seqno : ℕ) (ps : List Put) → Takes t u (batch count seqno ps) → length (batch_line at seqno count) + length (entry_lines d ps) ≤ 4 * length u
  batch_bound u at count seqno ps tk =
      let e : run_at t u 0 ≡ ok (batch count seqno ps) (length u) = at_run t u 0 ∙ ap (later 0) (ap (run t) (sym (append-nil u)) ∙ tk []) ∙ ap (ok (batch count seqno ps)) (zero-add (length u)) in
      let w = held d u (hash default_secret) 0 count seqno ps (length u) (omega arith) e in
      let b = entries_bound u ps 13 w.over w.within w.entries in
      let g = w.behind in
      omega (arith, batch_size at seqno count, length_decimal at, length_decimal seqno, length_decimal count)

  reading_bound : (n at : ℕ) {x : List ℕ} → Parsed t (hungry d (hash default_secret)) x → length (reading_lines d n (read t at x)) ≤ 4 * length x + 78
  unfolding reading_lines
  reading_bound n at none = rw (read_nil t (hungry d (hash default_secret)) at) (end_bound n (ending (clean at)))
  reading_bound n at (ends {b} {s} {e} {p} q) = rw (read_stop t (hungry d (hash default_secret)) at b s e p q) (let z = end_bound n (ending (broken e at (at + p))) in omega arith)
  reading_bound n at (more u {r} {a} tk v) = go a tk (reading_bound n (at + length u) v)
    where
      go : (a : Batch) → Takes t u a → length (reading_lines d n (read t (at + length u) r)) ≤ 4 * length r + 78 → length (reading_lines d n (read t at (u ++ r))) ≤ 4 * length (u ++ r) + 78
      go (batch count seqno ps) tk z =
          let w = batch_bound u at count seqno ps tk in
          rw (read_next t (hungry d (hash default_secret)) at u r (batch count seqno ps) tk) (simp length-append (omega arith))

  pub listing_bound : (s : List ℕ) → length (listing d s) ≤ room_for (length s)
  unfolding listing
  listing_bound s =
      let z = reading_bound (length s) 0 (parsed t (hungry d (hash default_secret)) s) in
      rw length-append (omega (arith, journal_size (length s), length_decimal (length s)))
