-- The dump's text, line by line, each ended by a line feed. Document 01, "The dump".
use Rattle.std.specs.Prelude.{ℕ, ◌+◌, ◌*◌, not, List, [], ◌∷◌, ◌++◌, length, ltb, Option, Some, None, unwrap_or, Result, ⊤}
use Rattle.xxh3.specs.Xxh3.{default_secret, hash}
use Rattle.plan.specs.Reading.{Reading, clean, broken, next, read}
use Rattle.dialect.specs.declared.Dialect.{Dialect}
use Rattle.dialect.specs.Dialect.{good, type_of_code}
use Rattle.dialect.specs.declared.ValueType.{ValueType}
use Rattle.dialect.specs.declared.ValueType.TheVariants.{Value, Tombstone, WeakTombstone, Indirection}
use Rattle.refusal.specs.declared.Refusal.{Refusal}
use Rattle.refusal.specs.declared.Refusal.TheVariants as refusal
use Rattle.refusal.specs.Refusal.{when_of, first_of}
use Rattle.entry.specs.Entry.{Put, item, clear, Stop}
use Rattle.encode.specs.Encoding.{Encoded, settled}
use Rattle.reader.specs.declared.Reader.{Reader}
use Rattle.reader.specs.Batch.{Batch, batch, batch_plan}
use Rattle.reader.specs.Reading.{keep, ending}
use Rattle.text.specs.Text.{ascii, decimal, or_dash}

-- ---- lines

-- the image has n bytes
unfoldable pub journal_line : ℕ → List ℕ
journal_line n = ascii "journal " ++ decimal n ++ ascii " bytes\n"

-- an accepted batch, whose Start stands at the position
unfoldable pub batch_line : ℕ → ℕ → ℕ → List ℕ
batch_line position seqno count = ascii "@" ++ decimal position ++ ascii " seq " ++ decimal seqno ++ ascii " entries " ++ decimal count ++ ascii "\n"

unfoldable pub end_line : ℕ → ℕ → ℕ → List ℕ
end_line outcome valid kept = ascii "end " ++ decimal outcome ++ ascii " valid " ++ decimal valid ++ ascii " kept " ++ decimal kept ++ ascii "\n"

-- the end of a reading of n bytes, where it stands so
unfoldable pub state_line : ℕ → Reader → List ℕ
state_line n r = end_line (unwrap_or r.outcome 0) r.position (keep n r)

-- of an Item's type; no Item has a code without one
abbrev pub name_of : Option ValueType → List ℕ
name_of (Some Value) = ascii "V"
name_of (Some Tombstone) = ascii "T"
name_of (Some WeakTombstone) = ascii "W"
name_of (Some Indirection) = ascii "Vb"
name_of None = ascii "Vb"

module _ (d : Dialect) where
  -- by its code
  abbrev pub type_name : ℕ → List ℕ
  type_name code = name_of (type_of_code d code)

  unfoldable pub entry_line : Put → List ℕ
  entry_line (item code keyspace key value) =
      ascii "item " ++ decimal keyspace ++ ascii " " ++ type_name code ++ ascii " " ++ or_dash key ++ ascii " " ++ or_dash value ++ ascii "\n"
  entry_line (clear keyspace) = ascii "clear " ++ decimal keyspace ++ ascii "\n"

  unfoldable pub entry_lines : List Put → List ℕ
  entry_lines [] = []
  entry_lines (p ∷ ps) = entry_line p ++ entry_lines ps

  -- ---- the listing

  -- of a reading of n bytes: each batch with its entries, and the end
  unfoldable pub reading_lines : ℕ → Reading Stop Batch → List ℕ
  reading_lines n (clean p) = state_line n (ending (clean p))
  reading_lines n (broken e p q) = state_line n (ending (broken e p q))
  reading_lines n (next (batch count seqno ps) i j r) = batch_line i seqno count ++ entry_lines ps ++ reading_lines n r

  unfoldable pub listing : List ℕ → List ℕ
  listing s = journal_line (length s) ++ reading_lines (length s) (read (batch_plan d (hash default_secret)) 0 s)

-- ---- the call

-- enough for the listing of n bytes, whatever they are (proofs/Sizes)
abbrev pub room_for : ℕ → ℕ
room_for n = 4 * n + 128

-- 20; 21 of the dump, above 65,536 bytes; 27 with less room than that
unfoldable pub list_refusal : Dialect → ℕ → ℕ → Result ⊤ Refusal
list_refusal d n room =
    first_of (when_of (not (good d)) refusal.Dialect) (first_of (when_of (ltb 65_536 n) refusal.TooLong) (when_of (ltb room (room_for n)) refusal.NoRoom))

-- the text over the front of out; a refusal changes nothing
unfoldable pub listed : Dialect → List ℕ → List ℕ → Encoded
listed d s out = settled (list_refusal d (length s) (length out)) (listing d s) out
