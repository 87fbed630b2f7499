-- The library's values as the numbers that cross to C.
use Rattle.std.specs.Prelude.{ℕ, ◌-◌, Bool, cond, not, Option, None, Some, Result, Ok, Err, List, eqb, leb}
use Rattle.dialect.specs.declared.Dialect.{Dialect}
use Rattle.dialect.specs.declared.ValueType.{ValueType}
use Rattle.dialect.specs.declared.ValueType.TheVariants.{Value, Tombstone, WeakTombstone, Indirection}
use Rattle.refusal.specs.declared.Refusal.{Refusal}
use Rattle.refusal.specs.Refusal.{number_of, answer_number}
use Rattle.encode.specs.Encoding.{Encoded}
use Rattle.entry.specs.declared.Decoded.{Decoded}
use Rattle.entry.specs.declared.Decoded.TheVariants.{Start, Item, End, Clear}
use Rattle.entry.specs.declared.NoEntry.{NoEntry}
use Rattle.entry.specs.Decoded.{no_entry_number}
use Rattle.reader.specs.declared.Accepted.{Accepted}
use Rattle.reader.specs.declared.NoBatch.{NoBatch}
use Rattle.reader.specs.declared.NoBatch.TheVariants.{Ended, Refused}
use Rattle.reader.specs.declared.Reader.{Reader}
use Rattle.reader.specs.declared.Stepped.{Stepped}
use Rattle.reader.specs.Outcome as outcome
use Rattle.stream.specs.declared.Absorbed.{Absorbed}
use Rattle.view.specs.declared.NoItem.{NoItem}
use Rattle.view.specs.declared.Pair.{Pair}
use Rattle.view.specs.declared.Span.{Span}
use Rattle.view.specs.View.{no_item_number, key_of, value_of}
use Rattle.writer.specs.declared.WriterState.{WriterState}
use Rattle.writer.specs.declared.Reply.{Reply}
use Rattle.writer.specs.Writing.{Outcome}
use Rattle.flat.specs.declared.Absorbed.{Absorbed as FlatAbsorbed}
use Rattle.flat.specs.declared.FlatCount.{FlatCount}
use Rattle.flat.specs.declared.FlatEntry.{FlatEntry}
use Rattle.flat.specs.declared.FlatHash.{FlatHash}
use Rattle.flat.specs.declared.FlatReader.{FlatReader}
use Rattle.flat.specs.declared.FlatReply.{FlatReply}
use Rattle.flat.specs.declared.FlatSpan.{FlatSpan}
use Rattle.flat.specs.declared.FlatStepped.{FlatStepped}
use Rattle.flat.specs.declared.FlatWriter.{FlatWriter}

-- ---- entries

-- of a code of a good dialect: 0 value, 1 tombstone, 2 weak tombstone, 3 indirection
unfoldable pub type_number : Dialect → ℕ → ℕ
type_number d code = cond (eqb code d.value) 0 (cond (eqb code d.tombstone) 1 (cond (eqb code d.weak) 2 3))

-- no entry: a number
abbrev pub no_entry : ℕ → FlatEntry
no_entry n =
    record { number = n; tag = 0; value_type = 0; count = 0; seqno = 0; keyspace = 0; checksum = 0; key_at = 0; key_len = 0; value_at = 0; value_len = 0; next = 0 }

-- an entry's tag and its values; what an entry does not have is 0
abbrev pub flat_start : ℕ → ℕ → ℕ → FlatEntry
flat_start count seqno next =
    record { number = 0; tag = 1; value_type = 0; count = count; seqno = seqno; keyspace = 0; checksum = 0; key_at = 0; key_len = 0; value_at = 0; value_len = 0; next = next }

abbrev pub flat_item : ℕ → ℕ → ℕ → ℕ → ℕ → ℕ → ℕ → FlatEntry
flat_item type keyspace key keyLength value valueLength next =
    record { number = 0; tag = 2; value_type = type; count = 0; seqno = 0; keyspace = keyspace; checksum = 0; key_at = key; key_len = keyLength; value_at = value; value_len = valueLength; next = next }

abbrev pub flat_end : ℕ → ℕ → FlatEntry
flat_end checksum next =
    record { number = 0; tag = 3; value_type = 0; count = 0; seqno = 0; keyspace = 0; checksum = checksum; key_at = 0; key_len = 0; value_at = 0; value_len = 0; next = next }

abbrev pub flat_clear : ℕ → ℕ → FlatEntry
flat_clear keyspace next =
    record { number = 0; tag = 4; value_type = 0; count = 0; seqno = 0; keyspace = keyspace; checksum = 0; key_at = 0; key_len = 0; value_at = 0; value_len = 0; next = next }

abbrev pub flat_entry : Dialect → Result Decoded NoEntry → FlatEntry
flat_entry d (Ok (Start count seqno next)) = flat_start count seqno next
flat_entry d (Ok (Item code keyspace key keyLength value valueLength next)) =
    flat_item (type_number d code) keyspace key keyLength value valueLength next
flat_entry d (Ok (End checksum next)) = flat_end checksum next
flat_entry d (Ok (Clear keyspace next)) = flat_clear keyspace next
flat_entry d (Err e) = no_entry (no_entry_number e)

-- ---- reading

-- a flag is 0 or anything else
abbrev pub reader_of : FlatReader → Reader
reader_of r = record { position = r.position; outcome = cond (eqb r.ended 0) None (Some r.outcome) }

abbrev pub ended_flag : Option ℕ → ℕ
ended_flag None = 0
ended_flag (Some o) = 1

abbrev pub ended_number : Option ℕ → ℕ
ended_number None = 0
ended_number (Some o) = o

abbrev pub flat_reader : Reader → FlatReader
flat_reader r = record { position = r.position; ended = ended_flag r.outcome; outcome = ended_number r.outcome }

abbrev pub no_batch : ℕ → ℕ → FlatReader → FlatStepped
no_batch number outcome goes =
    record { number = number; accepted = 0; outcome = outcome; seqno = 0; count = 0; body = 0; end = 0; next = 0; reader = goes }

-- a step's answer, between the state that came and the one that goes; a refusal gives the first back as it came
abbrev pub flat_answer : FlatReader → FlatReader → Result Accepted NoBatch → FlatStepped
flat_answer came goes (Ok a) =
    record { number = 0; accepted = 1; outcome = 0; seqno = a.seqno; count = a.count; body = a.body; end = a.end; next = a.next; reader = goes }
flat_answer came goes (Err (Ended o)) = no_batch 0 (outcome.number_of o) goes
flat_answer came goes (Err (Refused r)) = no_batch (number_of r) 0 came

abbrev pub flat_stepped : FlatReader → Stepped → FlatStepped
flat_stepped came s = flat_answer came (flat_reader s.reader) s.answer

-- ---- a number of bytes: kept or written

abbrev pub refused_count : ℕ → FlatCount
refused_count n = record { number = n; bytes = 0 }

abbrev pub flat_count : Result ℕ Refusal → FlatCount
flat_count (Ok n) = record { number = 0; bytes = n }
flat_count (Err r) = refused_count (number_of r)

-- ---- views: a place and a length

abbrev pub span_of : ℕ → ℕ → ℕ → FlatSpan
span_of number from to = record { number = number; at = from; length = to - from }

-- a part, or the number that says why there is none
abbrev pub span_or : Result Span ℕ → FlatSpan
span_or (Ok s) = span_of 0 s.from s.to
span_or (Err n) = span_of n 0 0

abbrev pub numbered : {E : Type 0} → (E → ℕ) → Result Span E → Result Span ℕ
numbered n (Ok s) = Ok s
numbered n (Err e) = Err (n e)

abbrev pub key_span : Result Pair NoItem → FlatSpan
key_span p = span_or (numbered no_item_number (key_of p))

abbrev pub value_span : Result Pair NoItem → FlatSpan
value_span p = span_or (numbered no_item_number (value_of p))

abbrev pub flat_span : Result Span Refusal → FlatSpan
flat_span s = span_or (numbered number_of s)

-- ---- XXH3-64

abbrev pub flat_hash : Result ℕ Refusal → FlatHash
flat_hash (Ok h) = record { number = 0; hash = h }
flat_hash (Err r) = record { number = number_of r; hash = 0 }

abbrev pub flat_absorbed : Absorbed → FlatAbsorbed
flat_absorbed a = record { number = answer_number a.answer; state = a.state }

-- ---- writing

-- there are four types of value
abbrev pub is_type : ℕ → Bool
is_type n = leb n 3

-- of a number that is one of them
abbrev pub type_of : ℕ → ValueType
type_of n = cond (eqb n 0) Value (cond (eqb n 1) Tombstone (cond (eqb n 2) WeakTombstone Indirection))

abbrev pub writer_of : FlatWriter → WriterState
writer_of w = record { position = w.position; start = w.start; «open» = not (eqb w.«open» 0); left = w.left }

abbrev pub flat_writer : WriterState → FlatWriter
flat_writer s = record { position = s.position; start = s.start; «open» = cond s.«open» 1 0; left = s.left }

-- a refusal gives the state back as it came
abbrev pub refused_reply : FlatWriter → ℕ → FlatReply
refused_reply came n = record { number = n; bytes = 0; writer = came }

-- a call's answer, between the state that came and the one that goes
abbrev pub flat_answered : FlatWriter → FlatWriter → Result ℕ Refusal → FlatReply
flat_answered came goes (Ok n) = record { number = 0; bytes = n; writer = goes }
flat_answered came goes (Err r) = refused_reply came (number_of r)

abbrev pub flat_reply : FlatWriter → Reply → FlatReply
flat_reply came r = flat_answered came (flat_writer r.state) r.answer

-- a value type that is none of the four is 32, before anything else is looked at: nothing is written
unfoldable pub typed_count : ℕ → Encoded → FlatCount
typed_count type e = cond (is_type type) (flat_count e.answer) (refused_count 32)

unfoldable pub typed_reply : ℕ → FlatWriter → Outcome → FlatReply
typed_reply type came o = cond (is_type type) (flat_reply came o.reply) (refused_reply came 32)

unfoldable pub typed_bytes : ℕ → List ℕ → List ℕ → List ℕ
typed_bytes type before after = cond (is_type type) after before
