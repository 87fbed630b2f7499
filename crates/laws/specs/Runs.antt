-- OUR WRITER: a run of calls on one buffer under one dialect, from position 0 with no batch open, each call given the state that the
-- call before it returned, refused calls among them. It is a fold of the definitions that the calls' contracts cite.
use Rattle.std.specs.Prelude.{ℕ, ◌^◌, ◌<◌, cond, List, [], ◌∷◌, ◌++◌, eqb, Result, is_ok}
use Rattle.dialect.specs.declared.Dialect.{Dialect}
use Rattle.dialect.specs.declared.ValueType.{ValueType}
use Rattle.dialect.specs.Dialect.{code_of}
use Rattle.entry.specs.Entry as entry
use Rattle.entry.specs.Entry.{Put}
use Rattle.refusal.specs.declared.Refusal.{Refusal}
use Rattle.writer.specs.declared.WriterState.{WriterState}
use Rattle.writer.specs.Writing.{Outcome, outside, open_call, put_call, close_call, write_call}
use Rattle.laws.specs.Journals.{Closed}

-- what a caller puts: an Item (type, keyspace, key, value) or a Clear (keyspace)
pub data Given : Type 0 where
  item : ValueType → ℕ → List ℕ → List ℕ → Given
  clear : ℕ → Given

-- the calls, with their arguments
pub data Call : Type 0 where
  -- open: count, seqno
  opens : ℕ → ℕ → Call
  -- put_item, put_clear
  puts : Given → Call
  closes : Call
  -- write_raw, write_clear: seqno and entry
  writes : ℕ → Given → Call

-- the arguments of a call are u64 where the code says so
unfoldable pub keyspace_of : Given → ℕ
keyspace_of (item type keyspace key value) = keyspace
keyspace_of (clear keyspace) = keyspace

unfoldable pub Words : Call → Type 0
Words (opens count seqno) = seqno < 256 ^ 8
Words (puts g) = keyspace_of g < 256 ^ 8
Words closes = Unit {0}
Words (writes seqno g) = (seqno < 256 ^ 8) × (keyspace_of g < 256 ^ 8)

unfoldable pub AllWords : List Call → Type 0
AllWords [] = Unit {0}
AllWords (c ∷ cs) = Words c × AllWords cs

-- what was put: the batches closed so far, and the seqno and the entries of the batch that was last opened
pub record Ledger : Type 0 where
  pub closed : List Closed
  pub current : Closed

-- where a run stands: the buffer, the state that the last call returned, and what was put
pub record Standing : Type 0 where
  pub bytes : List ℕ
  pub state : WriterState
  pub ledger : Ledger

abbrev pub ledger_of : List Closed → ℕ → List Put → Ledger
ledger_of closed seqno entries = record { closed = closed; current = record { seqno = seqno; entries = entries } }

module _ (d : Dialect) where
  -- as it is written, by the code of its type
  unfoldable pub coded : Given → Put
  coded (item type keyspace key value) = entry.item (code_of d type) keyspace key value
  coded (clear keyspace) = entry.clear keyspace

  -- what a call leaves
  unfoldable pub result : Call → List ℕ → WriterState → Outcome
  result (opens count seqno) xs s = open_call d xs s count seqno
  result (puts g) xs s = put_call d xs s (coded g)
  result closes xs s = close_call d xs s
  result (writes seqno g) xs s = write_call d xs s seqno (coded g)

  -- what an accepted call adds to the ledger
  abbrev pub add : Put → Ledger → Ledger
  add p l = ledger_of l.closed l.current.seqno (l.current.entries ++ (p ∷ []))

  abbrev pub file : Closed → Ledger → Ledger
  file b l = record { closed = l.closed ++ (b ∷ []); current = l.current }

  unfoldable pub note : Call → Ledger → Ledger
  note (opens count seqno) l = cond (eqb count 0) l (ledger_of l.closed seqno [])
  note (puts g) l = add (coded g) l
  note closes l = file l.current l
  note (writes seqno g) l = file (record { seqno = seqno; entries = coded g ∷ [] }) l

  -- one call, and a run of calls; a refused call adds nothing to the ledger
  unfoldable pub settled : Call → Ledger → Outcome → Standing
  settled c l o = record { bytes = o.bytes; state = o.reply.state; ledger = cond (is_ok o.reply.answer) (note c l) l }

  unfoldable pub after : Call → Standing → Standing
  after c r = settled c r.ledger (result c r.bytes r.state)

  unfoldable pub run : List Call → Standing → Standing
  run [] r = r
  run (c ∷ cs) r = run cs (after c r)

  -- what the calls of a run answer
  unfoldable pub answers : List Call → Standing → List (Result ℕ Refusal)
  answers [] r = []
  answers (c ∷ cs) r = (result c r.bytes r.state).reply.answer ∷ answers cs (after c r)

-- position 0, no batch open
abbrev pub fresh : List ℕ → Standing
fresh xs = record { bytes = xs; state = outside 0; ledger = ledger_of [] 0 [] }
