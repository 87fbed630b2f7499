-- What each call of the writer answers and leaves in the buffer, for every input. Document 01, "Writing" and "Numbers a call may answer".
use Rattle.std.specs.Prelude.{ℕ, ◌+◌, ◌-◌, Bool, true, false, cond, not, ◌&&◌, ◌||◌, List, [], ◌∷◌, length, take, drop, ltb, eqb, ◌≡◌, Result, Ok, Err, ⊤}
use Rattle.number.specs.Limit.{limit}
use Rattle.number.specs.Part.{over}
use Rattle.xxh3.specs.Xxh3.{xxh3_64}
use Rattle.dialect.specs.declared.Dialect.{Dialect}
use Rattle.dialect.specs.Asked.{buffer_refusal}
use Rattle.refusal.specs.declared.Refusal.{Refusal}
use Rattle.refusal.specs.declared.Refusal.TheVariants.{State, Count, Order, Key, Counted, NoRoom}
use Rattle.refusal.specs.Refusal.{first_of, when_of, wrong_key}
use Rattle.entry.specs.Entry.{Put, item, clear, start, body, end, put, put_batch}
use Rattle.encode.specs.Encoding.{key_too_long}
use Rattle.writer.specs.declared.WriterState.{WriterState}
use Rattle.writer.specs.declared.Reply.{Reply}

-- ---- refusals; `len` is the buffer's length

-- 22 STATE: the position lies past the buffer; open and the batch start + 13 exceeds it, or not open and some are to come; too many to come
unfoldable pub out_of_range : ℕ → WriterState → Bool
out_of_range len s = ltb len s.position || cond s.«open» (ltb s.position (s.start + 13)) (ltb 0 s.left) || ltb limit s.left

-- 27 NO ROOM: fewer than `need` bytes stand behind the position
unfoldable pub no_room : ℕ → WriterState → ℕ → Bool
no_room len s need = ltb (len - s.position) need

-- 20, 21, 22: what every call asks
unfoldable pub shared_refusal : Dialect → ℕ → WriterState → Result ⊤ Refusal
shared_refusal d len s = first_of (buffer_refusal d len) (when_of (out_of_range len s) State)

-- 24, 23, 27: a Start and an End; a count of 0 needs no room
unfoldable pub open_refusal : Dialect → ℕ → WriterState → ℕ → Result ⊤ Refusal
open_refusal d len s count =
    first_of (shared_refusal d len s)
    (first_of (when_of s.«open» Order)
    (first_of (when_of (ltb limit count) Count)
    (when_of (not (eqb count 0) && no_room len s (22 + d.length)) NoRoom)))

-- 24, 26, 25, 27: an entry of `size` bytes and the End behind it; `wrong`: its key may not be put in a batch
unfoldable pub put_refusal : Dialect → ℕ → WriterState → Bool → ℕ → Result ⊤ Refusal
put_refusal d len s wrong size =
    first_of (shared_refusal d len s)
    (first_of (when_of (not s.«open») Order)
    (first_of (when_of (eqb s.left 0) Counted)
    (first_of (when_of wrong Key)
    (when_of (no_room len s (size + (9 + d.length))) NoRoom))))

-- 24, 26, 27: an End
unfoldable pub close_refusal : Dialect → ℕ → WriterState → Result ⊤ Refusal
close_refusal d len s =
    first_of (shared_refusal d len s)
    (first_of (when_of (not s.«open») Order)
    (first_of (when_of (ltb 0 s.left) Counted)
    (when_of (no_room len s (9 + d.length)) NoRoom)))

-- 24, 25, 27: a batch of one entry of `size` bytes; `wrong`: its key is too long
unfoldable pub write_refusal : Dialect → ℕ → WriterState → Bool → ℕ → Result ⊤ Refusal
write_refusal d len s wrong size =
    first_of (shared_refusal d len s)
    (first_of (when_of s.«open» Order)
    (first_of (when_of wrong Key)
    (when_of (no_room len s (22 + d.length + size)) NoRoom)))

-- ---- what a call leaves

-- the buffer's bytes, and the reply
pub record Outcome : Type 0 where
  pub bytes : List ℕ
  pub reply : Reply

abbrev pub refused_reply : WriterState → Refusal → Reply
refused_reply s r = record { state = s; answer = Err r }

-- a refused call answers why and the state it got, and writes no byte
abbrev pub settle : Result ⊤ Refusal → List ℕ → WriterState → Outcome → Outcome
settle (Ok _) xs s o = o
settle (Err r) xs s o = record { bytes = xs; reply = refused_reply s r }

-- a call that answers so and leaves these bytes and this state
abbrev pub Leaves : Outcome → List ℕ → WriterState → Result ℕ Refusal → Type 0
Leaves o bytes state answer = (answer ≡ o.reply.answer) × (state ≡ o.reply.state) × (bytes ≡ o.bytes)

-- the state at a position inside a batch, and outside
abbrev pub inside : ℕ → ℕ → ℕ → WriterState
inside from left at = record { position = at; start = from; «open» = true; left = left }

abbrev pub outside : ℕ → WriterState
outside at = record { position = at; start = 0; «open» = false; left = 0 }

-- the reply of a call that writes nothing
abbrev pub idle_reply : WriterState → Reply
idle_reply s = record { state = s; answer = Ok 0 }

-- a call that writes w at the position; t is the state behind it
abbrev pub wrote : List ℕ → WriterState → List ℕ → (ℕ → WriterState) → Outcome
wrote xs s w t = record { bytes = over s.position w xs; reply = record { state = t (s.position + length w); answer = Ok (length w) } }

-- ---- the calls, on a buffer xs

unfoldable pub open_call : Dialect → List ℕ → WriterState → ℕ → ℕ → Outcome
open_call d xs s count seqno =
    settle (open_refusal d (length xs) s count) xs s
    (cond (eqb count 0) (record { bytes = xs; reply = idle_reply s })
    (wrote xs s (put d (start count seqno) []) (inside s.position count)))

-- in a batch an empty key is wrong too
abbrev pub wrong_put : Put → Bool
wrong_put (item code keyspace key value) = wrong_key (length key)
wrong_put (clear keyspace) = false

unfoldable pub put_call : Dialect → List ℕ → WriterState → Put → Outcome
put_call d xs s p =
    let w = put d (body p) [] in
    settle (put_refusal d (length xs) s (wrong_put p) (length w)) xs s (wrote xs s w (inside s.start (s.left - 1)))

-- the hashed bytes of a batch begin so far behind its first byte
abbrev pub hashed_from : ℕ
hashed_from = 13

-- the hashed bytes as they stand in the buffer
abbrev pub standing : List ℕ → WriterState → List ℕ
standing xs s = take (s.position - (s.start + hashed_from)) (drop (s.start + hashed_from) xs)

unfoldable pub close_call : Dialect → List ℕ → WriterState → Outcome
close_call d xs s = settle (close_refusal d (length xs) s) xs s (wrote xs s (put d (end (xxh3_64 (standing xs s))) []) outside)

-- a whole batch of one entry
unfoldable pub write_call : Dialect → List ℕ → WriterState → ℕ → Put → Outcome
write_call d xs s seqno p =
    settle (write_refusal d (length xs) s (key_too_long (body p)) (length (put d (body p) []))) xs s (wrote xs s (put_batch d xxh3_64 seqno (p ∷ [])) outside)
