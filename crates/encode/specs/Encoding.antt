-- What an encoder alone answers and leaves in the part that it was lent, for every input. Document 01, "Numbers a call may answer".
use Rattle.std.specs.Prelude.{ℕ, Bool, false, List, [], length, ltb, Result, Ok, Err, ⊤}
use Rattle.number.specs.Part.{front}
use Rattle.dialect.specs.declared.Dialect.{Dialect}
use Rattle.dialect.specs.Dialect.{code_of}
use Rattle.dialect.specs.Asked.{buffer_refusal}
use Rattle.refusal.specs.declared.Refusal.{Refusal}
use Rattle.refusal.specs.declared.Refusal.TheVariants.{Key, NoRoom}
use Rattle.refusal.specs.Refusal.{first_of, when_of, long_key}
use Rattle.entry.specs.Entry as entry
use Rattle.entry.specs.Entry.{Entry, start, body, end, item, clear, put}
use Rattle.encode.specs.declared.Put.{Put}
use Rattle.encode.specs.declared.Put.TheVariants.{Item, Clear}

-- the entry that is handed over, its key and its value as they stand
abbrev pub put_of : Dialect → Put → entry.Put
put_of d (Item i) = item (code_of d i.value_type) i.keyspace i.key.now i.value.now
put_of d (Clear keyspace) = clear keyspace

-- 20, 21, 25, 27: into a part of `len` bytes, an entry of `size` bytes whose key is too long or not
unfoldable pub encode_refusal : Dialect → ℕ → Bool → ℕ → Result ⊤ Refusal
encode_refusal d len wrong size = first_of (buffer_refusal d len) (first_of (when_of wrong Key) (when_of (ltb len size) NoRoom))

-- an encoder takes an empty key
abbrev pub key_too_long : Entry → Bool
key_too_long (start count seqno) = false
key_too_long (body (item code keyspace key value)) = long_key (length key)
key_too_long (body (clear keyspace)) = false
key_too_long (end checksum) = false

-- how many bytes were written, or why none
pub record Encoded : Type 0 where
  pub buffer : List ℕ
  pub answer : Result ℕ Refusal

-- r is the refusal, if there is one, w the entry's bytes, xs the part
abbrev pub settled : Result ⊤ Refusal → List ℕ → List ℕ → Encoded
settled (Ok _) w xs = record { buffer = front w xs; answer = Ok (length w) }
settled (Err r) w xs = record { buffer = xs; answer = Err r }

-- the encoder of the entry e, lent xs
abbrev pub encoded : Dialect → Entry → List ℕ → Encoded
encoded d e xs = settled (encode_refusal d (length xs) (key_too_long e) (length (put d e []))) (put d e []) xs
