-- The rows of document 01's table as the encoders write them, part by part. Assumes nothing.
use Prim.Native.Nat.{ℕ}
use mathlib.Core.Path.{◌≡◌}
use mathlib.Core.List.{List, [], ◌∷◌, ◌++◌, append_assoc, append-nil}
use lib.ListN.{length}
use Rattle.number.specs.Number.{bytes}
use Rattle.plan.specs.Plan.{puts}
use Rattle.entry.specs.Entry.{start_row, head_row, item_row, end_row, clear_row, joined}

pub start_shape : (count seqno : ℕ) → (1 ∷ bytes 4 count) ++ bytes 8 seqno ≡ joined (start_row count seqno)
unfolding puts
start_shape count seqno = rw (append-nil (bytes 8 seqno))

pub clear_shape : (keyspace : ℕ) → (4 ∷ []) ++ bytes 8 keyspace ≡ joined (clear_row keyspace)
unfolding puts
clear_shape keyspace = rw (append-nil (bytes 8 keyspace))

pub end_shape : (checksum : ℕ) (magic : List ℕ) → (3 ∷ bytes 8 checksum) ++ magic ≡ joined (end_row checksum magic)
unfolding puts
end_shape checksum magic = rw (append-nil magic)

pub head_shape : (code none keyspace key value : ℕ)
    → ((((2 ∷ code ∷ none ∷ []) ++ bytes 8 keyspace) ++ bytes 2 key) ++ bytes 4 value) ++ bytes 4 value ≡ joined (head_row code none keyspace key value)
unfolding puts
head_shape code none keyspace key value = simp (append_assoc, append-nil)

pub item_shape : (code none keyspace : ℕ) (key value : List ℕ)
    → (joined (head_row code none keyspace (length key) (length value)) ++ key) ++ value ≡ joined (item_row code none keyspace key value)
unfolding puts
item_shape code none keyspace key value = simp (append_assoc, append-nil)
