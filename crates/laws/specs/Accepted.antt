-- Batches to be written, and the calls that write them.
use Prim.Native.Nat.{ℕ, suc, ◌≤◌}
use Rattle.std.specs.Prelude.{Result, IsOk}
use mathlib.Core.List.{List, [], ◌∷◌, ◌++◌, map}
use Rattle.std.proofs.Math.ListN.{length}
use Rattle.number.specs.Limit.{limit}
use Rattle.dialect.specs.declared.Dialect.{Dialect}
use Rattle.refusal.specs.declared.Refusal.{Refusal}
use Rattle.laws.specs.Journals.{Closed}
use Rattle.laws.specs.Runs.{Given, item, clear, Call, opens, puts, closes, coded}

-- a batch to be written: its seqno and what is put
pub record Wanted : Type 0 where
  pub seqno : ℕ
  pub entries : List Given

-- its calls: open with the true count, the puts, close
unfoldable pub calls_of : List Wanted → List Call
calls_of [] = []
calls_of (b ∷ bs) = opens (length b.entries) b.seqno ∷ (map puts b.entries ++ (closes ∷ calls_of bs))

-- what can be written: 1 to 4,294,967,295 entries, each key of 1 to 65,535 bytes
unfoldable pub KeyFits : Given → Type 0
KeyFits (item type keyspace key value) = (1 ≤ length key) × (length key ≤ 65_535)
KeyFits (clear keyspace) = Unit {0}

unfoldable pub AllKeyFit : List Given → Type 0
AllKeyFit [] = Unit {0}
AllKeyFit (g ∷ gs) = KeyFits g × AllKeyFit gs

pub record Writable (b : Wanted) : Type 0 where
  pub some : 1 ≤ length b.entries
  pub few : length b.entries ≤ limit
  pub keys : AllKeyFit b.entries

unfoldable pub EachWritable : List Wanted → Type 0
EachWritable [] = Unit {0}
EachWritable (b ∷ bs) = Writable b × EachWritable bs

-- none of the answers is a refusal
unfoldable pub AllWrote : List (Result ℕ Refusal) → Type 0
AllWrote [] = Unit {0}
AllWrote (a ∷ rest) = IsOk a × AllWrote rest

module _ (d : Dialect) where
  -- the batch as the ledger has it
  abbrev pub as_closed : Wanted → Closed
  as_closed b = record { seqno = b.seqno; entries = map (coded d) b.entries }
