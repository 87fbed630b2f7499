-- Journals of closed batches: their bytes, and where their batches lie.
use Rattle.std.specs.Prelude.{ℕ, ◌+◌, ◌^◌, ◌<◌, ◌≡◌, Bool, ◌||◌, eqb, leb}
use Rattle.std.proofs.Math.Path.{sym, ap}
use Rattle.std.proofs.Common.{◌∙◌}
use Rattle.std.proofs.Math.Bool.{false}
use mathlib.Core.List.{List, [], ◌∷◌, ◌++◌, append_assoc, append-nil}
use Rattle.std.proofs.Math.ListN.{length}
use Rattle.plan.specs.Reading.{keep}
use Rattle.dialect.specs.declared.Dialect.{Dialect}
use Rattle.entry.specs.Entry.{Put, put_batch, AllFit}
use Rattle.reader.specs.Batch.{Batch, batch}
use Rattle.laws.specs.Yields.{Place}

-- a closed batch: its seqno and its entries, in the order in which they were put
pub record Closed : Type 0 where
  pub seqno : ℕ
  pub entries : List Put

-- as a reader shows it: its count, its seqno, its entries
abbrev pub accepted : Closed → Batch
accepted b = batch (length b.entries) b.seqno b.entries

-- those that end at or before c: the batches lying wholly before a cut at c
unfoldable pub before : ℕ → List Place → List Place
before c [] = []
before c (p ∷ ps) = keep (leb p.2 c) p (before c ps)

-- one of them ends at c
unfoldable pub ends_at : ℕ → List Place → Bool
ends_at c [] = false
ends_at c (p ∷ ps) = eqb c p.2 || ends_at c ps

module _ (d : Dialect) (h : List ℕ → ℕ) where
  abbrev pub bytes_of : Closed → List ℕ
  bytes_of b = put_batch d h b.seqno b.entries

  -- the bytes of a journal
  unfoldable pub journal : List Closed → List ℕ
  journal [] = []
  journal (b ∷ bs) = bytes_of b ++ journal bs

  -- where its batches lie, from `at` on
  unfoldable pub places : ℕ → List Closed → List Place
  places at [] = []
  places at (b ∷ bs) = (accepted b, at, at + length (bytes_of b)) ∷ places (at + length (bytes_of b)) bs

  pub journal_snoc : (bs : List Closed) (b : Closed) → journal (bs ++ (b ∷ [])) ≡ journal bs ++ bytes_of b
  unfolding journal
  journal_snoc [] b = append-nil (bytes_of b)
  journal_snoc (x ∷ bs) b = ap (λ (l : List ℕ). bytes_of x ++ l) (journal_snoc bs b) ∙ sym (append_assoc (bytes_of x) (journal bs) (bytes_of b))

module _ (d : Dialect) where
  -- the numbers of a batch fit their fields
  pub record FitsAll (b : Closed) : Type 0 where
    pub count_fits : length b.entries < 256 ^ 4
    pub seqno_fits : b.seqno < 256 ^ 8
    pub fit : AllFit d b.entries

  unfoldable pub EachFits : List Closed → Type 0
  EachFits [] = Unit {0}
  EachFits (b ∷ bs) = FitsAll b × EachFits bs

  pub each_snoc : (bs : List Closed) (b : Closed) → EachFits bs → FitsAll b → EachFits (bs ++ (b ∷ []))
  unfolding EachFits
  each_snoc [] b f g = (g, tt)
  each_snoc (x ∷ bs) b f g = (f.0, each_snoc bs b f.1 g)
