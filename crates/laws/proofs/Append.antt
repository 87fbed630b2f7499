-- The append law of readings, batch by batch: what `joined` and `shift` do to the batches and to the outcome. Assumes nothing.
use Rattle.std.specs.Prelude.{ℕ, ◌+◌, ◌≡◌, refl, ◌≢◌, List, ◌∷◌, ◌++◌, length}
use Rattle.std.proofs.Common.{ap, ◌∙◌}
use Rattle.plan.specs.Reading.{Reading, clean, broken, next, read, IsClean, joined, shift}
use Rattle.plan.proofs.Reading.{append}
use Rattle.plan.specs.Journal.{all, outcome}
use Rattle.dialect.specs.declared.Dialect.{Dialect}
use Rattle.entry.specs.Entry.{Stop, fault, void, misplaced, insufficient, too_many, mismatch}
use Rattle.reader.specs.declared.Outcome.TheVariants.{Clean}
use Rattle.reader.specs.Batch.{Batch, batch_plan}
use Rattle.reader.specs.Found.{outcome_of}
use Rattle.reader.proofs.Bridge.{hungry}
use Rattle.laws.specs.Yields.{Place}
use Rattle.laws.specs.Append.{moved}
use Rattle.laws.proofs.Yields.{Reads}

-- an end that is not clean has another outcome
faulty : (e : Stop) → outcome_of e ≢ Clean
unfolding outcome_of
faulty (fault n) h = cc
faulty void h = cc
faulty misplaced h = cc
faulty insufficient h = cc
faulty too_many h = cc
faulty mismatch h = cc

is_clean : (R : Reading Stop Batch) → outcome Clean outcome_of R ≡ Clean → IsClean R
unfolding outcome IsClean
is_clean (clean p) h = tt
is_clean (broken e p q) h = absurd (faulty e h)
is_clean (next a i j r) h = is_clean r h

all_joined : (R S : Reading Stop Batch) → IsClean R → all (joined R S) ≡ all R ++ all S
unfolding all joined IsClean
all_joined (clean p) S h = refl
all_joined (broken e p q) S h = absurd h
all_joined (next a i j r) S h = ap (λ (l : List Place). (a, i, j) ∷ l) (all_joined r S h)

outcome_joined : (R S : Reading Stop Batch) → IsClean R → outcome Clean outcome_of (joined R S) ≡ outcome Clean outcome_of S
unfolding outcome joined IsClean
outcome_joined (clean p) S h = refl
outcome_joined (broken e p q) S h = absurd h
outcome_joined (next a i j r) S h = outcome_joined r S h

all_shift : (n : ℕ) (R : Reading Stop Batch) → all (shift n R) ≡ moved n (all R)
unfolding all shift moved
all_shift n (clean p) = refl
all_shift n (broken e p q) = refl
all_shift n (next a i j r) = ap (λ (l : List Place). (a, n + i, n + j) ∷ l) (all_shift n r)

outcome_shift : (n : ℕ) (R : Reading Stop Batch) → outcome Clean outcome_of (shift n R) ≡ outcome Clean outcome_of R
unfolding outcome shift
outcome_shift n (clean p) = refl
outcome_shift n (broken e p q) = refl
outcome_shift n (next a i j r) = outcome_shift n r

module _ (d : Dialect) (h : List ℕ → ℕ) (A B : List ℕ) where
  abbrev reading : List ℕ → Reading Stop Batch
  reading s = read (batch_plan d h) 0 s

  pub appended : outcome Clean outcome_of (reading A) ≡ Clean
      → Reads d h (A ++ B) (all (reading A) ++ moved (length A) (all (reading B))) (outcome Clean outcome_of (reading B))
  appended z =
      let c = is_clean (reading A) z in
      let e = append (batch_plan d h) (hungry d h) A B c in
      let S = shift (length A) (reading B) in
      record {
        shows = ap all e ∙ all_joined (reading A) S c ∙ ap (λ (l : List Place). all (reading A) ++ l) (all_shift (length A) (reading B));
        ends_in = ap (outcome Clean outcome_of) e ∙ outcome_joined (reading A) S c ∙ outcome_shift (length A) (reading B);
      }
