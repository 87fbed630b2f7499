-- What the reader's calls yield over an image: the words in which the laws speak.
use Rattle.std.specs.Prelude.{ℕ, ◌+◌, ◌-◌, ◌≡◌, Ok, Err}
use mathlib.Core.List.{List, [], ◌∷◌}
use Rattle.std.proofs.Math.ListN.{length}
use Rattle.xxh3.specs.Xxh3.{xxh3_64}
use Rattle.dialect.specs.declared.Dialect.{Dialect}
use Rattle.dialect.specs.Dialect.{trailer}
use Rattle.entry.specs.Entry.{Put, body}
use Rattle.entry.specs.Decoded.{holds, meant}
use Rattle.reader.specs.declared.Stepped.{Stepped}
use Rattle.reader.specs.declared.Outcome.{Outcome}
use Rattle.reader.specs.declared.NoBatch.TheVariants.{Ended}
use Rattle.reader.specs.Batch.{Batch, batch}
use Rattle.reader.specs.Found.{accepted}
use Rattle.reader.specs.Reading.{reader, with_state, walk}

-- a batch, and where it begins and ends
abbrev pub Place : Type 0
Place = Batch × ℕ × ℕ

-- READING an image: step after step from position 0, not ended, each step given the state that the last one returned, until an end. It is a
-- fold of what the contract of `step` cites.
abbrev pub steps : Dialect → List ℕ → List Stepped
steps d image = walk d xxh3_64 image (length image + 1) (reader 0)

-- what a step answers of an accepted batch that lies from i to j, with the state that it returns
abbrev pub shown : Dialect → Batch → ℕ → ℕ → Stepped
shown d (batch count seqno ps) i j = with_state (reader i) (Ok (accepted seqno count (i + 13) (j - (9 + length (trailer d))) j))

-- the answers for these batches, in order, and then the end; `at` is the last valid position before them
unfoldable pub answers_for : Dialect → ℕ → List Place → Outcome → List Stepped
answers_for d at [] o = with_state (reader at) (Err (Ended o)) ∷ []
answers_for d at (p ∷ ps) o = shown d p.0 p.1 p.2 ∷ answers_for d p.2 ps o

-- the entries ps stand one behind another from `at` up to `stop`: what `decode` answers at each place means that entry
unfoldable pub Entries : Dialect → List ℕ → ℕ → List Put → ℕ → Type 0
Entries d s at [] stop = at ≡ stop
Entries d s at (p ∷ ps) stop = (j : ℕ) × (meant d s at ≡ holds (body p) j) × Entries d s j ps stop

-- those of a batch, between its Start and its End, and as many as it says
abbrev pub Filled : Dialect → List ℕ → Batch → ℕ → ℕ → Type 0
Filled d s (batch count seqno ps) i j = (length ps ≡ count) × Entries d s (i + 13) ps (j - (9 + length (trailer d)))

unfoldable pub AllFilled : Dialect → List ℕ → List Place → Type 0
AllFilled d s [] = Unit {0}
AllFilled d s (p ∷ ps) = Filled d s p.0 p.1 p.2 × AllFilled d s ps

-- READING THE IMAGE YIELDS EXACTLY THESE BATCHES, each where it lies and with its entries where they stand, AND ENDS WITH THIS OUTCOME.
pub record Yields (d : Dialect) (image : List ℕ) (batches : List Place) (o : Outcome) : Type 0 where
  pub answers : steps d image ≡ answers_for d 0 batches o
  pub entries : AllFilled d image batches
