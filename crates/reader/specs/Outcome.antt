-- The outcomes of a reading and their numbers.
use Rattle.std.specs.Prelude.{ℕ, Option, List, [], ◌∷◌, find, eqb}
use Rattle.reader.specs.declared.Outcome.{Outcome}
use Rattle.reader.specs.declared.Outcome.TheVariants.{Clean, Torn, Insufficient, TooMany, Mismatch}

abbrev pub number_of : Outcome → ℕ
number_of Clean = 0
number_of Torn = 1
number_of Insufficient = 2
number_of TooMany = 3
number_of Mismatch = 4

-- there are five
abbrev pub outcomes : List Outcome
outcomes = Clean ∷ Torn ∷ Insufficient ∷ TooMany ∷ Mismatch ∷ []

-- the outcome of a number, if it is one's
unfoldable pub outcome_at : ℕ → Option Outcome
outcome_at n = find (λ o. eqb (number_of o) n) outcomes
