-- The places of batches, moved.
use Rattle.std.specs.Prelude.{ℕ, ◌+◌, List, [], ◌∷◌}
use Rattle.laws.specs.Yields.{Place}

-- with every position moved by n
unfoldable pub moved : ℕ → List Place → List Place
moved n [] = []
moved n (p ∷ ps) = (p.0, n + p.1, n + p.2) ∷ moved n ps
