-- CUT: a journal of written batches, cut at any byte and followed by zeros.
use Rattle.std.specs.Prelude.{ℕ, ◌≤◌, List, ◌++◌, take}
use Rattle.std.proofs.Common.{zero-add}
use Rattle.std.proofs.Math.ListN.{length}
use Rattle.plan.specs.Plan.{Plan}
use Rattle.plan.specs.Reading.{read, Hungry, upto}
use Rattle.plan.specs.Cut.{zeros, Dead}
use Rattle.plan.specs.Journal.{bound, expected, TornBy, Journal, Is, cut_at}

module _ {E A O : Type 0} (well torn : O) (kind : E → O) (t : Plan E A) (hungry : Hungry t) where
  -- THE CUT LAW, over any plan
  pub cut : (dead : Dead {A = A} (TornBy torn kind) t) {J : List ℕ} → Journal well torn kind t hungry J → (c z : ℕ) → c ≤ length J
      → Is well torn kind t hungry (read t 0 (take c J ++ zeros z)) (upto c (read t 0 J)) (expected well torn (bound c (read t 0 J)) z)
  cut dead j c z h = rw (zero-add c) at (cut_at well torn kind t hungry dead 0 j c z h)
