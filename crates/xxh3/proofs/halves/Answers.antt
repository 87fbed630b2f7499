use Rattle.std.proofs.Common.{◌^◌, refl, rules}
use Rattle.std.proofs.lemmas.Nat.{mul-lt}
use Rattle.xxh3.specs.Xxh3.{halves}
use Rattle.xxh3.proofs.halves.Goals as goal

pub overflow_mul-result : goal.overflow_mul-result
overflow_mul-result c = record { fits = mul-lt _ _ (2 ^ 32) (2 ^ 32) (search rules) (search rules) }

pub returns : goal.returns
unfolding halves
returns c = refl
