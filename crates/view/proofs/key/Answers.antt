use Rattle.std.proofs.Common.{arith}
use Rattle.std.proofs.lemmas.Grind.{common_steps}
use Rattle.view.proofs.Laws.{key_within}
use Rattle.view.proofs.key.Goals as goal

pub lend-requires : goal.lend-requires
lend-requires c = let a = c.args in key_within a.d a.image.now a.at c.map.result (grind (arith, common_steps))
