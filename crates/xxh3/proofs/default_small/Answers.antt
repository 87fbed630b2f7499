use Rattle.xxh3.specs.Classes.{hash_empty, hash_1to3, hash_4to8, hash_9to16}
use Rattle.xxh3.specs.Xxh3.{default_secret, xxh3_64_empty, xxh3_64_1to3, xxh3_64_4to8, xxh3_64_9to16}
use Rattle.number.specs.Number.{le}
use mathlib.Core.Path.{◌∙◌}
use Rattle.std.proofs.Common.{rules}
use Rattle.xxh3.proofs.default_small.Goals as goal

pub returns-then-n-eq0 : goal.returns-then-n-eq0
unfolding le default_secret xxh3_64_empty
returns-then-n-eq0 c = c.avalanche_xxh64.ensures ∙ hash_empty default_secret _ (search rules)

pub returns-then-n-le3 : goal.returns-then-n-le3
unfolding le default_secret xxh3_64_1to3
returns-then-n-le3 c = c.mix_1to3.ensures ∙ hash_1to3 default_secret _ (search rules) (search rules)

pub returns-then-n-le8 : goal.returns-then-n-le8
unfolding le default_secret xxh3_64_4to8
returns-then-n-le8 c = c.mix_4to8.ensures ∙ hash_4to8 default_secret _ (search rules) (search rules)

pub returns : goal.returns
unfolding le default_secret xxh3_64_9to16
returns c = c.mix_9to16.ensures ∙ hash_9to16 default_secret _ (search rules) (search rules)
