use Rattle.xxh3.specs.Rounds.{round_if}
use mathlib.Core.Path.{refl, sym, ◌∙◌, ap}
use lib.ListN.{length}
use Rattle.number.specs.Number.{le, times}
use Rattle.xxh3.specs.Xxh3.{default_secret, prime64_1, xxh3_64_17to128, avalanche}
use Rattle.xxh3.proofs.Rounds.{four_rounds}
use Rattle.std.proofs.Common.{rules}
use Rattle.xxh3.proofs.default_17to128.Goals as goal

pub round_default-third-requires : goal.round_default-third-requires
unfolding le default_secret
round_default-third-requires c = (search rules, search rules, refl)

pub round_default-second-requires : goal.round_default-second-requires
unfolding le default_secret
round_default-second-requires c = (search rules, search rules, refl)

pub round_default-first-requires : goal.round_default-first-requires
unfolding le default_secret
round_default-first-requires c = (search rules, search rules, refl)

pub round_default-requires : goal.round_default-requires
unfolding le default_secret
round_default-requires c = (search rules, search rules, refl)

pub returns : goal.returns
unfolding xxh3_64_17to128
returns c =
    let a = c.args in
    let third = c.round_default-third.ensures ∙ ap (round_if default_secret a.s.now 3) c.mul64-start.ensures in
    let second = c.round_default-second.ensures ∙ ap (round_if default_secret a.s.now 2) third in
    let first = c.round_default-first.ensures ∙ ap (round_if default_secret a.s.now 1) second in
    c.avalanche.ensures
    ∙ ap avalanche
    (c.round_default.ensures ∙ ap (round_if default_secret a.s.now 0) first ∙ sym (four_rounds default_secret a.s.now (times (length a.s.now) prime64_1) (search rules) (search rules)))
