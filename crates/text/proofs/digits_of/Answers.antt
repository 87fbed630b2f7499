use Rattle.text.specs.Value.{no_digits}
use Rattle.text.proofs.Laws.{some_left, fewer, more_digits, last_digit, from_place}
use lib.ListN.{length-set}
use native.Mathlib.Omega.{arith}
use mathlib.Core.Path.{◌≡◌, ◌∙◌}
use Rattle.text.proofs.digits_of.Goals as goal

pub loop-rest-init : goal.loop-rest-init
loop-rest-init c = (omega arith, length-set c.args.text.now _ _ ∙ c.told-text, omega arith, last_digit c.args.n c.digit.result c.args.text.now c.told-text c.digit.ensures)

pub loop-rest-preserved : goal.loop-rest-preserved
loop-rest-preserved c =
    let l = c.loop-rest in
    let p = some_left l.from l.rest (omega arith) l.invariant.2 in
    (omega arith, length-set l.text _ _ ∙ l.invariant.1, fewer l.from l.rest p l.invariant.2, more_digits l.from l.rest c.digit-in-loop-rest.result l.text _ (omega arith) p (omega arith) c.digit-in-loop-rest.ensures l.invariant.3)

pub returns : goal.returns
returns c =
    let l = c.loop-rest in
    let z : l.rest ≡ 0 = omega arith in
    from_place l.text _ l.from l.invariant.1 (rw (z, no_digits l.from) at l.invariant.3)
