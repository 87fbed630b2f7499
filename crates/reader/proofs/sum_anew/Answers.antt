use Prim.Native.Nat.{suc, ◌+◌, ◌-◌}
use Rattle.reader.proofs.Rest.{again_begins, again_on, again_ends}
use native.Mathlib.Omega.{arith}
use mathlib.Core.Path.{◌≡◌, ◌∙◌}
use Rattle.reader.proofs.sum_anew.Goals as goal

pub loop-preserved : goal.loop-preserved
loop-preserved c =
    let l = c.loop in
    let e : c.args.opened.count - l.counter ≡ suc (c.args.opened.count - (l.counter + 1)) = omega arith in
    again_on _ _ _ _ _ l.at _ _ l.hasher l.invariant e _ _ c.anew_at-at.ensures.0 c.anew_at-at.ensures.1

pub returns : goal.returns
returns c = let l = c.loop in c.finish_parts.ensures ∙ again_ends _ _ _ _ _ l.at _ l.hasher (omega arith) l.invariant

pub loop-init : goal.loop-init
loop-init c = again_begins _ _ _ _ _ c.requires.0 c.requires.1 _ (omega arith) _ c.new-hasher.ensures
