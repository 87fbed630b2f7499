use Prim.Native.Nat.{suc, ◌+◌, ◌-◌}
use mathlib.Core.Bool.{◌&&◌}
use Rattle.reader.proofs.Rest.{walk_begins, walk_ends, walk_on, covers}
use mathlib.Core.Path.{◌≡◌, sym, ◌∙◌}
use native.Mathlib.Omega.{arith}
use Rattle.std.proofs.lemmas.Result.{err_from_is_err_and}
use Rattle.reader.proofs.rest_from.Goals.{then-stands, else-stands}
use Rattle.reader.proofs.rest_from.Goals as goal

pub returns-in_err-turn : goal.returns-in_err-turn
returns-in_err-turn c =
    let l = c.loop in
    let p = err_from_is_err_and c.from_residual.result c.from_residual.ensures.1 in
    let e : c.args.opened.count - l.counter ≡ suc (c.args.opened.count - (l.counter + 1)) = omega arith in
    rw (p.1, p.2) (walk_ends _ _ _ _ _ _ l.at _ l.stands l.invariant _ e _ (sym c.in_err-turn.ensures))

pub loop-preserved : goal.loop-preserved
loop-preserved c =
    let a = c.args in
    let l = c.loop in
    let t = c.in_ok-turn.turn in
    let e : a.opened.count - l.counter ≡ suc (a.opened.count - (l.counter + 1)) = omega arith in
    let s : c.if-stands.stands ≡ (l.stands && t.stands) =
    elim c.if-stands.branch [
      | then-stands w ↦ rw w.if-stands.true w.stands-is
      | else-stands w ↦ rw w.if-stands.false (w.stands-is ∙ w.if-stands.false)
    ] in
    rw s (walk_on _ _ _ _ _ _ l.at _ l.stands l.invariant a.journal.now.octets _ e t (sym c.in_ok-turn.ensures))

pub returns : goal.returns
returns c =
    let l = c.loop in
    c.close_at.ensures ∙ (covers _ _ _ _ _ _ l.at _ l.stands (omega arith) c.requires l.invariant).closes

pub loop-init : goal.loop-init
loop-init c = walk_begins _ _ _ _ _ _ c.requires _ (omega arith)

pub close_at-requires : goal.close_at-requires
close_at-requires c =
    let l = c.loop in
    (covers _ _ _ _ _ _ l.at _ l.stands (omega arith) c.requires l.invariant).counted
