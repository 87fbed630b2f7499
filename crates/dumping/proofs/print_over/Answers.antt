use Rattle.std.proofs.Common.{ℕ, List, sym, subst, OnOk, length-take-le}
use Rattle.std.specs.Io.KnownBytes.{Appends}
use Rattle.listing.proofs.Call.{wrote_within}
use Rattle.dumping.proofs.Journal.{wrote_over, refused_over}
use Rattle.dumping.proofs.print_over.Goals as goal

pub slice_bounds-write_all-end : goal.slice_bounds-write_all-end
slice_bounds-write_all-end g c = wrote_within _ _ _ _ _ c.in-Ok.ensures.0 c.in-Ok.ensures.1

pub slice_bounds-write_all-end-in-Ok : goal.slice_bounds-write_all-end-in-Ok
slice_bounds-write_all-end-in-Ok g c = sym (length-take-le _ _ (wrote_within _ _ _ _ _ c.in-Ok.ensures.0 c.in-Ok.ensures.1))

pub returns-in-Ok-clause-text : goal.returns-in-Ok-clause-text
returns-in-Ok-clause-text g c =
    let written = wrote_over _ _ _ _ _ c.in-Ok.ensures.0 c.in-Ok.ensures.1 in
    subst (λ (bs : List ℕ). OnOk c.write_all.result (Appends (g.W.Write.contents c.args.writer.now) (g.W.Write.contents c.write_all.new.self) bs)) written c.write_all.ensures.bytes

pub returns-in-Err-clause-text : goal.returns-in-Err-clause-text
returns-in-Err-clause-text g c =
    let line = refused_over _ _ _ _ c.in-Err.ensures.0 in
    subst (λ (bs : List ℕ). OnOk c.print_refused.result (Appends (g.W.Write.contents c.args.writer.now) (g.W.Write.contents c.print_refused.new.writer) bs)) line c.print_refused.ensures
