use Rattle.std.proofs.Common.{ℕ, List, subst, OnOk}
use Rattle.std.proofs.lemmas.List.{length-replicate}
use Rattle.std.specs.Io.KnownBytes.{Appends}
use Rattle.dumping.proofs.Journal.{with_room}
use Rattle.dumping.proofs.print_listing.Goals as goal

pub returns : goal.returns
returns g c =
    let said = with_room _ _ _ (length-replicate {A = ℕ} 262_272 0) in
    subst (λ (bs : List ℕ). OnOk c.print_over.result (Appends (g.W.Write.contents c.args.writer.now) (g.W.Write.contents c.print_over.new.writer) bs)) said c.print_over.ensures.text
