use Rattle.std.proofs.Common.{ℕ, ◌∙◌, ◌≤◌, ◌<◌, length, take, IfSome}
use Rattle.std.proofs.lemmas.List.{length-replicate}
use Rattle.std.proofs.lemmas.Result.{MatchResult-weaker}
use Rattle.std.specs.Io.KnownBytes.{Appends, Consumes, IsAtEnd}
use Rattle.dumping.specs.Dumping.{dumped}
use Rattle.dumping.proofs.Journal.{whole_dump}
use Rattle.dumping.proofs.Renamed.{at_ok, if_ok}
use Rattle.dumping.proofs.dump_input.Goals as goal

pub returns-clause-ok : goal.returns-clause-ok
returns-clause-ok g c =
    let image = c.read_full.new.buf in
    let read = c.read_full.ensures in
    let bound = at_ok (λ n. n ≤ length image) _ c.read_full.result _ c.in_ok-n.n c.map_err.ensures.cases c.in_ok-n.was read.bound in
    let bytes = at_ok (λ n. Consumes (g.R.Read.remaining c.args.reader.now) (g.R.Read.remaining c.read_full.new.reader) (take n image)) _ c.read_full.result _ c.in_ok-n.n c.map_err.ensures.cases c.in_ok-n.was read.bytes in
    let end = at_ok (λ n. n < length image → IsAtEnd (g.R.Read.remaining c.read_full.new.reader)) _ c.read_full.result _ c.in_ok-n.n c.map_err.ensures.cases c.in_ok-n.was read.end in
    let whole = whole_dump c.args.d _ _ _ _ c.in_ok-n.n image (c.read_full.auto.buf ∙ length-replicate {A = ℕ} 65_537 0) bound bytes end in
    if_ok (λ _. IfSome (g.R.Read.remaining c.args.reader.now) (λ s. Appends (g.W.Write.contents c.args.writer.now) (g.W.Write.contents c.print_listing.new.writer) (dumped c.args.d s))) _ c.print_listing.result _ c.map_err-2.ensures.cases
    (MatchResult-weaker c.print_listing.result c.print_listing.ensures (λ _ a. whole a) (λ _ q. q))
