use Rattle.dialect.specs.Good.{is_good}
use Rattle.entry.specs.Entry.{end}
use Rattle.encode.specs.Laws.{encode_ok, end_length, refused}
use Rattle.std.proofs.Common.{◌+◌, sym, ◌∙◌, arith}
use Rattle.std.proofs.lemmas.Grind.{common_steps}
use Rattle.encode.proofs.encode_end.Goals as goal

pub returns-in_err-encode_refusal : goal.returns-in_err-encode_refusal
returns-in_err-encode_refusal c =
    let a = c.args in
    let r = refused a.d (end a.checksum) a.buf.now c.in_err-encode_refusal.field-0.0 (9 + a.d.length) (sym c.encode_refusal.ensures ∙ c.in_err-encode_refusal.was) (end_length a.d a.checksum) in
    grind (arith, common_steps, r)

pub fill_end-requires : goal.fill_end-requires
fill_end-requires c =
    let r = encode_ok _ _ _ _ (sym c.encode_refusal.ensures ∙ c.in_ok-encode_refusal.was) in
    let m = (is_good c.args.d r.fine).most in
    (m, r.room)
