use Rattle.std.proofs.Common.{rules, sym, ◌∙◌, arith}
use Rattle.text.specs.Written.{named, then}
use Rattle.listing.proofs.Call.{parts, free, wrote}
use Rattle.listing.proofs.list.Goals as goal

pub invariant_of-journal : goal.invariant_of-journal
invariant_of-journal c =
    let a = c.args in
    let f = free a.d a.image.now a.out.now (sym c.in_ok-list_refusal.ensures) in
    record { fine = f.fine; short = f.short; octets = λ i. omega (arith, c.type_inv.image i) }

pub put_journal-requires : goal.put_journal-requires
put_journal-requires c =
    let a = c.args in
    let f = free a.d a.image.now a.out.now (sym c.in_ok-list_refusal.ensures) in
    let b = c.new-page.ensures.blank in
    rw (b.0, b.1) (omega (arith, f.room))

pub put_reading-requires : goal.put_reading-requires
put_reading-requires c =
    let a = c.args in
    let f = free a.d a.image.now a.out.now (sym c.in_ok-list_refusal.ensures) in
    let b = c.new-page.ensures.blank in
    let w = c.put_journal.ensures in
    rw (w.size, w.count, b.0, b.1) (omega (arith, f.room))

pub returns : goal.returns
returns c =
    let b = c.new-page.ensures.blank in
    let w = then c.put_journal.ensures c.put_reading.ensures in
    let same = sym (w.part ∙ c.new-page.ensures.part) in
    let r = wrote _ _ _ _ _ (sym c.in_ok-list_refusal.ensures) b.0 b.1 (named (parts _ _) w) in
    search rules
