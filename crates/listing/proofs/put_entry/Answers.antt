use Rattle.std.proofs.Common.{sym, arith}
use Rattle.text.specs.Written.{named, nothing}
use Rattle.listing.proofs.Entries.{of_fault, of_other, of_item, of_clear}
use Rattle.listing.proofs.put_entry.Goals as goal

pub returns-in_default : goal.returns-in_default
returns-in_default c = let w = of_fault _ _ _ c.requires.0 c.in_default.ensures in (named (sym w.line) (nothing _), w.goes)

pub slice_bounds-put_item-end : goal.slice_bounds-put_item-end
slice_bounds-put_item-end c = let w = of_item _ _ _ c.requires.0 (rw c.in-Item.is at c.in-Ok.ensures) in omega (arith, w.2, w.3)

pub slice_bounds-put_item-end-in-Item : goal.slice_bounds-put_item-end-in-Item
slice_bounds-put_item-end-in-Item c = (of_item _ _ _ c.requires.0 (rw c.in-Item.is at c.in-Ok.ensures)).3

pub put_item-requires : goal.put_item-requires
put_item-requires c = rw ((of_item _ _ _ c.requires.0 (rw c.in-Item.is at c.in-Ok.ensures)).0.line) c.requires.1

pub returns-in-Item : goal.returns-in-Item
returns-in-Item c = let w = of_item _ _ _ c.requires.0 (rw c.in-Item.is at c.in-Ok.ensures) in (named w.0.line c.put_item.ensures, w.0.goes)

pub put_clear-requires : goal.put_clear-requires
put_clear-requires c = rw ((of_clear _ _ _ c.requires.0 (rw c.in-Clear.is at c.in-Ok.ensures)).line) c.requires.1

pub returns-in-Clear : goal.returns-in-Clear
returns-in-Clear c = let w = of_clear _ _ _ c.requires.0 (rw c.in-Clear.is at c.in-Ok.ensures) in (named w.line c.put_clear.ensures, w.goes)

pub returns-in_default-e : goal.returns-in_default-e
returns-in_default-e c =
    let w = of_other _ _ _ _ c.requires.0 c.in-Ok.ensures c.in_default-e.not-Item c.in_default-e.not-Clear in
    (named (sym w.line) (nothing _), w.goes)
