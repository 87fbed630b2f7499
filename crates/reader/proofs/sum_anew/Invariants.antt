use Prim.Native.Nat.{◌-◌}
use Rattle.reader.proofs.Rest.{Again}
use Rattle.reader.proofs.sum_anew.Given as goal

abbrev pub invariant-loop : goal.invariant-loop
invariant-loop l = Again l.journal.dialect l.secret l.journal.image.now l.fn.opened.body l.fn.opened.count l.at (l.fn.opened.count - l.counter) l.hasher
