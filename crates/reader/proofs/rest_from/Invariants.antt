use Prim.Native.Nat.{◌-◌}
use Rattle.reader.proofs.Rest.{Walk}
use Rattle.reader.proofs.rest_from.Given as goal

abbrev pub invariant-loop : goal.invariant-loop
invariant-loop l = Walk l.journal.dialect l.secret l.journal.image.now l.opened.count l.opened.seqno l.opened.body l.at (l.opened.count - l.counter) l.stands
