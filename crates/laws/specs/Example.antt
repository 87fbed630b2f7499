-- Document 01's batch of 50 bytes as a run of calls, a refused one among them: the laws speak of something.
use Rattle.std.specs.Prelude.{◌≡◌, refl, List, [], ◌∷◌, replicate}
use Rattle.number.specs.Number.{bytes}
use Rattle.plan.specs.Plan.{puts}
use Rattle.dialect.specs.declared.ValueType.TheVariants.{Value}
use Rattle.dialect.specs.Dialect.{good, apart, trailer, TEST}
use Rattle.dialect.specs.Asked.{buffer_refusal}
use Rattle.entry.specs.Entry as entry
use Rattle.entry.specs.Entry.{layout}
use Rattle.writer.specs.Writing.{out_of_range, no_room, shared_refusal, open_refusal, put_refusal, close_refusal, outside, open_call, put_call, close_call}
use Rattle.laws.specs.Runs.{item, Call, opens, closes, coded, result, note, settled, after, run, fresh}
use Rattle.laws.specs.Runs as runs

abbrev calls : List Call
calls = opens 1 7 ∷ closes ∷ runs.puts (item Value 2 (0x61 ∷ []) (0x78 ∷ 0x79 ∷ [])) ∷ closes ∷ []

pub fifty : (run TEST calls (fresh (replicate 60 9))).state ≡ outside 50
unfolding run after settled result coded open_call put_call close_call open_refusal put_refusal close_refusal shared_refusal buffer_refusal out_of_range no_room good apart trailer layout puts bytes
fifty = refl

pub one_closed : (run TEST calls (fresh (replicate 60 9))).ledger.closed ≡ record { seqno = 7; entries = entry.item 0 2 (0x61 ∷ []) (0x78 ∷ 0x79 ∷ []) ∷ [] } ∷ []
unfolding run after settled result coded note open_call put_call close_call open_refusal put_refusal close_refusal shared_refusal buffer_refusal out_of_range no_room good apart trailer layout puts bytes
one_closed = refl
