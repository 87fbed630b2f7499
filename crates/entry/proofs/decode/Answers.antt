use Rattle.std.proofs.Common.{arith, Ok, Err}
use Rattle.std.proofs.lemmas.Grind.{common_steps}
use Rattle.dialect.specs.Asked.{image_refusal}
use Rattle.entry.specs.Decoded.{decoded, or_else}
use Rattle.entry.specs.declared.NoEntry.TheVariants.{Refused}
use Rattle.refusal.specs.declared.Refusal.TheVariants.{State}
use Rattle.entry.proofs.Means.{answered}
use Rattle.entry.proofs.decode.Goals as goal

pub returns-in_err-journal : goal.returns-in_err-journal
unfolding decoded or_else image_refusal
returns-in_err-journal c = let a = c.args in answered a.d a.image.now a.at c.from_residual.result (grind (arith, common_steps))

pub returns-then-image-at : goal.returns-then-image-at
unfolding decoded or_else image_refusal
returns-then-image-at c = let a = c.args in answered a.d a.image.now a.at (Err (Refused State)) (grind (arith, common_steps))

pub returns-in_err-entry_at : goal.returns-in_err-entry_at
unfolding decoded or_else image_refusal
returns-in_err-entry_at c = let a = c.args in answered a.d a.image.now a.at c.from_residual-in_err-entry_at.result (grind (arith, common_steps))

pub returns : goal.returns
unfolding decoded or_else image_refusal
returns c = let a = c.args in answered a.d a.image.now a.at (Ok c.in_ok-entry_at.field-0) (grind (arith, common_steps))
