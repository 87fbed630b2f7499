use Rattle.std.proofs.Common.{◌∙◌}
use Rattle.number.proofs.Bytes.{rotated64}
use Rattle.number.proofs.rotl64.Goals as goal

pub returns : goal.returns
returns c = c.rotate_left.ensures ∙ rotated64 c.args.x c.args.k c.requires.0 c.requires.1 c.ranges.x.fits
