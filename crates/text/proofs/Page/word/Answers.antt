use Rattle.text.proofs.Laws.{put}
use Rattle.text.proofs.Page.word.Goals as goal

pub returns : goal.returns
returns c = put c.args.self.now c.args.word.now _ c.requires c.copy_from_slice.ensures.after
