use Rattle.script_text.proofs.Accepted.{kept_declared}
use Rattle.script_text.proofs.read.finished.Goals as goal

pub finish-requires : goal.finish-requires
finish-requires c = kept_declared c.args.number c.args.draft.now.declared c.requires.kept
