use Rattle.script_text.proofs.Following.{behind, joined}
use Rattle.script_text.proofs.Growing.{parted}
use Rattle.script_text.proofs.law.schedules_go_on.Goals as goal

pub returns-clause-parted : goal.returns-clause-parted
returns-clause-parted c = parted

pub returns-clause-joined : goal.returns-clause-joined
returns-clause-joined c = joined

pub returns-clause-behind : goal.returns-clause-behind
returns-clause-behind c = behind
