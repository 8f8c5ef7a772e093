use Rattle.merge_history.proofs.Runs.{layout_is, runs_begun, runs_whole}
use Rattle.merge_history.proofs.packet_laws.law_run.Goals as goal

pub returns : goal.returns
returns c = record { run = runs_whole; moment = runs_begun; layout = layout_is }
