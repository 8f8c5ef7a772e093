use Rattle.live_output.proofs.Longest.{longest_law, settled_law, whole_law, within_law}
use Rattle.live_output.proofs.law.law_schedules.Goals as goal

pub returns : goal.returns
returns c = record { longest = longest_law; within = within_law; settled = settled_law; whole = whole_law }
