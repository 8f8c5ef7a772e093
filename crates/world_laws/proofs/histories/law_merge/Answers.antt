use Rattle.world_laws.proofs.Merges.MergedRun.{are_like, counted, has_begun, has_recorded, is_merge, is_only}
use Rattle.world_laws.proofs.histories.law_merge.Goals as goal

pub returns : goal.returns
returns c = record { exact = are_like; order = is_merge; only = is_only; run = has_recorded; moment = has_begun; counts = counted }
