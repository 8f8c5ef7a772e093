use Rattle.world_laws.proofs.KeptRuns.ResumedRuns.{resumed_law}
use Rattle.world_laws.proofs.KeptRuns.SavedRuns.{reached_law}
use Rattle.geo_top.proofs.OneRun.{answers_same, files_same, kept_is, text_is}
use Rattle.geo_top.proofs.law.resumed_runs_are_one.Goals as goal

pub returns-clause-answers : goal.returns-clause-answers
returns-clause-answers c =
    λ n m es k is. answers_same resumed_law n m es (reached_law.opening n.setup) (kept_is reached_law n k) k is

pub returns-clause-texts : goal.returns-clause-texts
returns-clause-texts c = text_is

pub returns-clause-files : goal.returns-clause-files
returns-clause-files c =
    λ text lines input n es a is k said answer. files_same resumed_law text lines input n es a (reached_law.opening n.setup) (kept_is reached_law n k.kept) is k said answer
