-- What does not come again in the run of a script.
use Rattle.std.proofs.Common.{◌≡◌}
use Rattle.std.specs.Prelude.{None}
use Rattle.geo_base.specs.Scripted.{IsScripted}
use Rattle.geo_base.specs.World.{opening_world}
use Rattle.script_text.specs.Script.{Script}
use Rattle.run_report.specs.Headline.{NothingComesAgain}
use Rattle.run_report.specs.Reports.{exceeded_limit}
use Rattle.run_report.proofs.ComesNot.{comes_not, of_opening}
use Rattle.run_report.proofs.ShortSettling.{taken_short}

pub nothing_again : (n : Script) → IsScripted n.setup → exceeded_limit n ≡ None → NothingComesAgain n
nothing_again n scripted none =
    comes_not n.setup (opening_world n.setup) n.steps (of_opening n.setup scripted n.steps) (λ k at. taken_short n.setup scripted n.steps none k at)
