-- What is promised of `observe` (own).
use Rattle.std.specs.Prelude.{◌≡◌, ◌≢◌, List, ℕ, [], Option, Some, IsOkAnd}
use Rattle.observation.specs.Findings.{findings_of}
use Rattle.observation.specs.Safe.{IsObservedSafe}
use Rattle.observe.specs.Topics.{entries_in}
use Rattle.observed_text.specs.Findings.{finding_lines, safe_line}
use Rattle.observed_text.specs.Starts.{declarations_before}
use Rattle.script_text.specs.Rules.{script_of}
use Rattle.geo_top.specs.declared.top.command.Command.{Command}
use Rattle.geo_top.specs.declared.top.status.Status.{Status}
use Rattle.geo_top.specs.declared.top.status.Status.TheVariants as status
use Rattle.geo_top.specs.Commands.{observe_command}
use Rattle.geo_top.specs.Outputs.{observation_in}

pub record IsJudged (c : Option Command) (input output : List ℕ) (s : Status) : Type 0 where
  -- With Ok, what the bytes after the declarations say is safe: nothing is found against it, and the output tells how many entries it has;
  pub safe : s ≡ status.Ok → c ≡ Some observe_command
      → IsOkAnd (script_of (declarations_before input)) (λ n. IsOkAnd (observation_in input n) (λ o. IsObservedSafe n.setup o × (output ≡ safe_line (entries_in o.topics))))
  -- with Found, the output has a line for each finding, which are some.
  pub found : s ≡ status.Found → c ≡ Some observe_command
      → IsOkAnd (script_of (declarations_before input)) (λ n. IsOkAnd (observation_in input n) (λ o. (findings_of n.setup o ≢ []) × (output ≡ finding_lines n.setup (findings_of n.setup o))))
