use Rattle.std.proofs.Common.{◌≡◌, ◌+◌, ◌∙◌, ◌∷◌, sym}
use Rattle.std.specs.Prelude.{Ok, Some}
use Rattle.std.proofs.lemmas.Result.{IfOk-weaker}
use Rattle.geo_base.specs.Setup.{Setup}
use Rattle.observation.specs.Observed.{Observation}
use Rattle.script_rows.specs.NameWords.{cut_by}
use Rattle.observed_text.specs.Observing.{lines_observed, nothing_told, read_observation}
use Rattle.observed_text.specs.Starts.{head_of}
use Rattle.observed_text.proofs.Told.{bytes_read}
use Rattle.observed_text.proofs.reading.read_observed.Goals as goal

pub returns-clause-read : goal.returns-clause-read
returns-clause-read c =
    let s : Setup = c.args.scenario.now.setup in let bytes = c.args.bytes.now in let head = c.in-Some.head.now in let lines = c.in-Some.lines.now in
    let n = c.args.line in let quiet = c.in-Some-head_of.quiet in
    let cut : cut_by 10 bytes ≡ head ∷ cut_by 10 lines = c.in-Some.ensures in
    let is : Some quiet ≡ head_of head = sym c.in-Some-head_of.is ∙ c.head_of.ensures in
    let whole = bytes_read s n head bytes lines quiet cut is in
    IfOk-weaker c.read_named-read.result (λ (o : Observation). lines_observed s (nothing_told s quiet) (n + 1) (cut_by 10 lines) ≡ Ok o) (λ (o : Observation). read_observation s n bytes ≡ Ok o)
    (λ o h. whole ∙ h) c.read_named-read.ensures.read
