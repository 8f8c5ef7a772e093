use Rattle.std.proofs.Common.{◌≡◌, ◌≤◌, ◌+◌, ◌∙◌, ap, arith, length}
use Rattle.geo_base.specs.Setup.{Setup}
use Rattle.observation.specs.Observed.{Observation}
use Rattle.observe.specs.Topics.{entries_in}
use Rattle.observed_text.specs.Observing.{SoFar}
use Rattle.observed_text.proofs.Counts.{opening_count}
use Rattle.observed_text.proofs.reading.read_named.Goals as goal

pub returns-in-Ok-clause-few : goal.returns-in-Ok-clause-few
returns-in-Ok-clause-few c =
    let s : Setup = c.args.scenario.now.setup in let first : SoFar = c.in_ok-so_far.so_far in let last : SoFar = c.read_all.new.self in
    let none : entries_in first.seen.topics ≡ 0 = ap (λ (r : SoFar). entries_in r.seen.topics) c.in_ok-so_far.ensures ∙ opening_count s c.args.quiet in
    let few : entries_in last.seen.topics ≤ entries_in first.seen.topics + length c.args.lines.now = c.in-Ok.ensures.few in
    let same : entries_in c.observed.result.topics ≡ entries_in last.seen.topics = ap (λ (o : Observation). entries_in o.topics) c.observed.ensures in
    omega (arith, none, few, same)
