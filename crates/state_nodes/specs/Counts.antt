-- What a run counted.
use Rattle.std.specs.Prelude.{ℕ, ◌+◌, nat_le, ◌&&◌, List, ◌++◌, Ok}
use Rattle.geo_base.specs.Run.{most_events, most_sent_bytes}
use Rattle.state_items.specs.declared.rule.Rule.TheVariants as rule
use Rattle.state_items.specs.Reading.{◌>>=◌, Read, judge, number_at, number_within}
use Rattle.state_items.specs.Texts.{number}
use Rattle.state_nodes.specs.declared.counts.Counts.{Counts}
use Rattle.state_items.specs.Limits.{most_count}

abbrev pub counts_text : Counts → List ℕ
counts_text c = number c.events ++ (number c.idle ++ (number c.rounds ++ number c.frame_bytes))

-- events and idle events together are judged at the second
unfoldable pub counts_at : List ℕ → Read Counts
counts_at bytes = do
  events ← number_within most_count rule.Count bytes
  idle ← number_at events.1
  few ← judge (nat_le idle.0 most_count && nat_le (events.0 + idle.0) most_events) events.1 rule.Count
  rounds ← number_within most_count rule.Count idle.1
  sent ← number_within most_sent_bytes rule.Count rounds.1
  Ok (record { events = events.0; idle = idle.0; rounds = rounds.0; frame_bytes = sent.0 }, sent.1)
