use Rattle.std.proofs.Common.{◌≡◌, All, [], drop}
use Rattle.live_output.specs.Playing.{IsEventStep, IsPlayed}
use Rattle.live_output.specs.Schedules.{longest}
use Rattle.live_output.proofs.played.Played.does_all.Given as goal

-- what is done, and as many as fit of what is left
abbrev pub invariant-loop-place : goal.invariant-loop-place
invariant-loop-place l = record {
  steps : longest l.scenario.setup l.self.steps (drop l.place l.steps) ≡ longest l.scenario.setup [] l.steps;
  events : All (IsEventStep l.scenario.setup) l.self.steps;
  at : IsPlayed l.scenario l.self.steps l.self.world;
}
