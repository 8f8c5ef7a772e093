use Rattle.kept_laws.proofs.Reaching.{event_reached, ground, halt_reached, idle_reached, opening_reached, round_reached, stop_reached, told_frames}
use Rattle.kept_laws.proofs.laws.law_reached.Goals as goal

pub returns : goal.returns
returns c = record {
  told = told_frames;
  ground = ground;
  opening = opening_reached;
  event = event_reached;
  halt = halt_reached;
  stop = stop_reached;
  idle = idle_reached;
  round = round_reached;
}
