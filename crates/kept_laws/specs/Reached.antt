-- The worlds that a run comes to from a start whose stored entries their texts tell: a kept world stands for such a one.
use Rattle.std.specs.Prelude.{None}
use Rattle.geo_base.specs.Setup.{Setup}
use Rattle.geo_base.specs.World.{World}
use Rattle.frame_values.specs.Told.{IsToldEntry}
use Rattle.kept_laws.specs.Kept.{Kept, opening_kept}
use Rattle.world_laws.specs.Frames.{AllEntries}
use Rattle.world_laws.specs.Reached.{ReachedFrom}
use Rattle.world_laws.specs.Starts.{IsStart}

pub record Reached (s : Setup) (w : World) : Type 0 where
  pub start : World
  pub begins : IsStart s start
  pub told : AllEntries s (IsToldEntry s.clusters None) start
  pub from : ReachedFrom s start w

-- how a start is kept: no link has a packet, and no node has a stamp
abbrev pub started_kept : Setup → World → Kept
started_kept s v = record (opening_kept s) {
  brokers = v.brokers;
  clients = v.clients;
  events = v.events;
  idle = v.idle;
  rounds = v.rounds;
  frame_bytes = v.frame_bytes;
}
