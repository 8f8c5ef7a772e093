use Rattle.std.proofs.Common.{◌-◌, ◌≤◌, length, take}
use Rattle.geo_io.specs.Faults.{Stood}
use Rattle.geo_io.specs.Sink.{Gains}
use Rattle.geo_io.proofs.whole.write_all.Given as goal

abbrev pub invariant-loop-out : goal.invariant-loop-out
invariant-loop-out g l = record {
  within : l.out ≤ length l.bytes;
  so_far : Gains (g.K.Sink.held l.fn.sink) (g.K.Sink.held l.sink) (take l.out l.bytes);
  taken : g.K.Sink.taken l.fn.sink l.sink (take l.out l.bytes);
  steady : Stood (g.K.Sink.faults l.fn.sink) (g.K.Sink.faults l.sink);
  later : g.K.Sink.faults l.fn.sink ≤ g.K.Sink.faults l.sink;
}

abbrev pub decreases-loop-out : goal.decreases-loop-out
decreases-loop-out g l = length l.bytes - l.out
