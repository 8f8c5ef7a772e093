use Rattle.std.proofs.Common.{◌≡◌, ◌-◌, ◌^◌, min, take}
use Rattle.geo_base.specs.Topic.{next_marker}
use Rattle.durable_parts.proofs.recovery.next_marker.Given as goal

abbrev pub invariant-loop-i : goal.invariant-loop-i
invariant-loop-i g l = l.next ≡ min (next_marker l.own (take l.i (g.S.EntryStore.entries l.store))) (2 ^ 64 - 1)
