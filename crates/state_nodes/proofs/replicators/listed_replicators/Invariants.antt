use Rattle.std.proofs.Common.{[]}
use Rattle.durable_parts.specs.Parts.{replicators_of}
use Rattle.state_items.specs.Reading.{many}
use Rattle.state_nodes.specs.Replicators.{place_at}
use Rattle.state_nodes.proofs.Places.{ReadsOn}
use Rattle.state_nodes.proofs.replicators.listed_replicators.Given as goal

abbrev pub invariant-loop-cluster : goal.invariant-loop-cluster
invariant-loop-cluster l =
    ReadsOn l.entries l.own l.clusters l.cluster (replicators_of l.replicators.items) l.rest (many (place_at l.entries l.own) l.clusters [] l.bytes)
