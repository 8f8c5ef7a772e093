-- A script has few nodes.
use Rattle.std.proofs.Common.{◌^◌, ◌<◌, arith}
use Rattle.geo_base.specs.Nodes.{node_count}
use Rattle.geo_base.specs.Scripted.{IsScripted}
use Rattle.geo_base.specs.Setup.{Setup}
use Rattle.merge_history.specs.Ends.{layout_of}
use Rattle.merge_history.specs.Peers.{IsLayout}
use Rattle.world_laws.proofs.Merges.FewNodes.{few_brokers, few_clients}

pub few_nodes : (s : Setup) → IsScripted s → node_count s < 2 ^ 32
few_nodes s h = let a = few_brokers s h in let b = few_clients s h in omega (arith, a, b)

pub is_layout : (s : Setup) → IsScripted s → IsLayout (layout_of s)
is_layout s h =
    let some = h.clusters.0 in let few = h.clusters.1 in record { some = omega (arith, some); few = omega (arith, few); brokers = few_brokers s h }
