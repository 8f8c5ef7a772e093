use Rattle.std.proofs.Common.{◌≡◌, ◌/◌, ◌%◌, ◌<◌, ◌≤◌, ◌∙◌, ℕ, List, length, ap, subst, sym, arith}
use Rattle.std.proofs.Math.Nat.{mod-lt}
use Rattle.geo_base.specs.declared.entry.Entry.{Entry}
use Rattle.geo_base.specs.Broker.{Site}
use Rattle.geo_base.specs.World.{site}
use Rattle.state_nodes.specs.Nodes.{broker_of}
use Rattle.world_laws.specs.Starts.{most_at_start}
use Rattle.world.proofs.Revived.{durable_of, revived_by, row_within}
use Rattle.world.proofs.resuming.revived_node.Goals as goal

pub from_durable-requires-clause-durable : goal.from_durable-requires-clause-durable
from_durable-requires-clause-durable c =
    let s = c.args.scenario.now.setup in let n : ℕ = c.args.number in let found = c.clusters-clusters.result.now in
    let own : n % length found ≡ n % length s.clusters = ap (λ (ns : List (List ℕ)). n % length ns) c.clusters-clusters.ensures.names in
    durable_of s (n / length found) (n % length s.clusters) _ (broker_of c.args.part) c.in_ok-durable.durable
    (c.in-Ok.ensures.site ∙ ap (λ (k : ℕ). site s (n / length found) k) own) c.requires.known c.in_ok-durable.ensures.broker (c.in_ok-durable.ensures.own ∙ own)
    (c.in_ok-durable.ensures.per_ledger ∙ c.per_ledger.ensures)

pub known_there-requires : goal.known_there-requires
known_there-requires c =
    let s = c.args.scenario.now.setup in let n : ℕ = c.args.number in let found = c.clusters-clusters.result.now in
    let size : length found ≡ length s.clusters = ap (λ (ns : List (List ℕ)). length ns) c.clusters-clusters.ensures.names in
    let some : 0 < length s.clusters = omega (arith, c.clusters-clusters.ensures.known.clusters.0) in
    record {
      topic = subst (λ (k : ℕ). n / k < length s.topics) (sym size) (row_within n (length s.clusters) (length s.topics) some c.requires.number);
      cluster = subst (λ (k : ℕ). n % k < length s.clusters) (sym size) (mod-lt n some);
    }

pub into_durable-requires : goal.into_durable-requires
into_durable-requires c = record { opened = c.requires.known.opened; counted = c.requires.known.together }

pub from_durable-requires-clause-clusters : goal.from_durable-requires-clause-clusters
from_durable-requires-clause-clusters c =
    let size : length c.in-Ok.site.clusters ≡ length c.args.scenario.now.setup.clusters = ap (λ (g : Site). length g.clusters) c.in-Ok.ensures.site in
    omega (arith, size, c.clusters-clusters.ensures.known.clusters.0)

pub returns-in-Ok : goal.returns-in-Ok
returns-in-Ok c =
    let s = c.args.scenario.now.setup in let found = c.clusters-clusters.result.now in
    let size : length found ≡ length s.clusters = ap (λ (ns : List (List ℕ)). length ns) c.clusters-clusters.ensures.names in
    let below : length c.as_slice.result.now < most_at_start = c.are_few.ensures.few c.if-not-are_few.false in
    let entries : length c.as_slice.result.now ≡ length c.args.part.entries.items = ap (λ (es : List Entry). length es) c.as_slice.ensures.value in
    let few : length c.args.part.entries.items ≤ most_at_start = omega (arith, below, entries) in
    revived_by s c.args.number (length found) (length c.clients.result.now) (broker_of c.args.part) c.in_ok-durable.durable c.in-Ok.site c.in-Ok.names.items c.from_durable.result
    size c.requires.known c.in_ok-durable.ensures.broker few (ap (λ (ds : _). length ds) c.clients.ensures.clients) c.in-Ok.ensures.site c.in-Ok.ensures.names
    c.from_durable.ensures.topic c.from_durable.ensures.site c.from_durable.ensures.names c.from_durable.ensures.broker
