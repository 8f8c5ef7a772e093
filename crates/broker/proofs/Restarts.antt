-- A broker at the start, and over a restart.
use Rattle.std.proofs.Common.{◌≡◌, ℕ, ◌≤◌, List, [], ◌∷◌, length, map, sym, ◌∙◌, ap, subst}
use Rattle.std.specs.Prelude.{None, replicate}
use Rattle.std.specs.List.{AllByRecursion}
use Rattle.geo_base.specs.Broker.{Broker, Site, new_broker}
use Rattle.geo_base.specs.Replicator.{replicator_restarted}
use Rattle.durable_parts.specs.declared.durable.Durable.{Durable}
use Rattle.durable_parts.specs.declared.durable.DurableSub.{DurableSub}
use Rattle.durable_parts.specs.Durable.{broker_of, durable_part}
use Rattle.durable_parts.specs.Parts.{sub_of, subs_of}
use Rattle.broker_state.specs.State.{StateView, no_room}
use Rattle.broker_plans.specs.Storable.{AreStorable}
use Rattle.broker.specs.Node.{IsDurableOf, NodeHolds}
use Rattle.broker.proofs.Keeps.{HasSnapshots}
use Rattle.geo_base.proofs.Lists.{length_of_map}

-- an empty topic
pub new_holds : (h : Site) (clients : ℕ) (b : StateView) → 2 ≤ length h.clusters → b ≡ record { site = h; broker = new_broker (length h.clusters) clients; room = no_room } → NodeHolds b
new_holds h clients b several is = rw is (record { several = several; writable = record { entries = tt; caches = tt; builder = tt } })

pub durable_is : (b : StateView) (d : Durable) → NodeHolds b → length b.broker.replicators ≡ length b.site.clusters → broker_of d ≡ durable_part b.broker → d.own ≡ b.site.own → d.store.per_ledger ≡ b.site.per_ledger
    → IsDurableOf b.site d
durable_is b d holds many is own per = record {
  own = own;
  per_ledger = per;
  replicators = ap (λ (c : Broker). length c.replicators) is ∙ length_of_map replicator_restarted b.broker.replicators ∙ many;
  entries = subst (AreStorable b.site) (sym (ap (λ (c : Broker). c.entries) is)) holds.writable.entries;
}

no_snapshots : (h : Site) (ds : List DurableSub) → AllByRecursion (HasSnapshots h) (map sub_of ds)
no_snapshots h [] = tt
no_snapshots h (d ∷ ds) = (tt, no_snapshots h ds)

-- what it is again
pub restored_holds : (h : Site) (d : Durable) (ds : List DurableSub) (clients : ℕ) (b : StateView) → 2 ≤ length h.clusters → IsDurableOf h d → subs_of ds ≡ d.subs
    → b.broker ≡ record (broker_of d) { receivers = replicate (length d.replicators) None; sessions = replicate clients None } → b.site ≡ h → NodeHolds b
restored_holds h d ds clients b several of subs is site = record {
  several = rw site several;
  writable = rw (site, is) (record { entries = of.entries; caches = subst (AllByRecursion (HasSnapshots h)) subs (no_snapshots h ds); builder = tt });
}
