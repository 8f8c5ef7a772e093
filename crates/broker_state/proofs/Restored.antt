-- The parts of a broker that starts again are those of the site's broker.
use Rattle.std.proofs.Common.{◌≡◌, ◌∙◌, length}
use Rattle.std.specs.Prelude.{Result, Ok, Err, IfOk}
use Rattle.topic_store.specs.Table.{Tells}
use Rattle.durable_parts.specs.declared.durable.Durable.{Durable}
use Rattle.geo_base.specs.Broker.{Site}
use Rattle.broker_state.specs.Parts.{AreParts}
use Rattle.broker_state.specs.State.{marker_number}
use Rattle.broker_state.specs.declared.parts.InMemory.{InMemory}
use Rattle.broker_state.specs.declared.parts.Parts.{Parts}

pub restored_parts : {E : Type 0} (h : Site) (d : Durable) (m : InMemory) (r : Result Parts E) → IfOk r (λ p. p.store ≡ d.store)
    → IfOk r (λ p. p.tables.replicators.replicators ≡ d.replicators) → IfOk r (λ p. p.tables.replicators.own ≡ d.own) → IfOk r (λ p. p.memory ≡ m) → d.own ≡ h.own → d.store.per_ledger ≡ h.per_ledger
    → length d.replicators ≡ length h.clusters → Tells m.dedup.rows d.store.entries → m.next_marker ≡ marker_number d.own d.store.entries
    → length m.receivers.items ≡ length h.clusters → IfOk r (AreParts h)
restored_parts h d m (Err e) store replicators table memory own per many told marker receivers = tt
restored_parts h d m (Ok p) store replicators table memory own per many told marker receivers = record {
  told = rw (memory, store) told;
  marker = rw (memory, store, ← own) marker;
  of_site = record { per_ledger = rw store per; sends = table ∙ own; replicators = rw replicators many; receivers = rw memory receivers };
}
