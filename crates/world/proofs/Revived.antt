-- A broker that goes on from what is durable of it.
use Rattle.std.proofs.Common.{◌≡◌, ℕ, ◌*◌, ◌/◌, ◌%◌, ◌<◌, ◌≤◌, List, [], length, sym, ap, subst, ◌∙◌}
use Rattle.std.specs.Prelude.{None, Result, Ok, Err, IfOk, replicate}
use Rattle.std.proofs.Math.Nat.{div-lt_iff_lt-mul}
use Rattle.geo_base.specs.declared.memory.Memory.{Memory}
use Rattle.geo_base.specs.Broker.{Broker, Site}
use Rattle.geo_base.specs.Setup.{Setup, sub_names}
use Rattle.geo_base.specs.World.{site}
use Rattle.broker_plans.specs.Storable.{AreStorable}
use Rattle.durable_parts.specs.declared.durable.Durable.{Durable}
use Rattle.durable_parts.specs.Durable.{broker_of}
use Rattle.state_items.specs.Fitting.{AllFit}
use Rattle.state_nodes.specs.Known.{IsKnownEntry, IsKnownNode}
use Rattle.broker.specs.Node.{IsDurableOf, BrokerView}
use Rattle.world_laws.specs.Starts.{most_at_start}
use Rattle.world.specs.Saving.{IsRevived}
use Rattle.world.proofs.ReadEntries.{all_storable}

pub row_within : (n c rows : ℕ) → 0 < c → n < rows * c → n / c < rows
row_within n c rows some lt = (div-lt_iff_lt-mul {k = c} {x = n} {y = rows} some).1 lt

pub durable_of : (s : Setup) (t x : ℕ) (h : Site) (b : Broker) (d : Durable) → h ≡ site s t x → IsKnownNode s.per_ledger s.clusters x b → broker_of d ≡ b → d.own ≡ x
    → d.store.per_ledger ≡ s.per_ledger → IsDurableOf h d
durable_of s t x h b d is known broker own per = record {
  own = own ∙ sym (ap (λ (g : Site). g.own) is);
  per_ledger = per ∙ sym (ap (λ (g : Site). g.per_ledger) is);
  replicators = ap (λ (c : Broker). length c.replicators) broker ∙ known.all_replicators ∙ sym (ap (λ (g : Site). length g.clusters) is);
  entries =
      subst (AreStorable h) (sym (ap (λ (c : Broker). c.entries) broker))
      (all_storable h b.entries (subst (λ (g : Site). AllFit (IsKnownEntry g.clusters g.own) [] b.entries) (sym is) known.entries));
}

abbrev restored : Broker → ℕ → ℕ → Broker
restored b clusters clients = record b { receivers = replicate clusters None; sessions = replicate clients None }

is_revived : (s : Setup) (n : ℕ) (b : Broker) (d : Durable) (v : BrokerView) (clients : ℕ) → let c = length s.clusters in
    IsKnownNode s.per_ledger s.clusters (n % c) b → broker_of d ≡ b → length b.entries ≤ most_at_start → clients ≡ length s.clients
    → v.topic ≡ n / c → v.site ≡ site s (n / c) (n % c) → v.names ≡ sub_names s (n / c)
    → v.broker ≡ record (broker_of d) { receivers = replicate (length d.replicators) None; sessions = replicate clients None } → IsRevived s n b v
is_revived s n b d v clients known broker few many topic here names is = record {
  node = record { topic = topic; site = here; names = names };
  broker =
      is ∙ ap (λ (c : Broker). restored c (length c.replicators) clients) broker
      ∙ ap (λ (k : ℕ). restored b k clients) known.all_replicators ∙ ap (λ (k : ℕ). restored b (length s.clusters) k) many;
  few = few;
}

-- the same of the broker that was made, with m clusters found
pub revived_by : (s : Setup) (n m clients : ℕ) (b : Broker) (d : Durable) (g : Site) (names : List (List ℕ)) (r : Result BrokerView Memory)
    → m ≡ length s.clusters → IsKnownNode s.per_ledger s.clusters (n % length s.clusters) b → broker_of d ≡ b → length b.entries ≤ most_at_start → clients ≡ length s.clients
    → g ≡ site s (n / m) (n % m) → names ≡ sub_names s (n / m) → IfOk r (λ v. v.topic ≡ n / m) → IfOk r (λ v. v.site ≡ g) → IfOk r (λ v. v.names ≡ names)
    → IfOk r (λ v. v.broker ≡ record (broker_of d) { receivers = replicate (length d.replicators) None; sessions = replicate clients None }) → IfOk r (λ v. IsRevived s n b v)
revived_by s n m clients b d g names (Ok v) size known broker few many here told topic at called is =
    is_revived s n b d v clients known broker few many (topic ∙ ap (λ (k : ℕ). n / k) size) (at ∙ here ∙ ap (λ (k : ℕ). site s (n / k) (n % k)) size)
    (called ∙ told ∙ ap (λ (k : ℕ). sub_names s (n / k)) size) is
revived_by s n m clients b d g names (Err e) size known broker few many here told topic at called is = tt
