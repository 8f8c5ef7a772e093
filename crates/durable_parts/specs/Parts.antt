-- What is durable of a subscription and of a replicator, as the machine's with nothing in memory.
use Rattle.std.specs.Prelude.{◌≡◌, false, List, [], map}
use Rattle.std.specs.List.{AllPairs}
use Rattle.std.specs.Str.{bytes_eq}
use Rattle.geo_base.specs.declared.replicator.ReplicatorState.TheVariants as replicator_state
use Rattle.geo_base.specs.Replicator.{Replicator}
use Rattle.geo_base.specs.Subscription.{Subscription}
use Rattle.durable_parts.specs.declared.durable.DurableReplicator.{DurableReplicator}
use Rattle.durable_parts.specs.declared.durable.DurableSub.{DurableSub}

-- a subscription with nothing in memory
abbrev pub sub_of : DurableSub → Subscription
sub_of d = record { name = d.name; kind = d.kind; replicated = d.replicated; cursor = d.cursor.indexes; seeks = d.seeks; consumers = []; out = []; due = []; read_index = 0; cache = [] }

abbrev pub subs_of : List DurableSub → List Subscription
subs_of ds = map sub_of ds

-- no two subscriptions have one name
abbrev pub AreNamedApart : List Subscription → Type 0
AreNamedApart ss = AllPairs (λ (s t : Subscription). bytes_eq s.name t.name ≡ false) ss

-- a replicator with nothing in memory
abbrev pub replicator_of : DurableReplicator → Replicator
replicator_of d = record { cursor = d.cursor.indexes; session = d.session; state = replicator_state.Closed; read_index = 0; next = 0; pending = [] }

abbrev pub replicators_of : List DurableReplicator → List Replicator
replicators_of ds = map replicator_of ds
