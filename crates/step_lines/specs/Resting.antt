-- Where an event leaves a broker's entries and subscriptions as they are: of what a report shows only replicators may be other then.
use Rattle.std.specs.Prelude.{◌≡◌, ℕ, Bool, true, false, not, ◌&&◌, List, [], ◌∷◌, drop, find, is_some, map, ⊤}
use Rattle.std.specs.Str.{bytes_eq}
use Rattle.broker_state.specs.declared.write.StateWrite.{StateWrite}
use Rattle.broker_state.specs.declared.write.StateWrite.TheVariants as state_write
use Rattle.geo_base.specs.Broker.{Broker, sub_named}
use Rattle.geo_base.specs.Subscription.{Subscription, cleared}
use Rattle.step_lines.specs.declared.noted.NotedBroker.{NotedBroker}
use Rattle.step_lines.specs.Noted.{AreReplicators, IsNoted}

-- whether one from place i on has a name
abbrev pub has_from : List ℕ → ℕ → List Subscription → Bool
has_from n i vs = is_some (find (λ (v : Subscription). bytes_eq v.name n) (drop i vs))

-- whether no two have one name
abbrev pub are_apart : List Subscription → Bool
are_apart [] = true
are_apart (v ∷ vs) = not (is_some (sub_named vs v.name)) && are_apart vs

-- a write of a replicator
abbrev pub is_of_replicator : StateWrite → Bool
is_of_replicator (state_write.Append e stream) = false
is_of_replicator (state_write.Create s latest) = false
is_of_replicator state_write.Delete = false
is_of_replicator (state_write.Sub w) = false
is_of_replicator (state_write.ReplicatorAck y i) = true
is_of_replicator (state_write.SessionNumber y session) = true
is_of_replicator state_write.Ledger = false

abbrev pub are_of_replicators : List StateWrite → Bool
are_of_replicators [] = true
are_of_replicators (w ∷ ws) = is_of_replicator w && are_of_replicators ws

-- b and a have the same entries, and subscriptions with the same durable parts, of which no two have one name
pub record Rests (b a : Broker) : Type 0 where
  pub entries : a.entries ≡ b.entries
  pub subs : map cleared a.subs ≡ map cleared b.subs
  pub apart : are_apart b.subs ≡ true

-- what is noted of a broker of n clusters that was b, where it rests or may not, and what is known of it after the event
abbrev pub IsSeen : Bool → ℕ → Broker → NotedBroker → Type 0
IsSeen true n b k = AreReplicators n b k.replicators.items
IsSeen false n b k = IsNoted n b k

abbrev pub MayRest : Bool → Broker → Broker → Type 0
MayRest true b a = Rests b a
MayRest false b a = ⊤
