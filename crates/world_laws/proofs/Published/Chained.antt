-- What is kept of each client in every world: where it is, what it sent, what came to it, and what it got.
use Rattle.std.proofs.Common.{◌≡◌, ℕ, ◌<◌, List, length, sym, subst}
use Rattle.std.specs.Prelude.{slice_set}
use Rattle.std.proofs.lemmas.Bool.{ltb-true}
use Rattle.std.proofs.lemmas.List.{get_or-set_same}
use Rattle.world_laws.proofs.Types.{Ident}
use Rattle.geo_base.specs.Broker.{Broker, no_broker}
use Rattle.geo_base.specs.Scripted.{IsScripted}
use Rattle.geo_base.specs.Setup.{Setup, declared_at}
use Rattle.geo_base.specs.World.{World, client_at, node, topic_at}
use Rattle.world_laws.specs.Publishing.{IsStored}
use Rattle.world_laws.proofs.Clients.ClientLinks.{Packets, SentDown, SentUp}
use Rattle.world_laws.proofs.Clients.Meeting.{MeetsAll}
use Rattle.world_laws.proofs.Merges.ClientRoams.{IsCluster, good_client}
use Rattle.world_laws.proofs.Published.ClientPackets.{Told}
use Rattle.world_laws.proofs.Published.Homes.{IsHome}
use Rattle.world_laws.proofs.Published.OwnMessages.{OwnPublished, Publishes}
use Rattle.world_laws.proofs.Replicating.Effects.{Each, each_map}
use Rattle.world_laws.proofs.Replicating.Sizes.{IsThere, Sized, node_there}
use Rattle.world_laws.proofs.Snapshotting.Answering.{Numbered}
use Rattle.world_laws.proofs.Snapshotting.Grows.{Grown}
use Rattle.world_laws.proofs.Snapshotting.Hearing.{grown_get}
use Rattle.world_laws.proofs.Snapshotting.Positions.{Answered}

-- ---- what is known of client c

-- what it got stands at a cluster
abbrev pub GotThere : Setup → World → ℕ → Ident → Type 0
GotThere s w t g = (x : ℕ) × (x < length s.clusters) × IsStored (topic_at s w t x) g

-- what it meets, where it is, what it ever sent and was sent, and what it got
pub record Knows (s : Setup) (c : ℕ) (w : World) : Type 0 where
  pub meets : MeetsAll s c w
  pub home : IsHome (declared_at s c) (client_at s w c)
  pub cluster : c < length s.clients → IsCluster s (client_at s w c).cluster
  pub up : (x : ℕ) → Packets (Publishes s c x) (SentUp w.links c x)
  pub down : (x : ℕ) → IsThere s (declared_at s c).topic x → Packets (Told (declared_at s c) x (topic_at s w (declared_at s c).topic x)) (SentDown w.links c x)
  pub got : c < length s.clients → Each (GotThere s w (declared_at s c).topic) (client_at s w c).got

-- of all clients, over what is kept of topics; and each topic's own messages are published
pub record Chained (s : Setup) (w : World) : Type 0 where
  pub ground : Answered s w
  pub own : (t x : ℕ) → IsThere s t x → Each (OwnPublished s t x) (topic_at s w t x).entries
  pub clients : (c : ℕ) → Knows s c w

pub numbered_at : (s : Setup) (w : World) (t x : ℕ) → Answered s w → IsThere s t x → Numbered (topic_at s w t x).entries (topic_at s w t x).ledgers
numbered_at s w t x ground there = (ground.1 t x there).numbered

-- the topic of a client is there
pub there_of : (s : Setup) → IsScripted s → (c x : ℕ) → c < length s.clients → x < length s.clusters → IsThere s (declared_at s c).topic x
there_of s scripted c x lt small = (ltb-true _ _ (good_client s c scripted lt).topic, small)

-- the topic of a client where it is declared
pub home_there : (s : Setup) → IsScripted s → (c : ℕ) → c < length s.clients → IsThere s (declared_at s c).topic (declared_at s c).cluster
home_there s scripted c lt = there_of s scripted c (declared_at s c).cluster lt (ltb-true _ _ (good_client s c scripted lt).cluster)

-- what was got stands on where topics have grown
pub got_longer : (s : Setup) (w w' : World) (t : ℕ) (g : Ident) → t < length s.topics → Grown s w w' → GotThere s w t g → GotThere s w' t g
got_longer s w w' t g there grown h =
    let x = h.0 in let b = topic_at s w t x in let b' = topic_at s w' t x in let v = h.2 in (
      x,
      h.1,
      record {
        index = v.index;
        entry = v.entry;
        stands = grown_get b.entries b'.entries b.ledgers b'.ledgers (grown t x (there, h.1)) v.index v.entry v.stands;
        message = v.message;
        named = v.named;
      },
    )

pub all_got_longer : (s : Setup) (w w' : World) (c : ℕ) (is : List Ident) → IsScripted s → c < length s.clients → Grown s w w' → Each (GotThere s w (declared_at s c).topic) is
    → Each (GotThere s w' (declared_at s c).topic) is
all_got_longer s w w' c is scripted lt grown h =
    each_map (GotThere s w (declared_at s c).topic) (GotThere s w' (declared_at s c).topic) (λ g k. got_longer s w w' (declared_at s c).topic g (ltb-true _ _ (good_client s c scripted lt).topic) grown k) is h

-- ---- one broker is set

new_there : (s : Setup) (w : World) (t x : ℕ) (b : Broker) → Sized s w → IsThere s t x → topic_at s (record w { brokers = slice_set w.brokers (node s t x) b }) t x ≡ b
new_there s w t x b z there = get_or-set_same w.brokers (node s t x) b no_broker (node_there s w t x z there)

-- the broker that is set is that of the topic there
pub same_there : (s : Setup) (w : World) (t x u v : ℕ) (b : Broker) → Sized s w → IsThere s u v → t ≡ u → x ≡ v → b ≡ topic_at s (record w { brokers = slice_set w.brokers (node s t x) b }) u v
same_there s w t x u v b z there e e' =
    let w' : World = record w { brokers = slice_set w.brokers (node s t x) b } in
    let here : IsThere s t x = (subst (λ (n : ℕ). n < length s.topics) (sym e) there.0, subst (λ (n : ℕ). n < length s.clusters) (sym e') there.1) in
    sym (subst (λ (n : ℕ). topic_at s w' u n ≡ b) e' (subst (λ (n : ℕ). topic_at s w' n x ≡ b) e (new_there s w t x b z here)))
