-- Rising: where one consumer at a time is served, what is sent to one consumer in one session rises.
use Rattle.std.specs.Prelude.{◌≡◌, ℕ, ◌<◌, true, List, length, Option, Some, slice_get}
use Rattle.geo_base.specs.declared.entry.Entry.{Entry}
use Rattle.geo_base.specs.declared.frame.Frame.TheVariants as frame
use Rattle.geo_base.specs.declared.frame.SubKind.{SubKind}
use Rattle.geo_base.specs.declared.marker.ClusterRef.{ClusterRef}
use Rattle.geo_base.specs.declared.packet.Packet.{Packet}
use Rattle.geo_base.specs.declared.position.Position.{Position}
use Rattle.geo_base.specs.Laws.{BetweenEvents, IsShort}
use Rattle.geo_base.specs.Scripted.{IsScripted}
use Rattle.geo_base.specs.Settled.{serves_one}
use Rattle.geo_base.specs.Setup.{Setup, declared_at}
use Rattle.geo_base.specs.Topic.{index_of}
use Rattle.geo_base.specs.World.{ToClient, World, link_at, topic_at}
use Rattle.consumer_laws.specs.Lines.{IsKindLine}

-- one of some packets, of this session, is a message to the consumer of this id that stands at this index of a topic with these ledgers
pub record MessageAt (ledgers : List ℕ) (sent : List Packet) (place session id index : ℕ) : Type 0 where
  pub packet : Packet
  pub at : slice_get sent place ≡ Some packet
  pub same : packet.session ≡ session
  pub position : Position
  pub source : Option ClusterRef
  pub entry : Entry
  pub is : packet.frame ≡ frame.Message id position source entry
  pub stands : index_of ledgers position ≡ Some index

-- of two messages that were ever sent on client c's link from cluster x, in one session, to the consumer of a line of kind Exclusive or
-- Failover, the later one stands at the greater index
abbrev pub IsRising : Setup → World → Type 0
IsRising s w = (c x : ℕ) (n : List ℕ) (kind : SubKind) (id session i j a b : ℕ) → let t = (declared_at s c).topic in let sent = (link_at w.links (ToClient c x)).sent in let ledgers = (topic_at s w t x).ledgers in
    t < length s.topics → x < length s.clusters → IsKindLine (declared_at s c) id n kind → serves_one kind ≡ true
    → i < j → MessageAt ledgers sent i session id a → MessageAt ledgers sent j session id b → a < b

abbrev pub LawRising : Type 0
LawRising = (s : Setup) → IsScripted s → BetweenEvents s (λ w. IsShort w → IsRising s w)
