-- In order: where one consumer at a time is served, what the next get of a client takes comes after all that stands before it.
use Rattle.std.specs.Prelude.{◌≡◌, ℕ, ◌<◌, ◌⊎◌, true, List, length, Option, Some}
use Rattle.geo_base.specs.declared.entry.Entry.{Entry}
use Rattle.geo_base.specs.declared.frame.Frame.TheVariants as frame
use Rattle.geo_base.specs.declared.frame.SubKind.{SubKind}
use Rattle.geo_base.specs.declared.marker.ClusterRef.{ClusterRef}
use Rattle.geo_base.specs.declared.packet.Packet.{Packet}
use Rattle.geo_base.specs.declared.position.Position.{Position}
use Rattle.geo_base.specs.Entry.{goes_to, is_data, same_stream}
use Rattle.geo_base.specs.Link.{next_packet}
use Rattle.geo_base.specs.Safe.{IsEntry}
use Rattle.geo_base.specs.Settled.{IsSettled, SettledSoFar, serves_one}
use Rattle.geo_base.specs.Setup.{Setup, declared_at}
use Rattle.geo_base.specs.World.{ToClient, World, client_at, link_at, topic_at}
use Rattle.consumer_laws.specs.Lines.{IsKindLine}

-- client c's next get takes a message for its sub line in force, on its connection
pub record GetsNext (s : Setup) (w : World) (c : ℕ) (n : List ℕ) (kind : SubKind) (e : Entry) : Type 0 where
  pub packet : Packet
  pub next : next_packet (link_at w.links (ToClient c (client_at s w c).cluster)) ≡ Some packet
  pub current : packet.session ≡ (client_at s w c).connection
  pub connected : (client_at s w c).connected ≡ true
  pub id : ℕ
  pub position : Position
  pub source : Option ClusterRef
  pub is : packet.frame ≡ frame.Message id position source e
  pub sub : (client_at s w c).sub ≡ Some id
  pub line : IsKindLine (declared_at s c) id n kind

-- it stands at that cluster, and each message that stands before it there was handed out
pub record IsNextOf (s : Setup) (w : World) (handed : SettledSoFar) (t x : ℕ) (n : List ℕ) (e : Entry) : Type 0 where
  pub index : ℕ
  pub stands : IsEntry (topic_at s w t x) index e
  pub before : (j : ℕ) (f : Entry) → j < index → IsEntry (topic_at s w t x) j f → is_data f.content ≡ true → IsSettled handed t n f

abbrev pub GetsInOrder : Setup → World → SettledSoFar → Type 0
GetsInOrder s w handed = (c : ℕ) (n : List ℕ) (kind : SubKind) (e : Entry) → let t = (declared_at s c).topic in let x = (client_at s w c).cluster in
    t < length s.topics → x < length s.clusters → serves_one kind ≡ true → GetsNext s w c n kind e → IsNextOf s w handed t x n e

-- and of its producer: each message with a smaller sequence id, that the cluster of its origin has and that is for this one, was handed
-- out, whether this one has it before or not
abbrev pub FirstInOrder : Setup → World → SettledSoFar → Type 0
FirstInOrder s w handed = (c : ℕ) (n : List ℕ) (kind : SubKind) (e : Entry) → let t = (declared_at s c).topic in let x = (client_at s w c).cluster in
    t < length s.topics → x < length s.clusters → serves_one kind ≡ true → GetsNext s w c n kind e
    → (i : ℕ) (f : Entry) → IsEntry (topic_at s w t e.ident.origin) i f → is_data f.content ≡ true → same_stream f.ident e.ident ≡ true → f.ident.seq < e.ident.seq
    → (x ≡ e.ident.origin) ⊎ (goes_to x f.to ≡ true) → IsSettled handed t n f
