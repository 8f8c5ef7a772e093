-- What is published, stored, receipted and got: from a pub line of a script to the client that got its message.
use Rattle.std.specs.List.{list_any}
use Rattle.std.specs.Prelude.{◌≡◌, ◌⊎◌, ℕ, ◌<◌, ◌≤◌, ◌==◌, Bool, true, false, List, length, filter, Option, Some, slice_get}
use Rattle.geo_base.specs.declared.client.Line.TheVariants as line
use Rattle.geo_base.specs.declared.entry.Entry.{Entry}
use Rattle.geo_base.specs.declared.entry.Ident.{Ident}
use Rattle.geo_base.specs.declared.entry.Targets.{Targets}
use Rattle.geo_base.specs.declared.frame.Frame.TheVariants as frame
use Rattle.geo_base.specs.declared.marker.ClusterRef.{ClusterRef}
use Rattle.geo_base.specs.declared.packet.Packet.{Packet}
use Rattle.geo_base.specs.declared.position.Position.{Position}
use Rattle.geo_base.specs.Broker.{Broker}
use Rattle.geo_base.specs.Client.{new_client, published}
use Rattle.geo_base.specs.Entry.{is_data, same_stream}
use Rattle.geo_base.specs.Getting.{seq_of}
use Rattle.geo_base.specs.Laws.{Always}
use Rattle.geo_base.specs.Offering.{source_of}
use Rattle.geo_base.specs.Position.{no_position, same_position}
use Rattle.geo_base.specs.Safe.{IsEntry}
use Rattle.geo_base.specs.Scripted.{IsScripted}
use Rattle.geo_base.specs.Setup.{Declared, Setup, declared_at}
use Rattle.geo_base.specs.Topic.{index_of}
use Rattle.geo_base.specs.World.{ToClient, World, client_at, link_at, topic_at}

-- NOTHING IS INVENTED

-- e is the message of a pub line of d, and nothing else is in it
pub record IsPublishedBy (s : Setup) (d : Declared) (e : Entry) : Type 0 where
  pub at : ℕ
  pub seq : ℕ
  pub to : Targets
  pub key : Option (List ℕ)
  pub text : List ℕ
  pub says : slice_get d.lines at ≡ Some (line.Pub seq to key text)
  pub is : e ≡ published s d (new_client d) seq to key text

-- of a client of topic t that is declared at x
pub record IsPublished (s : Setup) (t x : ℕ) (e : Entry) : Type 0 where
  pub client : ℕ
  pub declared : client < length s.clients
  pub topic : (declared_at s client).topic ≡ t
  pub cluster : (declared_at s client).cluster ≡ x
  pub by : IsPublishedBy s (declared_at s client) e

-- each message that stands anywhere is that of a pub line of a client which is declared where the message was stored first
abbrev pub NothingInvented : Setup → World → Type 0
NothingInvented s w = (t x i : ℕ) (e : Entry) → x < length s.clusters → IsEntry (topic_at s w t x) i e → is_data e.content ≡ true → IsPublished s t e.ident.origin e

-- A RECEIPT IS OF WHAT STANDS

-- the identity of what a client publishes under a sequence id
abbrev pub ident_of : Declared → ℕ → Ident
ident_of d seq = record { origin = d.cluster; producer = d.name; seq = seq }

-- the entry of this identity stands at this position
pub record StandsAt (b : Broker) (i : Ident) (p : Position) : Type 0 where
  pub index : ℕ
  pub entry : Entry
  pub stands : IsEntry b index entry
  pub named : entry.ident ≡ i
  pub at : index_of b.ledgers p ≡ Some index

-- an entry of this origin and producer stands that has this sequence id or a greater one: what a broker asks before it calls a SEND a
-- duplicate (Pulsar's manual, message deduplication)
pub record IsReached (b : Broker) (i : Ident) : Type 0 where
  pub index : ℕ
  pub entry : Entry
  pub stands : IsEntry b index entry
  pub same : same_stream entry.ident i ≡ true
  pub reached : i.seq ≤ entry.ident.seq

-- what a SEND_RECEIPT says: it names a position, and unless that is -1:-1 the message stands there. -1:-1 is the answer to a duplicate, a
-- message whose sequence id, or a greater one, stood before
pub record ReceiptHolds (b : Broker) (i : Ident) (o : Option Position) : Type 0 where
  pub position : Position
  pub told : o ≡ Some position
  pub stored : same_position position no_position ≡ false → StandsAt b i position
  pub reached : IsReached b i

-- each that a client was ever sent, taken or not, on whatever connection, comes from the cluster where it is declared
abbrev pub ReceiptsHold : Setup → World → Type 0
ReceiptsHold s w = (c x i : ℕ) (p : Packet) (id seq : ℕ) (o : Option Position) → c < length s.clients → x < length s.clusters
    → slice_get (link_at w.links (ToClient c x)).sent i ≡ Some p → p.frame ≡ frame.SendReceipt id seq o
    → let d = declared_at s c in (x ≡ d.cluster) × ReceiptHolds (topic_at s w d.topic x) (ident_of d seq) o

-- WHAT IS GIVEN STANDS

-- what a MESSAGE says: this very entry, a message, stands at its position there, and the cluster that it names as its source stored it first
pub record MessageHolds (b : Broker) (x : ℕ) (p : Position) (source : Option ClusterRef) (e : Entry) : Type 0 where
  pub index : ℕ
  pub stands : IsEntry b index e
  pub at : index_of b.ledgers p ≡ Some index
  pub message : is_data e.content ≡ true
  pub from : source ≡ source_of x e

-- each that a client was ever sent, taken or not
abbrev pub MessagesHold : Setup → World → Type 0
MessagesHold s w = (c x i : ℕ) (q : Packet) (id : ℕ) (p : Position) (source : Option ClusterRef) (e : Entry) → c < length s.clients → x < length s.clusters
    → slice_get (link_at w.links (ToClient c x)).sent i ≡ Some q → q.frame ≡ frame.Message id p source e
    → MessageHolds (topic_at s w (declared_at s c).topic x) x p source e

-- a message of this identity stands in a topic
pub record IsStored (b : Broker) (g : Ident) : Type 0 where
  pub index : ℕ
  pub entry : Entry
  pub stands : IsEntry b index entry
  pub message : is_data entry.content ≡ true
  pub named : entry.ident ≡ g

-- each identity that a client got is that of a message that stands at a cluster
abbrev pub GotStands : Setup → World → Type 0
GotStands s w = (c i : ℕ) (g : Ident) → c < length s.clients → slice_get (client_at s w c).got i ≡ Some g
    → (x : ℕ) × (x < length s.clusters) × IsStored (topic_at s w (declared_at s c).topic x) g

-- all four: a chain from the line to the client that got its message
pub record IsChain (s : Setup) (w : World) : Type 0 where
  pub invented : NothingInvented s w
  pub receipts : ReceiptsHold s w
  pub messages : MessagesHold s w
  pub got : GotStands s w

abbrev pub LawPublished : Type 0
LawPublished = (s : Setup) → IsScripted s → Always s (λ w settled. IsChain s w)

-- EACH PUBLISH IS ANSWERED FOR

-- an error was counted; or a message of its producer stands that has its sequence id or a greater one, and where no duplicate was counted,
-- it stands itself
abbrev pub IsAnsweredFor : ℕ → ℕ → Broker → Ident → Type 0
IsAnsweredFor errors duplicates b i = (0 < errors) ⊎ (IsReached b i × (duplicates ≡ 0 → (p : Position) × StandsAt b i p))

abbrev pub is_awaited : ℕ → List ℕ → Bool
is_awaited i is = list_any (λ j. j == i) is

-- each pub line that a client has done, and of which it does not await the receipt
abbrev pub AllAnswered : Setup → World → Type 0
AllAnswered s w = (c i seq : ℕ) (to : Targets) (key : Option (List ℕ)) (text : List ℕ) → c < length s.clients
    → let d = declared_at s c in let k = client_at s w c in slice_get d.lines i ≡ Some (line.Pub seq to key text) → i < k.done
    → is_awaited i k.unanswered ≡ false → IsAnsweredFor k.errors k.duplicates (topic_at s w d.topic d.cluster) (ident_of d seq)

abbrev pub LawAnswered : Type 0
LawAnswered = (s : Setup) → IsScripted s → Always s (λ w settled. AllAnswered s w)

-- RECEIPTS ARE COUNTED ONCE

-- an entry of this client's origin and producer
abbrev pub is_produced_by : Declared → Entry → Bool
is_produced_by d e = same_stream e.ident (ident_of d 0)

-- a client counts no more receipts than there are entries of its own at its cluster
abbrev pub FewReceipts : Setup → World → Type 0
FewReceipts s w = (c : ℕ) → c < length s.clients → let d = declared_at s c in
    (client_at s w c).receipts ≤ length (filter (is_produced_by d) (topic_at s w d.topic d.cluster).entries)

abbrev pub LawCounted : Type 0
LawCounted = (s : Setup) → IsScripted s → Always s (λ w settled. FewReceipts s w)

-- WHAT A DUPLICATE'S RECEIPT MEANS WHERE IDS RISE

-- the sequence ids of a client's pub lines rise from line to line
abbrev pub PubsRise : Declared → Type 0
PubsRise d = (i j m n : ℕ) → i < j → seq_of (slice_get d.lines i) ≡ Some m → seq_of (slice_get d.lines j) ≡ Some n → m < n

-- no publish of it was ever refused: no SEND_ERROR came from its cluster
abbrev pub NoneRefused : Setup → World → ℕ → Type 0
NoneRefused s w c = (i : ℕ) (p : Packet) (id seq code : ℕ) → slice_get (link_at w.links (ToClient c (declared_at s c).cluster)).sent i ≡ Some p
    → p.frame ≡ frame.SendError id seq code → ⊥

-- each SEND_RECEIPT that such a client was ever sent from its cluster, -1:-1 too, is of a message that stands there
abbrev pub RepeatsStand : Setup → World → Type 0
RepeatsStand s w = (c i : ℕ) (p : Packet) (id seq : ℕ) (o : Option Position) → c < length s.clients → PubsRise (declared_at s c) → NoneRefused s w c
    → let d = declared_at s c in slice_get (link_at w.links (ToClient c d.cluster)).sent i ≡ Some p → p.frame ≡ frame.SendReceipt id seq o
    → (q : Position) × StandsAt (topic_at s w d.topic d.cluster) (ident_of d seq) q

abbrev pub LawRepeated : Type 0
LawRepeated = (s : Setup) → IsScripted s → Always s (λ w settled. RepeatsStand s w)
