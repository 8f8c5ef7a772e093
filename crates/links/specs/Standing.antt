-- What the kept links stand for of the machine's: of each link the packets that are not taken yet, one by one, as bytes that are
-- the canonical text of the frame. names are those of the clusters, by their numbers.
use Rattle.std.specs.Prelude.{◌≡◌, ℕ, ◌≤◌, true, List, [], ◌∷◌, ◌++◌, length, drop, ⊤}
use Rattle.geo_base.specs.declared.packet.Out.{Out}
use Rattle.geo_base.specs.declared.packet.Packet.{Packet}
use Rattle.geo_base.specs.Happening.{all_discarded}
use Rattle.geo_base.specs.Link.{Link}
use Rattle.geo_base.specs.World.{Links}
use Rattle.frame_values.specs.Coded.{IsWritten}
use Rattle.frame_values.specs.Texts.{is_readable}
use Rattle.geo_base.specs.declared.packet.WireOut.{WireOut}
use Rattle.wire_ends.specs.declared.packet.WirePacket.{WirePacket}
use Rattle.links.specs.Each.{Each}
use Rattle.links.specs.Queues.{Queue, WireLinks}

pub record PacketStands (names : List (List ℕ)) (p : WirePacket) (v : Packet) : Type 0 where
  pub session : p.session ≡ v.session
  pub stamp : p.stamp ≡ v.stamp
  pub frame : IsWritten names v.frame p.frame

pub record OutStands (names : List (List ℕ)) (o : WireOut) (v : Out) : Type 0 where
  pub to : o.to ≡ v.to
  pub session : o.session ≡ v.session
  pub frame : IsWritten names v.frame o.frame

-- what is sent in an event, one by one
abbrev pub OutsStand : List (List ℕ) → List WireOut → List Out → Type 0
OutsStand names = Each (OutStands names)

pub record LinkStands (names : List (List ℕ)) (q : Queue) (l : Link) : Type 0 where
  pub taken : l.taken ≤ length l.sent
  pub untaken : Each (PacketStands names) q (drop l.taken l.sent)

-- the machine's tables one after another, as their rows, and all links of them one after another
abbrev pub rows_of : Links → List (List Link)
rows_of vs = vs.forward ++ (vs.back ++ (vs.to_broker ++ vs.to_client))

unfoldable pub joined : {A : Type 0} → List (List A) → List A
joined [] = []
joined (row ∷ rows) = row ++ joined rows

-- all rows are as long as this
unfoldable pub AreRows : {A : Type 0} → ℕ → List (List A) → Type 0
AreRows n [] = ⊤
AreRows n (row ∷ rows) = (length row ≡ n) × AreRows n rows

-- a table of so many rows and columns
pub record IsTable {A : Type 0} (rows columns : ℕ) (m : List (List A)) : Type 0 where
  pub count : length m ≡ rows
  pub each : AreRows columns m

-- the machine's tables have a row for each of so many brokers and clients
pub record AreTables (ls : WireLinks) (vs : Links) : Type 0 where
  pub forward : IsTable ls.brokers ls.clusters vs.forward
  pub back : IsTable ls.brokers ls.clusters vs.back
  pub to_broker : IsTable ls.clients ls.clusters vs.to_broker
  pub to_client : IsTable ls.clients ls.clusters vs.to_client

pub record LinksStand (names : List (List ℕ)) (ls : WireLinks) (vs : Links) : Type 0 where
  pub clusters : ls.clusters ≡ length names
  pub tables : AreTables ls vs
  pub links : Each (LinkStands names) ls.queues (joined (rows_of vs))

-- the machine's links after a stop of everything
abbrev pub stopped_links : Links → Links
stopped_links vs = record {
  forward = all_discarded vs.forward;
  back = all_discarded vs.back;
  to_broker = all_discarded vs.to_broker;
  to_client = all_discarded vs.to_client;
}

-- bytes that can't be read are sent by nobody
abbrev pub IsReadableOut : Out → Type 0
IsReadableOut v = is_readable v.frame ≡ true
