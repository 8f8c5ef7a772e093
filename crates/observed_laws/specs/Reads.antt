-- A run that is read from outside, and the law that nothing is found against it.
use Rattle.std.specs.Prelude.{◌≡◌, ℕ, ◌*◌, ◌<◌, ◌≤◌, Bool, true, false, if◌then◌else◌, List, [], length, map, take, Some, slice_get}
use Rattle.std.specs.List.{list_any, range_with_len}
use Rattle.geo_base.specs.declared.entry.Ident.{Ident}
use Rattle.geo_base.specs.declared.event.Step.{Step}
use Rattle.geo_base.specs.declared.frame.Frame.TheVariants as frame
use Rattle.geo_base.specs.declared.packet.Packet.{Packet}
use Rattle.geo_base.specs.declared.position.Position.{Position}
use Rattle.geo_base.specs.Broker.{Broker, replicator_at}
use Rattle.geo_base.specs.Entry.{same_ident}
use Rattle.geo_base.specs.Laws.{IsShort}
use Rattle.geo_base.specs.Position.{no_position, same_position}
use Rattle.geo_base.specs.Run.{run}
use Rattle.geo_base.specs.Scripted.{IsScripted}
use Rattle.geo_base.specs.Settled.{settled}
use Rattle.geo_base.specs.Setup.{Setup, declared_at}
use Rattle.geo_base.specs.World.{ToClient, broker_at, link_at}
use Rattle.observation.specs.declared.said.Said.{Said}
use Rattle.observation.specs.declared.said.Said.TheVariants as said
use Rattle.observation.specs.Findings.{findings_of}
use Rattle.observation.specs.Observed.{Observation, Seen, all_settled, nothing_seen}
use Rattle.observation.specs.Safe.{IsObservedSafe}
use Rattle.trace_laws.specs.Seen.{positions_in, sub_seen}
use Rattle.world_laws.specs.Publishing.{ident_of}

-- of each topic at a cluster, by its number among all, whether it is read, and after how many of the run's steps its cursors are and its
-- entries; and whether it is said that nothing moved meanwhile
pub record Reading : Type 0 where
  pub read : ℕ → Bool
  pub cursors : ℕ → ℕ
  pub entries : ℕ → ℕ
  pub quiet : Bool

-- no cursor is read later than any entries
abbrev pub CursorsFirst : Reading → Type 0
CursorsFirst r = (n m : ℕ) → r.cursors n ≤ r.entries m

-- where it is said that nothing moved, all entries are those of the end
abbrev pub IsQuietWhere : List Step → Reading → Type 0
IsQuietWhere es r = r.quiet ≡ true → (n : ℕ) → length es ≤ r.entries n

abbrev pub broker_after : Setup → List Step → ℕ → ℕ → Broker
broker_after s es k n = broker_at (run s (take k es)) n

-- the entries of one moment, and the cursors of another
abbrev pub seen_of : Setup → Broker → Broker → Seen
seen_of s late early = record {
  is_read = true;
  topic = record { entries = late.entries; positions = positions_in late.ledgers 0 (length late.entries); subs = map sub_seen early.subs };
  received = map (λ y. (replicator_at early y).cursor) (range_with_len 0 (length s.clusters));
}

abbrev pub node_read : Setup → List Step → Reading → ℕ → Seen
node_read s es r n = if r.read n then seen_of s (broker_after s es (r.entries n) n) (broker_after s es (r.cursors n) n) else nothing_seen

abbrev pub observation_of : Setup → List Step → Reading → List Said → Observation
observation_of s es r logs = record {
  topics = map (node_read s es r) (range_with_len 0 (length s.topics * length s.clusters));
  said = logs;
  quiet = r.quiet;
}

-- the logs say at least what is settled by the end
abbrev pub SaysAll : Setup → List Step → Observation → Type 0
SaysAll s es o = (t : ℕ) (n : List ℕ) (g : Ident) → list_any (same_ident g) (settled s es t n) ≡ true → list_any (same_ident g) (all_settled s o t n o.said) ≡ true

-- a client of the topic was sent a receipt for the message, from whichever cluster and on whatever connection, and no duplicate's
pub record WasReceipted (s : Setup) (es : List Step) (t : ℕ) (g : Ident) (p : Position) : Type 0 where
  pub client : ℕ
  pub cluster : ℕ
  pub place : ℕ
  pub packet : Packet
  pub id : ℕ
  pub seq : ℕ
  pub declared : client < length s.clients
  pub there : cluster < length s.clusters
  pub sent : slice_get (link_at (run s es).links (ToClient client cluster)).sent place ≡ Some packet
  pub is : packet.frame ≡ frame.SendReceipt id seq (Some p)
  pub topic : (declared_at s client).topic ≡ t
  pub of : ident_of (declared_at s client) seq ≡ g
  pub stored : same_position p no_position ≡ false

-- and of receipts only such
abbrev pub OnlyReceipts : Setup → List Step → List Said → Type 0
OnlyReceipts s es logs = (k t : ℕ) (g : Ident) (p : Position) → slice_get logs k ≡ Some (said.Receipt t g p) → WasReceipted s es t g p

-- observed: it is safe, so nothing is found
abbrev pub LawObserved : Type 0
LawObserved = (s : Setup) → IsScripted s → (es : List Step) → IsShort (run s es) → (r : Reading) → CursorsFirst r → IsQuietWhere es r
    → (logs : List Said) → SaysAll s es (observation_of s es r logs) → OnlyReceipts s es logs
    → IsObservedSafe s (observation_of s es r logs) × (findings_of s (observation_of s es r logs) ≡ [])
