-- The report of a world, line by line (own).
use Rattle.std.specs.Prelude.{ℕ, ◌+◌, nat_lt, nat_le, ◌==◌, Bool, true, false, ◌&&◌, if◌then◌else◌, List, [], ◌∷◌, ◌++◌, length, map, Option, Some, None, slice_index_or, codes, decimal}
use Rattle.geo_base.specs.Types.{ClusterPosition, Content, Entry, Ident, Marker, Position, ReplicatorState, SubKind, Targets}
use Rattle.geo_base.specs.Types.content
use Rattle.geo_base.specs.Types.marker
use Rattle.geo_base.specs.Types.replicator_state
use Rattle.geo_base.specs.Types.sub_kind
use Rattle.geo_base.specs.Types.targets
use Rattle.geo_base.specs.Broker.{Broker, backlog}
use Rattle.geo_base.specs.Client.{Client, target_names}
use Rattle.geo_base.specs.Cursor.{mark}
use Rattle.geo_base.specs.Replicator.{Replicator}
use Rattle.geo_base.specs.Setup.{Declared, Setup}
use Rattle.geo_base.specs.Sizes.{cluster_ref_name}
use Rattle.geo_base.specs.Subscription.{Subscription}
use Rattle.geo_base.specs.Topic.{position_at}
use Rattle.geo_base.specs.World.{World, client_at, topic_at}

-- a byte that a terminal does not show as itself is shown as ?
abbrev pub printed : List ℕ → List ℕ
printed text = map (λ b. if nat_le 32 b && nat_le b 126 then b else 63) text

-- words with a space between each two
abbrev pub words : List (List ℕ) → List ℕ
words [] = []
words (w ∷ []) = w
words (w ∷ v ∷ ws) = w ++ (32 ∷ words (v ∷ ws))

-- names with a comma between each two, ? where there is none
abbrev pub commas : List (List ℕ) → List ℕ
commas [] = codes "?"
commas (w ∷ []) = w
commas (w ∷ v ∷ ws) = w ++ (44 ∷ commas (v ∷ ws))

abbrev pub shown_position : Position → List ℕ
shown_position p = decimal p.ledger ++ (58 ∷ decimal p.entry)

abbrev pub shown_cluster_position : List (List ℕ) → ClusterPosition → List ℕ
shown_cluster_position names r = printed (cluster_ref_name names r.cluster) ++ (61 ∷ shown_position r.position)

abbrev pub shown_targets : List (List ℕ) → Targets → List ℕ
shown_targets names targets.All = codes "*"
shown_targets names (targets.Only bits) = commas (target_names 0 (targets.Only bits) names)

abbrev pub shown_key : Option (List ℕ) → List ℕ
shown_key None = codes "-"
shown_key (Some k) = printed k

abbrev pub shown_marker : List (List ℕ) → Marker → List (List ℕ)
shown_marker names (marker.Request id source) = codes "request" ∷ printed id ∷ printed (cluster_ref_name names source) ∷ []
shown_marker names (marker.Response id answer) = codes "response" ∷ printed id ∷ shown_cluster_position names answer ∷ []
shown_marker names (marker.Snapshot id local remote) = codes "snapshot" ∷ printed id ∷ shown_position local ∷ map (shown_cluster_position names) remote
shown_marker names (marker.Update n remote) = codes "update" ∷ printed n ∷ map (shown_cluster_position names) remote

abbrev pub shown_content : List (List ℕ) → Entry → Content → List (List ℕ)
shown_content names e content.Data = codes "data" ∷ shown_key e.meta.key ∷ printed e.payload ∷ []
shown_content names e (content.Marked m) = shown_marker names m
shown_content names e (content.Unread kind) = codes "unread" ∷ []

abbrev pub shown_ident : List (List ℕ) → Ident → List (List ℕ)
shown_ident names i = slice_index_or names i.origin [] ∷ printed i.producer ∷ decimal i.seq ∷ []

abbrev pub entry_line : List (List ℕ) → Position → Entry → List ℕ
entry_line names p e = words (codes "entry" ∷ shown_position p ∷ shown_ident names e.ident ++ shown_targets names e.to ∷ shown_content names e e.content)

abbrev pub entry_lines : List (List ℕ) → List ℕ → ℕ → List Entry → List (List ℕ)
entry_lines names ledgers i [] = []
entry_lines names ledgers i (e ∷ es) = entry_line names (position_at ledgers i) e ∷ entry_lines names ledgers (i + 1) es

abbrev pub shown_state : ReplicatorState → List ℕ
shown_state replicator_state.Closed = codes "closed"
shown_state replicator_state.Opening = codes "opening"
shown_state replicator_state.Open = codes "open"

abbrev pub replicator_line : List ℕ → Replicator → List ℕ
replicator_line name s = words (codes "sender" ∷ name ∷ codes "session" ∷ decimal s.session ∷ shown_state s.state ∷ codes "mark" ∷ decimal (mark s.cursor) ∷ [])

-- for each other cluster, y being the number of the first one of the lists
abbrev pub replicator_lines : ℕ → ℕ → List (List ℕ) → List Replicator → List (List ℕ)
replicator_lines own y [] ss = []
replicator_lines own y (n ∷ ns) [] = []
replicator_lines own y (n ∷ ns) (s ∷ ss) = if own == y then replicator_lines own (y + 1) ns ss else replicator_line n s ∷ replicator_lines own (y + 1) ns ss

abbrev pub shown_kind : SubKind → List ℕ
shown_kind sub_kind.Exclusive = codes "exclusive"
shown_kind sub_kind.Shared = codes "shared"
shown_kind sub_kind.Failover = codes "failover"
shown_kind sub_kind.KeyShared = codes "keyshared"

abbrev pub shown_replicated : Bool → List ℕ
shown_replicated true = codes "replicated"
shown_replicated false = codes "local"

abbrev pub shown_seeks : ℕ → List (List ℕ)
shown_seeks n = if nat_lt 0 n then codes "seeks" ∷ decimal n ∷ [] else []

abbrev pub sub_line : Broker → Subscription → List ℕ
sub_line b s = words (codes "sub" ∷ s.name ∷ shown_kind s.kind ∷ shown_replicated s.replicated
    ∷ codes "mark" ∷ decimal (mark s.cursor) ∷ codes "backlog" ∷ decimal (backlog b s) ∷ shown_seeks s.seeks)

abbrev pub broker_lines : List (List ℕ) → ℕ → Broker → List (List ℕ)
broker_lines names x b = entry_lines names b.ledgers 0 b.entries ++ (replicator_lines x 0 names b.replicators ++ map (sub_line b) b.subs)

-- of topic t, whose name is topic, at each cluster from x on
abbrev pub cluster_lines : Setup → World → ℕ → List ℕ → ℕ → List (List ℕ) → List (List ℕ)
cluster_lines s w t topic x [] = []
cluster_lines s w t topic x (n ∷ ns) =
    words (codes "topic" ∷ topic ∷ codes "at" ∷ n ∷ []) ∷ broker_lines s.clusters x (topic_at s w t x) ++ cluster_lines s w t topic (x + 1) ns

abbrev pub client_line : Setup → Declared → Client → List ℕ
client_line s d k = words (codes "client" ∷ d.name ∷ codes "at" ∷ slice_index_or s.clusters k.cluster [] ∷ codes "lines" ∷ (decimal k.done ++ (47 ∷ decimal (length d.lines)))
    ∷ codes "receipts" ∷ decimal k.receipts ∷ codes "duplicates" ∷ decimal k.duplicates ∷ codes "errors" ∷ decimal k.errors ∷ [])

abbrev pub got_line : List (List ℕ) → Ident → List ℕ
got_line names i = words (codes "got" ∷ shown_ident names i)

-- of the clients of topic t, c being the number of the first one of the list
abbrev pub client_lines : Setup → World → ℕ → ℕ → List Declared → List (List ℕ)
client_lines s w t c [] = []
client_lines s w t c (d ∷ ds) =
    (if d.topic == t then client_line s d (client_at s w c) ∷ map (got_line s.clusters) (client_at s w c).got else []) ++ client_lines s w t (c + 1) ds

abbrev pub topic_lines : Setup → World → ℕ → List (List ℕ) → List (List ℕ)
topic_lines s w t [] = []
topic_lines s w t (n ∷ ns) = cluster_lines s w t n 0 s.clusters ++ (client_lines s w t 0 s.clients ++ topic_lines s w (t + 1) ns)

abbrev pub head_line : World → List ℕ
head_line w = words (codes "events" ∷ decimal w.events ∷ codes "idle" ∷ decimal w.idle ∷ codes "rounds" ∷ decimal w.rounds ∷ [])

-- its lines, without their line feeds
unfoldable pub report_lines : Setup → World → List (List ℕ)
report_lines s w = head_line w ∷ topic_lines s w 0 s.topics

-- each line and a line feed
abbrev pub with_line_feeds : List (List ℕ) → List ℕ
with_line_feeds [] = []
with_line_feeds (l ∷ ls) = l ++ (10 ∷ with_line_feeds ls)

-- its bytes
abbrev pub report : Setup → World → List ℕ
report s w = with_line_feeds (report_lines s w)
