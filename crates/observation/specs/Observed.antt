-- What was read of clusters that run elsewhere (own): of each topic at each cluster its entries with their positions, its subscriptions'
-- cursors and what its replicators count as brought over, each as of some moment; and what clients and operators logged. Nothing here
-- knows an order of events across clusters, a session, a snapshot in the making or a dispatcher.
use Rattle.std.specs.Prelude.{ℕ, ◌+◌, ◌*◌, ◌==◌, Bool, false, not, ◌&&◌, ◌||◌, if◌then◌else◌, List, [], ◌∷◌, ◌++◌, length, Option, Some, None, is_none, slice_get, slice_index_or}
use Rattle.std.specs.List.{list_all, list_any}
use Rattle.std.specs.Str.{bytes_eq}
use Rattle.geo_base.specs.declared.entry.Entry.{Entry}
use Rattle.geo_base.specs.declared.entry.Ident.{Ident}
use Rattle.geo_base.specs.declared.position.Position.{Position}
use Rattle.geo_base.specs.Audit.{same_entry}
use Rattle.geo_base.specs.Entry.{is_data, same_ident}
use Rattle.geo_base.specs.Mirror.{Mirror, no_mirror}
use Rattle.geo_base.specs.Position.{position_lt}
use Rattle.geo_base.specs.Settled.{first_indexes, messages_at}
use Rattle.geo_base.specs.Setup.{Setup}
use Rattle.observation.specs.declared.said.Said.{Said}
use Rattle.observation.specs.declared.said.Said.TheVariants as said

-- a topic at one cluster: whether it was read; its entries, positions and cursors; and by cluster the indexes that the replicator's cursor
-- to that one has. Where it was not read, there is nothing of it
pub record Seen : Type 0 where
  pub is_read : Bool
  pub topic : Mirror
  pub received : List (List ℕ)

abbrev pub nothing_seen : Seen
nothing_seen = record { is_read = false; topic = no_mirror; received = [] }

-- topic by topic, and in each cluster by cluster; the logs; and whether nothing moved while all was read
pub record Observation : Type 0 where
  pub topics : List Seen
  pub said : List Said
  pub quiet : Bool

abbrev pub seen_at : Setup → Observation → ℕ → ℕ → Seen
seen_at s o t x = slice_index_or o.topics (t * length s.clusters + x) nothing_seen

abbrev pub is_read : Setup → Observation → ℕ → ℕ → Bool
is_read s o t x = (seen_at s o t x).is_read

abbrev pub topic_seen : Setup → Observation → ℕ → ℕ → Mirror
topic_seen s o t x = (seen_at s o t x).topic

abbrev pub entries_seen : Setup → Observation → ℕ → ℕ → List Entry
entries_seen s o t x = (seen_at s o t x).topic.entries

abbrev pub received_at : Setup → Observation → ℕ → ℕ → ℕ → List ℕ
received_at s o t x y = slice_index_or (seen_at s o t x).received y []

-- ---- where an entry stands

-- the index of the first entry of an identity, i being that of the first of these
abbrev pub first_from : ℕ → List Entry → Ident → Option ℕ
first_from i [] g = None
first_from i (e ∷ es) g = if same_ident e.ident g then Some i else first_from (i + 1) es g

abbrev pub if_same : Entry → ℕ → Option Entry → Option ℕ
if_same e i None = None
if_same e i (Some f) = if same_entry e f then Some i else None

abbrev pub if_same_at : Entry → List Entry → Option ℕ → Option ℕ
if_same_at e es None = None
if_same_at e es (Some i) = if_same e i (slice_get es i)

-- an entry stands at the index of the first one of its identity, where that is the same one in all
unfoldable pub stands_at : Entry → List Entry → Option ℕ
stands_at e es = if_same_at e es (first_from 0 es e.ident)

-- ---- what the logs settle on subscription n of topic t

abbrev pub said_settled : Setup → Observation → ℕ → List ℕ → Said → List Ident
said_settled s o t n (said.Done u m i) = if (u == t) && bytes_eq m n then i ∷ [] else []
said_settled s o t n (said.Below u x m k) = if (u == t) && bytes_eq m n then messages_at (entries_seen s o t x) (first_indexes k) else []
said_settled s o t n (said.Receipt u i p) = []
said_settled s o t n (said.Unsure u x m) = []

abbrev pub all_settled : Setup → Observation → ℕ → List ℕ → List Said → List Ident
all_settled s o t n [] = []
all_settled s o t n (l ∷ ls) = said_settled s o t n l ++ all_settled s o t n ls

-- a line of a message that is not told may be of one that does not stand there
abbrev pub is_unsure : Setup → Observation → ℕ → List ℕ → Ident → Said → Bool
is_unsure s o t n g (said.Unsure u x m) = (u == t) && (bytes_eq m n && is_none (first_from 0 (entries_seen s o t x) g))
is_unsure s o t n g (said.Done u m i) = false
is_unsure s o t n g (said.Below u x m k) = false
is_unsure s o t n g (said.Receipt u i p) = false

-- an entry for which nobody's word is needed, or which somebody settled by the logs, or of which they are not sure
unfoldable pub is_dealt_with : Setup → Observation → ℕ → List ℕ → Entry → Bool
is_dealt_with s o t n e = not (is_data e.content) || (list_any (same_ident e.ident) (all_settled s o t n o.said) || list_any (is_unsure s o t n e.ident) o.said)

-- ---- what was not read yet

abbrev pub is_above_all : Position → List Position → Bool
is_above_all p ps = list_all (λ q. position_lt q p) ps

-- a position of a topic that was not read, or above all that was, while all moved
unfoldable pub may_be_later : Setup → Observation → ℕ → ℕ → Position → Bool
may_be_later s o t y p = not (is_read s o t y) || (not o.quiet && is_above_all p (topic_seen s o t y).positions)
