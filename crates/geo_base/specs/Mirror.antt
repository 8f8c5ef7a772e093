-- What the lines of a trace make of topics and subscriptions (own): the entries of each topic at each cluster with their positions,
-- the subscriptions there with their cursors, and the messages that are settled by then. Nothing here knows of a session, a packet,
-- a link or anything that a broker keeps in memory.
use Rattle.std.specs.Prelude.{ℕ, ◌+◌, ◌*◌, ◌==◌, not, if◌then◌else◌, List, [], ◌∷◌, ◌++◌, length, map, filter, find, replicate, Option, Some, None, slice_set, slice_index_or}
use Rattle.std.specs.Str.{bytes_eq}
use Rattle.geo_base.specs.Types.{Entry, Position}
use Rattle.geo_base.specs.Types.cause
use Rattle.geo_base.specs.Cursor.{below, with_indexes}
use Rattle.geo_base.specs.Position.{same_position}
use Rattle.geo_base.specs.Settled.{SettledSoFar, first_indexes, messages_at}
use Rattle.geo_base.specs.Setup.{Setup}
use Rattle.geo_base.specs.TraceItems.{Act, Acks, Appends, Begins, Creates, Deletes, Item, Seeks, Writes}

pub record MirrorSub : Type 0 where
  pub name : List ℕ
  pub cursor : List ℕ

-- one topic at one cluster; the positions are those of the entries
pub record Mirror : Type 0 where
  pub entries : List Entry
  pub positions : List Position
  pub subs : List MirrorSub

abbrev pub no_mirror : Mirror
no_mirror = record { entries = []; positions = []; subs = [] }

-- all of them, topic by topic and in each cluster by cluster, and the number of the last event
pub record Mirrors : Type 0 where
  pub topics : List Mirror
  pub events : ℕ

abbrev pub opening_mirrors : Setup → Mirrors
opening_mirrors s = record { topics = replicate (length s.topics * length s.clusters) no_mirror; events = 0 }

abbrev pub mirror_number : Setup → ℕ → ℕ → ℕ
mirror_number s t x = t * length s.clusters + x

abbrev pub mirror_at : Setup → Mirrors → ℕ → ℕ → Mirror
mirror_at s a t x = slice_index_or a.topics (mirror_number s t x) no_mirror

-- i is the index of the first position
abbrev pub index_from : ℕ → List Position → Position → Option ℕ
index_from i [] p = None
index_from i (q ∷ qs) p = if same_position q p then Some i else index_from (i + 1) qs p

-- the index of a position: none where nothing stands there
abbrev pub index_at : Mirror → Position → Option ℕ
index_at m p = index_from 0 m.positions p

abbrev pub mirror_sub : Mirror → List ℕ → Option MirrorSub
mirror_sub m n = find (λ (v : MirrorSub). bytes_eq v.name n) m.subs

-- ---- what one line makes of a topic

abbrev pub with_cursor : List ℕ → (List ℕ → List ℕ) → List MirrorSub → List MirrorSub
with_cursor n f vs = map (λ (v : MirrorSub). if bytes_eq v.name n then record v { cursor = f v.cursor } else v) vs

-- a subscription begins with nothing acknowledged, at Latest with all that stands there
abbrev pub acted : Mirror → Act → Mirror
acted m (Appends p e by) = record m { entries = m.entries ++ e ∷ []; positions = m.positions ++ p ∷ [] }
acted m (Creates n latest) = record m { subs = m.subs ++ record { name = n; cursor = if latest then below (length m.entries) else [] } ∷ [] }
acted m (Deletes n) = record m { subs = filter (λ (v : MirrorSub). not (bytes_eq v.name n)) m.subs }
acted m (Acks n is c) = record m { subs = with_cursor n (λ set. with_indexes set is) m.subs }
acted m (Seeks n i) = record m { subs = with_cursor n (λ set. below i) m.subs }

abbrev pub told : Setup → Mirrors → Item → Mirrors
told s a (Begins n) = record a { events = n }
told s a (Writes t x act) = record a { topics = slice_set a.topics (mirror_number s t x) (acted (mirror_at s a t x) act) }

-- ---- what one line settles on subscription n

-- the indexes: those that a client acknowledged, all that a creation at Latest found, all below where a seek went. What a marker or
-- an update passes over is not settled by it
abbrev pub indexes_settled : Mirror → List ℕ → Act → List ℕ
indexes_settled m n (Acks k is cause.Client) = if bytes_eq k n then is else []
indexes_settled m n (Creates k latest) = if bytes_eq k n then (if latest then first_indexes (length m.entries) else []) else []
indexes_settled m n (Seeks k i) = if bytes_eq k n then first_indexes i else []
indexes_settled m n a = []

-- the messages
abbrev pub settled_by : Setup → Mirrors → Item → SettledSoFar
settled_by s a (Begins k) t n = []
settled_by s a (Writes u x act) t n =
    let m = mirror_at s a u x in if u == t then messages_at m.entries (indexes_settled m n act) else []
