-- What is lost, what comes again and what was never told, if a cluster goes now (own): measures of a world, each a list of messages or
-- a number. x is the cluster that goes and y another one, b the broker of a topic at x and c that at y.
use Rattle.std.specs.Prelude.{ℕ, ◌+◌, nat_lt, ◌==◌, Bool, true, false, not, ◌&&◌, if◌then◌else◌, List, [], ◌∷◌, length, map, Option, Some, None, is_some}
use Rattle.std.specs.List.{list_any, range_with_len}
use Rattle.std.specs.Str.{bytes_eq}
use Rattle.geo_base.specs.declared.entry.Content.{Content}
use Rattle.geo_base.specs.declared.entry.Content.TheVariants as content
use Rattle.geo_base.specs.declared.entry.Entry.{Entry}
use Rattle.geo_base.specs.declared.entry.Ident.{Ident}
use Rattle.geo_base.specs.declared.marker.ClusterPosition.{ClusterPosition}
use Rattle.geo_base.specs.declared.marker.Marker.TheVariants as marker
use Rattle.geo_base.specs.Audit.{same_pairs}
use Rattle.geo_base.specs.Broker.{Broker, sub_named}
use Rattle.geo_base.specs.Cursor.{backlog_from, has, mark}
use Rattle.geo_base.specs.Entry.{goes_to, is_data, is_outbound, same_ident}
use Rattle.geo_base.specs.Setup.{Setup}
use Rattle.geo_base.specs.Subscription.{Subscription}
use Rattle.geo_base.specs.Topic.{index_of}
use Rattle.geo_base.specs.Traced.{cursor_of}
use Rattle.geo_base.specs.World.{World, topic_at}

-- ---- where a message stands

-- the index of the first entry with this identity, i being that of the first of these. In a run no identity stands twice (LawOnce)
abbrev pub place_from : ℕ → List Entry → Ident → Option ℕ
place_from i [] g = None
place_from i (e ∷ es) g = if same_ident e.ident g then Some i else place_from (i + 1) es g

abbrev pub place_of : List Entry → Ident → Option ℕ
place_of es g = place_from 0 es g

abbrev pub stands : List Entry → Ident → Bool
stands es g = is_some (place_of es g)

-- those entries that are chosen, by index and entry, i being the index of the first of these
abbrev pub chosen : (ℕ → Entry → Bool) → ℕ → List Entry → List Entry
chosen p i [] = []
chosen p i (e ∷ es) = if p i e then e ∷ chosen p (i + 1) es else chosen p (i + 1) es

-- ---- missing: x's messages for y, its own with y in their list or with no list, that do not stand at y

abbrev pub is_missing : ℕ → ℕ → Broker → ℕ → Entry → Bool
is_missing x y c i e = is_outbound x y e && is_data e.content && not (stands c.entries e.ident)

abbrev pub missing : ℕ → ℕ → Broker → Broker → List Entry
missing x y b c = chosen (is_missing x y c) 0 b.entries

-- ---- again: the messages at y that a subscription's cursor there lacks, all where it is not there, and that its cursor at x has: they
-- ---- were acknowledged, and consumers that move to y are given them again

-- a cursor has the entry that stands at a place, if any does
abbrev pub has_place : List ℕ → Option ℕ → Bool
has_place set None = false
has_place set (Some i) = has set i

-- what the cursor of subscription n has; nothing where it is not there
abbrev pub cursor_at : Broker → List ℕ → List ℕ
cursor_at c n = cursor_of (sub_named c.subs n)

abbrev pub comes_again : Broker → Subscription → Broker → ℕ → Entry → Bool
comes_again b v c i e = is_data e.content && not (has (cursor_at c v.name) i) && has_place v.cursor (place_of b.entries e.ident)

abbrev pub again : Broker → Subscription → Broker → List Entry
again b v c = chosen (comes_again b v c) 0 c.entries

-- ---- backlog: how many messages at y a subscription lacks there, those that come again among them

abbrev pub backlog_at : Broker → List ℕ → ℕ
backlog_at c n = backlog_from (cursor_at c n) 0 (map (λ (e : Entry). is_data e.content) c.entries)

-- ---- untold: how many snapshots of x a subscription's mark-delete has passed there, after the last one that an update of x tells

-- the positions of the other clusters that an update of x for subscription n names
abbrev pub update_in : ℕ → List ℕ → Entry → Content → Option (List ClusterPosition)
update_in x n e (content.Marked (marker.Update m remote)) = if (e.ident.origin == x) && bytes_eq m n then Some remote else None
update_in x n e k = None

-- those that a snapshot of x names, where the mark-delete has passed its local position (as in Cache)
abbrev pub passes_index : ℕ → Option ℕ → Bool
passes_index m None = false
passes_index m (Some i) = nat_lt i m

abbrev pub passed_in : ℕ → List ℕ → ℕ → Entry → Content → Option (List ClusterPosition)
passed_in x ledgers m e (content.Marked (marker.Snapshot id local remote)) =
    if (e.ident.origin == x) && passes_index m (index_of ledgers local) then Some remote else None
passed_in x ledgers m e k = None

-- the latter of two, if there is one
abbrev pub or_before : {A : Type 0} → Option A → Option A → Option A
or_before o None = o
or_before o (Some a) = Some a

-- what the last update names, o being what one before these entries does
abbrev pub last_update : ℕ → List ℕ → Option (List ClusterPosition) → List Entry → Option (List ClusterPosition)
last_update x n o [] = o
last_update x n o (e ∷ es) = last_update x n (or_before o (update_in x n e e.content)) es

-- an update tells a snapshot where it names the same positions of the same clusters
abbrev pub is_told : Option (List ClusterPosition) → List ClusterPosition → Bool
is_told None ps = false
is_told (Some qs) ps = same_pairs qs ps

-- one more entry, n having been counted: the count begins anew after a snapshot that is told
abbrev pub counted : Option (List ClusterPosition) → ℕ → Option (List ClusterPosition) → ℕ
counted told n None = n
counted told n (Some ps) = if is_told told ps then 0 else n + 1

abbrev pub untold_from : Option (List ClusterPosition) → ℕ → List ℕ → ℕ → ℕ → List Entry → ℕ
untold_from told x ledgers m n [] = n
untold_from told x ledgers m n (e ∷ es) = untold_from told x ledgers m (counted told n (passed_in x ledgers m e e.content)) es

abbrev pub untold : ℕ → Broker → Subscription → ℕ
untold x b v = untold_from (last_update x v.name None b.entries) x b.ledgers (mark v.cursor) 0 b.entries

-- ---- making: a snapshot is in the making at x, which a broker keeps in memory; and asked, which its topic shows: the last of x's requests
-- ---- and snapshots is a request. What is asked is in the making, unless a restart of x's broker forgot it

abbrev pub making : Broker → Bool
making b = is_some b.builder

abbrev pub asked_behind : ℕ → Bool → Entry → Content → Bool
asked_behind x before e (content.Marked (marker.Request id source)) = if e.ident.origin == x then true else before
asked_behind x before e (content.Marked (marker.Snapshot id local remote)) = if e.ident.origin == x then false else before
asked_behind x before e k = before

abbrev pub asked_from : ℕ → Bool → List Entry → Bool
asked_from x before [] = before
asked_from x before (e ∷ es) = asked_from x (asked_behind x before e e.content) es

abbrev pub asked : ℕ → Broker → Bool
asked x b = asked_from x false b.entries

-- ---- if x never comes back. A message is known by its own cluster's topic, where it stands first; and a cluster sends to others what
-- ---- it stored first alone, so that what x's messages are at the others when it goes, they stay

-- some other cluster of the setup
abbrev pub any_other : Setup → ℕ → (ℕ → Bool) → Bool
any_other s x p = list_any (λ y. not (x == y) && p y) (range_with_len 0 (length s.clusters))

abbrev pub is_own_message : ℕ → Entry → Bool
is_own_message x e = (e.ident.origin == x) && is_data e.content

-- it is meant for another cluster; it stands at one; one that it is meant for lacks it
abbrev pub is_for_others : Setup → ℕ → Entry → Bool
is_for_others s x e = any_other s x (λ y. goes_to y e.to)

abbrev pub stands_elsewhere : Setup → World → ℕ → ℕ → Entry → Bool
stands_elsewhere s w t x e = any_other s x (λ y. stands (topic_at s w t y).entries e.ident)

abbrev pub is_lacked : Setup → World → ℕ → ℕ → Entry → Bool
is_lacked s w t x e = any_other s x (λ y. goes_to y e.to && not (stands (topic_at s w t y).entries e.ident))

-- lost: x's messages that are meant for another cluster and stand at no other one
abbrev pub is_lost : Setup → World → ℕ → ℕ → ℕ → Entry → Bool
is_lost s w t x i e = is_own_message x e && is_for_others s x e && not (stands_elsewhere s w t x e)

abbrev pub lost : Setup → World → ℕ → ℕ → List Entry
lost s w t x = chosen (is_lost s w t x) 0 (topic_at s w t x).entries

-- alone: x's messages that are meant for x alone; they stand nowhere else (LawResident), and no list of theirs lets them
abbrev pub is_alone : Setup → ℕ → ℕ → Entry → Bool
is_alone s x i e = is_own_message x e && not (is_for_others s x e)

abbrev pub alone : Setup → World → ℕ → ℕ → List Entry
alone s w t x = chosen (is_alone s x) 0 (topic_at s w t x).entries

-- differ: x's messages that stand at another cluster, and are lacked by one that they are meant for
abbrev pub differs : Setup → World → ℕ → ℕ → ℕ → Entry → Bool
differs s w t x i e = is_own_message x e && stands_elsewhere s w t x e && is_lacked s w t x e

abbrev pub differ : Setup → World → ℕ → ℕ → List Entry
differ s w t x = chosen (differs s w t x) 0 (topic_at s w t x).entries
