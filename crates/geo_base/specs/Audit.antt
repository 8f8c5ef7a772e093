-- The rules of an audit (own): which lines of a trace are refused, over what the lines before them made of topics and subscriptions.
-- A line is refused by the lowest rule that it breaks. Rule 1 is that a line has a form and an event the next number; how a line is
-- read stands with the reader. Rules 2 to 11 are here.
use Rattle.std.specs.Prelude.{ℕ, ◌+◌, nat_lt, nat_le, ◌==◌, Bool, true, false, not, ◌&&◌, ◌||◌, if◌then◌else◌, List, [], ◌∷◌, ◌++◌, length, take, Option, Some, None, is_none, is_some, slice_get, Result, Ok, Err}
use Rattle.std.specs.List.{list_all, list_any, range_with_len}
use Rattle.std.specs.Str.{bytes_eq}
use Rattle.geo_base.specs.Types.{Cause, ClusterPosition, Content, Entry, Marker, ClusterRef, Position, Targets}
use Rattle.geo_base.specs.Types.cause
use Rattle.geo_base.specs.Types.content
use Rattle.geo_base.specs.Types.marker
use Rattle.geo_base.specs.Types.cluster_ref
use Rattle.geo_base.specs.Types.targets
use Rattle.geo_base.specs.Cursor.{has, mark}
use Rattle.geo_base.specs.Entry.{is_data, meant_for, same_ident}
use Rattle.geo_base.specs.Mirror.{Mirror, Mirrors, MirrorSub, index_at, mirror_at, mirror_sub, opening_mirrors, settled_by, told}
use Rattle.geo_base.specs.Position.{position_lt, same_position}
use Rattle.geo_base.specs.Settled.{SettledSoFar}
use Rattle.geo_base.specs.Setup.{Setup}
use Rattle.geo_base.specs.Topic.{accepts}
use Rattle.geo_base.specs.TraceItems.{Act, Acks, Appends, Begins, Creates, Deletes, Item, Seeks, Writes, names_same}
use Rattle.geo_base.specs.Updating.{is_updated, positions_for}

-- a rule that has to hold, and what is judged after it
abbrev pub unless_broken : ℕ → Bool → Option ℕ → Option ℕ
unless_broken rule holds rest = if holds then rest else Some rule

-- ---- 2: an entry's position is above the topic's last

abbrev pub is_above : List Position → Position → Bool
is_above [] p = true
is_above (q ∷ []) p = position_lt q p
is_above (q ∷ r ∷ rs) p = is_above (r ∷ rs) p

-- ---- 3: no entry of its origin and producer has its sequence id or a greater one: `accepts`

-- ---- 4: an entry of another cluster stands in that cluster's topic, and is meant for this one

abbrev pub same_targets : Targets → Targets → Bool
same_targets targets.All targets.All = true
same_targets (targets.Only a) (targets.Only b) = a == b
same_targets a b = false

abbrev pub same_cluster_ref : ClusterRef → ClusterRef → Bool
same_cluster_ref (cluster_ref.Known x) (cluster_ref.Known y) = x == y
same_cluster_ref (cluster_ref.Stranger m) (cluster_ref.Stranger n) = bytes_eq m n
same_cluster_ref a b = false

abbrev pub same_pair : ClusterPosition → ClusterPosition → Bool
same_pair r q = same_cluster_ref r.cluster q.cluster && same_position r.position q.position

abbrev pub same_pairs : List ClusterPosition → List ClusterPosition → Bool
same_pairs [] [] = true
same_pairs (r ∷ rs) (q ∷ qs) = same_pair r q && same_pairs rs qs
same_pairs rs qs = false

abbrev pub same_marker : Marker → Marker → Bool
same_marker (marker.Request i a) (marker.Request j b) = bytes_eq i j && same_cluster_ref a b
same_marker (marker.Response i a) (marker.Response j b) = bytes_eq i j && same_pair a b
same_marker (marker.Snapshot i p rs) (marker.Snapshot j q qs) = bytes_eq i j && same_position p q && same_pairs rs qs
same_marker (marker.Update m rs) (marker.Update n qs) = bytes_eq m n && same_pairs rs qs
same_marker m n = false

abbrev pub same_content : Content → Content → Bool
same_content content.Data content.Data = true
same_content (content.Marked m) (content.Marked n) = same_marker m n
same_content (content.Unread i) (content.Unread j) = i == j
same_content c d = false

abbrev pub same_key : Option (List ℕ) → Option (List ℕ) → Bool
same_key None None = true
same_key (Some k) (Some l) = bytes_eq k l
same_key k l = false

-- equal in identity, list and what it is
abbrev pub same_entry : Entry → Entry → Bool
same_entry e f =
    same_ident e.ident f.ident && same_targets e.to f.to && same_content e.content f.content && same_key e.meta.key f.meta.key && bytes_eq e.payload f.payload

abbrev pub is_brought : Setup → Mirrors → ℕ → ℕ → Entry → Bool
is_brought s a t x e = list_any (same_entry e) (mirror_at s a t e.ident.origin).entries && meant_for x e

abbrev pub may_stand : Setup → Mirrors → ℕ → ℕ → Entry → Bool
may_stand s a t x e = (e.ident.origin == x) || is_brought s a t x e

-- ---- 5: a snapshot of this cluster names each other cluster once and only stored positions, and is a cut (PIP-33): what its
-- ---- positions of other clusters cover stands here at or below its local position

-- clusters 0 to n - 1 but x are named once each, and so many are named in all
abbrev pub is_named_once : ℕ → ℕ → List ClusterPosition → Bool
is_named_once x y remote = (x == y) || (length (positions_for y remote) == 1)

abbrev pub names_each : ℕ → ℕ → List ClusterPosition → Bool
names_each x n remote = (length remote + 1 == n) && list_all (λ y. is_named_once x y remote) (range_with_len 0 n)

-- an entry of another cluster's topic stands here at or below index l, or need not
abbrev pub is_covered : ℕ → Mirror → ℕ → Entry → Bool
is_covered x here l f = not (is_data f.content && meant_for x f) || list_any (same_entry f) (take (l + 1) here.entries)

abbrev pub covers : ℕ → Mirror → Mirror → ℕ → Option ℕ → Bool
covers x here there l None = false
covers x here there l (Some j) = list_all (is_covered x here l) (take (j + 1) there.entries)

-- the positions are indexes of the other topics: none where one is not stored
abbrev pub position_named : ℕ → List ClusterPosition → Option Position
position_named y remote = slice_get (positions_for y remote) 0

abbrev pub index_named : Mirror → Option Position → Option ℕ
index_named m None = None
index_named m (Some p) = index_at m p

abbrev pub is_cut : Setup → Mirrors → ℕ → ℕ → List ClusterPosition → Option ℕ → Bool
is_cut s a t x remote None = false
is_cut s a t x remote (Some l) =
    list_all (λ y. (x == y) || covers x (mirror_at s a t x) (mirror_at s a t y) l (index_named (mirror_at s a t y) (position_named y remote)))
    (range_with_len 0 (length s.clusters))

abbrev pub may_snapshot : Setup → Mirrors → ℕ → ℕ → Entry → Content → Bool
may_snapshot s a t x e (content.Marked (marker.Snapshot id local remote)) =
    not (e.ident.origin == x)
    || (names_each x (length s.clusters) remote && is_cut s a t x remote (index_at (mirror_at s a t x) local))
may_snapshot s a t x e c = true

-- ---- 6: an update of this cluster tells a snapshot marker of it, at the position that the line names, whose local position the
-- ---- subscription's mark-delete has passed

abbrev pub passes_local : Mirror → Option MirrorSub → Option ℕ → Bool
passes_local m None l = false
passes_local m (Some v) None = false
passes_local m (Some v) (Some l) = nat_lt l (mark v.cursor)

abbrev pub tells_content : ℕ → Mirror → List ℕ → List ClusterPosition → Content → Bool
tells_content n m name remote (content.Marked (marker.Snapshot id local named)) =
    names_same n named remote && passes_local m (mirror_sub m name) (index_at m local)
tells_content n m name remote c = false

abbrev pub tells_entry : ℕ → ℕ → Mirror → List ℕ → List ClusterPosition → Option Entry → Bool
tells_entry x n m name remote None = false
tells_entry x n m name remote (Some e) = (e.ident.origin == x) && tells_content n m name remote e.content

abbrev pub entry_at : Mirror → Option ℕ → Option Entry
entry_at m None = None
entry_at m (Some i) = slice_get m.entries i

abbrev pub entry_by : Mirror → Option Position → Option Entry
entry_by m None = None
entry_by m (Some p) = entry_at m (index_at m p)

abbrev pub may_update : Setup → Mirror → ℕ → Entry → Option Position → Content → Bool
may_update s m x e by (content.Marked (marker.Update name remote)) =
    not (e.ident.origin == x) || tells_entry x (length s.clusters) m name remote (entry_by m by)
may_update s m x e by c = true

-- ---- 7: a subscription that is created is not there; one that is deleted, acknowledged on or sought is: `mirror_sub`

-- ---- 8: the indexes of an acknowledgement are stored and new

abbrev pub are_new : Mirror → Option MirrorSub → List ℕ → Bool
are_new m None is = false
are_new m (Some v) is = list_all (λ i. nat_lt i (length m.entries) && not (has v.cursor i)) is

-- ---- 9: what is acknowledged for a marker's sake is markers alone

abbrev pub is_marker : Option Entry → Bool
is_marker None = false
is_marker (Some e) = not (is_data e.content)

abbrev pub are_markers : Mirror → List ℕ → Bool
are_markers m is = list_all (λ i. is_marker (slice_get m.entries i)) is

-- ---- 10: an acknowledgement for an update's sake: the update stands at the position that the line names, is another cluster's, of
-- ---- this subscription, and names one stored position of this cluster; up to that it passes over markers and what is meant for its
-- ---- cluster, and over nothing else

abbrev pub is_updated_at : ℕ → Option Entry → Bool
is_updated_at y None = false
is_updated_at y (Some e) = is_updated y e

abbrev pub is_passed : ℕ → ℕ → Mirror → ℕ → Bool
is_passed y j m i = nat_le i j && is_updated_at y (slice_get m.entries i)

abbrev pub only_named : Mirror → List Position → Option ℕ
only_named m [] = None
only_named m (p ∷ []) = index_at m p
only_named m (p ∷ q ∷ ps) = None

abbrev pub are_all_updated : ℕ → Mirror → List ℕ → Option ℕ → Bool
are_all_updated y m is None = false
are_all_updated y m is (Some j) = list_all (is_passed y j m) is

abbrev pub content_updates : ℕ → ℕ → Mirror → List ℕ → List ℕ → Content → Bool
content_updates x y m n is (content.Marked (marker.Update name remote)) =
    bytes_eq name n && not (y == x) && are_all_updated y m is (only_named m (positions_for x remote))
content_updates x y m n is c = false

abbrev pub entry_updates : ℕ → Mirror → List ℕ → List ℕ → Option Entry → Bool
entry_updates x m n is None = false
entry_updates x m n is (Some u) = content_updates x u.ident.origin m n is u.content

-- ---- 11: a seek goes to an index that is stored, or right after the last one

-- ---- the lowest rule that a line breaks

-- an acknowledgement for no such cause has no form
abbrev pub cause_refused : ℕ → Mirror → List ℕ → List ℕ → Cause → Option ℕ
cause_refused x m n is cause.Client = None
cause_refused x m n is cause.Marker = unless_broken 9 (are_markers m is) None
cause_refused x m n is (cause.Update p) = unless_broken 10 (entry_updates x m n is (entry_by m (Some p))) None
cause_refused x m n is c = Some 1

abbrev pub act_refused : Setup → Mirrors → ℕ → ℕ → Mirror → Act → Option ℕ
act_refused s a t x m (Appends p e by) =
    unless_broken 2 (is_above m.positions p)
    (unless_broken 3 (accepts m.entries e.ident)
    (unless_broken 4 (may_stand s a t x e)
    (unless_broken 5 (may_snapshot s a t x e e.content)
    (unless_broken 6 (may_update s m x e by e.content) None))))
act_refused s a t x m (Creates n latest) = unless_broken 7 (is_none (mirror_sub m n)) None
act_refused s a t x m (Deletes n) = unless_broken 7 (is_some (mirror_sub m n)) None
act_refused s a t x m (Acks n is c) =
    unless_broken 7 (is_some (mirror_sub m n)) (unless_broken 8 (are_new m (mirror_sub m n) is) (cause_refused x m n is c))
act_refused s a t x m (Seeks n i) = unless_broken 7 (is_some (mirror_sub m n)) (unless_broken 11 (nat_le i (length m.entries)) None)

-- an event has the next number
unfoldable pub refused : Setup → Mirrors → Item → Option ℕ
refused s a (Begins n) = unless_broken 1 (n == a.events + 1) None
refused s a (Writes t x act) = act_refused s a t x (mirror_at s a t x) act

-- ---- the fold: what all lines make of topics and subscriptions, or the first refused line

-- the number of the last event that was accepted, and the rule
pub record Refusal : Type 0 where
  pub event : ℕ
  pub rule : ℕ

abbrev pub judged : {A : Type 0} → ℕ → Option ℕ → Result A Refusal → Result A Refusal
judged n None r = r
judged n (Some rule) r = Err (record { event = n; rule = rule })

abbrev pub audited_from : Setup → Mirrors → List Item → Result Mirrors Refusal
audited_from s a [] = Ok a
audited_from s a (i ∷ is) = judged a.events (refused s a i) (audited_from s (told s a i) is)

abbrev pub audited : Setup → List Item → Result Mirrors Refusal
audited s is = audited_from s (opening_mirrors s) is

-- the messages that these lines settle
abbrev pub settled_from : Setup → Mirrors → List Item → SettledSoFar
settled_from s a [] t n = []
settled_from s a (i ∷ is) t n = settled_by s a i t n ++ settled_from s (told s a i) is t n
