-- What is found against an observation (own): all of it, rule by rule, in each by topics, clusters and indexes.
use Rattle.std.specs.Prelude.{ℕ, ◌+◌, ◌-◌, nat_lt, nat_le, ◌==◌, Bool, true, false, not, ◌&&◌, ◌||◌, if◌then◌else◌, List, [], ◌∷◌, ◌++◌, length, filter, take, drop, Option, Some, None, is_none, is_some}
use Rattle.std.specs.List.{list_all, list_any}
use Rattle.geo_base.specs.declared.entry.Content.{Content}
use Rattle.geo_base.specs.declared.entry.Content.TheVariants as content
use Rattle.geo_base.specs.declared.entry.Entry.{Entry}
use Rattle.geo_base.specs.declared.entry.Ident.{Ident}
use Rattle.geo_base.specs.declared.marker.ClusterPosition.{ClusterPosition}
use Rattle.geo_base.specs.declared.marker.Marker.TheVariants as marker
use Rattle.geo_base.specs.declared.position.Position.{Position}
use Rattle.geo_base.specs.Audit.{names_each, position_named, same_entry}
use Rattle.geo_base.specs.Cursor.{has}
use Rattle.geo_base.specs.Entry.{is_data, is_outbound, means_cluster, meant_for, same_ident}
use Rattle.geo_base.specs.Mirror.{MirrorSub, index_at}
use Rattle.geo_base.specs.Setup.{Setup}
use Rattle.geo_base.specs.Topic.{accepts}
use Rattle.observation.specs.declared.finding.Finding.{Finding}
use Rattle.observation.specs.declared.finding.Finding.TheVariants as finding
use Rattle.observation.specs.declared.said.Said.{Said}
use Rattle.observation.specs.declared.said.Said.TheVariants as said
use Rattle.observation.specs.Observed.{Observation, entries_seen, is_dealt_with, is_read, may_be_later, received_at, stands_at, topic_seen}
use Rattle.observation.specs.Safe.{came_from, is_common, went_to}

-- what is found at each place of a list, i being the number of its first
abbrev pub each_at : {A : Type 0} → (ℕ → A → List Finding) → ℕ → List A → List Finding
each_at f i [] = []
each_at f i (a ∷ more) = f i a ++ each_at f (i + 1) more

-- at each topic; at each cluster; at each two clusters that are not the same
abbrev pub by_topic : Setup → (ℕ → List Finding) → List Finding
by_topic s f = each_at (λ t name. f t) 0 s.topics

abbrev pub by_cluster : Setup → (ℕ → List Finding) → List Finding
by_cluster s f = each_at (λ x name. f x) 0 s.clusters

abbrev pub by_other : Setup → ℕ → (ℕ → List Finding) → List Finding
by_other s x f = by_cluster s (λ y. if x == y then [] else f y)

-- one finding, unless something holds
abbrev pub unless : Bool → Finding → List Finding
unless holds f = if holds then [] else f ∷ []

-- ---- lost

abbrev pub is_stored : Setup → Observation → ℕ → Ident → Position → Bool
is_stored s o t g p = may_be_later s o t g.origin p || list_any (λ (e : Entry). same_ident e.ident g) (entries_seen s o t g.origin)

abbrev pub lost_in : Setup → Observation → ℕ → Said → List Finding
lost_in s o t (said.Receipt u g p) = if u == t then unless (is_stored s o t g p) (finding.Lost t g p) else []
lost_in s o t (said.Done u m g) = []
lost_in s o t (said.Below u x m k) = []
lost_in s o t (said.Unsure u x m) = []

unfoldable pub lost : Setup → Observation → ℕ → List Finding
lost s o t = each_at (λ k l. lost_in s o t l) 0 o.said

-- ---- twice

unfoldable pub twice : Setup → Observation → ℕ → ℕ → List Finding
twice s o t x = each_at (λ i (e : Entry). unless (accepts (take i (entries_seen s o t x)) e.ident) (finding.Twice t x i)) 0 (entries_seen s o t x)

-- ---- nowhere, gap, order: of the entries that came from y each stands in what y has for x, after the one before; and what y has before
-- ---- that is here. Of what was read while all moved what came may be more than what is there, where that is the beginning

-- where an entry of the other topic stands, as far as it goes to x
abbrev pub source_of : ℕ → ℕ → Entry → List Entry → Option ℕ
source_of y x e there = if is_outbound y x e then stands_at e there else None

-- what is missing here of some entries that stand there, i being the index of the first
abbrev pub is_missing : ℕ → ℕ → List Entry → Entry → Bool
is_missing y x here f = is_outbound y x f && is_none (stands_at f here)

abbrev pub gaps : (t y x : ℕ) → List Entry → ℕ → List Entry → List Finding
gaps t y x here i fs = each_at (λ j (f : Entry). unless (not (is_missing y x here f)) (finding.Gap t x y j)) i fs

-- what one entry is found to be, and from which index on what y has is not passed yet
pub record Brought : Type 0 where
  pub found : List Finding
  pub from : ℕ

abbrev pub brought_as : (t y x : ℕ) → (here there : List Entry) → (from i : ℕ) → Option ℕ → Brought
brought_as t y x here there from i None = record { found = finding.Nowhere t x i y ∷ []; from = from }
brought_as t y x here there from i (Some k) =
    if nat_lt k from
    then record { found = finding.Order t x i y ∷ []; from = from }
    else record { found = gaps t y x here from (take (k - from) (drop from there)); from = k + 1 }

abbrev pub brought_one : (t y x : ℕ) → (here there : List Entry) → (from i : ℕ) → Entry → Brought
brought_one t y x here there from i e =
    if e.ident.origin == y then brought_as t y x here there from i (source_of y x e there) else record { found = []; from = from }

abbrev pub brought_from : (t y x : ℕ) → (here there : List Entry) → (from i : ℕ) → List Entry → List Finding
brought_from t y x here there from i [] = []
brought_from t y x here there from i (e ∷ es) =
    let b = brought_one t y x here there from i e in b.found ++ brought_from t y x here there b.from (i + 1) es

abbrev pub begins : List Entry → List Entry → Bool
begins [] fs = true
begins (e ∷ es) [] = false
begins (e ∷ es) (f ∷ fs) = same_entry e f && begins es fs

unfoldable pub brought : Setup → Observation → (t x y : ℕ) → List Finding
brought s o t x y =
    if not (is_read s o t x && is_read s o t y) || (not o.quiet && begins (went_to s o t y x) (came_from s o t y x))
    then []
    else brought_from t y x (entries_seen s o t x) (entries_seen s o t y) 0 0 (entries_seen s o t x)

-- ---- apart: where what two others have of a cluster that was not read is not the same

-- entries with their indexes, i being that of the first
pub record Placed : Type 0 where
  pub index : ℕ
  pub entry : Entry

abbrev pub placed_from : ℕ → List Entry → List Placed
placed_from i [] = []
placed_from i (e ∷ es) = record { index = i; entry = e } ∷ placed_from (i + 1) es

abbrev pub common_placed : Setup → Observation → (t y x z : ℕ) → List Placed
common_placed s o t y x z = filter (λ (p : Placed). is_common y z p.entry) (placed_from 0 (entries_seen s o t x))

abbrev pub parted : (t y x z : ℕ) → List Placed → List Placed → List Finding
parted t y x z [] qs = []
parted t y x z (p ∷ ps) [] = []
parted t y x z (p ∷ ps) (q ∷ qs) = if same_entry p.entry q.entry then parted t y x z ps qs else finding.Apart t y x p.index z q.index ∷ []

abbrev pub is_judged_apart : Setup → Observation → (t y x z : ℕ) → Bool
is_judged_apart s o t y x z =
    nat_lt x z && (not (x == y) && (not (z == y) && (not (is_read s o t y) && (is_read s o t x && is_read s o t z))))

unfoldable pub apart : Setup → Observation → (t y x z : ℕ) → List Finding
apart s o t y x z = if is_judged_apart s o t y x z then parted t y x z (common_placed s o t y x z) (common_placed s o t y z x) else []

-- ---- unreceived

abbrev pub stands_in : Entry → List Entry → Bool
stands_in e es = is_some (stands_at e es)

abbrev pub is_there : Setup → Observation → (t x y i : ℕ) → Entry → Bool
is_there s o t x y i e = not (has (received_at s o t x y) i && is_outbound x y e) || stands_in e (entries_seen s o t y)

unfoldable pub unreceived : Setup → Observation → (t x y : ℕ) → List Finding
unreceived s o t x y =
    if is_read s o t x && is_read s o t y
    then each_at (λ i (e : Entry). unless (is_there s o t x y i e) (finding.Unreceived t x y i)) 0 (entries_seen s o t x)
    else []

-- ---- cut

-- an entry of another topic stands here at or below index l, or need not
abbrev pub is_upto : ℕ → Option ℕ → Bool
is_upto l None = false
is_upto l (Some i) = nat_le i l

abbrev pub is_covered : ℕ → List Entry → ℕ → Entry → Bool
is_covered x here l f = not (is_data f.content && meant_for x f) || is_upto l (stands_at f here)

abbrev pub are_covered : ℕ → List Entry → ℕ → List Entry → Option ℕ → Bool
are_covered x here l there None = false
are_covered x here l there (Some j) = list_all (is_covered x here l) (take (j + 1) there)

abbrev pub covers_one : Setup → Observation → (t x l y : ℕ) → Option Position → Bool
covers_one s o t x l y None = false
covers_one s o t x l y (Some p) = may_be_later s o t y p || are_covered x (entries_seen s o t x) l (entries_seen s o t y) (index_at (topic_seen s o t y) p)

abbrev pub cuts_at : Setup → Observation → (t x i : ℕ) → List ClusterPosition → Option ℕ → List Finding
cuts_at s o t x i remote None = finding.Unplaced t x i ∷ []
cuts_at s o t x i remote (Some l) = by_other s x (λ y. unless (covers_one s o t x l y (position_named y remote)) (finding.Cut t x i y))

abbrev pub cuts_in : Setup → Observation → (t x i : ℕ) → Position → List ClusterPosition → List Finding
cuts_in s o t x i local remote =
    if names_each x (length s.clusters) remote then cuts_at s o t x i remote (index_at (topic_seen s o t x) local) else finding.Unplaced t x i ∷ []

abbrev pub cuts_of : Setup → Observation → (t x i : ℕ) → Entry → Content → List Finding
cuts_of s o t x i e (content.Marked (marker.Snapshot id local remote)) = if e.ident.origin == x then cuts_in s o t x i local remote else []
cuts_of s o t x i e c = []

unfoldable pub cuts : Setup → Observation → (t x : ℕ) → List Finding
cuts s o t x = each_at (λ i (e : Entry). cuts_of s o t x i e e.content) 0 (entries_seen s o t x)

-- ---- told

abbrev pub tells_upto : Setup → Observation → (t a : ℕ) → List ℕ → List Entry → Option ℕ → Bool
tells_upto s o t a n there None = false
tells_upto s o t a n there (Some j) = list_all (λ (f : Entry). not (meant_for a f) || is_dealt_with s o t n f) (take (j + 1) there)

abbrev pub tells_one : Setup → Observation → (t a : ℕ) → List ℕ → ℕ → Position → Bool
tells_one s o t a n y p = may_be_later s o t y p || tells_upto s o t a n (entries_seen s o t y) (index_at (topic_seen s o t y) p)

abbrev pub told_of : Setup → Observation → (t x i a : ℕ) → List ℕ → ClusterPosition → List Finding
told_of s o t x i a n r = by_other s a (λ y. if means_cluster y r.cluster then unless (tells_one s o t a n y r.position) (finding.Told t x i y) else [])

abbrev pub told_in : Setup → Observation → (t x i : ℕ) → Entry → Content → List Finding
told_in s o t x i e (content.Marked (marker.Update n remote)) = each_at (λ k r. told_of s o t x i e.ident.origin n r) 0 remote
told_in s o t x i e c = []

unfoldable pub told : Setup → Observation → (t x : ℕ) → List Finding
told s o t x = each_at (λ i (e : Entry). told_in s o t x i e e.content) 0 (entries_seen s o t x)

-- ---- skipped

abbrev pub skipped_of : Setup → Observation → (t x : ℕ) → MirrorSub → List Finding
skipped_of s o t x v =
    each_at (λ i (e : Entry). unless (not (has v.cursor i) || is_dealt_with s o t v.name e) (finding.Skipped t x v.name i)) 0 (entries_seen s o t x)

unfoldable pub skipped : Setup → Observation → (t x : ℕ) → List Finding
skipped s o t x = each_at (λ k v. skipped_of s o t x v) 0 (topic_seen s o t x).subs

-- ---- all of it

abbrev pub by_topic_and_cluster : Setup → (ℕ → ℕ → List Finding) → List Finding
by_topic_and_cluster s f = by_topic s (λ t. by_cluster s (f t))

unfoldable pub findings_of : Setup → Observation → List Finding
findings_of s o =
    by_topic s (lost s o)
    ++ (by_topic_and_cluster s (twice s o)
    ++ (by_topic_and_cluster s (λ t x. by_other s x (brought s o t x))
    ++ (by_topic s (λ t. by_cluster s (λ y. by_cluster s (λ x. by_cluster s (apart s o t y x))))
    ++ (by_topic_and_cluster s (λ t x. by_other s x (unreceived s o t x))
    ++ (by_topic_and_cluster s (cuts s o)
    ++ (by_topic_and_cluster s (told s o)
    ++ by_topic_and_cluster s (skipped s o)))))))
