-- What each line that is accepted keeps of the topics and subscriptions that the lines make.
use Rattle.std.proofs.Common.{◌≡◌, ℕ, ◌+◌, ◌*◌, ◌<◌, ◌≤◌, Bool, true, false, List, [], ◌∷◌, ◌++◌, length, refl, sym, ap, subst, ◌∙◌, arith}
use Rattle.std.specs.Prelude.{◌≢◌, Some, if◌then◌else◌, slice_get, slice_index_or, slice_set}
use Rattle.std.proofs.lemmas.List.{append-nil, length-set}
use Rattle.std.proofs.lemmas.Option.{none-some, same_Some}
use Rattle.world_laws.proofs.Types.{ClusterPosition, Entry, Position}
use Rattle.world_laws.proofs.Types.content
use Rattle.world_laws.proofs.Types.marker
use Rattle.geo_base.specs.Entry.{is_data, meant_for}
use Rattle.geo_base.specs.Position.{same_position}
use Rattle.geo_base.specs.Settled.{IsSettled, SettledSoFar}
use Rattle.geo_base.specs.Setup.{Setup}
use Rattle.geo_base.specs.Updating.{positions_for}
use Rattle.world_laws.proofs.Induction.Frames.{at_set}
use Rattle.world_laws.proofs.Replicating.LinkFrames.{same_node}
use Rattle.world_laws.proofs.OnceInOrder.Members.{get_left, get_within}
use Rattle.world_laws.proofs.OnceInOrder.Once.{OnceIn}
use Rattle.world_laws.proofs.Replicating.Sizes.{IsThere}
use Rattle.world_laws.proofs.Telling.Told.{Includes}
use Rattle.geo_base.specs.Mirror.{Mirror, MirrorSub, Mirrors, index_at, index_from, mirror_at, no_mirror, mirror_number}
use Rattle.trace_laws.specs.Audited.{OnlySettledIn}

-- ---- one topic

-- a snapshot of cluster x: its local position is stored here, it names one position of each other cluster, stored there, and each
-- message there at or below it that is meant for x stands here at or below the local one
pub record StandsBelow (m : Mirror) (l : ℕ) (f : Entry) : Type 0 where
  pub index : ℕ
  pub entry : Entry
  pub below : index ≤ l
  pub at : slice_get m.entries index ≡ Some entry
  pub ident : entry.ident ≡ f.ident
  pub content : entry.content ≡ f.content

pub record CutTo (s : Setup) (a : Mirrors) (t x l y : ℕ) (remote : List ClusterPosition) : Type 0 where
  pub position : Position
  pub names : positions_for y remote ≡ position ∷ []
  pub index : ℕ
  pub stored : index_at (mirror_at s a t y) position ≡ Some index
  pub covers : (k : ℕ) (f : Entry) → k ≤ index → slice_get (mirror_at s a t y).entries k ≡ Some f → is_data f.content ≡ true → meant_for x f ≡ true
      → StandsBelow (mirror_at s a t x) l f

pub record IsCutIn (s : Setup) (a : Mirrors) (t x : ℕ) (local : Position) (remote : List ClusterPosition) : Type 0 where
  pub local_index : ℕ
  pub local_stored : index_at (mirror_at s a t x) local ≡ Some local_index
  pub each : (y : ℕ) → y < length s.clusters → x ≢ y → CutTo s a t x local_index y remote

-- an update of cluster o for subscription n: it names one position of each other cluster, stored there, and each message there at or
-- below it that is meant for o is settled
pub record TellsTo (s : Setup) (a : Mirrors) (settled : SettledSoFar) (t o y : ℕ) (n : List ℕ) (remote : List ClusterPosition) : Type 0 where
  pub position : Position
  pub names : positions_for y remote ≡ position ∷ []
  pub index : ℕ
  pub stored : index_at (mirror_at s a t y) position ≡ Some index
  pub told : (k : ℕ) (f : Entry) → k ≤ index → slice_get (mirror_at s a t y).entries k ≡ Some f → is_data f.content ≡ true → meant_for o f ≡ true → IsSettled settled t n f

abbrev pub TellsSettled : Setup → Mirrors → SettledSoFar → ℕ → ℕ → List ℕ → List ClusterPosition → Type 0
TellsSettled s a settled t o n remote = (y : ℕ) → y < length s.clusters → o ≢ y → TellsTo s a settled t o y n remote

pub record TopicKept (s : Setup) (a : Mirrors) (settled : SettledSoFar) (t x : ℕ) (m : Mirror) : Type 0 where
  pub lengths : length m.positions ≡ length m.entries
  pub origins : (i : ℕ) (e : Entry) → slice_get m.entries i ≡ Some e → e.ident.origin < length s.clusters
  pub once : OnceIn m.entries
  pub only : (k : ℕ) (v : MirrorSub) → slice_get m.subs k ≡ Some v → OnlySettledIn settled t m v
  pub snapshots : (i : ℕ) (e : Entry) (id : List ℕ) (local : Position) (remote : List ClusterPosition) → slice_get m.entries i ≡ Some e → e.ident.origin ≡ x
      → e.content ≡ content.Marked (marker.Snapshot id local remote) → IsCutIn s a t x local remote
  pub updates : (i : ℕ) (e : Entry) (n : List ℕ) (remote : List ClusterPosition) → slice_get m.entries i ≡ Some e
      → e.content ≡ content.Marked (marker.Update n remote) → TellsSettled s a settled t e.ident.origin n remote

pub record Kept (s : Setup) (a : Mirrors) (settled : SettledSoFar) : Type 0 where
  pub sized : length a.topics ≡ length s.topics * length s.clusters
  pub topics : (t x : ℕ) → IsThere s t x → TopicKept s a settled t x (mirror_at s a t x)

-- ---- growing

-- entries and positions are added at the end, and none is moved
pub record Longer (m m' : Mirror) : Type 0 where
  pub more : List Entry
  pub entries : m'.entries ≡ m.entries ++ more
  pub index : (p : Position) (i : ℕ) → index_at m p ≡ Some i → index_at m' p ≡ Some i

abbrev pub Lengthened : Setup → Mirrors → Mirrors → Type 0
Lengthened s a a' = (t x : ℕ) → IsThere s t x → Longer (mirror_at s a t x) (mirror_at s a' t x)

pub as_before : (m m' : Mirror) → m'.entries ≡ m.entries → m'.positions ≡ m.positions → Longer m m'
as_before m m' same positions = record {
  more = [];
  entries = same ∙ sym (append-nil m.entries);
  index = λ p i at. ap (λ (ps : List Position). index_from 0 ps p) positions ∙ at;
}

-- an index that is found is one of the list
pub index_within : (k : ℕ) (ps : List Position) (p : Position) (i : ℕ) → index_from k ps p ≡ Some i → i < k + length ps
index_within k [] p i h = absurd (none-some i h)
index_within k (q ∷ qs) p i h = by (same_position q p) h (index_within (k + 1) qs p i)
  where
    by : (b : Bool) → (if b then Some k else index_from (k + 1) qs p) ≡ Some i → (index_from (k + 1) qs p ≡ Some i → i < (k + 1) + length qs) → i < k + length (q ∷ qs)
    by true e ih = let same = same_Some k i e in omega (arith, same)
    by false e ih = let lt = ih e in omega (arith, lt)

still_there : (k : ℕ) (ps more : List Position) (p : Position) (i : ℕ) → index_from k ps p ≡ Some i → index_from k (ps ++ more) p ≡ Some i
still_there k [] more p i h = absurd (none-some i h)
still_there k (q ∷ qs) more p i h = by (same_position q p) h (still_there (k + 1) qs more p i)
  where
    by : (b : Bool) → (if b then Some k else index_from (k + 1) qs p) ≡ Some i → (index_from (k + 1) qs p ≡ Some i → index_from (k + 1) (qs ++ more) p ≡ Some i)
        → (if b then Some k else index_from (k + 1) (qs ++ more) p) ≡ Some i
    by true e ih = e
    by false e ih = ih e

pub appended_longer : (m : Mirror) (p : Position) (e : Entry) (vs : List MirrorSub) → Longer m (record { entries = m.entries ++ e ∷ []; positions = m.positions ++ p ∷ []; subs = vs })
appended_longer m p e vs = record { more = e ∷ []; entries = refl; index = λ q i at. still_there 0 m.positions (p ∷ []) q i at }

-- what stood at or below an index that was there stood before
old_entry : (m m' : Mirror) (i k : ℕ) (f : Entry) → Longer m m' → i < length m.entries → k ≤ i → slice_get m'.entries k ≡ Some f → slice_get m.entries k ≡ Some f
old_entry m m' i k f g lt le at =
    sym (get_within m.entries g.more k (omega (arith, lt, le))) ∙ (ap (λ (l : List Entry). slice_get l k) (sym g.entries) ∙ at)

new_entry : (m m' : Mirror) (k : ℕ) (f : Entry) → Longer m m' → slice_get m.entries k ≡ Some f → slice_get m'.entries k ≡ Some f
new_entry m m' k f g at = ap (λ (l : List Entry). slice_get l k) g.entries ∙ get_left m.entries g.more k f at

pub below_grows : (m m' : Mirror) (l : ℕ) (f : Entry) → Longer m m' → StandsBelow m l f → StandsBelow m' l f
below_grows m m' l f g b = record { index = b.index; entry = b.entry; below = b.below; at = new_entry m m' b.index b.entry g b.at; ident = b.ident; content = b.content }

abbrev AllLengths : Setup → Mirrors → Type 0
AllLengths s a = (t x : ℕ) → IsThere s t x → length (mirror_at s a t x).positions ≡ length (mirror_at s a t x).entries

stored_within : (s : Setup) (a : Mirrors) (t y : ℕ) (p : Position) (i : ℕ) → AllLengths s a → IsThere s t y → index_at (mirror_at s a t y) p ≡ Some i → i < length (mirror_at s a t y).entries
stored_within s a t y p i lengths there at =
    let lt = index_within 0 (mirror_at s a t y).positions p i at in let same = lengths t y there in omega (arith, lt, same)

pub cut_grows : (s : Setup) (a a' : Mirrors) (t x : ℕ) (local : Position) (remote : List ClusterPosition) → AllLengths s a → Lengthened s a a' → IsThere s t x
    → IsCutIn s a t x local remote → IsCutIn s a' t x local remote
cut_grows s a a' t x local remote lengths grown there c = record {
  local_index = c.local_index;
  local_stored = (grown t x there).index local c.local_index c.local_stored;
  each = λ y lt other.
      let to = c.each y lt other in let g = grown t y (there.0, lt) in
      record {
        position = to.position;
        names = to.names;
        index = to.index;
        stored = g.index to.position to.index to.stored;
        covers = λ k f le at message meant.
            below_grows _ _ c.local_index f (grown t x there)
            (to.covers k f le (old_entry _ _ to.index k f g (stored_within s a t y to.position to.index lengths (there.0, lt) to.stored) le at) message meant);
      };
}

pub tells_grows : (s : Setup) (a a' : Mirrors) (settled more : SettledSoFar) (t o : ℕ) (n : List ℕ) (remote : List ClusterPosition) → AllLengths s a → Lengthened s a a'
    → Includes settled more → t < length s.topics → TellsSettled s a settled t o n remote → TellsSettled s a' more t o n remote
tells_grows s a a' settled more t o n remote lengths grown all lt h y small other =
    let to = h y small other in let g = grown t y (lt, small) in
    record {
      position = to.position;
      names = to.names;
      index = to.index;
      stored = g.index to.position to.index to.stored;
      told = λ k f le at message meant.
          all t n f (to.told k f le (old_entry _ _ to.index k f g (stored_within s a t y to.position to.index lengths (lt, small) to.stored) le at) message meant);
    }

-- ---- one line changes one topic

pub one_mirror : (s : Setup) (P : ℕ → ℕ → Mirror → Type 0) (ms : List Mirror) (t x : ℕ) (m : Mirror) → IsThere s t x → P t x m
    → ((u v : ℕ) → IsThere s u v → P u v (slice_index_or ms (mirror_number s u v) no_mirror))
    → (u v : ℕ) → IsThere s u v → P u v (slice_index_or (slice_set ms (mirror_number s t x) m) (mirror_number s u v) no_mirror)
one_mirror s P ms t x m here new all u v there =
    at_set (P u v) ms (mirror_number s t x) (mirror_number s u v) m no_mirror
    (λ is.
    let same = same_node s t u x v here.1 there.1 is in
    subst (λ (z : ℕ). P u z m) same.1 (subst (λ (z : ℕ). P z x m) same.0 new))
    (all u v there)

-- a topic that a line leaves alone
pub left_alone : (s : Setup) (a a' : Mirrors) (settled more : SettledSoFar) (t x : ℕ) (m : Mirror) → AllLengths s a → Lengthened s a a' → Includes settled more → IsThere s t x
    → TopicKept s a settled t x m → TopicKept s a' more t x m
left_alone s a a' settled more t x m lengths grown all there k = record {
  lengths = k.lengths;
  origins = k.origins;
  once = k.once;
  only = λ j v at i inside. let h = k.only j v at i inside in (h.0, h.1, λ message. all t v.name h.0 (h.2 message));
  snapshots = λ i e id local remote at of is. cut_grows s a a' t x local remote lengths grown there (k.snapshots i e id local remote at of is);
  updates = λ i e n remote at is. tells_grows s a a' settled more t e.ident.origin n remote lengths grown all there.0 (k.updates i e n remote at is);
}

pub all_lengths : (s : Setup) (a : Mirrors) (settled : SettledSoFar) → Kept s a settled → AllLengths s a
all_lengths s a settled k t x there = (k.topics t x there).lengths

-- what a line that only lengthens topics leaves, where topic t at x becomes m'
pub with_topic : (s : Setup) (a : Mirrors) (settled more : SettledSoFar) (t x : ℕ) (m' : Mirror) → IsThere s t x → Kept s a settled → Longer (mirror_at s a t x) m' → Includes settled more
    → (Lengthened s a (record a { topics = slice_set a.topics (mirror_number s t x) m' }) → TopicKept s (record a { topics = slice_set a.topics (mirror_number s t x) m' }) more t x m')
    → Kept s (record a { topics = slice_set a.topics (mirror_number s t x) m' }) more
with_topic s a settled more t x m' there kept longer all new =
    let a' : Mirrors = record a { topics = slice_set a.topics (mirror_number s t x) m' } in
    let grown : Lengthened s a a' =
    one_mirror s (λ u v m. Longer (mirror_at s a u v) m) a.topics t x m' there longer (λ u v here. as_before (mirror_at s a u v) (mirror_at s a u v) refl refl) in
    record {
      sized = length-set a.topics (mirror_number s t x) m' ∙ kept.sized;
      topics = one_mirror s (λ u v m. TopicKept s a' more u v m) a.topics t x m' there (new grown)
          (λ u v here. left_alone s a a' settled more u v (mirror_at s a u v) (all_lengths s a settled kept) grown all here (kept.topics u v here));
    }
