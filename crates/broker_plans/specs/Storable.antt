-- What a broker keeps and may send later: that it can be written again, as one frame.
use Rattle.std.specs.Prelude.{ℕ, ◌+◌, ◌≤◌, ◌==◌, if◌then◌else◌, List, [], ◌∷◌, length, IfSome, ⊤}
use Rattle.std.specs.List.{AllByRecursion}
use Rattle.geo_base.specs.declared.change.Change.{Change}
use Rattle.geo_base.specs.declared.change.Change.TheVariants as change
use Rattle.geo_base.specs.declared.entry.Content.{Content}
use Rattle.geo_base.specs.declared.entry.Content.TheVariants as content
use Rattle.geo_base.specs.declared.entry.Entry.{Entry}
use Rattle.geo_base.specs.declared.frame.Frame.{Frame}
use Rattle.geo_base.specs.declared.frame.Frame.TheVariants as frame
use Rattle.geo_base.specs.declared.marker.Marker.{Marker}
use Rattle.geo_base.specs.declared.marker.Marker.TheVariants as marker
use Rattle.geo_base.specs.declared.snapshot.SnapshotBuilder.{SnapshotBuilder}
use Rattle.geo_base.specs.declared.snapshot.CachedSnapshot.{CachedSnapshot}
use Rattle.geo_base.specs.declared.snapshot.Cut.{Cut}
use Rattle.geo_base.specs.declared.write.Write.{Write}
use Rattle.geo_base.specs.declared.write.Write.TheVariants as write
use Rattle.geo_base.specs.Broker.{Broker, Site}
use Rattle.geo_base.specs.Plan.{Plan}
use Rattle.geo_base.specs.Sizes.{entry_size, most_entry_size}
use Rattle.geo_base.specs.Subscription.{Subscription}
use Rattle.message_meta.specs.Known.{IsRest}

-- ---- an entry

-- the text that a marker begins with: a snapshot's id, or an update's subscription
abbrev pub first_text : Marker → List ℕ
first_text (marker.Request id source) = id
first_text (marker.Response id answer) = id
first_text (marker.Snapshot id local remote) = id
first_text (marker.Update n remote) = n

-- a payload that is kept is at least as long as that text, which stands in it
abbrev pub HasText : Content → List ℕ → Type 0
HasText (content.Marked m) (b ∷ bs) = length (first_text m) ≤ length (b ∷ bs)
HasText c payload = ⊤

-- What a reader says of an entry: the bytes of the fields that nobody reads are their canonical text, and its marker stands in
-- its payload.
pub record IsReadEntry (e : Entry) : Type 0 where
  pub rest : IsRest e.meta.rest
  pub marker : HasText e.content e.payload

-- and of a frame
abbrev pub IsReadFrame : Frame → Type 0
IsReadFrame (frame.Send id seq source e) = IsReadEntry e
IsReadFrame (frame.Message id position source e) = IsReadEntry e
IsReadFrame f = ⊤

-- bytes that an own marker may have beyond the limit on entries, since an answer names the id that was asked (own)
abbrev pub marker_slack : ℕ
marker_slack = 1024

abbrev pub most_stored : ℕ → ℕ → ℕ
most_stored own origin = if origin == own then most_entry_size + marker_slack else most_entry_size

-- An entry that can be written again at a site, as a SEND and as a MESSAGE.
pub record IsStorable (h : Site) (e : Entry) : Type 0 where
  pub read : IsReadEntry e
  pub size : entry_size h.clusters e ≤ most_stored h.own e.ident.origin

abbrev pub AreStorable : Site → List Entry → Type 0
AreStorable h es = AllByRecursion (IsStorable h) es

-- ---- what markers are made of

-- a cut has at most a position of each cluster
abbrev pub IsCutOf : Site → Cut → Type 0
IsCutOf h cut = length cut.remote ≤ length h.clusters

abbrev pub IsSnapshotOf : Site → CachedSnapshot → Type 0
IsSnapshotOf h c = IsCutOf h c.cut

-- the id of an own snapshot: a name, two numbers and what stands between them
abbrev pub most_id : ℕ
most_id = 64

pub record IsBuilderOf (h : Site) (u : SnapshotBuilder) : Type 0 where
  pub id : length u.id ≤ most_id
  pub cut : IsCutOf h u.cut

-- ---- a broker

-- All that a broker may send of what it keeps can be written. Each event keeps it so.
pub record IsWritable (h : Site) (b : Broker) : Type 0 where
  pub entries : AreStorable h b.entries
  pub caches : AllByRecursion (λ (s : Subscription). AllByRecursion (IsSnapshotOf h) s.cache) b.subs
  pub builder : IfSome b.builder (IsBuilderOf h)

-- what a plan adds to what is kept
abbrev pub WritesStorable : Site → List Write → Type 0
WritesStorable h [] = ⊤
WritesStorable h (write.Append e ∷ ws) = IsStorable h e × WritesStorable h ws
WritesStorable h (w ∷ ws) = WritesStorable h ws

abbrev pub ChangesStorable : Site → List Change → Type 0
ChangesStorable h [] = ⊤
ChangesStorable h (change.Cache n c ∷ cs) = IsSnapshotOf h c × ChangesStorable h cs
ChangesStorable h (change.Building o ∷ cs) = IfSome o (IsBuilderOf h) × ChangesStorable h cs
ChangesStorable h (c ∷ cs) = ChangesStorable h cs

pub record PlanStorable (h : Site) (p : Plan) : Type 0 where
  pub writes : WritesStorable h p.writes
  pub changes : ChangesStorable h p.changes
