-- Entries that can be written: their texts are ASCII, those that name them as short as names, and their numbers have 64 bits.
use Rattle.std.proofs.Common.{◌≡◌, ℕ, ◌+◌, ◌^◌, ◌<◌, Bool, true, false, List, [], ◌∷◌, length, subst, arith}
use Rattle.std.specs.Prelude.{Option, Some, None, IfSome, ◌||◌, ◌==◌, nat_lt, if◌then◌else◌, replicate}
use Rattle.std.proofs.lemmas.Option.{none-some, same_Some}
use Rattle.world_laws.proofs.Types.{SnapshotBuilder, CachedSnapshot, ClusterPosition, Content, Cut, Entry, Frame, Marker, ClusterRef, Position, Progress, Targets}
use Rattle.world_laws.proofs.Types.content
use Rattle.world_laws.proofs.Types.frame
use Rattle.world_laws.proofs.Types.marker
use Rattle.world_laws.proofs.Types.cluster_ref
use Rattle.geo_base.specs.Broker.{Broker, Site}
use Rattle.geo_base.specs.SnapshotBuilder.{Heard, counts, current_id, judged, named, named_from, on_response, started, with_response}
use Rattle.geo_base.specs.Cache.{any_passed, cut_of, last_passed, with_place, with_places}
use Rattle.geo_base.specs.Entry.{with_origin}
use Rattle.geo_base.specs.Position.{position_lt}
use Rattle.geo_base.specs.Storing.{own_marker}
use Rattle.geo_base.specs.Topic.{next_marker}
use Rattle.world_laws.proofs.Replicating.Effects.{Each}
use Rattle.world_laws.proofs.Snapshotting.Ids.{IsSmall}
use Rattle.world_laws.proofs.Walks.Walk.{on_if}
use Rattle.kept_laws.proofs.Ascii.{AreLow, IsNameText, marker_producer_text, second_low}
use Rattle.kept_laws.proofs.Cursors.{each_copies, each_set}

-- ---- markers

abbrev pub SmallPlace : ClusterPosition → Type 0
SmallPlace r = IsSmall r.position

abbrev pub IsSayableMarker : Marker → Type 0
IsSayableMarker (marker.Request id source) = AreLow id
IsSayableMarker (marker.Response id answer) = AreLow id × IsSmall answer.position
IsSayableMarker (marker.Snapshot id local remote) = AreLow id × IsSmall local × Each SmallPlace remote
IsSayableMarker (marker.Update sub remote) = AreLow sub × Each SmallPlace remote

abbrev pub IsSayableContent : Content → Type 0
IsSayableContent (content.Marked m) = IsSayableMarker m
IsSayableContent c = Unit {0}

-- ---- entries

pub record IsSayable (e : Entry) : Type 0 where
  pub producer : IsNameText e.ident.producer
  pub seq : e.ident.seq < 2 ^ 64
  pub publish_time : e.meta.publish_time < 2 ^ 64
  pub key : IfSome e.meta.key IsNameText
  pub content : IsSayableContent e.content

pub moved : (x : ℕ) (e : Entry) → IsSayable e → IsSayable (with_origin x e)
moved x e h = record { producer = h.producer; seq = h.seq; publish_time = h.publish_time; key = h.key; content = h.content }

pub own_sayable : (h : Site) (b : Broker) (m : Marker) (to : Targets) (names : List (List ℕ)) → next_marker h.own b.entries < 2 ^ 64 → IsSayableMarker m → IsSayable (own_marker h b m to names)
own_sayable h b m to names number k = record { producer = marker_producer_text; seq = number; publish_time = omega arith; key = tt; content = k }

abbrev pub IsSayableFrame : Frame → Type 0
IsSayableFrame (frame.Send id seq source e) = IsSayable e
IsSayableFrame (frame.Message id position source e) = IsSayable e
IsSayableFrame f = Unit {0}

pub content_of : (e : Entry) (c : Content) → e.content ≡ c → IsSayable e → IsSayableContent c
content_of e c is h = subst IsSayableContent is h.content

pub frame_of : (f g : Frame) → f ≡ g → IsSayableFrame f → IsSayableFrame g
frame_of f g is h = subst IsSayableFrame is h

-- ---- cuts

abbrev pub SmallIfAny : Option Position → Type 0
SmallIfAny o = IfSome o IsSmall

pub record IsSayableCut (c : Cut) : Type 0 where
  pub local : IsSmall c.local
  pub remote : Each SmallIfAny c.remote

abbrev pub IsSayableCached : CachedSnapshot → Type 0
IsSayableCached c = IsSayableCut c.cut

-- the places that a cut names
places_named : (c : ℕ) (ps : List (Option Position)) → Each SmallIfAny ps → Each SmallPlace (named_from c ps)
places_named c [] h = tt
places_named c (None ∷ ps) h = places_named (c + 1) ps h.1
places_named c (Some p ∷ ps) h = (h.0, places_named (c + 1) ps h.1)

pub cut_named : (c : Cut) → IsSayableCut c → Each SmallPlace (named c)
cut_named c h = places_named 0 c.remote h.remote

with_one : (own : ℕ) (c : ClusterRef) (p : Position) (ps : List (Option Position)) → IsSmall p → Each SmallIfAny ps → Each SmallIfAny (with_place own c p ps)
with_one own (cluster_ref.Known x) p ps small h = on_if (Each SmallIfAny) (x == own) ps _ h (each_set SmallIfAny ps x (Some p) small h)
with_one own (cluster_ref.Stranger n) p ps small h = h

with_all : (own : ℕ) (ps : List (Option Position)) (rs : List ClusterPosition) → Each SmallPlace rs → Each SmallIfAny ps → Each SmallIfAny (with_places own ps rs)
with_all own ps [] small h = h
with_all own ps (r ∷ rs) small h = with_all own (with_place own r.cluster r.position ps) rs small.1 (with_one own r.cluster r.position ps small.0 h)

pub cut_sayable : (own n : ℕ) (local : Position) (remote : List ClusterPosition) → IsSmall local → Each SmallPlace remote → IsSayableCut (cut_of own n local remote)
cut_sayable own n local remote small each =
    record { local = small; remote = with_all own (replicate n None) remote each (each_copies SmallIfAny n None tt) }

pub last_sayable : (m : ℕ) (cs : List CachedSnapshot) (cut : Cut) → Each IsSayableCached cs → last_passed m cs ≡ Some cut → IsSayableCut cut
last_sayable m [] cut h is = absurd (none-some cut is)
last_sayable m (c ∷ cs) cut h is = by (any_passed m cs) is (λ e. last_sayable m cs cut h.1 e)
  where
    other : (t : Bool) → (if t then Some c.cut else None) ≡ Some cut → IsSayableCut cut
    other true e = subst IsSayableCut (same_Some c.cut cut e) h.0
    other false e = absurd (none-some cut e)

    by : (t : Bool) → (if t then last_passed m cs else if nat_lt c.index m then Some c.cut else None) ≡ Some cut → (last_passed m cs ≡ Some cut → IsSayableCut cut) → IsSayableCut cut
    by true e ih = ih e
    by false e ih = other (nat_lt c.index m) e

-- ---- a snapshot that is being made

pub record IsSayableBuilder (u : SnapshotBuilder) : Type 0 where
  pub id : AreLow u.id
  pub cut : IsSayableCut u.cut

abbrev HeardSayable : Heard → Type 0
HeardSayable r = IsSayableBuilder r.builder

judged_sayable : (u : SnapshotBuilder) → IsSayableBuilder u → HeardSayable (judged u)
judged_sayable u h =
    on_if HeardSayable (nat_lt (length u.heard + 1) u.clusters) _ _ h
    (on_if HeardSayable (u.second || (u.clusters == 2)) _ _ (record { id = h.id; cut = h.cut }) (record { id = h.id; cut = h.cut }))

heard_sayable : (u : SnapshotBuilder) (id : List ℕ) (c : ℕ) (remote local : Position) → IsSmall remote → IsSmall local → IsSayableBuilder u → HeardSayable (on_response u id c remote local)
heard_sayable u id c remote local far near h =
    on_if HeardSayable (counts u id c) _ _
    (judged_sayable (with_response u c remote local) (record {
      id = h.id;
      cut = record {
        local = on_if IsSmall (position_lt u.cut.local local) local u.cut.local near h.cut.local;
        remote = on_if (Each SmallIfAny) u.second u.cut.remote _ h.cut.remote (each_set SmallIfAny u.cut.remote c (Some remote) far h.cut.remote);
      };
    })) h

pub hears_sayable : (b : Broker) (y i : ℕ) (id : List ℕ) (answer : ClusterPosition) (u : SnapshotBuilder) (g : Progress) (u' : SnapshotBuilder) (local : Position)
    → on_response u id y answer.position local ≡ record { progress = g; builder = u' } → IsSmall answer.position → IsSmall local → IsSayableBuilder u → IsSayableBuilder u'
hears_sayable b y i id answer u g u' local is far near h = subst HeardSayable is (heard_sayable u id y answer.position local far near h)

pub current_low : (u : SnapshotBuilder) → IsSayableBuilder u → AreLow (current_id u)
current_low u h = on_if AreLow u.second _ _ (second_low u.id h.id) h.id

pub started_sayable : (id : List ℕ) (own n : ℕ) → AreLow id → IsSayableBuilder (started id own n)
started_sayable id own n h =
    record { id = h; cut = record { local = record { ledger = omega arith; entry = omega arith }; remote = each_copies SmallIfAny n None tt } }
