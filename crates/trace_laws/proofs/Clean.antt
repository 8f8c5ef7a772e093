-- Entries whose line says all of them: their names and ids have no space, their texts are printable, and their numbers have 64 bits.
use Rattle.std.proofs.Common.{◌≡◌, ℕ, zero, suc, ◌+◌, ◌^◌, ◌<◌, Bool, true, false, List, [], ◌∷◌, length, refl, subst, arith}
use Rattle.std.specs.Prelude.{Option, Some, None, IfSome, ◌||◌, ◌==◌, nat_lt, if◌then◌else◌, replicate, slice_set}
use Rattle.std.specs.List.{list_all}
use Rattle.std.proofs.lemmas.Option.{none-some, same_Some}
use Rattle.world_laws.proofs.Types.{SnapshotBuilder, CachedSnapshot, ClusterPosition, Content, Cut, Entry, Frame, Marker, ClusterRef, Position, Progress, Targets}
use Rattle.world_laws.proofs.Types.content
use Rattle.world_laws.proofs.Types.frame
use Rattle.world_laws.proofs.Types.marker
use Rattle.world_laws.proofs.Types.cluster_ref
use Rattle.geo_base.specs.Broker.{Broker, Site}
use Rattle.geo_base.specs.SnapshotBuilder.{Heard, counts, current_id, judged, named, named_from, on_response, started, with_response}
use Rattle.geo_base.specs.Cache.{any_passed, cut_of, last_passed, with_place, with_places}
use Rattle.geo_base.specs.Entry.{with_origin}
use Rattle.geo_base.specs.Name.{is_name}
use Rattle.geo_base.specs.Position.{position_lt}
use Rattle.geo_base.specs.Storing.{own_marker}
use Rattle.geo_base.specs.Topic.{next_marker}
use Rattle.world_laws.proofs.Replicating.Effects.{Each}
use Rattle.world_laws.proofs.Snapshotting.Ids.{IsSmall}
use Rattle.world_laws.proofs.Walks.Walk.{on_if}
use Rattle.trace_lines.specs.Words.{is_printable}
use Rattle.trace_laws.proofs.Words.{IsKey, is_token, second_token}

-- ---- lists
each_set : {X : Type 0} (P : X → Type 0) (xs : List X) (k : ℕ) (v : X) → P v → Each P xs → Each P (slice_set xs k v)
each_set P [] k v p h = tt
each_set P (x ∷ xs) zero v p h = (p, h.1)
each_set P (x ∷ xs) (suc k) v p h = (h.0, each_set P xs k v p h.1)

each_copies : {X : Type 0} (P : X → Type 0) (n : ℕ) (x : X) → P x → Each P (replicate n x)
each_copies P zero x p = tt
each_copies P (suc n) x p = (p, each_copies P n x p)

-- ---- markers

abbrev pub SmallPlace : ClusterPosition → Type 0
SmallPlace r = IsSmall r.position

abbrev pub IsCleanMarker : Marker → Type 0
IsCleanMarker (marker.Request id source) = is_token id ≡ true
IsCleanMarker (marker.Response id answer) = (is_token id ≡ true) × IsSmall answer.position
IsCleanMarker (marker.Snapshot id local remote) = (is_token id ≡ true) × IsSmall local × Each SmallPlace remote
IsCleanMarker (marker.Update sub remote) = (is_name sub ≡ true) × Each SmallPlace remote

abbrev pub IsCleanContent : Option (List ℕ) → List ℕ → Content → Type 0
IsCleanContent key payload content.Data = IsKey key × (list_all is_printable payload ≡ true)
IsCleanContent key payload (content.Marked m) = (key ≡ None) × (payload ≡ []) × IsCleanMarker m
IsCleanContent key payload (content.Unread k) = ⊥

-- ---- entries

pub record IsClean (e : Entry) : Type 0 where
  pub producer : is_token e.ident.producer ≡ true
  pub seq : e.ident.seq < 2 ^ 64
  pub publish_time : e.meta.publish_time ≡ 0
  pub content : IsCleanContent e.meta.key e.payload e.content

pub moved : (x : ℕ) (e : Entry) → IsClean e → IsClean (with_origin x e)
moved x e h = record { producer = h.producer; seq = h.seq; publish_time = h.publish_time; content = h.content }

pub own_clean : (h : Site) (b : Broker) (m : Marker) (to : Targets) (names : List (List ℕ)) → next_marker h.own b.entries < 2 ^ 64 → IsCleanMarker m → IsClean (own_marker h b m to names)
own_clean h b m to names number k = record { producer = refl; seq = number; publish_time = refl; content = (refl, refl, k) }

abbrev pub IsCleanFrame : Frame → Type 0
IsCleanFrame (frame.Send id seq source e) = IsClean e
IsCleanFrame (frame.Message id position source e) = IsClean e
IsCleanFrame f = Unit {0}

pub marker_of : (e : Entry) (m : Marker) → e.content ≡ content.Marked m → IsClean e → IsCleanMarker m
marker_of e m is h = let c : IsCleanContent e.meta.key e.payload (content.Marked m) = subst (IsCleanContent e.meta.key e.payload) is h.content in c.2

pub frame_of : (f g : Frame) → f ≡ g → IsCleanFrame f → IsCleanFrame g
frame_of f g is h = subst IsCleanFrame is h

-- ---- cuts

abbrev pub SmallIfAny : Option Position → Type 0
SmallIfAny o = IfSome o IsSmall

pub record IsCleanCut (c : Cut) : Type 0 where
  pub local : IsSmall c.local
  pub remote : Each SmallIfAny c.remote

abbrev pub IsCleanCached : CachedSnapshot → Type 0
IsCleanCached c = IsCleanCut c.cut

-- the places that a cut names
places_named : (c : ℕ) (ps : List (Option Position)) → Each SmallIfAny ps → Each SmallPlace (named_from c ps)
places_named c [] h = tt
places_named c (None ∷ ps) h = places_named (c + 1) ps h.1
places_named c (Some p ∷ ps) h = (h.0, places_named (c + 1) ps h.1)

pub cut_named : (c : Cut) → IsCleanCut c → Each SmallPlace (named c)
cut_named c h = places_named 0 c.remote h.remote

with_one : (own : ℕ) (c : ClusterRef) (p : Position) (ps : List (Option Position)) → IsSmall p → Each SmallIfAny ps → Each SmallIfAny (with_place own c p ps)
with_one own (cluster_ref.Known x) p ps small h = on_if (Each SmallIfAny) (x == own) ps _ h (each_set SmallIfAny ps x (Some p) small h)
with_one own (cluster_ref.Stranger n) p ps small h = h

with_all : (own : ℕ) (ps : List (Option Position)) (rs : List ClusterPosition) → Each SmallPlace rs → Each SmallIfAny ps → Each SmallIfAny (with_places own ps rs)
with_all own ps [] small h = h
with_all own ps (r ∷ rs) small h = with_all own (with_place own r.cluster r.position ps) rs small.1 (with_one own r.cluster r.position ps small.0 h)

pub cut_clean : (own n : ℕ) (local : Position) (remote : List ClusterPosition) → IsSmall local → Each SmallPlace remote → IsCleanCut (cut_of own n local remote)
cut_clean own n local remote small each =
    record { local = small; remote = with_all own (replicate n None) remote each (each_copies SmallIfAny n None tt) }

pub last_clean : (m : ℕ) (cs : List CachedSnapshot) (cut : Cut) → Each IsCleanCached cs → last_passed m cs ≡ Some cut → IsCleanCut cut
last_clean m [] cut h is = absurd (none-some cut is)
last_clean m (c ∷ cs) cut h is = by (any_passed m cs) is (λ e. last_clean m cs cut h.1 e)
  where
    other : (t : Bool) → (if t then Some c.cut else None) ≡ Some cut → IsCleanCut cut
    other true e = subst IsCleanCut (same_Some c.cut cut e) h.0
    other false e = absurd (none-some cut e)

    by : (t : Bool) → (if t then last_passed m cs else if nat_lt c.index m then Some c.cut else None) ≡ Some cut → (last_passed m cs ≡ Some cut → IsCleanCut cut) → IsCleanCut cut
    by true e ih = ih e
    by false e ih = other (nat_lt c.index m) e

-- ---- a snapshot that is being made

pub record IsCleanBuilder (u : SnapshotBuilder) : Type 0 where
  pub id : is_token u.id ≡ true
  pub cut : IsCleanCut u.cut

abbrev HeardClean : Heard → Type 0
HeardClean r = IsCleanBuilder r.builder

judged_clean : (u : SnapshotBuilder) → IsCleanBuilder u → HeardClean (judged u)
judged_clean u h =
    on_if HeardClean (nat_lt (length u.heard + 1) u.clusters) _ _ h
    (on_if HeardClean (u.second || (u.clusters == 2)) _ _ (record { id = h.id; cut = h.cut }) (record { id = h.id; cut = h.cut }))

heard_clean : (u : SnapshotBuilder) (id : List ℕ) (c : ℕ) (remote local : Position) → IsSmall remote → IsSmall local → IsCleanBuilder u → HeardClean (on_response u id c remote local)
heard_clean u id c remote local far near h =
    on_if HeardClean (counts u id c) _ _
    (judged_clean (with_response u c remote local) (record {
      id = h.id;
      cut = record {
        local = on_if IsSmall (position_lt u.cut.local local) local u.cut.local near h.cut.local;
        remote = on_if (Each SmallIfAny) u.second u.cut.remote _ h.cut.remote (each_set SmallIfAny u.cut.remote c (Some remote) far h.cut.remote);
      };
    })) h

pub hears_clean : (b : Broker) (y i : ℕ) (id : List ℕ) (answer : ClusterPosition) (u : SnapshotBuilder) (g : Progress) (u' : SnapshotBuilder) (local : Position)
    → on_response u id y answer.position local ≡ record { progress = g; builder = u' } → IsSmall answer.position → IsSmall local → IsCleanBuilder u → IsCleanBuilder u'
hears_clean b y i id answer u g u' local is far near h = subst HeardClean is (heard_clean u id y answer.position local far near h)

pub current_token : (u : SnapshotBuilder) → IsCleanBuilder u → is_token (current_id u) ≡ true
current_token u h = on_if (λ (id : List ℕ). is_token id ≡ true) u.second _ _ (second_token u.id h.id) h.id

pub started_clean : (id : List ℕ) (own n : ℕ) → is_token id ≡ true → IsCleanBuilder (started id own n)
started_clean id own n h =
    record { id = h; cut = record { local = record { ledger = omega arith; entry = omega arith }; remote = each_copies SmallIfAny n None tt } }
