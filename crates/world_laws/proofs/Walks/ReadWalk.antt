-- The walk through read: what a replicator does with the next entry that its cursor lacks.
use Rattle.std.proofs.Common.{◌≡◌, ℕ, ◌+◌, true, List, [], ◌∷◌, length, refl, ◌==◌}
use Rattle.std.specs.Prelude.{Option, Some, None, ◌&&◌, slice_get}
use Rattle.world_laws.proofs.Types.{SnapshotBuilder, ClusterPosition, Content, Entry, Marker, Progress}
use Rattle.world_laws.proofs.Types.change
use Rattle.world_laws.proofs.Types.content
use Rattle.world_laws.proofs.Types.marker
use Rattle.world_laws.proofs.Types.progress
use Rattle.geo_base.specs.Broker.{Broker, Site, replicator_at, sub_named}
use Rattle.geo_base.specs.SnapshotBuilder.{Heard, on_response}
use Rattle.geo_base.specs.Entry.{is_outbound, means_cluster}
use Rattle.geo_base.specs.Forwarding.{is_remote}
use Rattle.geo_base.specs.Markers.{after_response, heard_from, read_content, read_marker, read_response}
use Rattle.geo_base.specs.Name.{is_name}
use Rattle.geo_base.specs.Reading.{read, read_at, read_entry}
use Rattle.geo_base.specs.Replicator.{index_to_read}
use Rattle.geo_base.specs.Subscribing.{has_room}
use Rattle.geo_base.specs.Subscription.{Subscription, with_acks}
use Rattle.geo_base.specs.Topic.{position_at}
use Rattle.geo_base.specs.Updating.{handled, only_index, updated_indexes, update_writes, positions_for, read_update}
use Rattle.world_laws.proofs.Walks.Shapes.{Hears, IsMarkerOf, IsResponse, IsUpdate, Reads, ReadsNext}
use Rattle.world_laws.proofs.Walks.ServeWalk.{updates_after}
use Rattle.world_laws.proofs.Walks.Walk.{on_found, on_test}

after_read : (h : Site) (b : Broker) (y i : ℕ) (e : Entry) (id : List ℕ) (answer : ClusterPosition) (u : SnapshotBuilder) (g : Progress) (u' : SnapshotBuilder)
    → ReadsNext h b y i e → IsResponse h b y e id answer u → Hears b y i id answer u g u' → Reads h b y (after_response h b y i g u')
after_read h b y i e id answer u progress.Ignored u' next is heard = Reads.Skips i e next is.0.0
after_read h b y i e id answer u progress.Kept u' next is heard = Reads.Counts i e id answer u u' next is heard
after_read h b y i e id answer u progress.SecondRound u' next is heard = Reads.AsksAgain i e id answer u u' next is heard
after_read h b y i e id answer u progress.Done u' next is heard = Reads.Completes i e id answer u u' next is heard

response_read : (h : Site) (b : Broker) (y i : ℕ) (e : Entry) (id : List ℕ) (answer : ClusterPosition) (o : Option SnapshotBuilder)
    → ReadsNext h b y i e → IsMarkerOf h y e → e.content ≡ content.Marked (marker.Response id answer) → b.builder ≡ o
    → Reads h b y (read_response h b y i id answer o)
response_read h b y i e id answer None next of is built = Reads.Skips i e next of.0
response_read h b y i e id answer (Some u) next of is built =
    let heard : Heard = on_response u id y answer.position (position_at b.ledgers i) in
    on_test (Reads h b y) (means_cluster y answer.cluster) (heard_from h b y i heard) _
    (λ named. after_read h b y i e id answer u heard.progress heard.builder next (of, is, built, named) refl) (λ _. Reads.Skips i e next of.0)

sub_read : (h : Site) (b : Broker) (y i j : ℕ) (e : Entry) (n : List ℕ) (remote : List ClusterPosition) (o : Option Subscription)
    → ReadsNext h b y i e → IsUpdate h b y e n remote j → sub_named b.subs n ≡ o
    → Reads h b y (handled y i (update_writes h b n (updated_indexes y 0 (j + 1) b.entries) o) (change.Acked n ∷ []))
sub_read h b y i j e n remote None next is named = Reads.CreatesAt i j e n remote next is named
sub_read h b y i j e n remote (Some v) next is named =
    Reads.ActsOnUpdate i j e n remote v _ next is named (updates_after h b (with_acks (updated_indexes y 0 (j + 1) b.entries) v))

update_read : (h : Site) (b : Broker) (y i : ℕ) (e : Entry) (n : List ℕ) (remote : List ClusterPosition)
    → ReadsNext h b y i e → IsMarkerOf h y e → e.content ≡ content.Marked (marker.Update n remote) → Reads h b y (read_update h b y i n remote)
update_read h b y i e n remote next of is =
    on_found (Reads h b y) (handled y i [] []) (only_index b.ledgers (positions_for h.own remote)) _ (λ _. Reads.Skips i e next of.0)
    (λ j at. on_test (Reads h b y) (is_name n && has_room b n) _ _
    (λ may. sub_read h b y i j e n remote (sub_named b.subs n) next (of, is, at, may) refl) (λ _. Reads.Skips i e next of.0))

marker_read : (h : Site) (b : Broker) (y i : ℕ) (e : Entry) (m : Marker) → ReadsNext h b y i e → IsMarkerOf h y e → e.content ≡ content.Marked m
    → Reads h b y (read_marker h b y i m)
marker_read h b y i e (marker.Request id source) next of is = Reads.Responds i e id source next of is
marker_read h b y i e (marker.Response id answer) next of is = response_read h b y i e id answer b.builder next of is refl
marker_read h b y i e (marker.Snapshot id local remote) next of is = Reads.Skips i e next of.0
marker_read h b y i e (marker.Update n remote) next of is = update_read h b y i e n remote next of is

content_read : (h : Site) (b : Broker) (y i : ℕ) (e : Entry) (c : Content) → ReadsNext h b y i e → IsMarkerOf h y e → e.content ≡ c
    → Reads h b y (read_content h b y i c)
content_read h b y i e (content.Marked m) next of is = marker_read h b y i e m next of is
content_read h b y i e content.Data next of is = Reads.Skips i e next of.0
content_read h b y i e (content.Unread kind) next of is = Reads.Skips i e next of.0

entry_read : (h : Site) (b : Broker) (y i : ℕ) (o : Option Entry) → is_remote h y ≡ true
    → index_to_read (replicator_at b y).state (replicator_at b y) (length b.entries) ≡ Some i → slice_get b.entries i ≡ o
    → Reads h b y (read_entry h b y i o)
entry_read h b y i None remote at is = Reads.NothingToRead
entry_read h b y i (Some e) remote at is =
    on_test (Reads h b y) (is_outbound h.own y e) _ _ (λ out. Reads.Forwards i e (remote, at, is) out)
    (λ other. on_test (Reads h b y) (e.ident.origin == y) _ _ (λ of. content_read h b y i e e.content (remote, at, is) (other, of) refl)
    (λ _. Reads.Skips i e (remote, at, is) other))

index_read : (h : Site) (b : Broker) (y : ℕ) (o : Option ℕ) → is_remote h y ≡ true
    → index_to_read (replicator_at b y).state (replicator_at b y) (length b.entries) ≡ o → Reads h b y (read_at h b y o)
index_read h b y None remote at = Reads.NothingToRead
index_read h b y (Some i) remote at = entry_read h b y i (slice_get b.entries i) remote at refl

pub read_shape : (h : Site) (b : Broker) (y : ℕ) → Reads h b y (read h b y)
unfolding read
read_shape h b y =
    on_test (Reads h b y) (is_remote h y) (read_at h b y (index_to_read (replicator_at b y).state (replicator_at b y) (length b.entries))) _
    (λ remote. index_read h b y (index_to_read (replicator_at b y).state (replicator_at b y) (length b.entries)) remote refl) (λ _. Reads.NothingToRead)
