-- What an event of settling does at a broker where no update is read: it stores no own entry but markers of snapshots, it leaves all
-- subscriptions, and of the snapshot in the making it keeps the id, until it stores it.
use Rattle.std.proofs.Common.{◌≡◌, ℕ, zero, suc, ◌+◌, Bool, true, false, List, [], ◌∷◌, length, refl, ap, subst, ◌∙◌, ◌==◌}
use Rattle.std.specs.Prelude.{Option, Some, None, ◌||◌, nat_lt, slice_get}
use Rattle.std.proofs.lemmas.Bool.{eqb-true}
use Rattle.std.proofs.lemmas.Option.{none-some, same_Some}
use Rattle.world_laws.proofs.Types.{SnapshotBuilder, ClusterPosition, Content, Entry, Packet, Position, Progress}
use Rattle.world_laws.proofs.Types.content
use Rattle.world_laws.proofs.Types.fate
use Rattle.world_laws.proofs.Types.marker
use Rattle.world_laws.proofs.Types.progress
use Rattle.geo_base.specs.Broker.{Broker, Site}
use Rattle.geo_base.specs.SnapshotBuilder.{Heard, counts, named, on_response, with_response}
use Rattle.geo_base.specs.Entry.{with_origin}
use Rattle.geo_base.specs.Forwarding.{is_remote, receipt, reset, take_packet}
use Rattle.geo_base.specs.Markers.{snapshot_marker}
use Rattle.geo_base.specs.Plan.{Plan, done, idle_plan}
use Rattle.geo_base.specs.Topic.{position_at}
use Rattle.world_laws.proofs.Replicating.Prefixes.{is_of}
use Rattle.world_laws.proofs.TopicOrder.Added.{appended}
use Rattle.world_laws.proofs.Walks.LinkWalk.{frame_taken, packet_answered}
use Rattle.world_laws.proofs.Walks.Shapes.{Answered, Hears, IsResponse, IsUpdate, Reads, ReadsNext, Taken}
use Rattle.world_laws.proofs.Walks.Walk.{on_if}

abbrev pub is_of_snapshot : Content → Bool
is_of_snapshot (content.Marked (marker.Request id source)) = true
is_of_snapshot (content.Marked (marker.Response id answer)) = true
is_of_snapshot (content.Marked (marker.Snapshot id local remote)) = true
is_of_snapshot c = false

-- what becomes of the snapshot in the making
pub data Makes (h : Site) (b : Broker) (p : Plan) : Type 0 where
  Leaves : ((per : ℕ) → (done per b p).builder ≡ b.builder) → Makes h b p
  GoesOn : (u u' : SnapshotBuilder) → b.builder ≡ Some u → u'.id ≡ u.id → ((per : ℕ) → (done per b p).builder ≡ Some u') → Makes h b p
  Stores : (y i : ℕ) (e : Entry) (id : List ℕ) (answer : ClusterPosition) (u u' : SnapshotBuilder) → b.builder ≡ Some u → u'.id ≡ u.id → ReadsNext h b y i e → IsResponse h b y e id answer u
      → Hears b y i id answer u progress.Done u' → appended p.writes ≡ snapshot_marker h b u' ∷ [] → Makes h b p

pub record IsCalm (h : Site) (b : Broker) (p : Plan) : Type 0 where
  pub own : (j : ℕ) (e : Entry) → slice_get (appended p.writes) j ≡ Some e → is_of h.own e ≡ true → is_of_snapshot e.content ≡ true
  pub subs : (per : ℕ) → (done per b p).subs ≡ b.subs
  pub makes : Makes h b p

nothing_new : (own j : ℕ) (e : Entry) → slice_get [] j ≡ Some e → is_of own e ≡ true → is_of_snapshot e.content ≡ true
nothing_new own j e at of = absurd (none-some e at)

one_new : (own : ℕ) (m : Entry) → is_of_snapshot m.content ≡ true → (j : ℕ) (e : Entry) → slice_get (m ∷ []) j ≡ Some e → is_of own e ≡ true → is_of_snapshot e.content ≡ true
one_new own m is zero e at of = subst (λ (x : Entry). is_of_snapshot x.content ≡ true) (same_Some m e at) is
one_new own m is (suc j) e at of = absurd (none-some e at)

-- an answer leaves the id of a builder
id_stays : (u : SnapshotBuilder) (id : List ℕ) (y : ℕ) (remote local : Position) → (on_response u id y remote local).builder.id ≡ u.id
id_stays u id y remote local =
    on_if (λ (r : Heard). r.builder.id ≡ u.id) (counts u id y) _ _
    (let v = with_response u y remote local in
    on_if (λ (r : Heard). r.builder.id ≡ u.id) (nat_lt (length v.heard + 1) v.clusters) _ _ refl
    (on_if (λ (r : Heard). r.builder.id ≡ u.id) (v.second || (v.clusters == 2)) _ _ refl refl)) refl

id_after : (b : Broker) (y i : ℕ) (id : List ℕ) (answer : ClusterPosition) (u u' : SnapshotBuilder) (g : Progress) → Hears b y i id answer u g u' → u'.id ≡ u.id
id_after b y i id answer u u' g heard = subst (λ (r : Heard). r.builder.id ≡ u.id) heard (id_stays u id y answer.position (position_at b.ledgers i))

-- ---- plans

idle_calm : (h : Site) (b : Broker) → IsCalm h b idle_plan
idle_calm h b = record { own = nothing_new h.own; subs = λ per. refl; makes = Makes.Leaves (λ per. refl) }

pub reset_calm : (h : Site) (b : Broker) (y : ℕ) → IsCalm h b (reset h b y)
unfolding reset
reset_calm h b y = on_if (IsCalm h b) (is_remote h y) _ _ (record { own = nothing_new h.own; subs = λ per. refl; makes = Makes.Leaves (λ per. refl) }) (idle_calm h b)

taken_calm : (h : Site) (b : Broker) (x : ℕ) (p : Packet) (q : Plan) → (x ≡ h.own → ⊥) → Taken h b x p q → IsCalm h b q
taken_calm h b x p q other (Taken.Stores id seq source e is at may new) =
    record { own = came; subs = λ per. refl; makes = Makes.Leaves (λ per. refl) }
  where
    came : (j : ℕ) (f : Entry) → slice_get (with_origin x e ∷ []) j ≡ Some f → is_of h.own f ≡ true → is_of_snapshot f.content ≡ true
    came zero f at of = absurd (other (ap (λ (g : Entry). g.ident.origin) (same_Some _ f at) ∙ eqb-true f.ident.origin h.own of))
    came (suc j) f at of = absurd (none-some f at)
taken_calm h b x p q other (Taken.Unreadable is) = record { own = nothing_new h.own; subs = λ per. refl; makes = Makes.Leaves (λ per. refl) }
taken_calm h b x p q other (Taken.Opens topic id request name is opening) = record { own = nothing_new h.own; subs = λ per. refl; makes = Makes.Leaves (λ per. refl) }
taken_calm h b x p q other (Taken.Discards no_opening shut) = record { own = nothing_new h.own; subs = λ per. refl; makes = Makes.Leaves (λ per. refl) }
taken_calm h b x p q other (Taken.Refuses no_opening at may) = record { own = nothing_new h.own; subs = λ per. refl; makes = Makes.Leaves (λ per. refl) }
taken_calm h b x p q other (Taken.Repeats id seq source e is at may old) = record { own = nothing_new h.own; subs = λ per. refl; makes = Makes.Leaves (λ per. refl) }

pub take_calm : (h : Site) (b : Broker) (x : ℕ) (o : Option Packet) → ((p : Packet) → o ≡ Some p → x ≡ h.own → ⊥) → IsCalm h b (take_packet h b x fate.Good o)
unfolding take_packet
take_calm h b x None other = idle_calm h b
take_calm h b x (Some p) other = taken_calm h b x p _ (other p refl) (frame_taken h b x p p.frame refl)

answered_calm : (h : Site) (b : Broker) (y : ℕ) (p : Packet) (q : Plan) → Answered b y p q → IsCalm h b q
answered_calm h b y p q (Answered.Received id n k position at is awaited) = record { own = nothing_new h.own; subs = λ per. refl; makes = Makes.Leaves (λ per. refl) }
answered_calm h b y p q (Answered.Stale other) = record { own = nothing_new h.own; subs = λ per. refl; makes = Makes.Leaves (λ per. refl) }
answered_calm h b y p q (Answered.Other at other) = record { own = nothing_new h.own; subs = λ per. refl; makes = Makes.Leaves (λ per. refl) }
answered_calm h b y p q (Answered.Opened request name at is state) = record { own = nothing_new h.own; subs = λ per. refl; makes = Makes.Leaves (λ per. refl) }
answered_calm h b y p q (Answered.OpenBefore request name at is state) = record { own = nothing_new h.own; subs = λ per. refl; makes = Makes.Leaves (λ per. refl) }
answered_calm h b y p q (Answered.ClosedBefore request name at is state) = record { own = nothing_new h.own; subs = λ per. refl; makes = Makes.Leaves (λ per. refl) }
answered_calm h b y p q (Answered.ReceivedBefore id n position at is awaited) = record { own = nothing_new h.own; subs = λ per. refl; makes = Makes.Leaves (λ per. refl) }

pub receipt_calm : (h : Site) (b : Broker) (y : ℕ) (o : Option Packet) → IsCalm h b (receipt h b y fate.Good o)
unfolding receipt
receipt_calm h b y None = idle_calm h b
receipt_calm h b y (Some p) = answered_calm h b y p _ (packet_answered b y p)

-- where no update is read next
pub reads_calm : (h : Site) (b : Broker) (y : ℕ) (q : Plan) → ((i j : ℕ) (e : Entry) (n : List ℕ) (remote : List ClusterPosition) → ReadsNext h b y i e → IsUpdate h b y e n remote j → ⊥)
    → Reads h b y q → IsCalm h b q
reads_calm h b y q never Reads.NothingToRead = idle_calm h b
reads_calm h b y q never (Reads.Forwards i e next out) = record { own = nothing_new h.own; subs = λ per. refl; makes = Makes.Leaves (λ per. refl) }
reads_calm h b y q never (Reads.Skips i e next other) = record { own = nothing_new h.own; subs = λ per. refl; makes = Makes.Leaves (λ per. refl) }
reads_calm h b y q never (Reads.Responds i e id source next of is) = record { own = one_new h.own _ refl; subs = λ per. refl; makes = Makes.Leaves (λ per. refl) }
reads_calm h b y q never (Reads.Counts i e id answer u u' next is heard) =
    record { own = nothing_new h.own; subs = λ per. refl; makes = Makes.GoesOn u u' is.2 (id_after b y i id answer u u' progress.Kept heard) (λ per. refl) }
reads_calm h b y q never (Reads.AsksAgain i e id answer u u' next is heard) =
    record { own = one_new h.own _ refl; subs = λ per. refl; makes = Makes.GoesOn u u' is.2 (id_after b y i id answer u u' progress.SecondRound heard) (λ per. refl) }
reads_calm h b y q never (Reads.Completes i e id answer u u' next is heard) =
    record { own = one_new h.own _ refl; subs = λ per. refl; makes = Makes.Stores y i e id answer u u' is.2 (id_after b y i id answer u u' progress.Done heard) next is heard refl }
reads_calm h b y q never (Reads.CreatesAt i j e n remote next is named) = absurd (never i j e n remote next is)
reads_calm h b y q never (Reads.ActsOnUpdate i j e n remote v ws next is named after) = absurd (never i j e n remote next is)
