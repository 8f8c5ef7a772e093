-- The markers of snapshots are small, and the broker can store them.
use Rattle.std.proofs.Common.{◌≡◌, ℕ, ◌+◌, ◌-◌, ◌<◌, ◌≤◌, ◌^◌, Bool, true, false, List, [], ◌∷◌, ◌++◌, length, refl, ◌∙◌, ap, arith}
use Rattle.std.specs.Prelude.{◌==◌, if◌then◌else◌, decimal, slice_index_or, Option, Some, None, Result, Ok, Err, IfOk}
use Rattle.std.proofs.lemmas.Fmt.{length-decimal-le}
use Rattle.std.proofs.lemmas.List.{length-append}
use Rattle.geo_base.specs.declared.entry.Entry.{Entry}
use Rattle.geo_base.specs.declared.entry.Targets.TheVariants as targets
use Rattle.geo_base.specs.declared.marker.ClusterPosition.{ClusterPosition}
use Rattle.geo_base.specs.declared.marker.Marker.TheVariants as marker
use Rattle.geo_base.specs.declared.marker.ClusterRef.TheVariants as cluster_ref
use Rattle.geo_base.specs.declared.position.Position.{Position}
use Rattle.geo_base.specs.declared.snapshot.SnapshotBuilder.{SnapshotBuilder}
use Rattle.geo_base.specs.declared.snapshot.Cut.{Cut}
use Rattle.geo_base.specs.Broker.{Broker, Site, cluster_name}
use Rattle.geo_base.specs.SnapshotBuilder.{named, snapshot_id}
use Rattle.geo_base.specs.Entry.{marker_producer}
use Rattle.geo_base.specs.Markers.{request_marker, response_marker, snapshot_marker}
use Rattle.geo_base.specs.Sizes.{cluster_position_size, position_size}
use Rattle.geo_base.specs.Storing.{own_marker}
use Rattle.geo_base.specs.Topic.{next_marker, or_first, position_at, position_of}
use Rattle.frame_values.proofs.Entries.{no_rest}
use Rattle.broker_subs.proofs.Held.{itself}
use Rattle.broker_state.specs.Site.{IsSite}
use Rattle.broker_plans.specs.Storable.{IsBuilderOf, IsStorable}
use Rattle.broker_plans.proofs.Packets.{bytes_most, name_most, number_most, place_most}
use Rattle.broker_plans.proofs.Updates.{own_accepted, positions_most}
use Rattle.broker_tasks.specs.Reading.{IsReady}

-- the limit on own markers
within : (own n : ℕ) → n ≤ 5242880 + 1024 → n ≤ (if own == own then 5242880 + 1024 else 5242880)
within own n few = rw (itself own) few

request_storable : (h : Site) (b : Broker) (id : List ℕ) → IsSite h → length id ≤ 66 → IsStorable h (request_marker h b id)
request_storable h b id site short = record {
  read = record { rest = no_rest; marker = tt };
  size = within h.own _
      (omega (
        arith,
        bytes_most 1 (length marker_producer),
        number_most 2 (next_marker h.own b.entries),
        number_most 3 0,
        number_most 20 10,
        bytes_most 1 (length id),
        bytes_most 2 (length (slice_index_or h.clusters h.own [])),
        name_most h.clusters h.own site.names,
        short,
      ));
}

pub request_ready : (h : Site) (b : Broker) (id : List ℕ) (e : Entry) → IsSite h → length id ≤ 66 → e ≡ request_marker h b id → IsReady h b e
request_ready h b id e site short is = rw is (record { new = own_accepted h.own b.entries; storable = request_storable h b id site short })

response_storable : (h : Site) (b : Broker) (y : ℕ) (id : List ℕ) → IsSite h → length id ≤ 5242880 → IsStorable h (response_marker h b y id)
response_storable h b y id site short =
    let at = position_at b.ledgers (length b.entries - 1) in
    record {
      read = record { rest = no_rest; marker = tt };
      size = within h.own _
          (omega (
            arith,
            bytes_most 1 (length marker_producer),
            number_most 2 (next_marker h.own b.entries),
            number_most 3 0,
            bytes_most 7 (length (slice_index_or h.clusters y [])),
            name_most h.clusters y site.names,
            number_most 20 11,
            bytes_most 1 (length id),
            bytes_most 2 (cluster_position_size h.clusters (record { cluster = cluster_ref.Known h.own; position = at })),
            bytes_most 1 (length (slice_index_or h.clusters h.own [])),
            name_most h.clusters h.own site.names,
            bytes_most 2 (position_size at),
            place_most at,
            short,
          ));
    }

pub response_ready : (h : Site) (b : Broker) (y : ℕ) (id : List ℕ) (e : Entry) → IsSite h → length id ≤ 5242880 → e ≡ response_marker h b y id → IsReady h b e
response_ready h b y id e site short is = rw is (record { new = own_accepted h.own b.entries; storable = response_storable h b y id site short })

snapshot_storable : (h : Site) (b : Broker) (u : SnapshotBuilder) → IsSite h → IsBuilderOf h u → IsStorable h (snapshot_marker h b u)
snapshot_storable h b u site of = record {
  read = record { rest = no_rest; marker = tt };
  size = within h.own _
      (omega (
        arith,
        bytes_most 1 (length marker_producer),
        number_most 2 (next_marker h.own b.entries),
        number_most 3 0,
        bytes_most 7 (length (slice_index_or h.clusters h.own [])),
        name_most h.clusters h.own site.names,
        number_most 20 12,
        bytes_most 1 (length u.id),
        bytes_most 2 (position_size u.cut.local),
        place_most u.cut.local,
        positions_most h.clusters 3 0 u.cut.remote site.names,
        site.few,
        of.id,
        of.cut,
      ));
}

pub snapshot_ready : (h : Site) (b : Broker) (u : SnapshotBuilder) (e : Entry) → IsSite h → IsBuilderOf h u → e ≡ snapshot_marker h b u → IsReady h b e
snapshot_ready h b u e site of is = rw is (record { new = own_accepted h.own b.entries; storable = snapshot_storable h b u site of })

-- ---- ids

pub short_id : (name : List ℕ) (p : Position) (id : List ℕ) → length name ≤ 16 → p.ledger < 2 ^ 64 → p.entry < 2 ^ 64 → id ≡ snapshot_id name p → length id ≤ 64
short_id name p id short ledger entry is =
    rw is
    (omega (
      arith,
      length-append name (58 ∷ (decimal p.ledger ++ (58 ∷ decimal p.entry))),
      length-append (decimal p.ledger) (58 ∷ decimal p.entry),
      length-decimal-le 20 p.ledger (omega arith) (omega (arith, ledger)) ledger,
      length-decimal-le 20 p.entry (omega arith) (omega (arith, entry)) entry,
      short,
    ))

-- ---- the markers that the code makes, of parts that are made one by one

pub request_is : {E : Type 0} (h : Site) (b : Broker) (id text : List ℕ) (own : ℕ) (names : List (List ℕ)) (r : Result Entry E) → text ≡ id → own ≡ h.own → names ≡ []
    → IfOk r (λ e. e ≡ own_marker h b (marker.Request text (cluster_ref.Known own)) targets.All names) → IfOk r (λ e. e ≡ request_marker h b id)
request_is {E} h b id text own names (Ok e) said mine none is = is ∙ rw (said, mine, none) refl
request_is {E} h b id text own names (Err why) said mine none is = tt

pub response_is : {E : Type 0} (h : Site) (b : Broker) (y own : ℕ) (id text ls : List ℕ) (es : List Entry) (o : Option Position) (p : Position) (r : Result Entry E) → text ≡ id → own ≡ h.own
    → p ≡ or_first o → o ≡ position_of ls (length es - 1) → ls ≡ b.ledgers → es ≡ b.entries
    → IfOk r (λ e. e ≡ own_marker h b (marker.Response text (record { cluster = cluster_ref.Known own; position = p })) (targets.Only (2 ^ y)) (cluster_name h y ∷ [])) → IfOk r (λ e. e ≡ response_marker h b y id)
response_is {E} h b y own id text ls es o p (Ok e) said mine at last ledgers entries is = is ∙ rw (said, mine, at, last, ledgers, entries) refl
response_is {E} h b y own id text ls es o p (Err why) said mine at last ledgers entries is = tt

-- the cut of a snapshot that is made
abbrev cut_or : Cut → Option Cut → Cut
cut_or d None = d
cut_or d (Some c) = c

made_cut : (t : Bool) (c d : Cut) → t ≡ true → Some c ≡ (if t then Some d else None) → c ≡ d
made_cut true c d is there = ap (cut_or d) there
made_cut false c d is there = absurd cc

pub snapshot_is : {E : Type 0} (h : Site) (b : Broker) (u : SnapshotBuilder) (own : ℕ) (text : List ℕ) (cut : Cut) (remote : List ClusterPosition) (r : Result Entry E) → text ≡ u.id
    → u.finished ≡ true → Some cut ≡ (if u.finished then Some u.cut else None) → remote ≡ named cut → own ≡ h.own
    → IfOk r (λ e. e ≡ own_marker h b (marker.Snapshot text cut.local remote) (targets.Only (2 ^ own)) (cluster_name h own ∷ [])) → IfOk r (λ e. e ≡ snapshot_marker h b u)
snapshot_is {E} h b u own text cut remote (Ok e) said made there places mine is = is ∙ rw (places, made_cut u.finished cut u.cut made there, said, mine) refl
snapshot_is {E} h b u own text cut remote (Err why) said made there places mine is = tt

-- what is known of the marker is known of the one that was made
pub made_ready : {E : Type 0} (h : Site) (b : Broker) (m : Entry) (r : Result Entry E) → ((e : Entry) → e ≡ m → IsReady h b e) → IfOk r (λ e. e ≡ m) → IfOk r (IsReady h b)
made_ready {E} h b m (Ok e) ready is = ready e is
made_ready {E} h b m (Err why) ready is = tt
