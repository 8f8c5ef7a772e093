-- How large an own marker is: its id and its names are short, and it names no more places than there are clusters.
use Rattle.std.proofs.Common.{◌≡◌, ℕ, zero, suc, ◌+◌, ◌*◌, ◌/◌, ◌^◌, ◌<◌, ◌≤◌, true, List, [], ◌∷◌, length, arith, inl, inr, lt-ltb, le-ltb}
use Rattle.std.specs.Prelude.{Option, Some, None, nat_lt, nat_le, slice_index_or}
use Rattle.std.specs.List.{list_all}
use Rattle.std.proofs.lemmas.Bool.{cases_lt, leb-true}
use Rattle.world_laws.proofs.Types.{Cut, Marker, Position, Targets}
use Rattle.world_laws.proofs.Types.marker
use Rattle.world_laws.proofs.Types.cluster_ref
use Rattle.world_laws.proofs.Types.targets
use Rattle.geo_base.specs.Broker.{Broker, Site, cluster_name}
use Rattle.geo_base.specs.SnapshotBuilder.{named, named_from}
use Rattle.geo_base.specs.Name.{is_name, most_name_bytes, name_byte}
use Rattle.geo_base.specs.Sizes.{bytes_field, cluster_position_size, cluster_positions, entry_size, marker_size, marker_type, most_entry_size, number_field, position_size, repeated_text, varint_groups, varint_size}
use Rattle.geo_base.specs.Storing.{own_marker}
use Rattle.world_laws.proofs.Walks.Walk.{left, right}
pub use Rattle.geo_base.proofs.Bools.{and_middle as middle}

groups_most : (k n : ℕ) → varint_groups k n ≤ k + 1
groups_most zero n = omega arith
groups_most (suc k) n =
    elim (cases_lt n 128) [
      | inl small ↦ rw (lt-ltb n 128 small) (omega arith)
      | inr le ↦ rw (le-ltb n 128 le) (omega (arith, groups_most k (n / 128)))
    ]

pub varint_most : (n : ℕ) → varint_size n ≤ 10
varint_most n = omega (arith, groups_most 9 n)

pub number_most : (f n : ℕ) → number_field f n ≤ 20
number_most f n = omega (arith, varint_most (f * 8), varint_most n)

pub bytes_most : (f n : ℕ) → bytes_field f n ≤ 20 + n
bytes_most f n = omega (arith, varint_most (f * 8), varint_most n)

pub place_most : (p : Position) → position_size p ≤ 40
place_most p = omega (arith, number_most 1 p.ledger, number_most 2 p.entry)

-- a name has at most 16 bytes, and so has each of a list
pub name_most : (n : List ℕ) → is_name n ≡ true → length n ≤ 16
name_most n h = leb-true (length n) most_name_bytes (middle (nat_lt 0 (length n)) (nat_le (length n) most_name_bytes) (list_all name_byte n) h)

abbrev pub AreShort : List (List ℕ) → Type 0
AreShort names = (x : ℕ) → length (slice_index_or names x []) ≤ 16

pub names_short : (names : List (List ℕ)) → list_all is_name names ≡ true → AreShort names
names_short [] h x = omega arith
names_short (n ∷ ns) h zero = name_most n (left (is_name n) (list_all is_name ns) h)
names_short (n ∷ ns) h (suc x) = names_short ns (right (is_name n) (list_all is_name ns) h) x

-- a cluster and its position
one_most : (names : List (List ℕ)) (f x : ℕ) (p : Position) → AreShort names → bytes_field f (cluster_position_size names (record { cluster = cluster_ref.Known x; position = p })) ≤ 136
one_most names f x p short =
    let size = cluster_position_size names (record { cluster = cluster_ref.Known x; position = p }) in
    let within : size ≤ 116 = omega (arith, bytes_most 1 (length (slice_index_or names x [])), bytes_most 2 (position_size p), place_most p, short x) in
    omega (arith, bytes_most f size, within)

named_most : (names : List (List ℕ)) (f c : ℕ) (ps : List (Option Position)) → AreShort names → cluster_positions names f (named_from c ps) ≤ 136 * length ps
named_most names f c [] short = omega arith
named_most names f c (None ∷ ps) short = omega (arith, named_most names f (c + 1) ps short)
named_most names f c (Some p ∷ ps) short = omega (arith, one_most names f c p short, named_most names f (c + 1) ps short)

-- What a cluster says in a marker of its own: to whom, and what it names. An id is short where B holds
pub data IsOwn (B : Type 0) (h : Site) : Marker → Targets → List (List ℕ) → Type 0 where
  Request : (id : List ℕ) → (B → length id ≤ 60) → IsOwn B h (marker.Request id (cluster_ref.Known h.own)) targets.All []
  Response : (id : List ℕ) (y : ℕ) (p : Position) → (B → length id ≤ 60) → y < length h.clusters
      → IsOwn B h (marker.Response id (record { cluster = cluster_ref.Known h.own; position = p })) (targets.Only (2 ^ y)) (cluster_name h y ∷ [])
  Snapshot : (id : List ℕ) (cut : Cut) → (B → length id ≤ 60) → length cut.remote ≡ length h.clusters
      → IsOwn B h (marker.Snapshot id cut.local (named cut)) (targets.Only (2 ^ h.own)) (cluster_name h h.own ∷ [])
  Update : (n : List ℕ) (cut : Cut) → is_name n ≡ true → length cut.remote ≡ length h.clusters → IsOwn B h (marker.Update n (named cut)) targets.All []

marker_most : (B : Type 0) (h : Site) (m : Marker) (to : Targets) (names : List (List ℕ)) → B → length h.clusters ≤ 8 → AreShort h.clusters → IsOwn B h m to names
    → marker_size h.clusters m ≤ 1300
marker_most B h m to names b few short (IsOwn.Request id small) = omega (arith, bytes_most 1 (length id), small b, bytes_most 2 (length (cluster_name h h.own)), short h.own)
marker_most B h m to names b few short (IsOwn.Response id y p small within) = omega (arith, bytes_most 1 (length id), small b, one_most h.clusters 2 h.own p short)
marker_most B h m to names b few short (IsOwn.Snapshot id cut small wide) =
    omega (arith, bytes_most 1 (length id), small b, bytes_most 2 (position_size cut.local), place_most cut.local, named_most h.clusters 3 0 cut.remote short, wide, few)
marker_most B h m to names b few short (IsOwn.Update n cut named wide) =
    omega (arith, bytes_most 1 (length n), name_most n named, named_most h.clusters 2 0 cut.remote short, wide, few)

listed_most : (B : Type 0) (h : Site) (m : Marker) (to : Targets) (names : List (List ℕ)) → AreShort h.clusters → IsOwn B h m to names → repeated_text 7 names ≤ 36
listed_most B h m to names short (IsOwn.Request id small) = omega arith
listed_most B h m to names short (IsOwn.Response id y p small within) = omega (arith, bytes_most 7 (length (cluster_name h y)), short y)
listed_most B h m to names short (IsOwn.Snapshot id cut small wide) = omega (arith, bytes_most 7 (length (cluster_name h h.own)), short h.own)
listed_most B h m to names short (IsOwn.Update n cut named wide) = omega arith

-- so it is small enough to be stored anywhere
pub own_size : (B : Type 0) (h : Site) (b : Broker) (m : Marker) (to : Targets) (names : List (List ℕ)) → B → length h.clusters ≤ 8 → AreShort h.clusters → IsOwn B h m to names
    → entry_size h.clusters (own_marker h b m to names) ≤ most_entry_size
own_size B h b m to names holds few short own =
    let e = own_marker h b m to names in
    omega (
      arith,
      bytes_most 1 13,
      number_most 2 e.ident.seq,
      number_most 3 0,
      number_most 20 (marker_type m),
      listed_most B h m to names short own,
      marker_most B h m to names holds few short own,
    )
