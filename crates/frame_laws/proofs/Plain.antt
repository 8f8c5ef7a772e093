-- Plain values are told whole by their texts, where the clusters' names are told apart.
use Rattle.std.proofs.Common.{◌≡◌, ℕ, zero, suc, ◌+◌, ◌*◌, ◌/◌, ◌%◌, ◌^◌, ◌<◌, Bool, true, false, List, [], ◌∷◌, length, map, refl, sym, ap, ◌∙◌, arith}
use Rattle.std.specs.Prelude.{Option, Some, None, IfSome, if◌then◌else◌, slice_get, slice_index_or, nat_lt, ◌&&◌}
use Rattle.std.specs.Option.{option_map}
use Rattle.std.specs.Str.{bytes_eq}
use Rattle.std.proofs.Math.Nat.{div-one, pow-suc}
use Rattle.std.proofs.lemmas.Bool.{eqb-true, eqb-false, ltb-true}
use Rattle.std.proofs.lemmas.Nat.{div_below}
use Rattle.geo_base.specs.declared.entry.Content.{Content}
use Rattle.geo_base.specs.declared.entry.Content.TheVariants as content
use Rattle.geo_base.specs.declared.entry.Entry.{Entry}
use Rattle.geo_base.specs.declared.entry.Targets.{Targets}
use Rattle.geo_base.specs.declared.entry.Targets.TheVariants as targets
use Rattle.geo_base.specs.declared.frame.Frame.{Frame}
use Rattle.geo_base.specs.declared.frame.Frame.TheVariants as frame
use Rattle.geo_base.specs.declared.marker.ClusterPosition.{ClusterPosition}
use Rattle.geo_base.specs.declared.marker.Marker.{Marker}
use Rattle.geo_base.specs.declared.marker.Marker.TheVariants as marker
use Rattle.geo_base.specs.declared.marker.ClusterRef.{ClusterRef}
use Rattle.geo_base.specs.declared.marker.ClusterRef.TheVariants as cluster_ref
use Rattle.geo_base.specs.declared.position.Position.{Position}
use Rattle.geo_base.specs.Client.{target_names}
use Rattle.geo_base.specs.Entry.{goes_to}
use Rattle.geo_base.specs.Scripted.{AreDistinct, names_some}
use Rattle.geo_base.specs.Sizes.{cluster_ref_name}
use Rattle.marker_codec.specs.Machine.{named_cluster, named_marker}
use Rattle.world_laws.specs.Plain.{AreClusters, HasClusters, IsCluster, IsPlain, IsPlainContent, IsPlainEntry}
use Rattle.frame_values.specs.Told.{IsTold, IsToldContent, IsToldEntry}
use Rattle.frame_values.specs.Values.{bits_of, lists, no_marker, place_from, place_of, placed_cluster, placed_marker, targets_of}
use Rattle.geo_base.proofs.Lists.{bytes_eq_back, bytes_eq_itself}
use Rattle.geo_base.proofs.Sums.{half_power}

-- ---- names that are told apart

get_at : (ns : List (List ℕ)) (x : ℕ) → x < length ns → slice_get ns x ≡ Some (slice_index_or ns x [])
get_at [] x lt = absurd (omega arith)
get_at (n ∷ ns) zero lt = refl
get_at (n ∷ ns) (suc x) lt = get_at ns x (omega arith)

others_distinct : (n : List ℕ) (ns : List (List ℕ)) → AreDistinct (n ∷ ns) → AreDistinct ns
others_distinct n ns d i j a b lt ga gb = d (suc i) (suc j) a b (omega arith) ga gb

first_other : (n : List ℕ) (ns : List (List ℕ)) → AreDistinct (n ∷ ns) → (x : ℕ) → x < length ns → bytes_eq n (slice_index_or ns x []) ≡ false
first_other n ns d x lt = d zero (suc x) n (slice_index_or ns x []) (omega arith) refl (get_at ns x lt)

-- ---- places

place_at : (k : ℕ) (ns : List (List ℕ)) (x : ℕ) → x < length ns → AreDistinct ns → place_from k ns (slice_index_or ns x []) ≡ cluster_ref.Known (k + x)
place_at k [] x lt d = absurd (omega arith)
place_at k (n ∷ ns) zero lt d = rw (bytes_eq_itself n) (ap cluster_ref.Known (omega arith))
place_at k (n ∷ ns) (suc x) lt d =
    rw (first_other n ns d x (omega arith)) (place_at (k + 1) ns x (omega arith) (others_distinct n ns d) ∙ ap cluster_ref.Known (omega arith))

place_told : (names : List (List ℕ)) (p : ClusterRef) → AreDistinct names → IsCluster names p → place_of names (cluster_ref_name names p) ≡ p
place_told names (cluster_ref.Known x) d lt = place_at 0 names x lt d ∙ ap cluster_ref.Known (omega arith)
place_told names (cluster_ref.Stranger n) d lt = absurd lt

pub source_told : (names : List (List ℕ)) (o : Option ClusterRef) → AreDistinct names → IfSome o (IsCluster names) → o ≡ option_map (place_of names) (option_map (cluster_ref_name names) o)
source_told names None d h = refl
source_told names (Some p) d h = ap (λ (q : ClusterRef). Some q) (sym (place_told names p d h))

abbrev at_place : Position → ClusterRef → ClusterPosition
at_place p c = record { cluster = c; position = p }

cluster_told : (names : List (List ℕ)) (r : ClusterPosition) → AreDistinct names → IsCluster names r.cluster → placed_cluster names (named_cluster names r) ≡ r
cluster_told names r d h = ap (at_place r.position) (place_told names r.cluster d h)

clusters_told : (names : List (List ℕ)) (rs : List ClusterPosition) → AreDistinct names → AreClusters names rs → map (λ c. placed_cluster names c) (map (λ r. named_cluster names r) rs) ≡ rs
clusters_told names [] d h = refl
clusters_told names (r ∷ rs) d h = both (cluster_told names r d h.0) (clusters_told names rs d h.1)
  where
    both : {a b : ClusterPosition} {as_ bs : List ClusterPosition} → a ≡ b → as_ ≡ bs → a ∷ as_ ≡ b ∷ bs
    both e f = cc

marker_told : (names : List (List ℕ)) (m : Marker) → AreDistinct names → HasClusters names m → placed_marker names (named_marker names m) ≡ m
marker_told names (marker.Request id source) d h = ap (λ (p : ClusterRef). marker.Request id p) (place_told names source d h)
marker_told names (marker.Response id answer) d h = ap (λ (r : ClusterPosition). marker.Response id r) (cluster_told names answer d h)
marker_told names (marker.Snapshot id local remote) d h = ap (λ (rs : List ClusterPosition). marker.Snapshot id local rs) (clusters_told names remote d h)
marker_told names (marker.Update sub remote) d h = ap (λ (rs : List ClusterPosition). marker.Update sub rs) (clusters_told names remote d h)

content_told : (names : List (List ℕ)) (c : Content) (payload : List ℕ) → AreDistinct names → IsPlainContent names c payload → IsToldContent names c payload
content_told names content.Data payload d h = no_marker refl refl refl
content_told names (content.Unread k) payload d h = absurd h
content_told names (content.Marked m) [] d h = marker_told names m d h
content_told names (content.Marked m) (b ∷ bs) d h = absurd h

-- ---- targets

list_more : (n m : List ℕ) (listed : List (List ℕ)) (t : Bool) → bytes_eq n m ≡ false → lists listed m ≡ false → lists (if t then n ∷ listed else listed) m ≡ false
list_more n m listed true a b = rw a b
list_more n m listed false a b = b

-- no other name is listed
not_listed : (k bits : ℕ) (ns : List (List ℕ)) (m : List ℕ) → ((x : ℕ) → x < length ns → bytes_eq (slice_index_or ns x []) m ≡ false)
    → lists (target_names k (targets.Only bits) ns) m ≡ false
not_listed k bits [] m h = refl
not_listed k bits (n ∷ ns) m h =
    list_more n m (target_names (k + 1) (targets.Only bits) ns) (goes_to k (targets.Only bits)) (h zero (omega arith)) (not_listed (k + 1) bits ns m (λ x lt. h (suc x) (omega arith)))

-- a name that no cluster of these has makes no difference
bits_without : (n : List ℕ) (listed ns : List (List ℕ)) → ((x : ℕ) → x < length ns → bytes_eq n (slice_index_or ns x []) ≡ false) → bits_of ns (n ∷ listed) ≡ bits_of ns listed
bits_without n listed [] h = refl
bits_without n listed (m ∷ ms) h = rw (h zero (omega arith), bits_without n listed ms (λ x lt. h (suc x) (omega arith))) refl

-- one more cluster, by what the others have
bits_more : (k bits : ℕ) (n : List ℕ) (ns : List (List ℕ)) → AreDistinct (n ∷ ns)
    → bits_of ns (target_names (k + 1) (targets.Only bits) ns) ≡ (bits / 2 ^ k) / 2
    → (t : Bool) → goes_to k (targets.Only bits) ≡ t
    → bits_of (n ∷ ns) (if t then n ∷ target_names (k + 1) (targets.Only bits) ns else target_names (k + 1) (targets.Only bits) ns) ≡ bits / 2 ^ k
bits_more k bits n ns d rest true e =
    let odd : (bits / 2 ^ k) % 2 ≡ 1 = eqb-true ((bits / 2 ^ k) % 2) 1 e in
    rw (bytes_eq_itself n, bits_without n (target_names (k + 1) (targets.Only bits) ns) ns (first_other n ns d)) (omega (arith, rest, odd))
bits_more k bits n ns d rest false e =
    let even : (bits / 2 ^ k) % 2 ≡ 1 → ⊥ = eqb-false ((bits / 2 ^ k) % 2) 1 e in
    rw (not_listed (k + 1) bits ns n (λ x lt. bytes_eq_back n (slice_index_or ns x []) (first_other n ns d x lt))) (omega (arith, rest, even))

bits_told : (k bits : ℕ) (ns : List (List ℕ)) → AreDistinct ns → bits / 2 ^ k < 2 ^ length ns → bits_of ns (target_names k (targets.Only bits) ns) ≡ bits / 2 ^ k
bits_told k bits [] d lt = omega (arith, lt)
bits_told k bits (n ∷ ns) d lt =
    let wide : 2 ^ length (n ∷ ns) ≡ 2 ^ length ns * 2 = pow-suc 2 (length ns) in
    let fits : (bits / 2 ^ k) / 2 < 2 ^ length ns = div_below (bits / 2 ^ k) 2 (2 ^ length ns) (omega arith) (omega (arith, lt, wide)) in
    let below : bits / 2 ^ (k + 1) < 2 ^ length ns = omega (arith, half_power k bits, fits) in
    bits_more k bits n ns d (bits_told (k + 1) bits ns (others_distinct n ns d) below ∙ half_power k bits) (goes_to k (targets.Only bits)) refl

no_bits : (ns : List (List ℕ)) → bits_of ns [] ≡ 0
no_bits [] = refl
no_bits (n ∷ ns) = omega (arith, no_bits ns)

targets_told : (names : List (List ℕ)) (to : Targets) → AreDistinct names → names_some (length names) to ≡ true → to ≡ targets_of names (target_names 0 to names)
targets_told names targets.All d h = refl
targets_told names (targets.Only bits) d h = by (target_names 0 (targets.Only bits) names) refl
  where
    parts : (a b : Bool) → (a && b) ≡ true → (a ≡ true) × (b ≡ true)
    parts true b e = (refl, e)
    parts false b e = absurd cc

    low : 0 < bits
    low = ltb-true 0 bits (parts (nat_lt 0 bits) (nat_lt bits (2 ^ length names)) h).0

    high : bits < 2 ^ length names
    high = ltb-true bits (2 ^ length names) (parts (nat_lt 0 bits) (nat_lt bits (2 ^ length names)) h).1

    whole : bits_of names (target_names 0 (targets.Only bits) names) ≡ bits
    whole = let one : bits / 2 ^ 0 ≡ bits = div-one bits in bits_told 0 bits names d (omega (arith, one, high)) ∙ one

    by : (listed : List (List ℕ)) → target_names 0 (targets.Only bits) names ≡ listed → targets.Only bits ≡ targets_of names listed
    by [] e = absurd (let none : bits_of names [] ≡ bits = ap (λ (l : List (List ℕ)). bits_of names l) (sym e) ∙ whole in omega (arith, none, no_bits names, low))
    by (l ∷ ls) e = ap targets.Only (sym whole ∙ ap (λ (l : List (List ℕ)). bits_of names l) e)

-- ---- entries and frames

pub entry_told : (names : List (List ℕ)) (source : Option ClusterRef) (e : Entry) → AreDistinct names → IsPlainEntry names source e → IsToldEntry names source e
entry_told names source e d h = record {
  to = targets_told names e.to d h.some ∙ ap (λ (l : List (List ℕ)). targets_of names l) (sym h.listed);
  from = source_told names source d h.from;
  content = content_told names e.content e.payload d h.content;
}

pub told : (names : List (List ℕ)) (f : Frame) → AreDistinct names → IsPlain names f → IsTold names f
told names frame.Connect d h = tt
told names frame.Connected d h = tt
told names (frame.Subscribe topic sub kind id request consumer earliest replicated) d h = tt
told names (frame.Producer topic id request name) d h = tt
told names (frame.Send id seq source e) d h = entry_told names source e d h
told names (frame.SendReceipt id seq position) d h = tt
told names (frame.SendError id seq code) d h = tt
told names (frame.Message id position source e) d h = entry_told names source e d h
told names (frame.Ack id kind positions) d h = tt
told names (frame.Flow id permits) d h = tt
told names (frame.Unsubscribe id request) d h = tt
told names (frame.Success request) d h = tt
told names (frame.Error request code) d h = tt
told names (frame.CloseProducer id request) d h = tt
told names (frame.CloseConsumer id request) d h = tt
told names (frame.ProducerSuccess request name) d h = tt
told names frame.Ping d h = tt
told names frame.Pong d h = tt
told names frame.Unreadable d h = absurd h
