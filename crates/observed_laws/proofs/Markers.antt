-- The facts of markers in what is observed of a run: its snapshots are cuts, and its updates tell what is settled.
use Rattle.std.proofs.Common.{◌≡◌, ℕ, zero, suc, ◌<◌, ◌≤◌, Bool, true, false, cond, List, [], ◌∷◌, length, refl, sym, ap, subst, ◌∙◌, ◌==◌, arith, inl, inr, ◌⊎◌}
use Rattle.std.specs.Prelude.{◌≢◌, Option, Some, None, slice_get, slice_index_or, slice_set, take, not, ◌||◌, replicate}
use Rattle.std.specs.List.{list_any}
use Rattle.std.proofs.lemmas.Bool.{and_parts, eq-eqb, false≢true}
use Rattle.std.proofs.lemmas.List.{get_or-replicate, get_or-set_other, length-replicate, length-set}
use Rattle.std.proofs.lemmas.Option.{none-some, same_Some}
use Rattle.world_laws.proofs.Types.{ClusterPosition, Cut, Entry, ClusterRef, Position, Step}
use Rattle.world_laws.proofs.Types.content
use Rattle.world_laws.proofs.Types.marker
use Rattle.world_laws.proofs.Types.cluster_ref
use Rattle.geo_base.specs.Audit.{may_snapshot, names_each}
use Rattle.geo_base.specs.SnapshotBuilder.{named}
use Rattle.geo_base.specs.Cache.{cut_of, with_place, with_places}
use Rattle.geo_base.specs.Cuts.{CoversCluster, IsCut}
use Rattle.geo_base.specs.Entry.{is_data, means_cluster, meant_for, same_ident}
use Rattle.geo_base.specs.Laws.{MarkerAt}
use Rattle.geo_base.specs.Run.{run}
use Rattle.geo_base.specs.Safe.{IsEntry}
use Rattle.geo_base.specs.Settled.{settled}
use Rattle.geo_base.specs.Setup.{Setup}
use Rattle.geo_base.specs.Topic.{index_of}
use Rattle.geo_base.specs.Updating.{positions_for}
use Rattle.geo_base.specs.World.{World, node, topic_at}
use Rattle.world_laws.proofs.OnceInOrder.Members.{head_is, tail_is}
use Rattle.world_laws.proofs.Replicating.Sizes.{IsThere}
use Rattle.world_laws.proofs.Telling.Passing.{names_one}
use Rattle.world_laws.proofs.Telling.ToldLaws.{update_always}
use Rattle.trace_laws.specs.Seen.{world_seen}
use Rattle.trace_laws.proofs.Events.{Whole}
use Rattle.trace_laws.proofs.Snapshots.{IsMade, snapshot_accepted}
use Rattle.trace_laws.proofs.Told.{numbered_here}
use Rattle.observation.specs.declared.said.Said.{Said}
use Rattle.observation.specs.Observed.{may_be_later}
use Rattle.observation.specs.Safe.{CoversAt, IsCovered, IsCutSeen, Stands, TellsAt, TellsSettled}
use Rattle.observed_laws.specs.Reads.{Reading, observation_of}
use Rattle.observed_laws.proofs.Moments.{after, short_before}
use Rattle.observed_laws.proofs.Seeing.{IsRead, PlaceSeen, StandsThere, index_in, known_at, place_seen, settled_dealt, stands_seen, stands_there, stood}

-- ---- the places of a cut

place_size : (own : ℕ) (c : ClusterRef) (p : Position) (ps : List (Option Position)) → length (with_place own c p ps) ≡ length ps
place_size own (cluster_ref.Known x) p ps = by (x == own)
  where
    by : (b : Bool) → length (cond b ps (slice_set ps x (Some p))) ≡ length ps
    by true = refl
    by false = length-set ps x (Some p)
place_size own (cluster_ref.Stranger n) p ps = refl

places_size : (own : ℕ) (ps : List (Option Position)) (rs : List ClusterPosition) → length (with_places own ps rs) ≡ length ps
places_size own ps [] = refl
places_size own ps (r ∷ rs) = places_size own (with_place own r.cluster r.position ps) rs ∙ place_size own r.cluster r.position ps

place_own : (own : ℕ) (c : ClusterRef) (p : Position) (ps : List (Option Position)) → slice_index_or (with_place own c p ps) own None ≡ slice_index_or ps own None
place_own own (cluster_ref.Known x) p ps = by (x == own) refl
  where
    by : (b : Bool) → (x == own) ≡ b → slice_index_or (cond b ps (slice_set ps x (Some p))) own None ≡ slice_index_or ps own None
    by true is = refl
    by false is = get_or-set_other ps x own (Some p) None (λ e. false≢true (sym is ∙ eq-eqb x own (sym e)))
place_own own (cluster_ref.Stranger n) p ps = refl

places_own : (own : ℕ) (ps : List (Option Position)) (rs : List ClusterPosition) → slice_index_or (with_places own ps rs) own None ≡ slice_index_or ps own None
places_own own ps [] = refl
places_own own ps (r ∷ rs) = places_own own (with_place own r.cluster r.position ps) rs ∙ place_own own r.cluster r.position ps

-- ---- cut

other_one : (a b : Bool) → (not a || b) ≡ true → a ≡ true → b ≡ true
other_one true b h is = h
other_one false b h is = absurd (false≢true is)

pub cut_seen : (s : Setup) (es : List Step) (r : Reading) (logs : List Said) (t x i : ℕ) (e : Entry) (id : List ℕ) (local : Position) (remote : List ClusterPosition)
    → IsRead s es r logs → IsThere s t x → Stands s (observation_of s es r logs) t x i e → e.ident.origin ≡ x → e.content ≡ content.Marked (marker.Snapshot id local remote)
    → IsCutSeen s (observation_of s es r logs) t x local remote
cut_seen s es r logs t x i e id local remote read there at own is = go (stands_there s es r logs t x i e there at)
  where
    m : ℕ
    m = r.entries (node s t x)

    w : World
    w = after s es m

    all : Whole s w
    all = known_at s es m read.scripted read.short

    n : ℕ
    n = length s.clusters

    cut : Cut
    cut = cut_of x n local remote

    go : StandsThere s es r t x i e → IsCutSeen s (observation_of s es r logs) t x local remote
    go stands =
        let here = all.here t x there in
        let of_x = eq-eqb e.ident.origin x own in
        let is_cut : IsCut s w t x cut = ((here.cuts t x there).snapshots i e id local remote stands.at of_x is).1 in
        let names : remote ≡ named cut = (here.stems t x there).written i e id local remote stands.at of_x is in
        let made : IsMade n x cut = record { places = places_size x (replicate n None) remote ∙ length-replicate n None; empty = places_own x (replicate n None) remote ∙ get_or-replicate n x None None there.1 } in
        let accepted : may_snapshot s (world_seen w) t x e (content.Marked (marker.Snapshot id local (named cut))) ≡ true =
        snapshot_accepted s w t x e id cut there (λ u v around. numbered_here s w u v (all.here u v around)) made is_cut in
        let each : names_each x n (named cut) ≡ true = (and_parts (names_each x n (named cut)) _ (other_one (e.ident.origin == x) _ accepted of_x)).0 in (
          subst (λ (rs : List ClusterPosition). names_each x n rs ≡ true) (sym names) each,
          is_cut.0,
          index_in s es r logs t x is_cut.0 local read.scripted read.short there stands.read is_cut.1,
          λ y lt differ. covered stands names is_cut.0 y lt (is_cut.2 y lt differ),
        )
      where
        -- what is covered of another cluster
        covered : StandsThere s es r t x i e → remote ≡ named cut → (l y : ℕ) → y < n → ((p : Position) × (slice_index_or cut.remote y None ≡ Some p) × CoversCluster s w t x l y p)
            → IsCovered s (observation_of s es r logs) t x l y remote
        covered stands names l y lt h =
            let p = h.0 in let c = h.2 in let there_y : IsThere s t y = (there.0, lt) in
            let one : positions_for y remote ≡ p ∷ [] = ap (positions_for y) names ∙ names_one y cut.remote p h.1 in (
              p,
              ap (λ (ps : List Position). slice_get ps 0) one,
              by (place_seen s es r logs m t y c.0 p read there_y c.1),
            )
          where
            by : PlaceSeen s es r logs t y h.2.0 h.0 → (may_be_later s (observation_of s es r logs) t y h.0 ≡ true) ⊎ CoversAt s (observation_of s es r logs) t x l y h.0
            by (PlaceSeen.Later later) = inl later
            by (PlaceSeen.Here was within index) =
                inr (
                  h.2.0,
                  index,
                  λ k f le f_stands message meant.
                      let there_y : IsThere s t y = (there.0, lt) in
                      let f_there = stands_there s es r logs t y k f there_y f_stands in
                      let f_stood : IsEntry (topic_at s w t y) k f = stood s es r m t y h.2.0 k h.0 f read.scripted read.short there_y h.2.1 le f_there.at in
                      let mine = h.2.2 k f le f_stood message meant in
                      (mine.0, mine.1, stands_seen s es r logs t x mine.0 f there stands.read mine.2),
                )

-- ---- told

-- where no position of a cluster is named, no pair names it
not_named : (y : ℕ) (rs : List ClusterPosition) (k : ℕ) (q : ClusterPosition) → positions_for y rs ≡ [] → slice_get rs k ≡ Some q → means_cluster y q.cluster ≡ true → ⊥
not_named y [] k q none at named_y = none-some q at
not_named y (r ∷ rs) zero q none at named_y =
    let is : means_cluster y r.cluster ≡ true = subst (λ (d : ClusterPosition). means_cluster y d.cluster ≡ true) (sym (same_Some _ _ at)) named_y in
    let some : r.position ∷ positions_for y rs ≡ [] = subst (λ (b : Bool). cond b (r.position ∷ positions_for y rs) (positions_for y rs) ≡ []) is none in
    let e : length (r.position ∷ positions_for y rs) ≡ 0 = ap length some in omega (arith, e)
not_named y (r ∷ rs) (suc k) q none at named_y = by (means_cluster y r.cluster) none (λ rest. not_named y rs k q rest at named_y)
  where
    by : (b : Bool) → cond b (r.position ∷ positions_for y rs) (positions_for y rs) ≡ [] → (positions_for y rs ≡ [] → ⊥) → ⊥
    by true some rest = let e : length (r.position ∷ positions_for y rs) ≡ 0 = ap length some in omega (arith, e)
    by false none rest = rest none

-- the one position of a cluster is that of each pair that names it
only_one : (y : ℕ) (p : Position) (rs : List ClusterPosition) (k : ℕ) (q : ClusterPosition) → positions_for y rs ≡ p ∷ [] → slice_get rs k ≡ Some q
    → means_cluster y q.cluster ≡ true → q.position ≡ p
only_one y p [] k q one at named_y = absurd (none-some q at)
only_one y p (r ∷ rs) k q one at named_y = by (means_cluster y r.cluster) refl k at one (λ m mat rest. only_one y p rs m q rest mat named_y)
  where
    by : (b : Bool) → means_cluster y r.cluster ≡ b → (k : ℕ) → slice_get (r ∷ rs) k ≡ Some q → cond b (r.position ∷ positions_for y rs) (positions_for y rs) ≡ p ∷ []
        → ((m : ℕ) → slice_get rs m ≡ Some q → positions_for y rs ≡ p ∷ [] → q.position ≡ p) → q.position ≡ p
    by true is zero at one rest = ap (λ (d : ClusterPosition). d.position) (sym (same_Some _ _ at)) ∙ head_is p r.position p (positions_for y rs) [] one
    by true is (suc m) at one rest = absurd (not_named y rs m q (tail_is r.position p (positions_for y rs) [] one) at named_y)
    by false is zero at one rest =
        absurd (false≢true (sym is ∙ subst (λ (d : ClusterPosition). means_cluster y d.cluster ≡ true) (sym (same_Some _ _ at)) named_y))
    by false is (suc m) at one rest = rest m at one

pub told_seen : (s : Setup) (es : List Step) (r : Reading) (logs : List Said) (t x i : ℕ) (e : Entry) (n : List ℕ) (remote : List ClusterPosition) → IsRead s es r logs → IsThere s t x
    → Stands s (observation_of s es r logs) t x i e → e.content ≡ content.Marked (marker.Update n remote) → TellsSettled s (observation_of s es r logs) t e.ident.origin n remote
told_seen s es r logs t x i e n remote read there at is k y q atq lt differ named_y = go (stands_there s es r logs t x i e there at)
  where
    m : ℕ
    m = r.entries (node s t x)

    w : World
    w = after s es m

    a : ℕ
    a = e.ident.origin

    there_y : IsThere s t y
    there_y = (there.0, lt)

    Told : (p : Position) (j : ℕ) → Type 0
    Told p j = (i : ℕ) (f : Entry) → i ≤ j → IsEntry (topic_at s w t y) i f → is_data f.content ≡ true → meant_for a f ≡ true → list_any (same_ident f.ident) (settled s (take m es) t n) ≡ true

    by : (p : Position) (j : ℕ) → index_of (topic_at s w t y).ledgers p ≡ Some j → Told p j → PlaceSeen s es r logs t y j p
        → (may_be_later s (observation_of s es r logs) t y p ≡ true) ⊎ TellsAt s (observation_of s es r logs) t a n y p
    by p j of told (PlaceSeen.Later later) = inl later
    by p j of told (PlaceSeen.Here was within index) =
        inr (
          j,
          index,
          λ l f le f_stands meant.
              let f_there = stands_there s es r logs t y l f there_y f_stands in
              let f_stood : IsEntry (topic_at s w t y) l f = stood s es r m t y j l p f read.scripted read.short there_y of le f_there.at in
              settled_dealt s es r logs m t n f read (λ message. told l f le f_stood message meant),
        )

    go : StandsThere s es r t x i e → (may_be_later s (observation_of s es r logs) t y q.position ≡ true) ⊎ TellsAt s (observation_of s es r logs) t a n y q.position
    go stands =
        let marked : MarkerAt (topic_at s w t x) i a (marker.Update n remote) = record { entry = e; stands = stands.at; origin = refl; is = is } in
        let u = (update_always s read.scripted).run (take m es) (short_before s es m read.short) t x i a y n remote there.1 lt (λ same. differ (sym same)) marked in
        let p = u.0 in let same : q.position ≡ p = only_one y p remote k q u.2 atq named_y in
        subst (λ (d : Position). (may_be_later s (observation_of s es r logs) t y d ≡ true) ⊎ TellsAt s (observation_of s es r logs) t a n y d) (sym same)
        (by p u.1 u.3 u.4 (place_seen s es r logs m t y u.1 p read there_y u.3))
