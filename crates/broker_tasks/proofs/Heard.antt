-- A builder stays one of the site, whatever it hears.
use Rattle.std.proofs.Common.{◌≡◌, ℕ, ◌+◌, ◌≤◌, Bool, true, false, List, [], length, refl, sym, ◌∙◌, ap, subst, arith}
use Rattle.std.specs.Prelude.{◌==◌, nat_lt, if◌then◌else◌, ◌||◌, Option, Some, None, IfSome, slice_set}
use Rattle.std.proofs.lemmas.List.{length-replicate, length-set}
use Rattle.geo_base.specs.declared.marker.ClusterPosition.{ClusterPosition}
use Rattle.geo_base.specs.declared.position.Position.{Position}
use Rattle.geo_base.specs.declared.snapshot.SnapshotBuilder.{SnapshotBuilder}
use Rattle.geo_base.specs.declared.snapshot.Progress.{Progress}
use Rattle.geo_base.specs.declared.snapshot.Progress.TheVariants as progress
use Rattle.geo_base.specs.Broker.{Broker, Site}
use Rattle.geo_base.specs.SnapshotBuilder.{Heard, counts, judged, on_response, started, with_response}
use Rattle.geo_base.specs.Entry.{means_cluster}
use Rattle.geo_base.specs.Markers.{after_response, read_response}
use Rattle.geo_base.specs.Topic.{position_at}
use Rattle.broker_plans.specs.Storable.{IsBuilderOf}

places : (t : Bool) (ps : List (Option Position)) (c : ℕ) (p : Position) (n : ℕ) → length ps ≤ n → length (if t then ps else slice_set ps c (Some p)) ≤ n
places true ps c p n few = few
places false ps c p n few = rw (length-set ps c (Some p)) few

either : (h : Site) (t : Bool) (x y : Heard) → IsBuilderOf h x.builder → IsBuilderOf h y.builder → IsBuilderOf h (if t then x else y).builder
either h true x y hx hy = hx
either h false x y hx hy = hy

judged_of : (h : Site) (u : SnapshotBuilder) → IsBuilderOf h u → IsBuilderOf h (judged u).builder
judged_of h u of =
    either h (nat_lt (length u.heard + 1) u.clusters) (record { progress = progress.Kept; builder = u })
    (if u.second || (u.clusters == 2) then record { progress = progress.Done; builder = record u { finished = true } } else record { progress = progress.SecondRound; builder = record u { second = true; heard = [] } })
    of
    (either h (u.second || (u.clusters == 2)) (record { progress = progress.Done; builder = record u { finished = true } }) (record { progress = progress.SecondRound; builder = record u { second = true; heard = [] } })
    (record { id = of.id; cut = of.cut }) (record { id = of.id; cut = of.cut }))

pub heard_of : (h : Site) (u : SnapshotBuilder) (id : List ℕ) (c : ℕ) (remote local : Position) → IsBuilderOf h u → IsBuilderOf h (on_response u id c remote local).builder
heard_of h u id c remote local of =
    either h (counts u id c) (judged (with_response u c remote local)) (record { progress = progress.Ignored; builder = u })
    (judged_of h (with_response u c remote local) (record { id = of.id; cut = places u.second u.cut.remote c remote (length h.clusters) of.cut })) of

pub started_builder : (h : Site) (id : List ℕ) (own n : ℕ) (u : SnapshotBuilder) → length id ≤ 64 → n ≡ length h.clusters → u ≡ started id own n → IsBuilderOf h u
started_builder h id own n u short all is = rw (is, all) (record { id = short; cut = omega (arith, length-replicate {A = Option Position} (length h.clusters) None) })

-- what the builder has become that heard a response, and what is done then

pub heard_builder : (h : Site) (o : Option SnapshotBuilder) (u v : SnapshotBuilder) (id : List ℕ) (c : ℕ) (remote local : Position) (now : Progress) → IfSome o (IsBuilderOf h) → Some u ≡ o
    → record { progress = now; builder = v } ≡ on_response u id c remote local → IsBuilderOf h v
heard_builder h o u v id c remote local now all is heard =
    let of : IsBuilderOf h u = subst (λ (x : Option SnapshotBuilder). IfSome x (IsBuilderOf h)) (sym is) all in
    subst (λ (r : Heard). IsBuilderOf h r.builder) (sym heard) (heard_of h u id c remote local of)

pub heard_is : (h : Site) (b : Broker) (y i : ℕ) (id : List ℕ) (answer : ClusterPosition) (u v : SnapshotBuilder) (now : Progress) → Some u ≡ b.builder → means_cluster y answer.cluster ≡ true
    → record { progress = now; builder = v } ≡ on_response u id y answer.position (position_at b.ledgers i)
    → after_response h b y i now v ≡ read_response h b y i id answer b.builder
heard_is h b y i id answer u v now is from heard =
    ap (λ (r : Heard). after_response h b y i r.progress r.builder) heard ∙ rw (sym is, from) refl
