-- A cut that a snapshot marker stands for has a place for each cluster.
use Rattle.std.proofs.Common.{◌≡◌, ◌∙◌, ℕ, Bool, true, false, List, [], ◌∷◌, length, refl}
use Rattle.std.specs.Prelude.{◌==◌, if◌then◌else◌, Option, Some, None, replicate, slice_set}
use Rattle.std.proofs.lemmas.List.{length-replicate, length-set}
use Rattle.geo_base.specs.declared.marker.ClusterPosition.{ClusterPosition}
use Rattle.geo_base.specs.declared.marker.ClusterRef.{ClusterRef}
use Rattle.geo_base.specs.declared.marker.ClusterRef.TheVariants as cluster_ref
use Rattle.geo_base.specs.declared.position.Position.{Position}
use Rattle.geo_base.specs.Cache.{with_place, with_places}

either : (n : ℕ) (b : Bool) (ps qs : List (Option Position)) → length ps ≡ n → length qs ≡ n → length (if b then ps else qs) ≡ n
either n true ps qs hp hq = hp
either n false ps qs hp hq = hq

one_place : (own : ℕ) (p : ClusterRef) (q : Position) (ps : List (Option Position)) → length (with_place own p q ps) ≡ length ps
one_place own (cluster_ref.Known x) q ps = either (length ps) (x == own) ps (slice_set ps x (Some q)) refl (length-set ps x (Some q))
one_place own (cluster_ref.Stranger n) q ps = refl

all_places : (own : ℕ) (ps : List (Option Position)) (rs : List ClusterPosition) → length (with_places own ps rs) ≡ length ps
all_places own ps [] = refl
all_places own ps (r ∷ rs) = all_places own (with_place own r.cluster r.position ps) rs ∙ one_place own r.cluster r.position ps

pub as_many : (own n : ℕ) (rs : List ClusterPosition) → length (with_places own (replicate n None) rs) ≡ n
as_many own n rs = all_places own (replicate n None) rs ∙ length-replicate n None
