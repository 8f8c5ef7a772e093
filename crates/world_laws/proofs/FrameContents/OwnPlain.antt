-- Own markers are plain: they name clusters, and the one that they go to by its name.
use Rattle.std.proofs.Common.{◌≡◌, ℕ, zero, suc, ◌+◌, ◌*◌, ◌/◌, ◌%◌, ◌^◌, ◌<◌, ◌≤◌, Bool, true, false, List, [], ◌∷◌, length, refl, sym, ap, subst, ◌∙◌, ◌==◌, arith, lt-ltb}
use Rattle.std.specs.Prelude.{Option, Some, None, slice_index_or}
use Rattle.std.proofs.lemmas.Nat.{div-mul-add, pow_below, pow_pos}
use Rattle.world_laws.proofs.Types.{Cut, Marker, Position, Targets}
use Rattle.world_laws.proofs.Types.targets
use Rattle.geo_base.specs.Broker.{Broker, Site}
use Rattle.geo_base.specs.SnapshotBuilder.{named, named_from}
use Rattle.geo_base.specs.Client.{target_names}
use Rattle.geo_base.specs.Entry.{goes_to}
use Rattle.geo_base.specs.Scripted.{names_some}
use Rattle.geo_base.specs.Storing.{own_marker}
use Rattle.world_laws.specs.Plain.{AreClusters, IsPlainEntry}
use Rattle.world_laws.proofs.Snapshotting.Completing.{goes_only}
use Rattle.world_laws.proofs.FrameContents.OwnSizes.{IsOwn}

-- what is for one cluster goes there
goes_there : (y : ℕ) → goes_to y (targets.Only (2 ^ y)) ≡ true
goes_there y =
    let one : (2 ^ y) / (2 ^ y) ≡ 1 = ap (λ (n : ℕ). n / (2 ^ y)) (whole (2 ^ y)) ∙ div-mul-add 1 (2 ^ y) 0 (pow_pos y) in
    let P : ℕ → Type 0 = λ n. (n % 2 == 1) ≡ true in
    subst P (sym one) refl
  where
    whole : (n : ℕ) → n ≡ 1 * n + 0
    whole n = omega arith

goes_else : (x y : ℕ) → (y ≡ x → ⊥) → goes_to x (targets.Only (2 ^ y)) ≡ false
goes_else x y other = by (goes_to x (targets.Only (2 ^ y))) refl
  where
    by : (t : Bool) → goes_to x (targets.Only (2 ^ y)) ≡ t → goes_to x (targets.Only (2 ^ y)) ≡ false
    by true e = absurd (other (goes_only x y e))
    by false e = e

-- so it names that one
none_named : (x y : ℕ) (ns : List (List ℕ)) → y < x → target_names x (targets.Only (2 ^ y)) ns ≡ []
none_named x y [] lt = refl
none_named x y (n ∷ ns) lt = rw (goes_else x y (λ is. omega (arith, is, lt))) (none_named (x + 1) y ns (omega (arith, lt)))

one_named : (x i y : ℕ) (ns : List (List ℕ)) → y ≡ x + i → i < length ns → target_names x (targets.Only (2 ^ y)) ns ≡ slice_index_or ns i [] ∷ []
one_named x i y [] is lt = absurd (omega (arith, lt))
one_named x zero y (n ∷ ns) is lt =
    let same : y ≡ x = omega (arith, is) in
    let here : goes_to x (targets.Only (2 ^ y)) ≡ true = subst (λ (z : ℕ). goes_to z (targets.Only (2 ^ y)) ≡ true) same (goes_there y) in
    rw here (ap (λ (l : List (List ℕ)). n ∷ l) (none_named (x + 1) y ns (omega (arith, same))))
one_named x (suc i) y (n ∷ ns) is lt = rw (goes_else x y (λ e. omega (arith, is, e))) (one_named (x + 1) i y ns (omega (arith, is)) (omega (arith, lt)))

one_some : (n y : ℕ) → y < n → names_some n (targets.Only (2 ^ y)) ≡ true
one_some n y lt = rw (lt-ltb 0 (2 ^ y) (pow_pos y), lt-ltb (2 ^ y) (2 ^ n) (pow_below y n lt)) refl

-- the places of a cut are clusters
named_clusters : (names : List (List ℕ)) (c : ℕ) (ps : List (Option Position)) → c + length ps ≤ length names → AreClusters names (named_from c ps)
named_clusters names c [] le = tt
named_clusters names c (None ∷ ps) le = named_clusters names (c + 1) ps (omega (arith, le))
named_clusters names c (Some p ∷ ps) le = (omega (arith, le), named_clusters names (c + 1) ps (omega (arith, le)))

all_clusters : (names : List (List ℕ)) (cut : Cut) → length cut.remote ≡ length names → AreClusters names (named cut)
all_clusters names cut wide = named_clusters names 0 cut.remote (omega (arith, wide))

pub own_plain : (B : Type 0) (h : Site) (b : Broker) (m : Marker) (to : Targets) (names : List (List ℕ)) → h.own < length h.clusters → IsOwn B h m to names
    → IsPlainEntry h.clusters None (own_marker h b m to names)
own_plain B h b m to names lt (IsOwn.Request id small) = record { listed = refl; some = refl; from = tt; content = lt; rest = refl }
own_plain B h b m to names lt (IsOwn.Response id y p small within) =
    record { listed = sym (one_named 0 y y h.clusters (omega arith) within); some = one_some (length h.clusters) y within; from = tt; content = lt; rest = refl }
own_plain B h b m to names lt (IsOwn.Snapshot id cut small wide) = record {
  listed = sym (one_named 0 h.own h.own h.clusters (omega arith) lt);
  some = one_some (length h.clusters) h.own lt;
  from = tt;
  content = all_clusters h.clusters cut wide;
  rest = refl;
}
own_plain B h b m to names lt (IsOwn.Update n cut named wide) = record { listed = refl; some = refl; from = tt; content = all_clusters h.clusters cut wide; rest = refl }
