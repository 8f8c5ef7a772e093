-- The keys of two markers are the same exactly where they name the same.
use Rattle.std.proofs.Common.{◌≡◌, ℕ, zero, suc, ◌+◌, ◌≤◌, ◌==◌, Bool, List, [], ◌∷◌, ◌++◌, drop, length, refl, sym, ap, ◌∙◌}
use Rattle.std.proofs.lemmas.List.{drop_all}
use Rattle.std.specs.Prelude.{◌&&◌}
use Rattle.std.specs.Str.{bytes_eq}
use Rattle.geo_base.specs.declared.marker.ClusterPosition.{ClusterPosition}
use Rattle.geo_base.specs.declared.position.Position.{Position}
use Rattle.geo_base.specs.Position.{same_position}
use Rattle.geo_base.specs.TraceItems.{names_same, same_positions}
use Rattle.geo_base.specs.Updating.{positions_for}
use Rattle.trace_runs.specs.SnapshotTables.{key_part, positions_key, snapshot_key}
use Rattle.geo_base.proofs.Bools.{and_assoc, and_with_true}

-- a key is read from its front: each part ends by itself
parts_same : (ps qs : List Position) (xs ys : List ℕ) → bytes_eq (key_part ps ++ xs) (key_part qs ++ ys) ≡ (same_positions ps qs && bytes_eq xs ys)
parts_same [] [] xs ys = refl
parts_same [] (q ∷ qs) xs ys = refl
parts_same (p ∷ ps) [] xs ys = refl
parts_same (p ∷ ps) (q ∷ qs) xs ys =
    ap (λ (b : Bool). (p.ledger == q.ledger) && ((p.entry == q.entry) && b)) (parts_same ps qs xs ys)
    ∙ (and_assoc (p.ledger == q.ledger) (p.entry == q.entry) (same_positions ps qs && bytes_eq xs ys) ∙ and_assoc (same_position p q) (same_positions ps qs) (bytes_eq xs ys))

positions_same : (n : ℕ) (rs qs : List ClusterPosition) → bytes_eq (positions_key n rs) (positions_key n qs) ≡ names_same n rs qs
positions_same zero rs qs = and_with_true (length rs == length qs)
positions_same (suc n) rs qs =
    parts_same (positions_for n rs) (positions_for n qs) (positions_key n rs) (positions_key n qs)
    ∙ ap (λ (b : Bool). same_positions (positions_for n rs) (positions_for n qs) && b) (positions_same n rs qs)

pub keys_same : (a b n : ℕ) (rs qs : List ClusterPosition) → bytes_eq (snapshot_key a n rs) (snapshot_key b n qs) ≡ ((a == b) && names_same n rs qs)
keys_same a b n rs qs = ap (λ (c : Bool). (a == b) && c) (positions_same n rs qs)

-- ---- a key, number by number

pub all_named : (x i : ℕ) (rs : List ClusterPosition) (old total : List ℕ) → length rs ≤ i → old ++ key_part (positions_for x (drop i rs)) ≡ total → old ++ 0 ∷ [] ≡ total
all_named x i rs old total past before = ap (λ (qs : List ClusterPosition). old ++ key_part (positions_for x qs)) (sym (drop_all i rs past)) ∙ before
