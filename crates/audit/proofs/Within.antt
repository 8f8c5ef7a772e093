-- The index of a position is that of an entry, and what all topics are before the first line.
use Rattle.std.proofs.Common.{◌≡◌, ℕ, ◌+◌, ◌<◌, Bool, true, false, List, [], ◌∷◌, length, replicate, sym, subst, arith}
use Rattle.std.specs.Prelude.{Option, Some, None, IfSome, if◌then◌else◌}
use Rattle.std.proofs.lemmas.Option.{none-some, same_Some}
use Rattle.geo_base.specs.declared.position.Position.{Position}
use Rattle.geo_base.specs.Mirror.{Mirror, index_at, index_from, no_mirror}
use Rattle.geo_base.specs.Position.{same_position}
use Rattle.audit.specs.Brought.{AreAllBrought, BroughtHere}
use Rattle.audit.specs.Covers.{AreCovers, NeededHere}
use Rattle.audit.specs.Stored.{TopicEntries}
use Rattle.audit.proofs.Bringing.{opening_brought}
use Rattle.audit.proofs.Needing.{opening_covers}

index_below : (ps : List Position) (p : Position) (k i : ℕ) → index_from k ps p ≡ Some i → i < k + length ps
index_below [] p k i h = absurd (none-some i h)
index_below (q ∷ qs) p k i h = by (same_position q p) h (λ g. index_below qs p (k + 1) i g)
  where
    by : (b : Bool) → (if b then Some k else index_from (k + 1) qs p) ≡ Some i → (index_from (k + 1) qs p ≡ Some i → i < k + 1 + length qs) → i < k + length (q ∷ qs)
    by true g rest = let is : k ≡ i = same_Some k i g in omega (arith, is)
    by false g rest = let lt = rest g in omega (arith, lt)

pub index_within : (m : Mirror) (s : TopicEntries) (p : Position) (o : Option ℕ) → s.entries ≡ m.entries → s.positions ≡ m.positions → length s.positions ≡ length s.entries
    → o ≡ index_at m p → IfSome o (λ (i : ℕ). i < length m.entries)
index_within m s p None entries positions sized is = tt
index_within m s p (Some i) entries positions sized is =
    let lt : i < 0 + length m.positions = index_below m.positions p 0 i (sym is) in
    let same : length m.positions ≡ length m.entries = rw (positions, entries) at sized in
    omega (arith, lt, same)

pub opening_held : (ms : List Mirror) (lists : List (List NeededHere)) (brought : List (List BroughtHere)) (n : ℕ) → ms ≡ replicate n no_mirror → lists ≡ replicate n []
    → brought ≡ replicate n [] → AreCovers ms lists × AreAllBrought ms brought
opening_held ms lists brought n a b c =
    subst (λ (qs : List Mirror). AreCovers qs lists × AreAllBrought qs brought) (sym a) (
      subst (λ (cs : List (List NeededHere)). AreCovers (replicate n no_mirror) cs) (sym b) (opening_covers n),
      subst (λ (bs : List (List BroughtHere)). AreAllBrought (replicate n no_mirror) bs) (sym c) (opening_brought n),
    )
