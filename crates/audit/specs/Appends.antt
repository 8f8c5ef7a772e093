-- The rules of appended entries, as `Audit` has them, taken apart.
use Rattle.std.specs.Prelude.{ℕ, Bool, Option, None, slice_index_or}
use Rattle.geo_base.specs.declared.entry.Entry.{Entry}
use Rattle.geo_base.specs.declared.position.Position.{Position}
use Rattle.geo_base.specs.Audit.{covers, index_named, is_above, may_snapshot, may_stand, may_update, unless_broken}
use Rattle.geo_base.specs.Mirror.{Mirrors, mirror_at, no_mirror}
use Rattle.geo_base.specs.Setup.{Setup}
use Rattle.geo_base.specs.Topic.{accepts}
use Rattle.audit.specs.declared.covers.Pair.{Pair}

-- what a position of another cluster covers stands in the own topic at or below index l
abbrev pub covers_other : Mirrors → Pair → ℕ → Option Position → Bool
covers_other a p l remote =
    covers p.own (slice_index_or a.topics p.here no_mirror) (slice_index_or a.topics p.there no_mirror) l (index_named (slice_index_or a.topics p.there no_mirror) remote)

-- what an entry may break where it stands; what it may break beside is judged after it
abbrev pub place_refused : Setup → Mirrors → ℕ → ℕ → Position → Entry → Option ℕ → Option ℕ
place_refused s a t x p e rest =
    unless_broken 2 (is_above (mirror_at s a t x).positions p)
    (unless_broken 3 (accepts (mirror_at s a t x).entries e.ident) (unless_broken 4 (may_stand s a t x e) rest))

-- what it may break by what its marker says
abbrev pub marker_refused : Setup → Mirrors → ℕ → ℕ → Entry → Option Position → Option ℕ
marker_refused s a t x e by =
    unless_broken 5 (may_snapshot s a t x e e.content) (unless_broken 6 (may_update s (mirror_at s a t x) x e by e.content) None)
