-- The rules of one topic's subscriptions, as `Audit` has them, taken apart.
use Rattle.std.specs.Prelude.{ℕ, nat_le, ◌==◌, Bool, false, not, ◌&&◌, if◌then◌else◌, List, length, Option, Some, None, is_none, is_some}
use Rattle.std.specs.List.{list_all}
use Rattle.std.specs.Str.{bytes_eq}
use Rattle.geo_base.specs.declared.entry.Content.{Content}
use Rattle.geo_base.specs.declared.entry.Content.TheVariants as content
use Rattle.geo_base.specs.declared.entry.Entry.{Entry}
use Rattle.geo_base.specs.declared.marker.Marker.TheVariants as marker
use Rattle.geo_base.specs.declared.planned.Cause.{Cause}
use Rattle.geo_base.specs.declared.position.Position.{Position}
use Rattle.geo_base.specs.Audit.{are_new, cause_refused, is_passed, unless_broken}
use Rattle.geo_base.specs.Mirror.{Mirror, index_at, mirror_sub}
use Rattle.geo_base.specs.Updating.{positions_for}
use Rattle.audit.specs.Named.{only_of}
use Rattle.audit.specs.declared.acks.Followed.{Followed}

abbrev pub create_refused : Mirror → List ℕ → Option ℕ
create_refused m n = unless_broken 7 (is_none (mirror_sub m n)) None

abbrev pub delete_refused : Mirror → List ℕ → Option ℕ
delete_refused m n = unless_broken 7 (is_some (mirror_sub m n)) None

abbrev pub seek_refused : Mirror → List ℕ → ℕ → Option ℕ
seek_refused m n i = unless_broken 7 (is_some (mirror_sub m n)) (unless_broken 11 (nat_le i (length m.entries)) None)

abbrev pub acks_refused : ℕ → Mirror → List ℕ → List ℕ → Cause → Option ℕ
acks_refused x m n is c = unless_broken 7 (is_some (mirror_sub m n)) (unless_broken 8 (are_new m (mirror_sub m n) is) (cause_refused x m n is c))

abbrev pub position_told : ℕ → List ℕ → ℕ → Content → Option Position
position_told x n y (content.Marked (marker.Update name remote)) = if bytes_eq name n && not (y == x) then only_of (positions_for x remote) else None
position_told x n y c = None

-- the one position of cluster x that an update of another cluster for subscription n names
abbrev pub told_position : ℕ → List ℕ → Entry → Option Position
told_position x n u = position_told x n u.ident.origin u.content

abbrev pub followed_at : ℕ → Option ℕ → Option Followed
followed_at y None = None
followed_at y (Some j) = Some (record { cluster = y; index = j })

abbrev pub followed_to : Mirror → ℕ → Option Position → Option Followed
followed_to m y None = None
followed_to m y (Some p) = followed_at y (index_at m p)

-- the update, where its one position is stored
abbrev pub followed : ℕ → Mirror → List ℕ → Option Entry → Option Followed
followed x m n None = None
followed x m n (Some u) = followed_to m u.ident.origin (told_position x n u)

abbrev pub follows_all : Mirror → List ℕ → Option Followed → Bool
follows_all m is None = false
follows_all m is (Some f) = list_all (is_passed f.cluster f.index m) is
