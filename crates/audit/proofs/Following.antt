-- What an acknowledgement gains and the update that it follows, in the words of the code and in those of the rules.
use Rattle.std.proofs.Common.{◌≡◌, ℕ, ◌==◌, Bool, true, false, List, [], ◌∷◌, length, refl}
use Rattle.std.specs.Prelude.{◌&&◌, not, Option, Some, None, IfSome, if◌then◌else◌}
use Rattle.std.specs.Str.{bytes_eq}
use Rattle.cursor_acks.specs.declared.range.IndexRange.{IndexRange}
use Rattle.cursor_acks.specs.Ranges.{indexes_of}
use Rattle.geo_base.specs.declared.entry.Content.{Content}
use Rattle.geo_base.specs.declared.entry.Content.TheVariants as content
use Rattle.geo_base.specs.declared.entry.Entry.{Entry}
use Rattle.geo_base.specs.declared.marker.Marker.TheVariants as marker
use Rattle.geo_base.specs.declared.position.Position.{Position}
use Rattle.geo_base.specs.Audit.{are_new, only_named, are_all_updated, content_updates, entry_updates}
use Rattle.geo_base.specs.Mirror.{Mirror, MirrorSub, index_at}
use Rattle.geo_base.specs.Updating.{positions_for}
use Rattle.audit.specs.Named.{only_of}
use Rattle.audit.specs.Acks.{followed, followed_at, followed_to, follows_all, position_told}
use Rattle.audit.specs.Sub.{may_gain}

pub gains_if_new : (m : Mirror) (o : Option MirrorSub) (ranges : List IndexRange) → are_new m o (indexes_of ranges) ≡ true → IfSome o (λ (v : MirrorSub). may_gain v.cursor (length m.entries) ranges ≡ true)
gains_if_new m None ranges h = tt
gains_if_new m (Some v) ranges h = h

follows_index : (y : ℕ) (m : Mirror) (is : List ℕ) (o : Option ℕ) → follows_all m is (followed_at y o) ≡ are_all_updated y m is o
follows_index y m is None = refl
follows_index y m is (Some j) = refl

follows_only : (y : ℕ) (m : Mirror) (is : List ℕ) (ps : List Position) → follows_all m is (followed_to m y (only_of ps)) ≡ are_all_updated y m is (only_named m ps)
follows_only y m is [] = refl
follows_only y m is (p ∷ []) = follows_index y m is (index_at m p)
follows_only y m is (p ∷ q ∷ ps) = refl

follows_content : (x y : ℕ) (m : Mirror) (n is : List ℕ) (c : Content) → follows_all m is (followed_to m y (position_told x n y c)) ≡ content_updates x y m n is c
follows_content x y m n is content.Data = refl
follows_content x y m n is (content.Unread k) = refl
follows_content x y m n is (content.Marked (marker.Request id source)) = refl
follows_content x y m n is (content.Marked (marker.Response id answer)) = refl
follows_content x y m n is (content.Marked (marker.Snapshot id local remote)) = refl
follows_content x y m n is (content.Marked (marker.Update name remote)) = by (bytes_eq name n && not (y == x))
  where
    by : (b : Bool) → follows_all m is (followed_to m y (if b then only_of (positions_for x remote) else None)) ≡ (b && are_all_updated y m is (only_named m (positions_for x remote)))
    by true = follows_only y m is (positions_for x remote)
    by false = refl

pub follows_entry : (x : ℕ) (m : Mirror) (n is : List ℕ) (o : Option Entry) → follows_all m is (followed x m n o) ≡ entry_updates x m n is o
follows_entry x m n is None = refl
follows_entry x m n is (Some u) = follows_content x u.ident.origin m n is u.content
