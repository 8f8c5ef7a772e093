-- What runs send and store: frames and entries that their texts tell whole, and that are small enough for a link.
use Rattle.std.specs.Prelude.{◌≡◌, ℕ, ◌+◌, ◌≤◌, ◌<◌, List, length, Some, None, IfSome, slice_get}
use Rattle.geo_base.specs.declared.entry.Entry.{Entry}
use Rattle.geo_base.specs.declared.frame.Frame.{Frame}
use Rattle.geo_base.specs.declared.frame.Frame.TheVariants as frame
use Rattle.geo_base.specs.declared.packet.Packet.{Packet}
use Rattle.geo_base.specs.FrameSizes.{frame_size, most_frame_size}
use Rattle.geo_base.specs.Laws.{Always, IsShort}
use Rattle.geo_base.specs.Safe.{IsEntry}
use Rattle.geo_base.specs.Scripted.{IsScripted}
use Rattle.geo_base.specs.Setup.{Setup}
use Rattle.geo_base.specs.Sizes.{entry_size, most_entry_size}
use Rattle.geo_base.specs.World.{LinkName, World, link_at, topic_at}
use Rattle.world_laws.specs.Plain.{IsCluster, IsPlain, IsPlainEntry}

-- a fact of the frame of each packet that was ever sent, on any link
abbrev pub AllFrames : (Frame → Type 0) → World → Type 0
AllFrames F w = (k : LinkName) (i : ℕ) (p : Packet) → slice_get (link_at w.links k).sent i ≡ Some p → F p.frame

-- a fact of each entry that is stored
abbrev pub AllEntries : Setup → (Entry → Type 0) → World → Type 0
AllEntries s E w = (t x i : ℕ) (e : Entry) → x < length s.clusters → IsEntry (topic_at s w t x) i e → E e

-- a frame that can be read
abbrev pub IsReadable : Frame → Type 0
IsReadable frame.Unreadable = ⊥
IsReadable f = Unit {0}

-- a frame that can be read, whose entry has a fact, if it carries one, and comes from one of these clusters, if it says from which
abbrev pub IsCarrying : (Entry → Type 0) → List (List ℕ) → Frame → Type 0
IsCarrying E names (frame.Send id seq source e) = IfSome source (IsCluster names) × E e
IsCarrying E names (frame.Message id position source e) = IfSome source (IsCluster names) × E e
IsCarrying E names f = IsReadable f

-- plain: targets are named by their names and in their order, places are clusters, markers are their canonical texts, and no field
-- stands beside those that are read

abbrev pub SendsPlain : Setup → World → Type 0
SendsPlain s w = AllFrames (IsPlain s.clusters) w × AllEntries s (IsPlainEntry s.clusters None) w

abbrev pub LawPlain : Type 0
LawPlain = (s : Setup) → IsScripted s → Always s (λ w settled. SendsPlain s w)

-- fits: no frame is larger than a link carries, its first four bytes included, and no entry larger than a topic stores

abbrev pub SendsSmall : Setup → World → Type 0
SendsSmall s w = AllFrames (λ f. frame_size s.clusters f ≤ 4 + most_frame_size) w × AllEntries s (λ e. entry_size s.clusters e ≤ most_entry_size) w

abbrev pub LawFits : Type 0
LawFits = (s : Setup) → IsScripted s → Always s (λ w settled. IsShort w → SendsSmall s w)
