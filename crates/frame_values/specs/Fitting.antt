-- Frames that are small enough for the limit on frames by what they hold.
use Rattle.std.specs.Prelude.{ℕ, ◌≤◌, List, length, Option, IfSome, ⊤}
use Rattle.geo_base.specs.declared.entry.Entry.{Entry}
use Rattle.geo_base.specs.declared.frame.Frame.{Frame}
use Rattle.geo_base.specs.declared.frame.Frame.TheVariants as frame
use Rattle.geo_base.specs.declared.marker.ClusterRef.{ClusterRef}
use Rattle.geo_base.specs.Producing.{most_producer_name}
use Rattle.geo_base.specs.Sizes.{entry_size, most_entry_size, cluster_ref_name}

-- a text that is no message: a name, or at most as long as a producer's name that a broker attaches (own)
abbrev pub IsShort : List ℕ → Type 0
IsShort t = length t ≤ most_producer_name

-- an entry that is small enough to be stored, and the name of the cluster that it came from
pub record IsSmallCarried (names : List (List ℕ)) (source : Option ClusterRef) (e : Entry) : Type 0 where
  pub entry : entry_size names e ≤ most_entry_size
  pub from : IfSome source (λ p. IsShort (cluster_ref_name names p))

-- What a frame holds is small: its entry is, an ACK names at most 200,000 positions, all other texts are short.
abbrev pub IsSmall : List (List ℕ) → Frame → Type 0
IsSmall names (frame.Send id seq source e) = IsSmallCarried names source e
IsSmall names (frame.Message id position source e) = IsSmallCarried names source e
IsSmall names (frame.Ack id kind positions) = length positions ≤ 200000
IsSmall names (frame.Subscribe topic sub kind id request consumer earliest replicated) = IsShort topic × IsShort sub × IfSome consumer IsShort
IsSmall names (frame.Producer topic id request name) = IsShort topic × IfSome name IsShort
IsSmall names (frame.ProducerSuccess request name) = IsShort name
IsSmall names f = ⊤
