-- Frames and entries that are small enough for what is in them.
use Rattle.std.specs.Prelude.{ℕ, ◌≤◌, List, length, Option, IfSome}
use Rattle.geo_base.specs.declared.entry.Entry.{Entry}
use Rattle.geo_base.specs.declared.frame.Frame.{Frame}
use Rattle.geo_base.specs.declared.frame.Frame.TheVariants as frame
use Rattle.geo_base.specs.declared.marker.ClusterRef.{ClusterRef}
use Rattle.geo_base.specs.Sizes.{entry_size, most_entry_size, cluster_ref_name}

-- a text that is no message: a name, or at most as long as a producer's name that a broker attaches (own)
abbrev pub IsShortText : List ℕ → Type 0
IsShortText t = length t ≤ 1024

-- an entry that is small enough to be stored, and the name of the cluster that it came from
pub record IsSmallEntry (names : List (List ℕ)) (source : Option ClusterRef) (e : Entry) : Type 0 where
  pub entry : entry_size names e ≤ most_entry_size
  pub from : IfSome source (λ p. IsShortText (cluster_ref_name names p))

-- What a frame holds is small: its entry is, an ACK names at most 200,000 positions, all other texts are short.
abbrev pub IsSmallFrame : List (List ℕ) → Frame → Type 0
IsSmallFrame names (frame.Send id seq source e) = IsSmallEntry names source e
IsSmallFrame names (frame.Message id position source e) = IsSmallEntry names source e
IsSmallFrame names (frame.Ack id kind positions) = length positions ≤ 200000
IsSmallFrame names (frame.Subscribe topic sub kind id request consumer earliest replicated) = IsShortText topic × IsShortText sub × IfSome consumer IsShortText
IsSmallFrame names (frame.Producer topic id request name) = IsShortText topic × IfSome name IsShortText
IsSmallFrame names (frame.ProducerSuccess request name) = IsShortText name
IsSmallFrame names f = Unit {0}
