-- The run over the merge of histories that agree.
use Rattle.std.proofs.Common.{◌≡◌, ℕ, zero, suc, List, [], ◌∷◌, ◌++◌, map, refl, ap}
use Rattle.std.specs.Prelude.{slice_index_or}
use Rattle.geo_base.specs.Agreement.{AreHistories}
use Rattle.geo_base.specs.History.{RecordedEvent}
use Rattle.geo_base.specs.Merge.{Merged, history_of, merge_of, of_node, steps_of}
use Rattle.geo_base.specs.Run.{run}
use Rattle.geo_base.specs.Setup.{Declared, Setup, nobody}
use Rattle.world_laws.proofs.Merges.ByteHistories.{bytes_are_histories}
use Rattle.world_laws.proofs.Merges.MergedRun.{has_begun, has_recorded}
use Rattle.world_laws.specs.Recorded.{IsAsRecorded, merged_world}
use Rattle.frame_laws.proofs.AlikeBytes.{alike_bytes}
use Rattle.frame_laws.specs.Logs.{StandsAs}
use Rattle.merge_history.specs.declared.packet_layout.Home.{Home}
use Rattle.merge_history.specs.Kept.{Kept, kept_by}
use Rattle.merge_history.specs.Differences.{AllSent}
use Rattle.merge_history.specs.Ends.{AreStood, IsLayoutOf, home_declared, layout_of}
use Rattle.merge_history.specs.Peers.{LayoutView, no_home}
use Rattle.merge_history.proofs.Linked.{linked}

-- what the same bytes stand for is alike, and so they agree
agree : (s : Setup) (l : LayoutView) (kept : List (List Kept)) (hs : List (List RecordedEvent)) → AreStood s l kept hs → ((n : ℕ) → AllSent l kept n) → AreHistories s hs
agree s l kept hs are all =
    bytes_are_histories (StandsAs s.clusters) s (λ n. kept_by kept n) hs (λ b p q h k. alike_bytes s b p q h k) (linked s l kept hs are all)

-- ---- the run over their merge
pub runs_whole : (s : Setup) (l : LayoutView) (kept : List (List Kept)) (hs : List (List RecordedEvent))
    → AreStood s l kept hs → ((n : ℕ) → AllSent l kept n)
    → IsAsRecorded s (history_of hs) (merged_world s hs)
runs_whole s l kept hs are all =
    has_recorded s hs are.scripted (agree s l kept hs are all)

pub runs_begun : (s : Setup) (l : LayoutView) (kept : List (List Kept)) (hs : List (List RecordedEvent)) (ms later : List Merged)
    → AreStood s l kept hs → ((n : ℕ) → AllSent l kept n) → merge_of hs ≡ ms ++ later
    → IsAsRecorded s (λ n. of_node n ms) (run s (steps_of ms))
runs_begun s l kept hs ms later are all parts =
    has_begun s hs ms later are.scripted (agree s l kept hs are all) parts

-- ---- the layout of a setup
declared_home : (ds : List Declared) (c : ℕ) → slice_index_or (map home_declared ds) c no_home ≡ home_declared (slice_index_or ds c nobody)
declared_home [] c = refl
declared_home (d ∷ ds) zero = refl
declared_home (d ∷ ds) (suc c) = declared_home ds c

pub layout_is : (s : Setup) → IsLayoutOf s (layout_of s)
layout_is s = record {
  clusters = refl;
  brokers = refl;
  homes = λ c. ap (λ (h : Home). h.topic) (declared_home s.clients c);
  declared = λ c. ap (λ (h : Home). h.cluster) (declared_home s.clients c);
}
