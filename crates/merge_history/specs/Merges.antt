-- What the merge of logs answers.
use Rattle.std.specs.Prelude.{◌≡◌, ℕ, ◌<◌, List, ◌++◌, Option, Some, None, slice_get}
use Rattle.geo_base.specs.declared.packet.Peer.{Peer}
use Rattle.geo_base.specs.History.{RecordedEvent}
use Rattle.geo_base.specs.Merge.{history_of, merge_of, of_node, steps_of}
use Rattle.geo_base.specs.Merge.{Merged as Entry}
use Rattle.geo_base.specs.NodeState.{NodeState, state_at}
use Rattle.geo_base.specs.Run.{run}
use Rattle.script_text.specs.Script.{Script}
use Rattle.wire_ends.specs.declared.packet.WirePacket.{WirePacket}
use Rattle.world_laws.specs.Recorded.{IsAsRecorded}
use Rattle.merge_history.specs.Differences.{AllSent, IsSentAt, Takes, index_taken, sent_there}
use Rattle.merge_history.specs.Ends.{AreStood, layout_of}
use Rattle.merge_history.specs.Firsts.{ComesBefore}
use Rattle.merge_history.specs.Kept.{Kept, kept_by}
use Rattle.merge_history.specs.Peers.{LayoutView}
use Rattle.merge_history.specs.declared.difference.Difference.{Difference}
use Rattle.merge_history.specs.declared.difference.Difference.TheVariants as difference
use Rattle.merge_history.specs.declared.merge.Merged.{Merged}
use Rattle.merge_history.specs.Logs.{AreKept, AreOwn, LogView, ConfigView, IsOwn, config_of}

-- the first strange log: what it keeps, and what its place asks
pub record IsFirstStrange (c : Script) (bs : List LogView) (n : ℕ) (old given : ConfigView) : Type 0 where
  pub log : LogView
  pub there : slice_get bs n ≡ Some log
  pub strange : IsOwn c n log → ⊥
  pub first : (m : ℕ) (b : LogView) → m < n → slice_get bs m ≡ Some b → IsOwn c m b
  pub keeps : old ≡ config_of log
  pub asked : given ≡ record { scenario = c; node = n }

-- the first packet by stamp and node that is not the one that was sent: node n took it from q, after so many others from there
pub record IsFirstPacket (l : LayoutView) (kept : List (List Kept)) (n : ℕ) (q : Peer) (index : ℕ) (sent : Option WirePacket) (taken : WirePacket) : Type 0 where
  pub place : ℕ
  pub takes : Takes l kept n place q taken
  pub index_is : index ≡ index_taken l kept n place q
  pub sent_is : sent ≡ sent_there l kept n place q
  pub differs : sent ≡ Some taken → ⊥
  pub first : (m i : ℕ) (e : Kept) → slice_get (kept_by kept m) i ≡ Some e → ComesBefore e.stamp m takes.event.stamp n → IsSentAt l kept m i

abbrev pub DiffersAs : Script → List LogView → List (List Kept) → Option Difference → Type 0
DiffersAs c bs kept None = AreOwn c bs × ((n : ℕ) → AllSent (layout_of c.setup) kept n)
DiffersAs c bs kept (Some (difference.Config n old given)) = IsFirstStrange c bs n old given
DiffersAs c bs kept (Some (difference.Packet n q index sent taken)) = AreOwn c bs × IsFirstPacket (layout_of c.setup) kept n q index sent taken

abbrev pub IsPacket : LayoutView → List (List Kept) → Difference → Type 0
IsPacket l kept (difference.Config n old given) = ⊥
IsPacket l kept (difference.Packet n q index sent taken) = IsFirstPacket l kept n q index sent taken

abbrev pub IsStrangeAt : Script → List LogView → ℕ → Difference → Type 0
IsStrangeAt c bs k (difference.Packet n q index sent taken) = ⊥
IsStrangeAt c bs k (difference.Config n old given) =
    (n ≡ k) × ((b : LogView) → slice_get bs k ≡ Some b → old ≡ config_of b) × (given ≡ record { scenario = c; node = k })

-- What the merge of logs says, of which st has the states. Histories of values that the histories that count stand for, each of
-- which replays; the steps are their events and no others, in order; and what differs, exactly. Where nothing does, the machine's
-- run over every beginning of the steps, without limits, is as recorded up to there, and at its end each node has its log's state.
pub record IsMerged (c : Script) (bs : List LogView) (st : ℕ → NodeState) (m : Merged) : Type 0 where
  pub kept : List (List Kept)
  pub counts : AreKept c bs kept
  pub said : List (List RecordedEvent)
  pub stands : AreStood c.setup (layout_of c.setup) kept said
  pub steps : m.steps ≡ steps_of (merge_of said)
  pub differs : DiffersAs c bs kept m.differs
  pub moment : m.differs ≡ None → (ms later : List Entry) → merge_of said ≡ ms ++ later → IsAsRecorded c.setup (λ n. of_node n ms) (run c.setup (steps_of ms))
  pub whole : m.differs ≡ None → IsAsRecorded c.setup (history_of said) (run c.setup m.steps)
  pub states : m.differs ≡ None → (n : ℕ) (b : LogView) → slice_get bs n ≡ Some b → st n ≡ state_at c.setup (run c.setup m.steps) n
