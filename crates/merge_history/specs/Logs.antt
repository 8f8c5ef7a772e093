-- Logs of nodes, and those that are strange: which keep another configuration, or are another node's than their place says (own).
use Rattle.std.specs.Prelude.{◌≡◌, ℕ, ◌<◌, Bool, true, false, if◌then◌else◌, List, [], ◌∷◌, length, Some, slice_get, slice_index_or}
use Rattle.geo_base.specs.NodeState.{NodeState}
use Rattle.script_text.specs.Script.{Script}
use Rattle.frame_laws.specs.Logs.{IsLogOf}
use Rattle.merge_history.specs.Kept.{Kept, kept_by}

-- a configuration with the number of a node
pub record ConfigView : Type 0 where
  pub scenario : Script
  pub node : ℕ

pub record LogView : Type 0 where
  pub scenario : Script
  pub node : ℕ
  pub history : List Kept

abbrev pub config_of : LogView → ConfigView
config_of b = record { scenario = b.scenario; node = b.node }

-- a log is that of place n under configuration c; else it is strange
pub record IsOwn (c : Script) (n : ℕ) (b : LogView) : Type 0 where
  pub scenario : b.scenario ≡ c
  pub node : b.node ≡ n

abbrev pub AreOwn : Script → List LogView → Type 0
AreOwn c bs = (n : ℕ) (b : LogView) → slice_get bs n ≡ Some b → IsOwn c n b

-- what counts of a log
pub data Counts (c : Script) (n : ℕ) (b : LogView) (h : List Kept) : Type 0 where
  All : IsOwn c n b → h ≡ b.history → Counts c n b h
  Nothing : (IsOwn c n b → ⊥) → h ≡ [] → Counts c n b h

-- the histories that count, in the order of the places
pub record AreKept (c : Script) (bs : List LogView) (kept : List (List Kept)) : Type 0 where
  pub size : length kept ≡ length bs
  pub each : (n : ℕ) (b : LogView) → slice_get bs n ≡ Some b → Counts c n b (kept_by kept n)

-- the history of each log stands for one that replays at its node to this state and this last stamp
abbrev pub AreLogs : List LogView → (ℕ → NodeState) → (ℕ → ℕ) → Type 0
AreLogs bs st clock = (n : ℕ) (b : LogView) → slice_get bs n ≡ Some b → IsLogOf b.scenario.setup b.node b.history (st n) (clock n)

-- ---- of each log, whether it is its place's own
abbrev pub IsTold : Script → ℕ → LogView → Bool → Type 0
IsTold c n b true = IsOwn c n b
IsTold c n b false = IsOwn c n b → ⊥

pub record AreTold (c : Script) (bs : List LogView) (ts : List Bool) : Type 0 where
  pub size : length ts ≡ length bs
  pub each : (n : ℕ) (b : LogView) → slice_get bs n ≡ Some b → IsTold c n b (slice_index_or ts n true)

abbrev pub counted_of : Bool → LogView → List Kept
counted_of t b = if t then b.history else []

abbrev pub kept_of : List Bool → List LogView → List (List Kept)
kept_of [] bs = []
kept_of (t ∷ ts) [] = []
kept_of (t ∷ ts) (b ∷ bs) = counted_of t b ∷ kept_of ts bs

pub record IsFirstFalse (ts : List Bool) (n : ℕ) : Type 0 where
  pub within : n < length ts
  pub is_false : slice_index_or ts n true ≡ false
  pub before : (k : ℕ) → k < n → slice_index_or ts k true ≡ true
