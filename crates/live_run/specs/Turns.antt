-- What the workers did in a run.
use Rattle.std.specs.Prelude.{◌≡◌, ℕ, ◌<◌, List, length, slice_index_or}
use Rattle.geo_base.specs.Nodes.{node_count}
use Rattle.live_run.specs.Crews.{crews_below, members_in}
use Rattle.live_run.specs.Rotation.{IsRun, Rotates}
use Rattle.live_run.specs.declared.crew.Crew.{Crew}
use Rattle.script_text.specs.Script.{Script}

-- each crew ran
abbrev pub AllRan : ℕ → ℕ → List Crew → List Crew → Type 0
AllRan logs turns old new = (k : ℕ) (c : Crew) → k < length old → IsRun logs turns (slice_index_or old k c).members.items (slice_index_or new k c).members.items (slice_index_or new k c).ended

-- Each worker's actors had all its turns, in rotation, and memory was wanting in none.
pub record TookTurns (s : Script) (workers turns : ℕ) : Type 0 where
  pub formed : List Crew
  pub ran : List Crew
  pub crews : members_in formed ≡ crews_below s workers workers
  pub turned : (k : ℕ) (c : Crew) → k < workers → Rotates (node_count s.setup) (slice_index_or formed k c).members.items turns (slice_index_or ran k c).members.items
