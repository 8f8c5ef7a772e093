-- The words of the command that runs nodes on threads: `live WORKERS TURNS` (own).
use Rattle.std.specs.Prelude.{ℕ, ◌*◌, ◌||◌, if◌then◌else◌, nat_lt, List, [], ◌∷◌, Option, Some, None, codes}
use Rattle.std.specs.Str.{bytes_eq}
use Rattle.script_rows.specs.Numbers.{number_of}
use Rattle.geo_live.specs.declared.words.Live.{Live}

-- workers: one at least
abbrev pub most_workers : ℕ
most_workers = 64

-- turns of each worker, one at least, and of all workers together: as many as a run has events
abbrev pub most_turns : ℕ
most_turns = 2000000

abbrev pub allowed : ℕ → ℕ → Option Live
allowed workers turns =
    if nat_lt workers 1 || nat_lt turns 1 || nat_lt most_turns (workers * turns) then None else Some (record { workers = workers; turns = turns })

abbrev pub both : Option ℕ → Option ℕ → Option Live
both None turns = None
both (Some workers) None = None
both (Some workers) (Some turns) = allowed workers turns

-- numbers are decimal, without a sign and without a leading zero
abbrev pub numbered : List ℕ → List ℕ → List ℕ → Option Live
numbered w n m = if bytes_eq w (codes "live") then both (number_of most_workers n) (number_of most_turns m) else None

-- other words are not those of `live`
abbrev pub live_of : List (List ℕ) → Option Live
live_of [] = None
live_of (w ∷ []) = None
live_of (w ∷ n ∷ []) = None
live_of (w ∷ n ∷ m ∷ []) = numbered w n m
live_of (w ∷ n ∷ m ∷ v ∷ ws) = None
