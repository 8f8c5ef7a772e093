-- How the program ends (own).
use Rattle.std.specs.Prelude.{◌≡◌, ℕ, ⊤, List, [], ◌∷◌, ◌++◌, codes, decimal}
use Rattle.geo_top.specs.declared.top.status.Status.{Status}
use Rattle.geo_top.specs.declared.top.status.Status.TheVariants as status

-- the number that the program ends with
abbrev pub status_number : Status → ℕ
status_number status.Ok = 0
status_number status.Usage = 2
status_number (status.BadScript line rule) = 3
status_number status.ReadFault = 4
status_number status.WriteFault = 5
status_number (status.TooLarge limit) = 6
status_number status.OutOfMemory = 8
status_number (status.BadState offset rule) = 9
status_number (status.StateVersion number) = 9
status_number (status.AuditRefused event rule) = 10
status_number (status.BadObservation line rule) = 3
status_number status.Found = 11

-- The one line that a refusal writes. Want of memory writes nothing, and a write fault has no line of its own; what is found against an
-- observation is no refusal
abbrev pub refusal_line : Status → List ℕ
refusal_line status.Ok = []
refusal_line status.Usage = codes "usage: geo run, live WORKERS TURNS, big NUMBER, save, resume, audit, compact HORIZON, tiered KEEP, trace, steps, steps from, steps big NUMBER, audit whole, lost CLUSTER, lost CLUSTER numbers, lost CLUSTER from, observe\n"
refusal_line (status.BadScript line rule) = codes "bad script line " ++ (decimal line ++ (codes " rule " ++ (decimal rule ++ 10 ∷ [])))
refusal_line status.ReadFault = codes "read fault\n"
refusal_line status.WriteFault = []
refusal_line (status.TooLarge limit) = codes "too large " ++ (decimal limit ++ 10 ∷ [])
refusal_line status.OutOfMemory = []
refusal_line (status.BadState offset rule) = codes "bad state at " ++ (decimal offset ++ (codes " rule " ++ (decimal rule ++ 10 ∷ [])))
refusal_line (status.StateVersion number) = codes "bad state version " ++ (decimal number ++ 10 ∷ [])
refusal_line (status.AuditRefused event rule) = codes "audit refused " ++ (decimal event ++ (codes " rule " ++ (decimal rule ++ 10 ∷ [])))
refusal_line (status.BadObservation line rule) = codes "bad observation line " ++ (decimal line ++ (codes " rule " ++ (decimal rule ++ 10 ∷ [])))
refusal_line status.Found = []

-- neither source nor sink nor memory failed
abbrev pub IsMade : Status → Type 0
IsMade status.ReadFault = ⊥
IsMade status.WriteFault = ⊥
IsMade status.OutOfMemory = ⊥
IsMade s = ⊤

-- a status is the one that is due, unless the source, the sink or memory failed
abbrev pub IsDue : Status → Status → Type 0
IsDue due status.ReadFault = ⊤
IsDue due status.WriteFault = ⊤
IsDue due status.OutOfMemory = ⊤
IsDue due s = s ≡ due
