-- Which fault a horizon has.
use Rattle.std.specs.Prelude.{◌≡◌, ℕ, nat_lt, if◌then◌else◌, Option, Some, None, Result, Ok, Err, ⊤}
use Rattle.topic_compaction.specs.declared.fault.CompactFault.{CompactFault}
use Rattle.topic_compaction.specs.declared.fault.CompactFault.TheVariants as fault

-- a horizon given where another is kept, in a topic of so many entries
abbrev pub fault_of : ℕ → ℕ → ℕ → Option CompactFault
fault_of kept given len =
    if nat_lt len given then Some (fault.PastEnd given len)
    else if nat_lt given kept then Some (fault.Backward kept given)
    else None

-- a fault that is due comes, and no other one but want of memory
abbrev pub Comes : {X : Type 0} → Option CompactFault → Result X CompactFault → Type 0
Comes None (Ok x) = ⊤
Comes None (Err f) = f ≡ fault.Memory
Comes (Some d) r = r ≡ Err d
