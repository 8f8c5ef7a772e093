-- Faults of items as faults of a file.
use Rattle.std.specs.Prelude.{◌≡◌, ℕ, ◌-◌, Result, Ok, Err}
use Rattle.state_items.specs.declared.fault.ItemFault.{ItemFault}
use Rattle.state_items.specs.declared.fault.ItemFault.TheVariants as item_fault
use Rattle.state_items.specs.Numbers.{number_of}
use Rattle.state_file.specs.declared.fault.StateFault.{StateFault}
use Rattle.state_file.specs.declared.fault.StateFault.TheVariants as fault
use Rattle.state_file.specs.declared.saved.Saved.{Saved}
use Rattle.state_file.specs.Loading.{Loaded, bad_state, version}
use Rattle.state_file.specs.State.{state_of}

-- the fault of an item among so many bytes
abbrev pub IsFaultIn : ℕ → ItemFault → StateFault → Type 0
IsFaultIn whole item_fault.Memory f = f ≡ fault.Memory
IsFaultIn whole (item_fault.Broken b) f = f ≡ fault.BadState (whole - b.left) (number_of b.rule)

-- What a call answered is what a relation has, unless memory ran out.
abbrev pub TellsRefusal : StateFault → (Loaded → Type 0) → Type 0
TellsRefusal (fault.BadState offset rule) Has = Has (Err (bad_state offset rule))
TellsRefusal (fault.Version n) Has = Has (Err (version n))
TellsRefusal fault.Memory Has = Unit {0}

abbrev pub TellsLoaded : Result (Saved × ℕ) StateFault → (Loaded → Type 0) → Type 0
TellsLoaded (Ok x) Has = Has (Ok (state_of x.0, x.1))
TellsLoaded (Err f) Has = TellsRefusal f Has
