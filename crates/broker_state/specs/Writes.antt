-- The machine's writes and changes that a broker's stand for, once the event's subscription is named.
use Rattle.std.specs.Prelude.{ℕ, List}
use Rattle.geo_base.specs.declared.change.Change.{Change}
use Rattle.geo_base.specs.declared.change.Change.TheVariants as change
use Rattle.geo_base.specs.declared.entry.Entry.{Entry}
use Rattle.geo_base.specs.declared.write.Write.{Write}
use Rattle.geo_base.specs.declared.write.Write.TheVariants as write
use Rattle.broker_subs.specs.Steps.{machine_sub_change, machine_sub_write}
use Rattle.broker_state.specs.declared.change.StateChange.{StateChange}
use Rattle.broker_state.specs.declared.change.StateChange.TheVariants as state_change
use Rattle.broker_state.specs.declared.write.StateWrite.{StateWrite}
use Rattle.broker_state.specs.declared.write.StateWrite.TheVariants as state_write

-- n is the subscription's name, es are the entries before the event
abbrev pub machine_write : List ℕ → List Entry → StateWrite → Write
machine_write n es (state_write.Append e stream) = write.Append e
machine_write n es (state_write.Create s latest) = write.Create s.sub.name s.sub.kind s.sub.replicated latest
machine_write n es state_write.Delete = write.Delete n
machine_write n es (state_write.Sub w) = machine_sub_write n es w
machine_write n es (state_write.ReplicatorAck y i) = write.ReplicatorAck y i
machine_write n es (state_write.SessionNumber y session) = write.SessionNumber y session
machine_write n es state_write.Ledger = write.Ledger

abbrev pub machine_change : List ℕ → StateChange → Change
machine_change n (state_change.Receiver x session) = change.Receiver x session
machine_change n (state_change.Client c session) = change.Client c session
machine_change n (state_change.Detach c) = change.Detach c
machine_change n (state_change.Sub c) = machine_sub_change n c
machine_change n (state_change.Opening y) = change.Opening y
machine_change n (state_change.Opened y) = change.Opened y
machine_change n (state_change.Pend y i) = change.Pend y i
machine_change n (state_change.ReadTo y i) = change.ReadTo y i
machine_change n (state_change.Unpend y number) = change.Unpend y number
machine_change n (state_change.Building o) = change.Building o
machine_change n state_change.Forget = change.Forget
