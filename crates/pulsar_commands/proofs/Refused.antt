-- Faults of messages as faults of commands.
use Rattle.std.proofs.Common.{Result, Ok, Err}
use Rattle.std.specs.Prelude.{IfErr}
use Rattle.pb_fields.specs.declared.message.MessageFault.{MessageFault}
use Rattle.pb_fields.specs.declared.message.MessageFault.TheVariants as message
use Rattle.pb_fields.specs.Message.{IsWrongOrMemory}
use Rattle.pulsar_commands.specs.declared.fault.CommandFault.{CommandFault}
use Rattle.pulsar_commands.specs.declared.fault.CommandFault.TheVariants as fault
use Rattle.pulsar_commands.specs.Faults.{of_message, IsFaultOrMemory}

pub of_message_wrong : (P : MessageFault → Type 0) (Q : CommandFault → Type 0) (m : MessageFault) → ((m : MessageFault) → P m → Q (of_message m)) → IsWrongOrMemory P m → IsFaultOrMemory Q (of_message m)
of_message_wrong P Q (message.Pb x) f h = f (message.Pb x) h
of_message_wrong P Q (message.WrongWire x) f h = f (message.WrongWire x) h
of_message_wrong P Q (message.NotText x) f h = f (message.NotText x) h
of_message_wrong P Q (message.Missing x) f h = f (message.Missing x) h
of_message_wrong P Q message.Memory f h = tt

fault_weaker : (P Q : CommandFault → Type 0) (e : CommandFault) → ((e : CommandFault) → P e → Q e) → IsFaultOrMemory P e → IsFaultOrMemory Q e
fault_weaker P Q (fault.Pb x) f h = f (fault.Pb x) h
fault_weaker P Q (fault.WrongWire x) f h = f (fault.WrongWire x) h
fault_weaker P Q (fault.NotText x) f h = f (fault.NotText x) h
fault_weaker P Q (fault.Missing x) f h = f (fault.Missing x) h
fault_weaker P Q (fault.UnknownType x) f h = f (fault.UnknownType x) h
fault_weaker P Q fault.Memory f h = tt

pub err_weaker : {X : Type 0} (P Q : CommandFault → Type 0) (r : Result X CommandFault) → ((e : CommandFault) → P e → Q e) → IfErr r (IsFaultOrMemory P) → IfErr r (IsFaultOrMemory Q)
err_weaker P Q (Ok x) f h = tt
err_weaker P Q (Err e) f h = fault_weaker P Q e f h
