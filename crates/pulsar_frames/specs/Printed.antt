-- What faults print (own).
use Rattle.std.specs.Prelude.{ℕ, List, ◌++◌, codes, decimal}
use Rattle.pb_fields.specs.Printed.{message_fault_text}
use Rattle.pulsar_commands.specs.Printed.{command_fault_text}
use Rattle.pulsar_frames.specs.declared.fault.FrameFault.{FrameFault}
use Rattle.pulsar_frames.specs.declared.fault.FrameFault.TheVariants as fault

abbrev pub frame_fault_text : FrameFault → List ℕ
frame_fault_text (fault.TooLarge size) = codes "TooLarge(1, " ++ (decimal size ++ codes ")")
frame_fault_text fault.Sizes = codes "Sizes(2)"
frame_fault_text fault.Checksum = codes "Checksum(3)"
frame_fault_text (fault.Command why) = codes "Command(4, " ++ (command_fault_text why ++ codes ")")
frame_fault_text (fault.Meta why) = codes "Meta(5, " ++ (message_fault_text why ++ codes ")")
frame_fault_text fault.Memory = codes "Memory"
