-- What faults print.
use Rattle.std.specs.Prelude.{ℕ, List, codes}
use Rattle.geo_io.specs.declared.whole.ReadFault.{ReadFault}
use Rattle.geo_io.specs.declared.whole.ReadFault.TheVariants as fault

abbrev pub read_fault_text : ReadFault → List ℕ
read_fault_text fault.Failed = codes "the source failed"
read_fault_text fault.TooLong = codes "too many bytes came"
read_fault_text fault.Memory = codes "out of memory"
