-- Why bytes are no marker of a kind.
use Rattle.std.specs.Prelude.{◌≡◌, ◌≢◌, ℕ, List}
use Rattle.pb_fields.specs.declared.message.MessageFault.{MessageFault}
use Rattle.pb_fields.specs.declared.message.MessageFault.TheVariants as message_fault
use Rattle.pb_fields.specs.Embedded.{WrongMessageWith}
use Rattle.marker_codec.specs.declared.fault.MarkerFault.{MarkerFault}
use Rattle.marker_codec.specs.declared.fault.MarkerFault.TheVariants as fault
use Rattle.marker_codec.specs.declared.kind.MarkerKind.{MarkerKind}
use Rattle.marker_codec.specs.Kinds.{kind_number, kind_rows, RightPart, WrongPart}

-- a fault of a message as a fault of a marker
abbrev pub marker_fault : MessageFault → MarkerFault
marker_fault (message_fault.Pb why) = fault.Pb why
marker_fault (message_fault.WrongWire number) = fault.WrongWire number
marker_fault (message_fault.NotText number) = fault.NotText number
marker_fault (message_fault.Missing number) = fault.Missing number
marker_fault message_fault.Memory = fault.Memory

-- the number of no kind
abbrev pub IsNoKind : ℕ → Type 0
IsNoKind number = (k : MarkerKind) → number ≢ kind_number k

-- The number is judged before the bytes.
pub data WrongMarker (number : ℕ) (bytes : List ℕ) (e : MarkerFault) : Type 0 where
  no_kind : IsNoKind number → e ≡ fault.UnknownKind number → WrongMarker number bytes e
  no_message : (k : MarkerKind) (why : MessageFault) → number ≡ kind_number k → WrongMessageWith (RightPart k) (WrongPart k) (kind_rows k) bytes why → e ≡ marker_fault why → WrongMarker number bytes e

-- A fault is that of the bytes. Want of memory says nothing of them.
abbrev pub IsWrongOrMemory : (MarkerFault → Type 0) → MarkerFault → Type 0
IsWrongOrMemory P fault.Memory = Unit {0}
IsWrongOrMemory P e = P e
