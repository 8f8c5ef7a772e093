-- States that can be written.
use Rattle.std.specs.List.{All}
use Rattle.state_file.specs.State.{SavedState}
use Rattle.state_nodes.specs.Writing.{CanWrite}

abbrev pub CanSave : SavedState → Type 0
CanSave s = All CanWrite s.brokers
