use Rattle.marker_codec.proofs.Meaning.{marker_one, fault_one, fault_sound}
use Rattle.marker_codec.proofs.laws.one_meaning.Goals as goal

pub returns : goal.returns
returns c = record { text = marker_one; fault = fault_one; either = fault_sound }
