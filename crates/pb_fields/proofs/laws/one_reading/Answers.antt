use Rattle.pb_fields.proofs.Unique.{text_one, fault_one, fault_sound}
use Rattle.pb_fields.proofs.Written.{text-fields}
use Rattle.pb_fields.proofs.laws.one_reading.Goals as goal

pub returns : goal.returns
returns c = record {
  text = λ bytes fs gs h k. text_one h k;
  fault = fault_one;
  either = fault_sound;
  fields = λ bytes fs h. text-fields h;
}
