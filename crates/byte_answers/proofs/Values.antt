-- What is answered of a value that was read.
use Rattle.std.proofs.Common.{◌≡◌, ℕ, List, Result, Ok, Err, subst, sym}
use Rattle.std.specs.Prelude.{IfOk}
use Rattle.geo_base.specs.declared.frame.Frame.{Frame}
use Rattle.geo_base.specs.declared.frame.Frame.TheVariants as frame
use Rattle.geo_base.specs.declared.memory.Memory.{Memory}
use Rattle.frame_values.specs.Standing.{Reads}
use Rattle.byte_answers.specs.declared.answer.Answer.{Answer}
use Rattle.byte_answers.specs.declared.answer.Answer.TheVariants as answers
use Rattle.byte_answers.specs.Answers.{IsValueAnswer, IsValueText}

pub value_is : (names : List (List ℕ)) (bytes : List ℕ) (f : Frame) (r : Result Answer Memory) → Reads names bytes f → IfOk r (IsValueText names f) → IfOk r (IsValueAnswer names bytes)
value_is names bytes f (Ok a) reads text = (f, reads, text)
value_is names bytes f (Err e) reads text = tt

pub unreadable_is : (names : List (List ℕ)) (f : Frame) → f ≡ frame.Unreadable → IsValueText names f answers.Unreadable
unreadable_is names f is = subst (λ (g : Frame). IsValueText names g answers.Unreadable) (sym is) tt
