-- What is due, and what goes out.
use Rattle.std.proofs.Common.{◌≡◌, ℕ, Bool, true, false, List, sym, ap, subst, ◌∙◌, refl}
use Rattle.std.specs.Prelude.{Option, Some, None, length, nat_lt}
use Rattle.state_file.proofs.One.{loaded_one}
use Rattle.geo_top.specs.declared.top.answer.Answer.{Answer}
use Rattle.geo_top.specs.declared.top.command.Command.{Command}
use Rattle.geo_top.specs.declared.top.command.Command.TheVariants as command
use Rattle.geo_top.specs.declared.top.command.GoingOn.{GoingOn}
use Rattle.geo_top.specs.declared.top.command.Reading.{Reading}
use Rattle.geo_top.specs.declared.top.command.Reading.TheVariants as reading
use Rattle.geo_top.specs.declared.top.status.Status.{Status}
use Rattle.geo_top.specs.declared.top.status.Status.TheVariants as status
use Rattle.geo_top.specs.Answered.{FaultCounts, WentOut, WritesLine}
use Rattle.geo_top.specs.Outputs.{IsAnswerFor, IsAnswerToBytes, IsAnswerToFile, IsAnswerToLosingFile, UnlessLarge, answer_to_loaded, answer_to_losing_loaded}
use Rattle.geo_top.specs.Statuses.{IsDue, IsMade}
use Rattle.geo_top.proofs.Causing.{IsLine}

-- ---- words and an input have one answer at most
one_file : (v : GoingOn) (input : List ℕ) (a d : Answer) → IsAnswerToFile v input a → IsAnswerToFile v input d → a ≡ d
one_file v input a d own is =
    own.2 ∙ (ap (answer_to_loaded v input) (loaded_one input own.0 is.0 own.1 is.1) ∙ sym is.2)

one_losing : (name input : List ℕ) (a d : Answer) → IsAnswerToLosingFile name input a → IsAnswerToLosingFile name input d → a ≡ d
one_losing name input a d own is =
    own.2 ∙ (ap (answer_to_losing_loaded name input) (loaded_one input own.0 is.0 own.1 is.1) ∙ sym is.2)

one_bytes : (r : Reading) (input : List ℕ) (a d : Answer) → IsAnswerToBytes r input a → IsAnswerToBytes r input d → a ≡ d
one_bytes (reading.Script v) input a d own is = own ∙ sym is
one_bytes reading.Save input a d own is = own ∙ sym is
one_bytes (reading.Resume v) input a d own is = one_file v input a d own is
one_bytes (reading.Audit k) input a d own is = own ∙ sym is
one_bytes reading.Steps input a d own is = own ∙ sym is
one_bytes (reading.Lost name names) input a d own is = own ∙ sym is
one_bytes (reading.LostOn name) input a d own is = one_losing name input a d own is
one_bytes reading.Observe input a d own is = own ∙ sym is

one_input : (t : Bool) (r : Reading) (input : List ℕ) (a d : Answer) → UnlessLarge t a (IsAnswerToBytes r input a) → UnlessLarge t d (IsAnswerToBytes r input d) → a ≡ d
one_input true r input a d own is = own ∙ sym is
one_input false r input a d own is = one_bytes r input a d own is

pub only_answer : (c : Option Command) (input : List ℕ) (a d : Answer) → IsAnswerFor c input a → IsAnswerFor c input d → a ≡ d
only_answer None input a d own is = own ∙ sym is
only_answer (Some (command.Reads r)) input a d own is = one_input (nat_lt 67108864 (length input)) r input a d own is
only_answer (Some (command.Big number)) input a d own is = own ∙ sym is
only_answer (Some (command.BigSteps number)) input a d own is = own ∙ sym is

-- ---- what is due
itself_due : (s : Status) → IsDue s s
itself_due status.ReadFault = tt
itself_due status.WriteFault = tt
itself_due status.OutOfMemory = tt
itself_due s = refl

pub same_due : (d s : Status) → d ≡ s → IsDue d s
same_due d s is = subst (λ (d : Status). IsDue d s) (sym is) (itself_due s)

-- ---- what goes out
pub went : (c : Option Command) (due : Answer) (f : FaultCounts) (s : Status) (output : List ℕ) → IsMade s → output ≡ due.bytes → WentOut c due f s output
went c due f status.Ok output made is = is
went c due f status.Usage output made is = is
went c due f (status.BadScript line rule) output made is = is
went c due f status.ReadFault output made is = absurd made
went c due f status.WriteFault output made is = absurd made
went c due f (status.TooLarge limit) output made is = is
went c due f status.OutOfMemory output made is = absurd made
went c due f (status.BadState offset rule) output made is = is
went c due f (status.StateVersion number) output made is = is
went c due f (status.AuditRefused event rule) output made is = is
went c due f (status.BadObservation line rule) output made is = is
went c due f status.Found output made is = is

-- and it was that answer
pub went_is : (c : Option Command) (due : Answer) (f : FaultCounts) (s : Status) (output : List ℕ) → IsMade s → WentOut c due f s output → output ≡ due.bytes
went_is c due f status.Ok output made is = is
went_is c due f status.Usage output made is = is
went_is c due f (status.BadScript line rule) output made is = is
went_is c due f status.ReadFault output made is = absurd made
went_is c due f status.WriteFault output made is = absurd made
went_is c due f (status.TooLarge limit) output made is = is
went_is c due f status.OutOfMemory output made is = absurd made
went_is c due f (status.BadState offset rule) output made is = is
went_is c due f (status.StateVersion number) output made is = is
went_is c due f (status.AuditRefused event rule) output made is = is
went_is c due f (status.BadObservation line rule) output made is = is
went_is c due f status.Found output made is = is

pub writes : (s : Status) (output : List ℕ) → IsMade s → IsLine s output → WritesLine s output
writes status.Ok output made line = tt
writes status.Usage output made line = line
writes (status.BadScript l rule) output made line = line
writes status.ReadFault output made line = absurd made
writes status.WriteFault output made line = absurd made
writes (status.TooLarge limit) output made line = line
writes status.OutOfMemory output made line = absurd made
writes (status.BadState offset rule) output made line = line
writes (status.StateVersion number) output made line = line
writes (status.AuditRefused event rule) output made line = line
writes (status.BadObservation l rule) output made line = line
writes status.Found output made line = tt
