-- What an answer says of a meaning, and a meaning of the answer.
use Rattle.std.proofs.Common.{◌≡◌, ℕ, Result, Ok, Err, IfOk, ◌⊎◌, inl, inr, refl, sym, ap, ◌∙◌}
use Rattle.script_text.specs.declared.fault.ScriptFault.{ScriptFault}
use Rattle.script_text.specs.declared.fault.ScriptFault.TheVariants as fault
use Rattle.script_text.specs.Drafts.{Answers, Finishes, Goes, Takes}
use Rattle.script_text.specs.Script.{Declarations, Fault}

pub ok_is : {A : Type 0} (r : Result A ScriptFault) (m : Result A Fault) → Answers r m → IfOk r (λ a. m ≡ Ok a)
ok_is (Ok a) m is = is
ok_is (Err (fault.Rule line rule)) m is = tt
ok_is (Err fault.Memory) m is = tt

pub rule_is : {A : Type 0} (r : Result A ScriptFault) (m : Result A Fault) (line rule : ℕ) → Answers r m → r ≡ Err (fault.Rule line rule) → m ≡ Err (record { line = line; rule = rule })
rule_is (Ok a) m line rule is e = cc
rule_is (Err (fault.Rule l k)) m line rule is e = cc
rule_is (Err fault.Memory) m line rule is e = cc

pub accepted : {A : Type 0} (r : Result A ScriptFault) (m : Result A Fault) (a : A) → Answers r m → m ≡ Ok a → (r ≡ Ok a) ⊎ (r ≡ Err fault.Memory)
accepted (Ok b) m a is e = inl cc
accepted (Err (fault.Rule l k)) m a is e = cc
accepted (Err fault.Memory) m a is e = inr refl

abbrev fault_of : {A : Type 0} → Result A Fault → Fault
fault_of (Ok a) = record { line = 0; rule = 0 }
fault_of (Err f) = f

pub refused : {A : Type 0} (r : Result A ScriptFault) (m : Result A Fault) (line rule : ℕ) → Answers r m → m ≡ Err (record { line = line; rule = rule }) → (r ≡ Err (fault.Rule line rule)) ⊎ (r ≡ Err fault.Memory)
refused (Ok b) m line rule is e = cc
refused (Err (fault.Rule l k)) m line rule is e =
    let same = ap fault_of (sym is ∙ e) in
    inl (ap (λ (f : Fault). Err (fault.Rule f.line f.rule)) same)
refused (Err fault.Memory) m line rule is e = inr refl

-- a part that was not read answers for the whole
pub part_refused : {A : Type 0} (f : ScriptFault) (whole : Result A Fault) (left : ℕ → Result A Fault) → Goes (Err f) whole left → Answers {A = A} (Err f) whole
part_refused (fault.Rule line rule) whole left is = is
part_refused fault.Memory whole left is = tt

-- and so does one that was not taken in
pub not_taken : {A : Type 0} (f : ScriptFault) (new : A) (m : Result A Fault) → Takes (Err f) new m → Answers {A = A} (Err f) m
not_taken (fault.Rule line rule) new m is = is
not_taken fault.Memory new m is = tt

pub unfinished : {A : Type 0} (f : ScriptFault) (d : Declarations) (m : Result A Fault) → Finishes (Err f) d → Answers {A = A} (Err f) m
unfinished (fault.Rule line rule) d m is = absurd is
unfinished fault.Memory d m is = tt
