-- What `observe` answers, and what holds with it.
use Rattle.std.proofs.Common.{◌≡◌, ◌≢◌, ℕ, Bool, true, false, List, [], ◌∷◌, refl, ap, subst}
use Rattle.std.specs.Prelude.{Option, Some, Result, Ok, Err, IsOkAnd, length, nat_lt}
use Rattle.geo_base.specs.Setup.{Setup}
use Rattle.observation.specs.declared.finding.Finding.{Finding}
use Rattle.observation.specs.Findings.{findings_of}
use Rattle.observation.specs.Observed.{Observation}
use Rattle.observation.specs.Safe.{IsObservedSafe}
use Rattle.observation.proofs.Silent.{observed_safe_law}
use Rattle.observe.specs.Topics.{entries_in}
use Rattle.observed_text.specs.Findings.{finding_lines, safe_line}
use Rattle.observed_text.specs.Starts.{declarations_before}
use Rattle.script_text.specs.Rules.{script_of}
use Rattle.script_text.specs.Script.{Fault, Script}
use Rattle.geo_top.specs.declared.top.answer.Answer.{Answer}
use Rattle.geo_top.specs.declared.top.command.Command.{Command}
use Rattle.geo_top.specs.declared.top.command.Reading.TheVariants as reading
use Rattle.geo_top.specs.declared.top.status.Status.TheVariants as status
use Rattle.geo_top.specs.Commands.{observe_command}
use Rattle.geo_top.specs.Founded.{IsFounded}
use Rattle.geo_top.specs.Judged.{IsJudged}
use Rattle.geo_top.specs.Outputs.{IsAnswerFor, IsAnswerToBytes, IsAnswerToInput, UnlessLarge, answer_to_findings, answer_to_observed, answer_to_seen, observation_in}

-- ---- an answer that is Ok
abbrev pub IsToldSafe : List ℕ → Setup → Observation → Type 0
IsToldSafe output s o = IsObservedSafe s o × (output ≡ safe_line (entries_in o.topics))

no_findings : (a : Answer) (s : Setup) (o : Observation) (fs : List Finding) → a ≡ answer_to_findings s o fs → a.status ≡ status.Ok
    → (fs ≡ []) × (a.bytes ≡ safe_line (entries_in o.topics))
no_findings a s o [] is ok = (refl, ap (λ (a : Answer). a.bytes) is)
no_findings a s o (f ∷ fs) is ok = absurd (cc (ap (λ (a : Answer). a.status) is))

safe_seen : (a : Answer) (s : Setup) (r : Result Observation Fault) → a ≡ answer_to_seen s r → a.status ≡ status.Ok → IsOkAnd r (IsToldSafe a.bytes s)
safe_seen a s (Ok o) is ok = let p = no_findings a s o (findings_of s o) is ok in (observed_safe_law.safe s o p.0, p.1)
safe_seen a s (Err f) is ok = absurd (cc (ap (λ (a : Answer). a.status) is))

safe_observed : (a : Answer) (input : List ℕ) (r : Result Script Fault) → a ≡ answer_to_observed input r → a.status ≡ status.Ok
    → IsOkAnd r (λ n. IsOkAnd (observation_in input n) (IsToldSafe a.bytes n.setup))
safe_observed a input (Ok n) is ok = safe_seen a n.setup (observation_in input n) is ok
safe_observed a input (Err f) is ok = absurd (cc (ap (λ (a : Answer). a.status) is))

-- ---- one with findings
abbrev pub AreTold : List ℕ → Setup → Observation → Type 0
AreTold output s o = (findings_of s o ≢ []) × (output ≡ finding_lines s (findings_of s o))

some_findings : (a : Answer) (s : Setup) (o : Observation) (fs : List Finding) → a ≡ answer_to_findings s o fs → a.status ≡ status.Found
    → (fs ≢ []) × (a.bytes ≡ finding_lines s fs)
some_findings a s o [] is found = absurd (cc (ap (λ (a : Answer). a.status) is))
some_findings a s o (f ∷ fs) is found = ((λ none. cc none), ap (λ (a : Answer). a.bytes) is)

found_seen : (a : Answer) (s : Setup) (r : Result Observation Fault) → a ≡ answer_to_seen s r → a.status ≡ status.Found → IsOkAnd r (AreTold a.bytes s)
found_seen a s (Ok o) is found = some_findings a s o (findings_of s o) is found
found_seen a s (Err f) is found = absurd (cc (ap (λ (a : Answer). a.status) is))

found_observed : (a : Answer) (input : List ℕ) (r : Result Script Fault) → a ≡ answer_to_observed input r → a.status ≡ status.Found
    → IsOkAnd r (λ n. IsOkAnd (observation_in input n) (AreTold a.bytes n.setup))
found_observed a input (Ok n) is found = found_seen a n.setup (observation_in input n) is found
found_observed a input (Err f) is found = absurd (cc (ap (λ (a : Answer). a.status) is))

-- ---- it is one to the bytes that were read
to_input : (c : Option Command) (input : List ℕ) (a : Answer) → IsFounded c input a → c ≡ Some observe_command → IsAnswerToInput reading.Observe input a
to_input c input a f is = subst (λ (c : Option Command). IsAnswerFor c input a) is f.due

safe_small : (t : Bool) (a : Answer) (P : Type 0) → UnlessLarge t a P → a.status ≡ status.Ok → P
safe_small true a P is ok = absurd (cc (ap (λ (a : Answer). a.status) is))
safe_small false a P is ok = is

found_small : (t : Bool) (a : Answer) (P : Type 0) → UnlessLarge t a P → a.status ≡ status.Found → P
found_small true a P is found = absurd (cc (ap (λ (a : Answer). a.status) is))
found_small false a P is found = is

pub judged : (c : Option Command) (input : List ℕ) (a : Answer) → IsFounded c input a → IsJudged c input a.bytes a.status
judged c input a f = record {
  safe = λ ok is.
      safe_observed a input (script_of (declarations_before input))
      (safe_small (nat_lt 67108864 (length input)) a (IsAnswerToBytes reading.Observe input a) (to_input c input a f is) ok) ok;
  found = λ found is.
      found_observed a input (script_of (declarations_before input))
      (found_small (nat_lt 67108864 (length input)) a (IsAnswerToBytes reading.Observe input a) (to_input c input a f is) found) found;
}
