-- Lines that stand after a text.
use Rattle.std.proofs.Common.{◌≡◌, ℕ, ◌+◌, ◌<◌, ◌==◌, Bool, true, false, not, cond, List, [], ◌∷◌, ◌++◌, length, map, find, Result, Ok, Err, arith, length-append, refl, sym, ap, ◌∙◌}
use Rattle.std.specs.List.{onto_first, slice_split}
use Rattle.std.proofs.lemmas.Bool.{not-false}
use Rattle.std.proofs.lemmas.List.{append-nil}
use Rattle.std.proofs.lemmas.List.Splits.{length-slice_split}
use Rattle.script_rows.specs.declared.fault.Rule.{Rule}
use Rattle.script_rows.specs.declared.fault.Rule.TheVariants as rule
use Rattle.script_text.specs.Lines.{TextLine, lines_between, lines_of}
use Rattle.script_text.specs.Rules.{at_line, breaks_at_end, completed, judged, rules, script_from, script_with}
use Rattle.script_text.specs.Script.{Fault, Script, SoFar}
use Rattle.script_text.proofs.Cuts.{before_more}
use Rattle.script_text.proofs.Parts.{none_found, unbroken}
use Rattle.script_text.proofs.ScheduleBack.{line_with}

-- ---- a text that a line feed ends, and more of it
onto_append : (x : ℕ) (parts more : List (List ℕ)) → 0 < length parts → onto_first x (parts ++ more) ≡ onto_first x parts ++ more
onto_append x [] more some = absurd (omega arith)
onto_append x (p ∷ ps) more some = refl

split_after : (text more : List ℕ) → slice_split (λ b. b == 10) (text ++ 10 ∷ more) ≡ slice_split (λ b. b == 10) text ++ slice_split (λ b. b == 10) more
split_after [] more = refl
split_after (x ∷ xs) more = by (x == 10) (split_after xs more)
  where
    by : (b : Bool) → slice_split (λ b. b == 10) (xs ++ 10 ∷ more) ≡ slice_split (λ b. b == 10) xs ++ slice_split (λ b. b == 10) more → cond b ([] ∷ slice_split (λ b. b == 10) (xs ++ 10 ∷ more)) (onto_first x (slice_split (λ b. b == 10) (xs ++ 10 ∷ more))) ≡ cond b ([] ∷ slice_split (λ b. b == 10) xs) (onto_first x (slice_split (λ b. b == 10) xs)) ++ slice_split (λ b. b == 10) more
    by true same = ap (λ (ps : List (List ℕ)). [] ∷ ps) same
    by false same =
        ap (onto_first x) same ∙ onto_append x (slice_split (λ b. b == 10) xs) (slice_split (λ b. b == 10) more) (omega (arith, length-slice_split (λ (b : ℕ). b == 10) xs))

lines_joined : (parts more : List (List ℕ)) → 0 < length more → lines_between (parts ++ more) ≡ map line_with parts ++ lines_between more
lines_joined [] more some = refl
lines_joined (x ∷ parts) more some =
    before_more x (parts ++ more) (omega (arith, some, length-append parts more)) ∙ ap (λ (ls : List TextLine). line_with x ∷ ls) (lines_joined parts more some)

lines_fed : (text more : List ℕ) → lines_of (text ++ 10 ∷ more) ≡ map line_with (slice_split (λ b. b == 10) text) ++ lines_of more
lines_fed text more =
    ap lines_between (split_after text more) ∙ lines_joined (slice_split (λ b. b == 10) text) (slice_split (λ b. b == 10) more) (omega (arith, length-slice_split (λ (b : ℕ). b == 10) more))

pub lines_after : (text more : List ℕ) → lines_of (text ++ 10 ∷ more) ≡ lines_of (text ++ 10 ∷ []) ++ lines_of more
lines_after text more =
    let own : lines_of (text ++ 10 ∷ []) ≡ map line_with (slice_split (λ b. b == 10) text) = lines_fed text [] ∙ append-nil (map line_with (slice_split (λ b. b == 10) text)) in
    lines_fed text more ∙ ap (λ (ls : List TextLine). ls ++ lines_of more) (sym own)

-- ---- what more lines meet
pub at_line_ok : {A B : Type 0} (n : ℕ) (r : Result A Rule) (f : A → Result B Fault) (b : B) → at_line n r f ≡ Ok b → (a : A) × (r ≡ Ok a) × (f a ≡ Ok b)
at_line_ok n (Ok a) f b e = (a, refl, e)
at_line_ok n (Err r) f b e = cc

pub ended_ok : {A : Type 0} (n : ℕ) (r : Result A Rule) (b : A) → at_line n r Ok ≡ Ok b → r ≡ Ok b
ended_ok n (Ok a) b e = let same : a ≡ b = cc in ap Ok same
ended_ok n (Err r) b e = cc

-- the lines of an accepted script, and what the lines after them meet
pub record IsReached (n : ℕ) (s : SoFar) (ls : List TextLine) (t : Script) : Type 0 where
  pub state : SoFar
  pub goes : (more : List TextLine) → script_from n s (ls ++ more) ≡ script_from (n + length ls) state more
  pub ends : completed state ≡ Ok t

pub reached : (n : ℕ) (s : SoFar) (ls : List TextLine) (t : Script) → script_from n s ls ≡ Ok t → IsReached n s ls t
reached n s [] t e = record {
  state = s;
  goes = λ more. ap (λ (m : ℕ). script_from m s more) (omega arith);
  ends = ended_ok n (completed s) t e;
}
reached n s (l ∷ ls) t e =
    let first = at_line_ok n (judged n s l) (λ s'. script_from (n + 1) s' ls) t e in
    let rest = reached (n + 1) first.0 ls t first.2 in
    record {
      state = rest.state;
      goes = λ more. ap (λ (r : Result SoFar Rule). at_line n r (λ s'. script_from (n + 1) s' (ls ++ more))) first.1 ∙ (rest.goes more ∙ ap (λ (m : ℕ). script_from m rest.state more) (omega arith));
      ends = rest.ends;
    }

-- nothing is missing where a script ends
pub record IsComplete (s : SoFar) (t : Script) : Type 0 where
  pub begun : s.declared.progress.begun ≡ true
  pub some : (length s.declared.setup.topics == 0) ≡ false
  pub same : script_with s ≡ t

pub complete : (s : SoFar) (t : Script) → completed s ≡ Ok t → IsComplete s t
complete s t e =
    let parts = unbroken (find (breaks_at_end s.declared) rules) (script_with s) t e in
    let head = none_found (not s.declared.progress.begun) rule.Head _ parts.0 in
    let lone = none_found (length s.declared.setup.topics == 0) rule.Lone _ head.1 in
    record { begun = not-false s.declared.progress.begun head.0; some = lone.0; same = parts.1 }
