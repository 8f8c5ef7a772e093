-- What is lost if a cluster goes: its name, the line after the last one, and the answers.
use Rattle.std.proofs.Common.{◌≡◌, ℕ, suc, ◌+◌, ◌-◌, ◌<◌, ◌==◌, ltb, Bool, true, false, cond, not, ◌||◌, List, [], ◌∷◌, length, refl, sym, ap, subst, ◌∙◌, inl, inr, arith}
use Rattle.std.specs.Prelude.{drop, fold, Option, Some, None, Result, Ok, Err, IfOk, if◌then◌else◌, position, slice_index_or}
use Rattle.std.specs.List.{list_any, onto_first, position_or_len, slice_split}
use Rattle.std.specs.Str.{bytes_eq}
use Rattle.std.proofs.lemmas.Bool.{cases_lt, le-ltb, lt-ltb}
use Rattle.std.proofs.lemmas.Bool.Decides.{nat_tests}
use Rattle.std.proofs.lemmas.List.Splits.{length-slice_split}
use Rattle.geo_base.specs.declared.event.Step.{Step}
use Rattle.geo_base.specs.declared.memory.Memory.{Memory}
use Rattle.geo_base.specs.Run.{run}
use Rattle.geo_base.specs.World.{World}
use Rattle.loss_laws.specs.LostLines.{lost_text}
use Rattle.script_rows.specs.NameBytes.{is_among, number_in}
use Rattle.script_text.specs.Lines.{TextLine, lines_between, lines_of}
use Rattle.script_text.specs.Rules.{script_of}
use Rattle.script_text.specs.Schedule.{schedule_of}
use Rattle.script_text.specs.Script.{Fault, Script}
use Rattle.state_file.specs.Loading.{IsLoaded, bad_state, version}
use Rattle.state_file.specs.State.{SavedState}
use Rattle.world.specs.World.{WorldView}
use Rattle.world_measures.specs.Worlds.{HasBrokers}
use Rattle.geo_top.specs.declared.top.answer.Answer.{Answer}
use Rattle.geo_top.specs.declared.top.status.Status.TheVariants as status
use Rattle.run_report.specs.Finished.{IsResumed}
use Rattle.geo_top.specs.Losing.{declaring, declaring_on, is_cut, undeclared, with_end}
use Rattle.geo_top.specs.Outputs.{IsAnswerToLosingFile, answer_to_losing, answer_to_losing_on, refused, unless_exceeded}
use Rattle.run_report.specs.Reports.{exceeded_limit, resumed_limit}
use Rattle.run_report.specs.States.{resumed}

-- ---- the number of a name

step : (b : Bool) (i n m : ℕ) (r : Bool) → m ≡ 1 + n → ltb i n ≡ r → ltb (cond (not b) (1 + i) 0) m ≡ (b || r)
step true i n m r is e = lt-ltb 0 m (omega arith)
step false i n m r is e = more ∙ e
  where
    more : ltb (1 + i) m ≡ ltb i n
    more = elim (cases_lt i n) [
      | inl under ↦ lt-ltb (1 + i) m (omega (arith, under)) ∙ sym (lt-ltb i n under)
      | inr past ↦ le-ltb (1 + i) m (omega (arith, past)) ∙ sym (le-ltb i n past)
    ]

-- a place is within a list exactly where something passes
within : {A : Type 0} (p : A → Bool) (xs : List A) → ltb (position_or_len p xs) (length xs) ≡ list_any p xs
within p [] = refl
within p (x ∷ xs) = step (p x) (position_or_len p xs) (length xs) (length (x ∷ xs)) (list_any p xs) (omega arith) (within p xs)

pub found_number : (names : List (List ℕ)) (w : List ℕ) → position (λ n. bytes_eq n w) names ≡ (if is_among names w then Some (number_in names w) else None)
found_number names w = ap (λ (b : Bool). cond b (Some (number_in names w)) None) (within (λ n. bytes_eq n w) names)

-- and the name is one of them, where it has one
named : (b : Bool) (num k : ℕ) → Some k ≡ (if b then Some num else None) → (b ≡ true) × (k ≡ num)
named true num k is = (refl, cc is)
named false num k is = absurd (cc is)

unnamed : (b : Bool) (num : ℕ) → None ≡ (if b then Some num else None) → b ≡ false
unnamed true num is = absurd (cc is)
unnamed false num is = refl

-- ---- the number of lines

abbrev feeds : ℕ → Bool
feeds b = b == 10

abbrev bit : Bool → ℕ
bit b = if b then 1 else 0

-- the last byte, if there is one, ends no line
abbrev cut : List ℕ → Bool
cut [] = false
cut (b ∷ []) = not (feeds b)
cut (b ∷ c ∷ cs) = cut (c ∷ cs)

cut_is : (bs : List ℕ) → is_cut bs ≡ cut bs
cut_is [] = refl
cut_is (b ∷ []) = refl
cut_is (b ∷ c ∷ cs) =
    let place : length (b ∷ c ∷ cs) - 1 ≡ suc (length (c ∷ cs) - 1) = omega arith in
    ap (λ (i : ℕ). not (slice_index_or (b ∷ c ∷ cs) i 10 == 10)) place ∙ cut_is (c ∷ cs)

cut_feed : (b : ℕ) (bs : List ℕ) → feeds b ≡ true → cut (b ∷ bs) ≡ cut bs
cut_feed b [] e = ap not e
cut_feed b (c ∷ cs) e = refl

-- lines between line feeds
feed_line : (x : List ℕ) (parts : List (List ℕ)) → 0 < length parts → length (lines_between (x ∷ parts)) ≡ suc (length (lines_between parts))
feed_line x [] some = absurd (omega (arith, some))
feed_line x (q ∷ more) some = refl

some_parts : (bs : List ℕ) → 0 < length (slice_split feeds bs)
some_parts bs = omega (arith, length-slice_split feeds bs)

-- what has a byte is a line
has_some : (n : ℕ) → 0 < n → (n == 0) ≡ false
has_some n some = grind (arith, nat_tests, some)

one_line : (x : ℕ) (q : List ℕ) → length (lines_between ((x ∷ q) ∷ [])) ≡ 1
one_line x q =
    let some : 0 < length (x ∷ q) = omega arith in
    let line : TextLine = record { bytes = x ∷ q; ended = false } in
    ap (λ (b : Bool). length (if b then [] else line ∷ [])) (has_some (length (x ∷ q)) some)

-- a byte more in the first line, where it has one
longer_first : (b c : ℕ) (parts : List (List ℕ)) → length (lines_between (onto_first b (onto_first c parts))) ≡ length (lines_between (onto_first c parts))
longer_first b c [] = refl
longer_first b c (q ∷ []) = one_line b (c ∷ q) ∙ sym (one_line c q)
longer_first b c (q ∷ r ∷ more) = refl

longer : (b c : ℕ) (cs : List ℕ) (f : Bool)
    → length (lines_between (onto_first b (cond f ([] ∷ slice_split feeds cs) (onto_first c (slice_split feeds cs)))))
    ≡ length (lines_between (cond f ([] ∷ slice_split feeds cs) (onto_first c (slice_split feeds cs))))
longer b c cs true = feed_line (b ∷ []) (slice_split feeds cs) (some_parts cs) ∙ sym (feed_line [] (slice_split feeds cs) (some_parts cs))
longer b c cs false = longer_first b c (slice_split feeds cs)

abbrev Counts : ℕ → List ℕ → Type 0
Counts n bs = fold with_end n bs + bit (cut bs) ≡ n + length (lines_of bs)

plain : (n b : ℕ) (bs : List ℕ) → feeds b ≡ false → Counts n bs
    → fold with_end n bs + bit (cut (b ∷ bs)) ≡ n + length (lines_between (onto_first b (slice_split feeds bs)))
plain n b [] e before = ap (λ (f : Bool). n + bit (not f)) e
plain n b (c ∷ cs) e before = before ∙ ap (λ (k : ℕ). n + k) (sym (longer b c cs (feeds c)))

one_more : (n b : ℕ) (bs : List ℕ) (f : Bool) → feeds b ≡ f → ((m : ℕ) → Counts m bs)
    → fold with_end (if f then n + 1 else n) bs + bit (cut (b ∷ bs)) ≡ n + length (lines_between (cond f ([] ∷ slice_split feeds bs) (onto_first b (slice_split feeds bs))))
one_more n b bs true e before =
    let line : length (lines_between ([] ∷ slice_split feeds bs)) ≡ suc (length (lines_of bs)) = feed_line [] (slice_split feeds bs) (some_parts bs) in
    ap (λ (t : Bool). fold with_end (n + 1) bs + bit t) (cut_feed b bs e) ∙ (before (n + 1) ∙ omega (arith, line))
one_more n b bs false e before = plain n b bs e (before n)

counts : (n : ℕ) (bs : List ℕ) → Counts n bs
counts n [] = refl
counts n (b ∷ bs) = one_more n b bs (feeds b) refl (λ m. counts m bs)

pub behind_cut : (bs : List ℕ) (ended : ℕ) → ended ≡ fold with_end 0 bs → is_cut bs ≡ true → ended + 2 ≡ length (lines_of bs) + 1
behind_cut bs ended is e =
    let all : fold with_end 0 bs + 1 ≡ 0 + length (lines_of bs) = ap (λ (t : Bool). fold with_end 0 bs + bit t) (sym (sym (cut_is bs) ∙ e)) ∙ counts 0 bs in
    omega (arith, is, all)

pub behind_ended : (bs : List ℕ) (ended : ℕ) → ended ≡ fold with_end 0 bs → is_cut bs ≡ false → ended + 1 ≡ length (lines_of bs) + 1
behind_ended bs ended is e =
    let all : fold with_end 0 bs + 0 ≡ 0 + length (lines_of bs) = ap (λ (t : Bool). fold with_end 0 bs + bit t) (sym (sym (cut_is bs) ∙ e)) ∙ counts 0 bs in
    omega (arith, is, all)

-- ---- the answers

abbrev ok_answer : List ℕ → Answer
ok_answer bytes = record { status = status.Ok; bytes = bytes }

pub told_whole : (bytes due : List ℕ) (o : Option ℕ) → bytes ≡ due → o ≡ None → ok_answer bytes ≡ unless_exceeded due o
told_whole bytes due o is none = ap ok_answer is ∙ sym (ap (unless_exceeded due) none)

pub told_refused : (due : List ℕ) (o : Option ℕ) (limit : ℕ) (a : Answer) → o ≡ Some limit → a ≡ refused (status.TooLarge limit) → a ≡ unless_exceeded due o
told_refused due o limit a some is = is ∙ sym (ap (unless_exceeded due) some)

-- what is told of the world that steps after a state lead to
pub lost_resumed : (f : SavedState) (n : Script) (es : List Step) (b : WorldView) (names : Bool) (x : ℕ) (bytes : List ℕ) → IsResumed f es b → n ≡ f.scenario
    → ((w : World) → HasBrokers w b → bytes ≡ lost_text names n.setup w x) → bytes ≡ lost_text names f.scenario.setup (resumed f es) x
lost_resumed f n es b names x bytes r same told =
    told (resumed f es) (sym r.stands.brokers) ∙ ap (λ (m : Script). lost_text names m.setup (resumed f es) x) same

-- to a script
abbrev IsTold : List ℕ → Bool → List ℕ → Script → Answer → Type 0
IsTold name names input n a = a ≡ answer_to_losing name names (declaring name input (Ok n))

told_name : (name input : List ℕ) (names : Bool) (n : Script) (k : ℕ) (a : Answer) → (is_among n.setup.clusters name ≡ true) × (k ≡ number_in n.setup.clusters name)
    → a ≡ unless_exceeded (lost_text names n.setup (run n.setup n.steps) k) (exceeded_limit n) → IsTold name names input n a
told_name name input names n k a here is =
    is ∙ (ap (λ (x : ℕ). unless_exceeded (lost_text names n.setup (run n.setup n.steps) x) (exceeded_limit n)) here.1
    ∙ sym (ap (λ (b : Bool). answer_to_losing name names (if b then Ok n else Err (undeclared input))) here.0))

told_no_name : (name input : List ℕ) (names : Bool) (n : Script) (line : ℕ) (a : Answer) → is_among n.setup.clusters name ≡ false → line ≡ length (lines_of input) + 1
    → a ≡ refused (status.BadScript line 15) → IsTold name names input n a
told_no_name name input names n line a none at is =
    is ∙ (ap (λ (l : ℕ). refused (status.BadScript l 15)) at
    ∙ sym (ap (λ (b : Bool). answer_to_losing name names (if b then Ok n else Err (undeclared input))) none))

pub told_declared : (name input : List ℕ) (names : Bool) (n : Script) (clusters : List (List ℕ)) (k : ℕ) (r : Result Answer Memory) → clusters ≡ n.setup.clusters
    → Some k ≡ (if is_among clusters name then Some (number_in clusters name) else None)
    → IfOk r (λ a. a ≡ unless_exceeded (lost_text names n.setup (run n.setup n.steps) k) (exceeded_limit n)) → IfOk r (IsTold name names input n)
told_declared name input names n clusters k (Ok a) same found is =
    let here = subst (λ (ns : List (List ℕ)). Some k ≡ (if is_among ns name then Some (number_in ns name) else None)) same found in
    told_name name input names n k a (named (is_among n.setup.clusters name) (number_in n.setup.clusters name) k here) is
told_declared name input names n clusters k (Err e) same found is = tt

pub told_undeclared : (name input : List ℕ) (names : Bool) (n : Script) (clusters : List (List ℕ)) (line : ℕ) (r : Result Answer Memory) → clusters ≡ n.setup.clusters
    → None ≡ (if is_among clusters name then Some (number_in clusters name) else None) → line ≡ length (lines_of input) + 1
    → IfOk r (λ a. a ≡ refused (status.BadScript line 15)) → IfOk r (IsTold name names input n)
told_undeclared name input names n clusters line (Ok a) same found at is =
    let none = subst (λ (ns : List (List ℕ)). None ≡ (if is_among ns name then Some (number_in ns name) else None)) same found in
    told_no_name name input names n line a (unnamed (is_among n.setup.clusters name) (number_in n.setup.clusters name) none) at is
told_undeclared name input names n clusters line (Err e) same found at is = tt

pub told_script : (name input : List ℕ) (names : Bool) (n : Script) (r : Result Answer Memory) → script_of input ≡ Ok n → IfOk r (IsTold name names input n)
    → IfOk r (λ a. a ≡ answer_to_losing name names (declaring name input (script_of input)))
told_script name input names n r script is =
    subst (λ (q : Result Script Fault). IfOk r (λ a. a ≡ answer_to_losing name names (declaring name input q))) (sym script) is

pub told_no_script : (name input : List ℕ) (names : Bool) (line rule : ℕ) (r : Result Answer Memory) → script_of input ≡ Err (record { line = line; rule = rule })
    → IfOk r (λ a. a ≡ refused (status.BadScript line rule)) → IfOk r (λ a. a ≡ answer_to_losing name names (declaring name input (script_of input)))
told_no_script name input names line rule r script is =
    subst (λ (q : Result Script Fault). IfOk r (λ a. a ≡ answer_to_losing name names (declaring name input q))) (sym script) is

-- to a state
abbrev IsToldOn : List ℕ → SavedState → List ℕ → List Step → Answer → Type 0
IsToldOn name f lines es a = a ≡ answer_to_losing_on name f (declaring_on f.scenario.setup name lines (Ok es))

told_name_on : (name lines : List ℕ) (f : SavedState) (es : List Step) (k : ℕ) (a : Answer)
    → (is_among f.scenario.setup.clusters name ≡ true) × (k ≡ number_in f.scenario.setup.clusters name)
    → a ≡ unless_exceeded (lost_text true f.scenario.setup (resumed f es) k) (resumed_limit f es) → IsToldOn name f lines es a
told_name_on name lines f es k a here is =
    is ∙ (ap (λ (x : ℕ). unless_exceeded (lost_text true f.scenario.setup (resumed f es) x) (resumed_limit f es)) here.1
    ∙ sym (ap (λ (b : Bool). answer_to_losing_on name f (if b then Ok es else Err (undeclared lines))) here.0))

told_no_name_on : (name lines : List ℕ) (f : SavedState) (es : List Step) (line : ℕ) (a : Answer) → is_among f.scenario.setup.clusters name ≡ false
    → line ≡ length (lines_of lines) + 1 → a ≡ refused (status.BadScript line 15) → IsToldOn name f lines es a
told_no_name_on name lines f es line a none at is =
    is ∙ (ap (λ (l : ℕ). refused (status.BadScript l 15)) at
    ∙ sym (ap (λ (b : Bool). answer_to_losing_on name f (if b then Ok es else Err (undeclared lines))) none))

pub told_declared_on : (name lines : List ℕ) (f : SavedState) (es : List Step) (clusters : List (List ℕ)) (k : ℕ) (r : Result Answer Memory)
    → clusters ≡ f.scenario.setup.clusters → Some k ≡ (if is_among clusters name then Some (number_in clusters name) else None)
    → IfOk r (λ a. a ≡ unless_exceeded (lost_text true f.scenario.setup (resumed f es) k) (resumed_limit f es)) → IfOk r (IsToldOn name f lines es)
told_declared_on name lines f es clusters k (Ok a) same found is =
    let s = f.scenario.setup in
    let here = subst (λ (ns : List (List ℕ)). Some k ≡ (if is_among ns name then Some (number_in ns name) else None)) same found in
    told_name_on name lines f es k a (named (is_among s.clusters name) (number_in s.clusters name) k here) is
told_declared_on name lines f es clusters k (Err e) same found is = tt

pub told_undeclared_on : (name lines : List ℕ) (f : SavedState) (es : List Step) (clusters : List (List ℕ)) (line : ℕ) (r : Result Answer Memory)
    → clusters ≡ f.scenario.setup.clusters → None ≡ (if is_among clusters name then Some (number_in clusters name) else None)
    → line ≡ length (lines_of lines) + 1 → IfOk r (λ a. a ≡ refused (status.BadScript line 15)) → IfOk r (IsToldOn name f lines es)
told_undeclared_on name lines f es clusters line (Ok a) same found at is =
    let s = f.scenario.setup in
    let none = subst (λ (ns : List (List ℕ)). None ≡ (if is_among ns name then Some (number_in ns name) else None)) same found in
    told_no_name_on name lines f es line a (unnamed (is_among s.clusters name) (number_in s.clusters name) none) at is
told_undeclared_on name lines f es clusters line (Err e) same found at is = tt

abbrev pub IsToldSchedule : List ℕ → SavedState → List ℕ → Result (List Step) Fault → Answer → Type 0
IsToldSchedule name f lines q a = a ≡ answer_to_losing_on name f (declaring_on f.scenario.setup name lines q)

pub told_schedule : (name lines : List ℕ) (f : SavedState) (es : List Step) (q : Result (List Step) Fault) (r : Result Answer Memory) → q ≡ Ok es
    → IfOk r (IsToldOn name f lines es) → IfOk r (IsToldSchedule name f lines q)
told_schedule name lines f es q r said is = subst (λ (o : Result (List Step) Fault). IfOk r (IsToldSchedule name f lines o)) (sym said) is

pub told_no_schedule : (name lines : List ℕ) (f : SavedState) (line rule : ℕ) (q : Result (List Step) Fault) (r : Result Answer Memory)
    → q ≡ Err (record { line = line; rule = rule }) → IfOk r (λ a. a ≡ refused (status.BadScript line rule)) → IfOk r (IsToldSchedule name f lines q)
told_no_schedule name lines f line rule q r said is = subst (λ (o : Result (List Step) Fault). IfOk r (IsToldSchedule name f lines o)) (sym said) is

pub file_told : (name input rest : List ℕ) (f : SavedState) (used : ℕ) (r : Result Answer Memory) → IsLoaded input (Ok (f, used)) → rest ≡ drop used input
    → IfOk r (IsToldSchedule name f rest (schedule_of f.scenario.setup rest)) → IfOk r (IsAnswerToLosingFile name input)
file_told name input rest f used (Ok a) loaded behind is =
    (Ok (f, used), loaded, is ∙ ap (λ (lines : List ℕ). answer_to_losing_on name f (declaring_on f.scenario.setup name lines (schedule_of f.scenario.setup lines))) behind)
file_told name input rest f used (Err e) loaded behind is = tt

pub file_refused : (name input : List ℕ) (offset rule : ℕ) (r : Result Answer Memory) → IsLoaded input (Err (bad_state offset rule))
    → IfOk r (λ a. a ≡ refused (status.BadState offset rule)) → IfOk r (IsAnswerToLosingFile name input)
file_refused name input offset rule (Ok a) loaded is = (Err (bad_state offset rule), loaded, is)
file_refused name input offset rule (Err e) loaded is = tt

pub file_strange : (name input : List ℕ) (number : ℕ) (r : Result Answer Memory) → IsLoaded input (Err (version number))
    → IfOk r (λ a. a ≡ refused (status.StateVersion number)) → IfOk r (IsAnswerToLosingFile name input)
file_strange name input number (Ok a) loaded is = (Err (version number), loaded, is)
file_strange name input number (Err e) loaded is = tt
