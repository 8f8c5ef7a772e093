-- What a line may write that no rule refuses, and what it leaves.
use Rattle.std.proofs.Common.{◌≡◌, ℕ, ◌+◌, ◌*◌, ◌<◌, zero, suc, ◌-◌, Bool, true, false, List, [], ◌∷◌, length, refl, sym, ap, subst, ◌∙◌, arith, ◌≤◌, ◌==◌}
use Rattle.std.specs.Prelude.{Option, Some, None, is_none, is_some, nat_le, if◌then◌else◌, Result, Ok, Err, IfOk, OnOk, OnErr, slice_set}
use Rattle.std.proofs.lemmas.Bool.{false≢true}
use Rattle.std.proofs.lemmas.Bool.Decides.{nat_tests}
use Rattle.std.proofs.lemmas.List.{length-replicate}
use Rattle.std.proofs.lemmas.Nat.{mul-add-lt}
use Rattle.std.proofs.lemmas.Result.{IfOk-weaker}
use Rattle.std.proofs.Math.Nat.{mul_comm}
use Rattle.std.proofs.lemmas.Option.{none-some}
use Rattle.geo_base.specs.Audit.{Refusal, act_refused, are_new, is_above, judged, refused, unless_broken}
use Rattle.geo_base.specs.Mirror.{Mirror, MirrorSub, Mirrors, acted, mirror_at, mirror_number, mirror_sub, no_mirror, opening_mirrors, told}
use Rattle.geo_base.specs.Run.{or_else}
use Rattle.geo_base.specs.Setup.{Setup}
use Rattle.geo_base.specs.Topic.{accepts}
use Rattle.geo_base.specs.TraceItems.{Act, Acks, Appends, Begins, Creates, Deletes, Item, Seeks, Writes}
use Rattle.audit.specs.Strict.{act_gaps, gaps, refused_by}
use Rattle.audit.specs.declared.strictness.Strictness.{Strictness}
use Rattle.audit.specs.declared.strictness.Strictness.TheVariants as strictness
use Rattle.audit.specs.AuditOf.{item_refused, lines_audited, may_come, names_of, told_if}
use Rattle.audit.specs.Numbers.{AreSized}
use Rattle.audit.specs.Topic.{MayAct}
use Rattle.audit.proofs.Needing.{Grown, none_grown}
use Rattle.script_rows.specs.NameWords.{cut_by}
use Rattle.trace_lines.specs.Lines.{item_read}
use Rattle.trace_lines.specs.Said.{act_said, item_said}
use Rattle.trace_lines.specs.declared.line.Line.{Line}
use Rattle.trace_lines.specs.declared.line.Line.TheVariants as line
use Rattle.trace_lines.specs.declared.line.Written.{Written}
use Rattle.audit.proofs.LineNumbers.{some_piece}

-- ---- a rule that is not broken

broken_none : (rule : ℕ) (b : Bool) (o : Option ℕ) → unless_broken rule b o ≡ None → (b ≡ true) × (o ≡ None)
broken_none rule true o h = (refl, h)
broken_none rule false o h = absurd (none-some rule (sym h))

none_is : (o : Option MirrorSub) → is_none o ≡ true → o ≡ None
none_is None h = refl
none_is (Some v) h = absurd (false≢true h)

pub may_act : (s : Setup) (a : Mirrors) (t x : ℕ) (m : Mirror) (act : Act) → act_refused s a t x m act ≡ None → MayAct m act
may_act s a t x m (Appends p e by_position) h =
    let two = broken_none 2 (is_above m.positions p) _ h in let three = broken_none 3 (accepts m.entries e.ident) _ two.1 in (two.0, three.0)
may_act s a t x m (Creates n latest) h = none_is (mirror_sub m n) (broken_none 7 (is_none (mirror_sub m n)) None h).0
may_act s a t x m (Deletes n) h = tt
may_act s a t x m (Acks n is c) h =
    let seven = broken_none 7 (is_some (mirror_sub m n)) _ h in (broken_none 8 (are_new m (mirror_sub m n) is) _ seven.1).0
may_act s a t x m (Seeks n i) h =
    let seven = broken_none 7 (is_some (mirror_sub m n)) _ h in
    let le : nat_le i (length m.entries) ≡ true = (broken_none 11 (nat_le i (length m.entries)) None seven.1).0 in
    grind (arith, nat_tests, le)

pub place_broken : (a b c : Bool) (o : Option ℕ) (rule : ℕ) → Some rule ≡ unless_broken 2 a (unless_broken 3 b (unless_broken 4 c None))
    → Some rule ≡ unless_broken 2 a (unless_broken 3 b (unless_broken 4 c o))
place_broken true true true o rule h = absurd (none-some rule (sym h))
place_broken true true false o rule h = h
place_broken true false c o rule h = h
place_broken false b c o rule h = h

pub place_holds : (a b c : Bool) (o told : Option ℕ) → None ≡ unless_broken 2 a (unless_broken 3 b (unless_broken 4 c None)) → told ≡ o
    → told ≡ unless_broken 2 a (unless_broken 3 b (unless_broken 4 c o))
place_holds true true true o told h is = is
place_holds true true false o told h is = absurd (none-some 4 h)
place_holds true false c o told h is = absurd (none-some 3 h)
place_holds false b c o told h is = absurd (none-some 2 h)

pub write_may : (s : Setup) (a : Mirrors) (t x : ℕ) (act : Act) → refused s a (Writes t x act) ≡ None → MayAct (mirror_at s a t x) act
unfolding refused
write_may s a t x act h = may_act s a t x (mirror_at s a t x) act h

pub acted_grows : (m : Mirror) (act : Act) → Grown m.entries (acted m act).entries
acted_grows m (Appends p e by_position) = record { more = e ∷ []; is = refl }
acted_grows m (Creates n latest) = none_grown m.entries m.entries refl
acted_grows m (Deletes n) = none_grown m.entries m.entries refl
acted_grows m (Acks n is c) = none_grown m.entries m.entries refl
acted_grows m (Seeks n i) = none_grown m.entries m.entries refl

-- a write, or want of memory for it
pub grown_after : {A E : Type 0} (r : Result A E) (m m' : Mirror) (act : Act) → OnOk r (m' ≡ acted m act) → OnErr r (m'.entries ≡ m.entries) → Grown m.entries m'.entries
grown_after (Ok x) m m' act ok err = subst (λ (q : Mirror). Grown m.entries q.entries) (sym ok) (acted_grows m act)
grown_after (Err x) m m' act ok err = none_grown m.entries m'.entries err

-- ---- numbers

pub number_within : (s : Setup) (a : Mirrors) (t x : ℕ) → AreSized s a → t < length s.topics → x < length s.clusters → mirror_number s t x < length a.topics
number_within s a t x sized lt small = let l = mul-add-lt t (length s.clusters) x (length s.topics) lt small in let c = mul_comm (length s.topics) (length s.clusters) in omega (arith, l, c, sized)

set_length : (ms : List Mirror) (j : ℕ) (m : Mirror) → length (slice_set ms j m) ≡ length ms
set_length [] j m = refl
set_length (n ∷ ms) zero m = refl
set_length (n ∷ ms) (suc j) m = let rest = set_length ms j m in omega (arith, rest)

told_sized : (s : Setup) (a : Mirrors) (i : Item) → AreSized s a → AreSized s (told s a i)
told_sized s a (Begins n) h = h
told_sized s a (Writes t x act) h = set_length a.topics (mirror_number s t x) (acted (mirror_at s a t x) act) ∙ h

pub told_if_sized : (s : Setup) (a : Mirrors) (o : Option Item) → AreSized s a → AreSized s (told_if s a o)
told_if_sized s a None h = h
told_if_sized s a (Some i) h = told_sized s a i h

pub opening_sized : (s : Setup) → AreSized s (opening_mirrors s)
opening_sized s = length-replicate (length s.topics * length s.clusters) no_mirror

-- ---- the next number of an event

pub next_above : (events n : ℕ) → events < n → ((n - events) == 1) ≡ (n == events + 1)
next_above events n lt = grind (arith, nat_tests, lt)

pub not_next : (events n : ℕ) → n ≤ events → false ≡ (n == events + 1)
not_next events n le = grind (arith, nat_tests, le)

pub event_judged : (k : Strictness) (s : Setup) (a : Mirrors) (n : ℕ) (b : Bool) → b ≡ (n == a.events + 1) → unless_broken 1 b None ≡ refused_by k s a (Begins n)
unfolding refused
event_judged strictness.Plain s a n b is = ap (λ (q : Bool). unless_broken 1 q None) is
event_judged strictness.Whole s a n b is = ap (λ (q : Bool). unless_broken 1 q None) is ∙ no_gap (n == a.events + 1)
  where
    no_gap : (q : Bool) → unless_broken 1 q None ≡ or_else (unless_broken 1 q None) None
    no_gap true = refl
    no_gap false = refl

pub begins_judged : (s : Setup) (a : Mirrors) (l : Line) (n : ℕ) (r : Option ℕ) → l ≡ line.Begins n → r ≡ refused_by strictness.Plain s a (Begins n)
    → r ≡ item_refused strictness.Plain s a (Some (item_said l))
begins_judged s a l n r is h = h ∙ sym (ap (λ (m : Line). item_refused strictness.Plain s a (Some (item_said m))) is)

-- ---- by how strictly a line is judged

-- a line that breaks a plain rule is refused by it
pub broken_by : (k : Strictness) (s : Setup) (a : Mirrors) (o : Option Item) (r : Option ℕ) → r ≡ item_refused strictness.Plain s a o → is_some r ≡ true → r ≡ item_refused k s a o
broken_by strictness.Plain s a o r is some = is
broken_by strictness.Whole s a None r is some = is
broken_by strictness.Whole s a (Some i) r is some = by (may_come a.events i) (refused s a i) r is some
  where
    by : (b : Bool) (o r : Option ℕ) → r ≡ (if b then o else Some 1) → is_some r ≡ true → r ≡ (if b then or_else o (gaps s a i) else Some 1)
    by false o r is some = is
    by true (Some rule) r is some = is
    by true None r is some = absurd (false≢true (sym (ap is_some is) ∙ some))

-- and one that breaks none is judged for a gap
pub gap_by : (s : Setup) (a : Mirrors) (i : Item) (r g : Option ℕ) → r ≡ item_refused strictness.Plain s a (Some i) → is_some r ≡ false → g ≡ gaps s a i → g ≡ item_refused strictness.Whole s a (Some i)
gap_by s a i r g is none gap = by (may_come a.events i) (refused s a i) r is none
  where
    by : (b : Bool) (o r : Option ℕ) → r ≡ (if b then o else Some 1) → is_some r ≡ false → g ≡ (if b then or_else o (gaps s a i) else Some 1)
    by false o r is none = absurd (false≢true (sym none ∙ ap is_some is))
    by true (Some rule) r is none = absurd (false≢true (sym none ∙ ap is_some is))
    by true None r is none = gap

-- and what is not refused breaks no plain rule
pub plainly_told : (k : Strictness) (s : Setup) (a : Mirrors) (i : Item) → item_refused k s a (Some i) ≡ None → refused s a i ≡ None
plainly_told strictness.Plain s a i h = by (may_come a.events i) h
  where
    by : (b : Bool) → (if b then refused s a i else Some 1) ≡ None → refused s a i ≡ None
    by true g = g
    by false g = absurd (none-some 1 (sym g))
plainly_told strictness.Whole s a i h = by (may_come a.events i) (refused s a i) h
  where
    by : (b : Bool) (o : Option ℕ) → (if b then or_else o (gaps s a i) else Some 1) ≡ None → o ≡ None
    by true None g = refl
    by true (Some rule) g = absurd (none-some rule (sym g))
    by false o g = absurd (none-some 1 (sym g))

pub plain_by : (s : Setup) (a : Mirrors) (o : Option Item) (r : Option ℕ) → r ≡ item_refused strictness.Plain s a o → is_some r ≡ false → None ≡ item_refused strictness.Plain s a o
plain_by s a o None is none = is
plain_by s a o (Some rule) is none = absurd (false≢true (sym none))

pub write_judged : {E : Type 0} (s : Setup) (a : Mirrors) (l : Line) (t x : ℕ) (w : Written) (r : Result (Option ℕ) E) → l ≡ line.Writes t x w → may_come a.events (item_said l) ≡ true
    → IfOk r (λ (o : Option ℕ). o ≡ act_refused s a t x (mirror_at s a t x) (act_said w)) → IfOk r (λ (o : Option ℕ). o ≡ item_refused strictness.Plain s a (Some (item_said l)))
unfolding refused
write_judged s a l t x w r is come h =
    let e : item_refused strictness.Plain s a (Some (item_said l)) ≡ act_refused s a t x (mirror_at s a t x) (act_said w) =
    ap (λ (b : Bool). if b then refused s a (item_said l) else Some 1) come ∙ ap (λ (k : Line). refused s a (item_said k)) is in
    IfOk-weaker r (λ (o : Option ℕ). o ≡ act_refused s a t x (mirror_at s a t x) (act_said w)) (λ (o : Option ℕ). o ≡ item_refused strictness.Plain s a (Some (item_said l))) (λ o g. g ∙ sym e) h

-- ---- one line more is read

pub line_read : (k : Strictness) (s : Setup) (a : Mirrors) (l : List ℕ) (ls : List (List ℕ)) → 0 < length ls
    → lines_audited k s a (l ∷ ls) ≡ judged a.events (item_refused k s a (item_read (names_of s) l)) (lines_audited k s (told_if s a (item_read (names_of s) l)) ls)
line_read k s a l [] some = absurd (omega (arith, some))
line_read k s a l (m ∷ ls) some = refl

pub line_goes_on : (k : Strictness) (s : Setup) (a : Mirrors) (l : List ℕ) (ls : List (List ℕ)) → 0 < length ls → item_refused k s a (item_read (names_of s) l) ≡ None
    → lines_audited k s a (l ∷ ls) ≡ lines_audited k s (told_if s a (item_read (names_of s) l)) ls
line_goes_on k s a l ls some none =
    line_read k s a l ls some ∙ ap (λ (o : Option ℕ). judged a.events o (lines_audited k s (told_if s a (item_read (names_of s) l)) ls)) none

pub line_ends : (k : Strictness) (s : Setup) (a : Mirrors) (l : List ℕ) (ls : List (List ℕ)) (rule : ℕ) → 0 < length ls → item_refused k s a (item_read (names_of s) l) ≡ Some rule
    → lines_audited k s a (l ∷ ls) ≡ Err (record { event = a.events; rule = rule })
line_ends k s a l ls rule some broken =
    line_read k s a l ls some ∙ ap (λ (o : Option ℕ). judged a.events o (lines_audited k s (told_if s a (item_read (names_of s) l)) ls)) broken

-- the first of the lines that are left is read, or refused
pub line_told : (k : Strictness) (s : Setup) (a b : Mirrors) (l bytes behind : List ℕ) → cut_by 10 bytes ≡ l ∷ cut_by 10 behind → item_refused k s a (item_read (names_of s) l) ≡ None
    → b ≡ told_if s a (item_read (names_of s) l) → lines_audited k s b (cut_by 10 behind) ≡ lines_audited k s a (cut_by 10 bytes)
line_told k s a b l bytes behind cut none is =
    ap (λ (q : Mirrors). lines_audited k s q (cut_by 10 behind)) is
    ∙ sym (ap (lines_audited k s a) cut ∙ line_goes_on k s a l (cut_by 10 behind) (some_piece 10 behind) none)

abbrev ended : ℕ → ℕ → Result ℕ Refusal
ended event rule = Err (record { event = event; rule = rule })

pub line_refused : (k : Strictness) (s : Setup) (a : Mirrors) (l bytes behind : List ℕ) (event rule : ℕ) → cut_by 10 bytes ≡ l ∷ cut_by 10 behind → item_refused k s a (item_read (names_of s) l) ≡ Some rule
    → event ≡ a.events → lines_audited k s a (cut_by 10 bytes) ≡ Err (record { event = event; rule = rule })
line_refused k s a l bytes behind event rule cut broken is =
    ap (lines_audited k s a) cut
    ∙ (line_ends k s a l (cut_by 10 behind) rule (some_piece 10 behind) broken ∙ ap (λ (n : ℕ). ended n rule) (sym is))
