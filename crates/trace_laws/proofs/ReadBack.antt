-- The bytes of a run's trace are accepted.
use Rattle.std.proofs.Common.{◌≡◌, ℕ, ◌+◌, ◌==◌, Bool, true, false, List, [], ◌∷◌, ◌++◌, map, codes, refl, sym, ap, ◌∙◌, arith}
use Rattle.std.specs.Prelude.{Option, Some, None, if◌then◌else◌, nat_lt, Result, Ok, Err}
use Rattle.std.specs.List.{AllByRecursion}
use Rattle.std.proofs.lemmas.Bool.{eqb-true, false≢true, lt-ltb}
use Rattle.std.proofs.lemmas.List.Splits.{slice_split_at, slice_split_none}
use Rattle.std.proofs.lemmas.Option.{none-some}
use Rattle.geo_base.specs.Audit.{Refusal, judged, refused, unless_broken}
use Rattle.geo_base.specs.Mirror.{Mirrors, opening_mirrors, told}
use Rattle.geo_base.specs.Report.{with_line_feeds}
use Rattle.geo_base.specs.Run.{all_limits, run_under}
use Rattle.geo_base.specs.Scripted.{IsScripted}
use Rattle.geo_base.specs.Setup.{Setup}
use Rattle.geo_base.specs.TraceItems.{Begins, Item, Writes}
use Rattle.geo_base.specs.TraceText.{item_line, trace_lines}
use Rattle.geo_base.specs.Traced.{traced}
use Rattle.script_rows.specs.NameWords.{cut_by}
use Rattle.trace_lines.specs.Lines.{item_read}
use Rattle.trace_lines.specs.Words.{is_printable}
use Rattle.trace_laws.specs.Seen.{world_seen}
use Rattle.trace_laws.proofs.Strictly.{as_plain, not_refused}
use Rattle.trace_laws.proofs.Traced.{traced_accepted, traced_wholly}
use Rattle.world_laws.proofs.Replicating.Effects.{Each}
use Rattle.audit.specs.Strict.{audited_from_by, refused_by}
use Rattle.audit.specs.declared.strictness.Strictness.{Strictness}
use Rattle.audit.specs.declared.strictness.Strictness.TheVariants as strictness
use Rattle.audit.specs.AuditOf.{audit_by, headed, item_refused, lines_audited, may_come, names_of, told_if}
use Rattle.trace_laws.specs.Readable.{LawTraceRead}
use Rattle.trace_laws.proofs.Bytes.{Lacks, lacks}
use Rattle.trace_laws.proofs.TextLines.{HasNames, IsToldItem, item_back, no_feed}
use Rattle.trace_laws.proofs.Runs.{BeginsFirst, traced_told}

-- ---- lines

cut_lines : (ls : List (List ℕ)) → Each (Lacks 10) ls → cut_by 10 (with_line_feeds ls) ≡ ls ++ [] ∷ []
cut_lines [] h = slice_split_none (λ b. b == 10) [] (lacks is_printable 10 refl [] refl)
cut_lines (l ∷ ls) h = slice_split_at (λ b. b == 10) l 10 (with_line_feeds ls) h.0 refl ∙ ap (λ (ws : List (List ℕ)). l ∷ ws) (cut_lines ls h.1)

no_feeds : (s : Setup) (is : List Item) → HasNames s → Each (IsToldItem s) is → Each (Lacks 10) (map (item_line s) is)
no_feeds s [] names told = tt
no_feeds s (i ∷ is) names told = (no_feed s i names told.0, no_feeds s is names told.1)

all_back : (s : Setup) (is : List Item) → HasNames s → Each (IsToldItem s) is → AllByRecursion (λ (i : Item). item_read (names_of s) (item_line s i) ≡ Some i) is
all_back s [] names told = tt
all_back s (i ∷ is) names told = (item_back s i names told.0, all_back s is names told.1)

-- ---- one line after another

abbrev events_of : Result Mirrors Refusal → Result ℕ Refusal
events_of (Ok a) = Ok a.events
events_of (Err r) = Err r

abbrev is_ok : Result Mirrors Refusal → Bool
is_ok (Ok a) = true
is_ok (Err r) = false

err_not_ok : (r : Refusal) (a : Mirrors) → Err r ≡ Ok a → ⊥
err_not_ok r a h = false≢true (ap is_ok h)

one_more : (k : Strictness) (s : Setup) (a : Mirrors) (l : List ℕ) (ls : List (List ℕ))
    → lines_audited k s a (l ∷ (ls ++ [] ∷ [])) ≡ judged a.events (item_refused k s a (item_read (names_of s) l)) (lines_audited k s (told_if s a (item_read (names_of s) l)) (ls ++ [] ∷ []))
one_more k s a l [] = refl
one_more k s a l (m ∷ ls) = refl

-- before the first event no write stands
abbrev Follows : ℕ → List Item → Type 0
Follows n is = nat_lt 0 n ≡ false → BeginsFirst is

comes : (n : ℕ) (i : Item) (is : List Item) → Follows n (i ∷ is) → may_come n i ≡ true
comes n (Begins k) is h = refl
comes n (Writes t x a) is h = by (nat_lt 0 n) refl
  where
    by : (b : Bool) → nat_lt 0 n ≡ b → b ≡ true
    by true is = refl
    by false is = absurd (h is)

first_holds : (b : Bool) → unless_broken 1 b None ≡ None → b ≡ true
first_holds true h = refl
first_holds false h = absurd (none-some 1 (sym h))

counted : (k : Strictness) (s : Setup) (a : Mirrors) (i : Item) → may_come a.events i ≡ true → refused_by k s a i ≡ None → nat_lt 0 (told s a i).events ≡ true
unfolding refused
counted k s a (Begins n) may fine =
    let plain : unless_broken 1 (n == a.events + 1) None ≡ None = not_refused k s a (Begins n) fine in
    let next : n ≡ a.events + 1 = eqb-true n (a.events + 1) (first_holds (n == a.events + 1) plain) in lt-ltb 0 n (omega (arith, next))
counted k s a (Writes t x act) may fine = may

lines_read : (k : Strictness) (s : Setup) (a b : Mirrors) (is : List Item) → HasNames s → Each (IsToldItem s) is → Follows a.events is → audited_from_by k s a is ≡ Ok b
    → lines_audited k s a (map (item_line s) is ++ [] ∷ []) ≡ Ok b.events
lines_read k s a b [] names each follows h = ap events_of h
lines_read k s a b (i ∷ is) names each follows h =
    one_more k s a (item_line s i) (map (item_line s) is)
    ∙ (ap (λ (o : Option Item). judged a.events (item_refused k s a o) (lines_audited k s (told_if s a o) rest)) (item_back s i names each.0)
    ∙ (ap (λ (t : Bool). judged a.events (if t then refused_by k s a i else Some 1) (lines_audited k s (told s a i) rest)) may ∙ by (refused_by k s a i) refl h (λ fine. lines_read k s (told s a i) b is names each.1 (λ none. absurd (false≢true (sym none ∙ counted k s a i may fine))))))
  where
    rest : List (List ℕ)
    rest = map (item_line s) is ++ [] ∷ []

    may : may_come a.events i ≡ true
    may = comes a.events i is follows

    by : (o : Option ℕ) → refused_by k s a i ≡ o → judged a.events o (audited_from_by k s (told s a i) is) ≡ Ok b
        → (refused_by k s a i ≡ None → audited_from_by k s (told s a i) is ≡ Ok b → lines_audited k s (told s a i) rest ≡ Ok b.events)
        → judged a.events o (lines_audited k s (told s a i) rest) ≡ Ok b.events
    by None fine got ih = ih fine got
    by (Some rule) fine got ih = absurd (err_not_ok (record { event = a.events; rule = rule }) b got)

-- ---- the whole trace

headed_by : (k : Strictness) (s : Setup) (ls : List (List ℕ)) → headed k s (codes "trace" ∷ (ls ++ [] ∷ [])) ≡ lines_audited k s (opening_mirrors s) (ls ++ [] ∷ [])
headed_by k s [] = refl
headed_by k s (l ∷ ls) = refl

bytes_cut : (s : Setup) (is : List Item) → HasNames s → Each (IsToldItem s) is → cut_by 10 (with_line_feeds (trace_lines s is)) ≡ trace_lines s is ++ [] ∷ []
bytes_cut s is names each = cut_lines (trace_lines s is) (lacks is_printable 10 refl (codes "trace") refl, no_feeds s is names each)

bytes_read : (k : Strictness) (s : Setup) (b : Mirrors) (is : List Item) → HasNames s → Each (IsToldItem s) is → BeginsFirst is → audited_from_by k s (opening_mirrors s) is ≡ Ok b
    → audit_by k s (with_line_feeds (trace_lines s is)) ≡ Ok b.events
unfolding audit_by
bytes_read k s b is names each first h =
    ap (headed k s) (bytes_cut s is names each) ∙ (headed_by k s (map (item_line s) is) ∙ lines_read k s (opening_mirrors s) b is names each (λ none. first) h)

has_names : (s : Setup) → IsScripted s → HasNames s
has_names s scripted = record {
  clusters = record { each = scripted.cluster_names.0; apart = scripted.cluster_names.1 };
  topics = record { each = scripted.topic_names.0; apart = scripted.topic_names.1 };
}

pub trace_read : LawTraceRead
trace_read n scenario es =
    let s = n.setup in
    let names = has_names s scenario.setup in
    let told = traced_told s scenario.setup scenario.clients es in
    record {
      lines = all_back s (traced all_limits s es) names told.each;
      cut = bytes_cut s (traced all_limits s es) names told.each;
      accepted = bytes_read strictness.Plain s (world_seen (run_under all_limits s es).world) (traced all_limits s es) names told.each told.first
          (as_plain s (opening_mirrors s) (traced all_limits s es) ∙ traced_accepted s scenario.setup es);
      wholly = bytes_read strictness.Whole s (world_seen (run_under all_limits s es).world) (traced all_limits s es) names told.each told.first (traced_wholly s scenario.setup es);
    }
