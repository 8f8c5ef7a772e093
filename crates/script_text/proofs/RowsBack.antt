-- A row that breaks no rule, written as a line, is taken in.
use Rattle.std.proofs.Common.{◌≡◌, ℕ, ◌+◌, ◌≤◌, Bool, true, false, ◌&&◌, List, [], ◌∷◌, ◌++◌, find, Option, Some, None, Result, Ok, refl, sym, ap, ◌∙◌, subst, arith}
use Rattle.std.specs.List.{list_all}
use Rattle.std.proofs.lemmas.Bool.{and_from, le-ltb, or_from}
use Rattle.std.proofs.lemmas.List.{append_assoc}
use Rattle.geo_base.specs.Setup.{Setup}
use Rattle.script_rows.specs.NameWords.{Word}
use Rattle.script_rows.specs.declared.fault.Rule.{Rule}
use Rattle.script_rows.specs.declared.fault.Rule.TheVariants as rule
use Rattle.script_rows.specs.declared.heading.Heading.{Heading}
use Rattle.script_rows.specs.declared.heading.Heading.TheVariants as heading
use Rattle.script_rows.specs.declared.kind.Kind.{Kind}
use Rattle.script_rows.specs.declared.kind.Kind.TheVariants as kind
use Rattle.script_rows.specs.declared.line_kind.LineKind.TheVariants as row
use Rattle.script_rows.specs.declared.progress.Progress.{Progress}
use Rattle.script_rows.specs.declared.value.Value.{Value}
use Rattle.script_rows.specs.Judging.{came, cells_break, heading_breaks, heading_of, kind_breaks, values_of, word_rules}
use Rattle.script_rows.specs.Known.{schedules}
use Rattle.script_rows.specs.Names.{nothing_seen}
use Rattle.script_rows.specs.Rows.{columns_of, rank, stage_of}
use Rattle.script_rows.specs.Words.{words_of}
use Rattle.script_rows.specs.Written.{AreFit, spaced, words_in}
use Rattle.script_rows.proofs.Back.{no_targets, row_back, row_ok}
use Rattle.script_rows.proofs.Plain.{IsSaid, are_plain, is_plain, is_shown}
use Rattle.script_text.specs.Adding.{added, chance_after, progress_after, setup_after, with_values}
use Rattle.script_text.specs.Canonical.{row_text}
use Rattle.script_text.specs.Drafts.{so_far}
use Rattle.script_text.specs.Kept.{IsKept}
use Rattle.script_text.specs.Lines.{TextLine, lines_of}
use Rattle.script_text.specs.Naming.{names_of}
use Rattle.script_text.specs.Rules.{at_line, judged, lowest, script_from}
use Rattle.script_text.specs.Script.{Declarations, SoFar}
use Rattle.script_text.specs.declared.chance.Chance.{Chance}
use Rattle.script_text.proofs.Accepted.{kept_declared}
use Rattle.script_text.proofs.Lowest.{words_begun}
use Rattle.script_text.proofs.Named.{names_declared}
use Rattle.script_text.proofs.PlainWords.{all_shown, plain_shown, row_cut, row_shown}
use Rattle.script_text.proofs.ScheduleBack.{first_line, line_with, not_skipped}

-- ---- one row
-- the bytes of a line whose words say these values and break no rule
pub record IsRow (d : Declarations) (k : Kind) (cells : List Word) (vs : List Value) (bytes : List ℕ) : Type 0 where
  pub shown : list_all is_shown bytes ≡ true
  pub said : IsSaid bytes
  pub head : heading_of (words_of bytes) ≡ heading.Headed k cells
  pub values : values_of (names_of d.setup) nothing_seen (columns_of k) cells ≡ Some vs
  pub unbroken : (r : Rule) → cells_break (names_of d.setup) r nothing_seen (columns_of k) cells ≡ false
  pub order : rank d.progress.last ≤ rank (stage_of k)
  pub once : came d.progress k ≡ false
  pub declares : schedules k ≡ false

kind_ok : (p : Progress) (k : Kind) (r : Rule) → rank p.last ≤ rank (stage_of k) → came p k ≡ false → kind_breaks p k r ≡ false
kind_ok p k rule.Order order once = le-ltb _ _ order
kind_ok p k rule.Twice order once = once
kind_ok p k r order once = refl

none_broken : (p : Rule → Bool) → ((r : Rule) → p r ≡ false) → (rs : List Rule) → find p rs ≡ None
none_broken p none [] = refl
none_broken p none (r ∷ rs) = rw (none r) (none_broken p none rs)

row_lowest : (d : Declarations) (k : Kind) (cells : List Word) (vs : List Value) (bytes : List ℕ) → d.progress.begun ≡ true → IsRow d k cells vs bytes → lowest d.progress (names_of d.setup) (line_with bytes) ≡ None
row_lowest d k cells vs bytes begun is =
    let n = names_of d.setup in
    let p = d.progress in
    let plain : (list_all is_shown bytes && true) ≡ true = and_from (list_all is_shown bytes) true is.shown refl in
    let none : find (heading_breaks p n (heading.Headed k cells)) word_rules ≡ None = none_broken (heading_breaks p n (heading.Headed k cells)) (λ r. or_from (kind_breaks p k r) (cells_break n r nothing_seen (columns_of k) cells) (kind_ok p k r is.order is.once) (is.unbroken r)) word_rules in
    words_begun p n (line_with bytes) plain begun ∙ subst (λ (h : Heading). find (heading_breaks p n h) word_rules ≡ None) (sym is.head) none

row_added : (at : ℕ) (d : Declarations) (k : Kind) (cells : List Word) (vs : List Value) (bytes : List ℕ) → IsRow d k cells vs bytes → added at (so_far d) (heading_of (words_of bytes)) ≡ so_far (with_values d k vs)
row_added at d k cells vs bytes is =
    let direct : added at (so_far d) (heading.Headed k cells) ≡ so_far (with_values d k vs) = rw (is.declares, is.values) refl in
    ap (λ (h : Heading). added at (so_far d) h) is.head ∙ direct

row_judged : (at : ℕ) (d : Declarations) (k : Kind) (cells : List Word) (vs : List Value) (bytes : List ℕ) → d.progress.begun ≡ true → IsRow d k cells vs bytes → judged at (so_far d) (line_with bytes) ≡ Ok (so_far (with_values d k vs))
row_judged at d k cells vs bytes begun is =
    rw (not_skipped bytes is.said, row_lowest d k cells vs bytes begun is) (ap Ok (row_added at d k cells vs bytes is))

pub row_goes : (at : ℕ) (d : Declarations) (k : Kind) (cells : List Word) (vs : List Value) (bytes more : List ℕ) → d.progress.begun ≡ true → IsRow d k cells vs bytes → script_from at (so_far d) (lines_of (bytes ++ 10 ∷ more)) ≡ script_from (at + 1) (so_far (with_values d k vs)) (lines_of more)
row_goes at d k cells vs bytes more begun is =
    ap (λ (ls : List TextLine). script_from at (so_far d) ls) (first_line bytes more is.shown) ∙ ap (λ (r : Result SoFar Rule). at_line at r (λ s'. script_from (at + 1) s' (lines_of more))) (row_judged at d k cells vs bytes begun is)

-- a row without a list of clusters
pub fit_row : (n : ℕ) (d : Declarations) (k : Kind) (vs : List Value) (bytes : List ℕ) → IsKept n d → no_targets (columns_of k) ≡ true → AreFit (names_of d.setup) nothing_seen (columns_of k) vs → list_all is_shown bytes ≡ true → IsSaid bytes → heading_of (words_of bytes) ≡ heading.Headed k (words_in (names_of d.setup) nothing_seen (columns_of k) vs) → rank d.progress.last ≤ rank (stage_of k) → came d.progress k ≡ false → schedules k ≡ false → IsRow d k (words_in (names_of d.setup) nothing_seen (columns_of k) vs) vs bytes
fit_row n d k vs bytes kept narrow fits shown said head order once declares =
    let names = names_declared d.setup (kept_declared n d kept) in
    record {
      shown = shown;
      said = said;
      head = head;
      values = row_back (names_of d.setup) nothing_seen (columns_of k) vs names narrow fits;
      unbroken = λ r. row_ok (names_of d.setup) r nothing_seen (columns_of k) vs names narrow fits;
      order = order;
      once = once;
      declares = declares;
    }

-- ---- from text to text
abbrev pub said : Progress → Option Chance → Setup → Declarations
said p chance s = record { progress = p; chance = chance; setup = s }

-- what is declared is read from line `at` on as a text with such a setup, whose last line is of such a kind at most
pub record Reaches (most at : ℕ) (d : Declarations) (text : List ℕ) (chance : Option Chance) (s : Setup) : Type 0 where
  pub after : ℕ
  pub last : Progress
  pub reads : (more : List ℕ) → script_from at (so_far d) (lines_of (text ++ more)) ≡ script_from after (so_far (said last chance s)) (lines_of more)
  pub kept : IsKept after (said last chance s)
  pub begun : last.begun ≡ true
  pub early : rank last.last ≤ most
  -- where no chances are declared, no line said them
  pub quiet : chance ≡ None → last.has_chance ≡ false

-- two texts, one after the other
pub both_read : (first most at : ℕ) (d : Declarations) (text more : List ℕ) (c e : Option Chance) (s t : Setup) (r : Reaches first at d text c s) → Reaches most r.after (said r.last c s) more e t → Reaches most at d (text ++ more) e t
both_read first most at d text more c e s t r q = record {
  after = q.after;
  last = q.last;
  reads = λ left. ap (λ (bytes : List ℕ). script_from at (so_far d) (lines_of bytes)) (append_assoc text more left) ∙ (r.reads (more ++ left) ∙ q.reads left);
  kept = q.kept;
  begun = q.begun;
  early = q.early;
  quiet = q.quiet;
}

begun_after : (p : Progress) (k : Kind) → p.begun ≡ true → (progress_after p k).begun ≡ true
begun_after p (kind.Other row.Geo) is = refl
begun_after p (kind.Other row.Ledger) is = is
begun_after p (kind.Other row.Chance) is = is
begun_after p (kind.Other row.Cluster) is = is
begun_after p (kind.Other row.Topic) is = is
begun_after p (kind.Other row.Client) is = is
begun_after p (kind.Other row.Settle) is = is
begun_after p (kind.Other row.Stop) is = is
begun_after p (kind.Do k) is = is
begun_after p (kind.Event k) is = is
begun_after p (kind.Halt k) is = is

pub last_after : (p : Progress) (k : Kind) → (progress_after p k).last ≡ stage_of k
last_after p (kind.Other row.Geo) = refl
last_after p (kind.Other row.Ledger) = refl
last_after p (kind.Other row.Chance) = refl
last_after p (kind.Other row.Cluster) = refl
last_after p (kind.Other row.Topic) = refl
last_after p (kind.Other row.Client) = refl
last_after p (kind.Other row.Settle) = refl
last_after p (kind.Other row.Stop) = refl
last_after p (kind.Do k) = refl
last_after p (kind.Event k) = refl
last_after p (kind.Halt k) = refl

quiet_after : (p : Progress) (c : Option Chance) (k : Kind) (vs : List Value) → (c ≡ None → p.has_chance ≡ false) → chance_after c k vs ≡ None → (progress_after p k).has_chance ≡ false
quiet_after p c (kind.Other row.Geo) vs quiet none = quiet none
quiet_after p c (kind.Other row.Ledger) vs quiet none = quiet none
quiet_after p c (kind.Other row.Chance) vs quiet none = cc
quiet_after p c (kind.Other row.Cluster) vs quiet none = quiet none
quiet_after p c (kind.Other row.Topic) vs quiet none = quiet none
quiet_after p c (kind.Other row.Client) vs quiet none = quiet none
quiet_after p c (kind.Other row.Settle) vs quiet none = quiet none
quiet_after p c (kind.Other row.Stop) vs quiet none = quiet none
quiet_after p c (kind.Do k) vs quiet none = quiet none
quiet_after p c (kind.Event k) vs quiet none = quiet none
quiet_after p c (kind.Halt k) vs quiet none = quiet none

line_feed : (head : Word) (ws : List Word) (more : List ℕ) → (head ++ row_text ws) ++ more ≡ (head ++ spaced ws) ++ 10 ∷ more
line_feed head ws more =
    append_assoc head (row_text ws) more ∙ (ap (λ (t : List ℕ). head ++ t) (append_assoc (spaced ws) (10 ∷ []) more) ∙ sym (append_assoc head (spaced ws) (10 ∷ more)))

-- one row
pub row_reaches : (most at : ℕ) (d : Declarations) (head : Word) (ws : List Word) (k : Kind) (cells : List Word) (vs : List Value) → d.progress.begun ≡ true → (d.chance ≡ None → d.progress.has_chance ≡ false) → IsRow d k cells vs (head ++ spaced ws) → IsKept (at + 1) (with_values d k vs) → rank (stage_of k) ≤ most → Reaches most at d (head ++ row_text ws) (chance_after d.chance k vs) (setup_after d.setup k vs)
row_reaches most at d head ws k cells vs begun quiet is kept early = record {
  after = at + 1;
  last = progress_after d.progress k;
  reads = λ more. ap (λ (bytes : List ℕ). script_from at (so_far d) (lines_of bytes)) (line_feed head ws more) ∙ row_goes at d k cells vs (head ++ spaced ws) more begun is;
  kept = kept;
  begun = begun_after d.progress k begun;
  early = omega (arith, ap rank (last_after d.progress k), early);
  quiet = quiet_after d.progress d.chance k vs quiet;
}

-- what is known of what is declared before line n
pub record IsAt (n : ℕ) (d : Declarations) : Type 0 where
  pub kept : IsKept n d
  pub begun : d.progress.begun ≡ true
  pub quiet : d.chance ≡ None → d.progress.has_chance ≡ false

-- nothing more
pub stands : (most n : ℕ) (d : Declarations) → IsAt n d → rank d.progress.last ≤ most → Reaches most n d [] d.chance d.setup
stands most n d is early = record {
  after = n;
  last = d.progress;
  reads = λ more. refl;
  kept = is.kept;
  begun = is.begun;
  early = early;
  quiet = is.quiet;
}

-- one row of words without spaces, none of which is a list of clusters
pub plain_row : (most n : ℕ) (d : Declarations) (head : Word) (ws : List Word) (k : Kind) (cells : List Word) (vs : List Value) → IsAt n d → is_plain head ≡ true → are_plain ws ≡ true → IsSaid (head ++ spaced ws) → heading_of (head ∷ ws) ≡ heading.Headed k cells → words_in (names_of d.setup) nothing_seen (columns_of k) vs ≡ cells → no_targets (columns_of k) ≡ true → AreFit (names_of d.setup) nothing_seen (columns_of k) vs → rank d.progress.last ≤ rank (stage_of k) → came d.progress k ≡ false → schedules k ≡ false → IsKept (n + 1) (with_values d k vs) → rank (stage_of k) ≤ most → Reaches most n d (head ++ row_text ws) (chance_after d.chance k vs) (setup_after d.setup k vs)
plain_row most n d head ws k cells vs is plain all said heads same narrow fits order once declares kept early =
    let cut : heading_of (words_of (head ++ spaced ws)) ≡ heading.Headed k (words_in (names_of d.setup) nothing_seen (columns_of k) vs) = ap heading_of (row_cut head ws plain all) ∙ (heads ∙ ap (heading.Headed k) (sym same)) in
    row_reaches most n d head ws k (words_in (names_of d.setup) nothing_seen (columns_of k) vs) vs is.begun is.quiet (fit_row n d k vs (head ++ spaced ws) is.kept narrow fits (row_shown head ws (plain_shown head plain) (all_shown ws all)) said cut order once declares) kept early

-- the same of a setup that is the same, and of a text that is
pub same_reaches : (most at : ℕ) (d : Declarations) (text : List ℕ) (c : Option Chance) (s t : Setup) → s ≡ t → Reaches most at d text c s → Reaches most at d text c t
same_reaches most at d text c s t same r = subst (λ (x : Setup). Reaches most at d text c x) same r

-- a row and what comes after it
pub row_and : (first most at : ℕ) (d : Declarations) (head : Word) (ws : List Word) (more : List ℕ) (c e : Option Chance) (s t : Setup) (r : Reaches first at d (head ++ row_text ws) c s) → Reaches most r.after (said r.last c s) more e t → Reaches most at d (head ++ (row_text ws ++ more)) e t
row_and first most at d head ws more c e s t r q =
    subst (λ (text : List ℕ). Reaches most at d text e t) (append_assoc head (row_text ws) more) (both_read first most at d (head ++ row_text ws) more c e s t r q)

-- what is known there
pub is_after : (most at : ℕ) (d : Declarations) (text : List ℕ) (c : Option Chance) (s : Setup) (r : Reaches most at d text c s) → IsAt r.after (said r.last c s)
is_after most at d text c s r = record { kept = r.kept; begun = r.begun; quiet = r.quiet }
