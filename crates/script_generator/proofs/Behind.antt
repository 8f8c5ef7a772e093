-- Where a trace begins that stands after an accepted script whose last line has its line feed: right after it, since no line of such a
-- script is `trace`.
use Rattle.std.proofs.Common.{◌≡◌, ℕ, zero, suc, ◌+◌, ◌==◌, ◌<◌, ◌≤◌, ◌⊎◌, Bool, true, false, List, [], ◌∷◌, ◌++◌, All, length, take, drop, refl, sym, ap, subst, ◌∙◌, append_assoc, arith, inl, inr}
use Rattle.std.specs.Prelude.{Option, Some, None, not, ◌&&◌, find, if◌then◌else◌, codes, decimal, Result, Ok, Err}
use Rattle.std.specs.Str.{bytes_eq}
use Rattle.std.proofs.lemmas.Bool.{eqb-true}
use Rattle.std.proofs.Math.Seq.{drop-append_seam}
use Rattle.std.proofs.lemmas.List.{length-append}
use Rattle.std.proofs.lemmas.List.Elements.{All-cons, All-nil}
use Rattle.std.proofs.lemmas.List.Splits.{slice_split_at}
use Rattle.std.proofs.lemmas.Slice.Eq.{bytes_eq-Decides}
use Rattle.geo_base.specs.declared.client.Line.{Line}
use Rattle.geo_base.specs.Setup.{Declared, Setup}
use Rattle.script_rows.specs.NameBytes.{name_at}
use Rattle.script_rows.specs.NameWords.{Word, cut_by}
use Rattle.script_rows.proofs.Cuts.{has_parts}
use Rattle.script_rows.specs.declared.fault.Rule.{Rule}
use Rattle.script_rows.specs.declared.fault.Rule.TheVariants as rule
use Rattle.script_rows.specs.declared.progress.Progress.{Progress}
use Rattle.script_rows.specs.Judging.{word_rules}
use Rattle.script_rows.specs.Names.{Names}
use Rattle.script_rows.specs.Written.{spaced}
use Rattle.script_text.specs.declared.chance.Chance.{Chance}
use Rattle.script_text.specs.Adding.{added}
use Rattle.script_text.specs.Canonical.{all_lines_text, chance_text, clients_text, declarations_text, declared_alone, ledger_text, line_words, lines_text, names_text, row_text}
use Rattle.script_text.specs.Lines.{TextLine, lines_of}
use Rattle.script_text.specs.Naming.{names_of}
use Rattle.script_text.specs.Rules.{at_line, breaks, judged, lowest, said_by, script_from, script_of, unless_broken}
use Rattle.script_text.specs.Script.{Script, SoFar, no_line}
use Rattle.script_text.proofs.Cuts.{lines_cut}
use Rattle.script_text.proofs.AllBack.{declarations_back}
use Rattle.script_generator.specs.Apart.{LawApart, headed}
use Rattle.script_generator.specs.Starts.{declarations_in, trace_from, trace_start}

-- ---- a line `trace` is none of a script's

abbrev trace_line : TextLine
trace_line = record { bytes = codes "trace"; ended = true }

abbrev found : Progress → Names → Bool → Option Rule
found p n begun = if not begun && not (bytes_eq (codes "trace") (codes "geo 1")) then Some rule.Head else find (breaks p n trace_line) word_rules

lowest_there : (p : Progress) (n : Names) → (r : Rule) × (lowest p n trace_line ≡ Some r)
unfolding lowest
lowest_there p n = by p.begun refl
  where
    by : (b : Bool) → p.begun ≡ b → (r : Rule) × (found p n p.begun ≡ Some r)
    by false e = (rule.Head, ap (found p n) e)
    by true e = (rule.Word, ap (found p n) e)

trace_refused : (at : ℕ) (s : SoFar) → (r : Rule) × (judged at s trace_line ≡ Err r)
trace_refused at s =
    let h = lowest_there s.declared.progress (names_of s.declared.setup) in
    (h.0, ap (λ (o : Option Rule). unless_broken o (added at s (said_by trace_line))) h.1)

not_trace : (n : ℕ) (s : SoFar) (ls : List TextLine) (m : Script) → script_from n s (trace_line ∷ ls) ≡ Ok m → ⊥
not_trace n s ls m is =
    let h = trace_refused n s in
    let no : at_line n (Err h.0) (λ (t : SoFar). script_from (n + 1) t ls) ≡ Ok m = ap (λ (r : Result SoFar Rule). at_line n r (λ (t : SoFar). script_from (n + 1) t ls)) (sym h.1) ∙ is in
    cc no

rest_read : (n : ℕ) (s : SoFar) (l : TextLine) (ls : List TextLine) (m : Script) → script_from n s (l ∷ ls) ≡ Ok m → (t : SoFar) × (script_from (n + 1) t ls ≡ Ok m)
rest_read n s l ls m is = by (judged n s l) is
  where
    by : (r : Result SoFar Rule) → at_line n r (λ (t : SoFar). script_from (n + 1) t ls) ≡ Ok m → (t : SoFar) × (script_from (n + 1) t ls ≡ Ok m)
    by (Ok t) e = (t, e)
    by (Err r) e = absurd (cc e)

-- ---- a text line by line

abbrev NoFeed : List ℕ → Type 0
NoFeed [] = Unit {0}
NoFeed (b ∷ bs) = ((b == 10) ≡ false) × NoFeed bs

-- its last line has a line feed
abbrev pub EndsLine : List ℕ → Type 0
EndsLine [] = Unit {0}
EndsLine (b ∷ []) = b ≡ 10
EndsLine (b ∷ c ∷ bs) = EndsLine (c ∷ bs)

record HasLine (t : List ℕ) : Type 0 where
  first : List ℕ
  rest : List ℕ
  whole : t ≡ first ++ 10 ∷ rest
  unfed : All (λ b. (b == 10) ≡ false) first

by_lines : (t : List ℕ) → NoFeed t ⊎ HasLine t
by_lines [] = inl tt
by_lines (b ∷ bs) = by (b == 10) refl (by_lines bs)
  where
    by : (is : Bool) → (b == 10) ≡ is → NoFeed bs ⊎ HasLine bs → NoFeed (b ∷ bs) ⊎ HasLine (b ∷ bs)
    by true e more = inr (record { first = []; rest = bs; whole = ap (λ (c : ℕ). c ∷ bs) (eqb-true b 10 e); unfed = All-nil (λ c. (c == 10) ≡ false) })
    by false e (inl none) = inl (e, none)
    by false e (inr h) = inr (record {
      first = b ∷ h.first;
      rest = h.rest;
      whole = ap (λ (xs : List ℕ). b ∷ xs) h.whole;
      unfed = All-cons (λ c. (c == 10) ≡ false) b h.first e h.unfed;
    })

nothing_left : (t : List ℕ) → NoFeed t → EndsLine t → t ≡ []
nothing_left [] none ends = refl
nothing_left (b ∷ []) none ends = absurd (cc (none.0, ends))
nothing_left (b ∷ c ∷ bs) none ends = absurd (cc (nothing_left (c ∷ bs) none.1 ends))

behind_ends : (w t : List ℕ) → EndsLine (w ++ 10 ∷ t) → EndsLine t
behind_ends [] [] ends = tt
behind_ends [] (c ∷ t) ends = ends
behind_ends (b ∷ []) t ends = behind_ends [] t ends
behind_ends (b ∷ c ∷ w) t ends = behind_ends (c ∷ w) t ends

-- ---- where the trace begins

here : (u : List ℕ) → trace_from (cut_by 10 (codes "trace" ++ 10 ∷ u)) ≡ 0
here u = ap trace_from (slice_split_at (λ b. b == 10) (codes "trace") 10 u all refl) ∙ by (cut_by 10 u) (has_parts (λ b. b == 10) u)
  where
    P : ℕ → Type 0
    P = λ b. (b == 10) ≡ false

    all : All P (codes "trace")
    all = All-cons P 116 (codes "race") refl (All-cons P 114 (codes "ace") refl (All-cons P 97 (codes "ce") refl (All-cons P 99 (codes "e") refl (All-cons P 101 [] refl (All-nil P)))))

    by : (ws : List (List ℕ)) → 0 < length ws → trace_from (codes "trace" ∷ ws) ≡ 0
    by [] some = absurd (omega (arith, some))
    by (w ∷ ws) some = refl

further : (w : List ℕ) (ws : List (List ℕ)) → 0 < length ws → bytes_eq w (codes "trace") ≡ false → trace_from (w ∷ ws) ≡ length w + 1 + trace_from ws
further w [] some other = absurd (omega (arith, some))
further w (x ∷ ws) some other = ap (λ (b : Bool). if b then 0 else length w + 1 + trace_from (x ∷ ws)) other

-- of a text that begins with a line: as what is after it begins
abbrev Starts : List ℕ → List ℕ → Type 0
Starts u t = trace_from (cut_by 10 (t ++ (codes "trace" ++ 10 ∷ u))) ≡ length t

one_more : (t u : List ℕ) (h : HasLine t) (n : ℕ) (s : SoFar) (m : Script) → EndsLine t → script_from n s (lines_of t) ≡ Ok m
    → (EndsLine h.rest → (k : ℕ) (r : SoFar) → script_from k r (lines_of h.rest) ≡ Ok m → Starts u h.rest) → Starts u t
one_more t u h n s m ends is rest_starts =
    ap (λ (x : List ℕ). trace_from (cut_by 10 x)) whole
    ∙ (ap trace_from (slice_split_at (λ b. b == 10) h.first 10 (h.rest ++ behind) h.unfed refl)
    ∙ (further h.first (cut_by 10 (h.rest ++ behind)) (has_parts (λ b. b == 10) (h.rest ++ behind)) (other (bytes_eq h.first (codes "trace")) refl)
    ∙ (ap (λ (k : ℕ). length h.first + 1 + k) (rest_starts (behind_ends h.first h.rest (subst EndsLine h.whole ends)) (n + 1) next.0 next.1)
    ∙ (sum ∙ ap length (sym h.whole)))))
  where
    behind : List ℕ
    behind = codes "trace" ++ 10 ∷ u

    lines : lines_of (h.first ++ 10 ∷ h.rest) ≡ record { bytes = h.first; ended = true } ∷ lines_of h.rest
    lines = lines_cut (h.first ++ 10 ∷ h.rest) h.first h.rest (slice_split_at (λ b. b == 10) h.first 10 h.rest h.unfed refl)

    read : script_from n s (record { bytes = h.first; ended = true } ∷ lines_of h.rest) ≡ Ok m
    read = ap (script_from n s) (sym lines) ∙ (ap (λ (x : List ℕ). script_from n s (lines_of x)) (sym h.whole) ∙ is)

    next : (r : SoFar) × (script_from (n + 1) r (lines_of h.rest) ≡ Ok m)
    next = rest_read n s (record { bytes = h.first; ended = true }) (lines_of h.rest) m read

    other : (b : Bool) → bytes_eq h.first (codes "trace") ≡ b → bytes_eq h.first (codes "trace") ≡ false
    other true e =
        let same : h.first ≡ codes "trace" = (bytes_eq-Decides h.first (codes "trace")).0 e in
        absurd (not_trace n s (lines_of h.rest) m (subst (λ (x : List ℕ). script_from n s (record { bytes = x; ended = true } ∷ lines_of h.rest) ≡ Ok m) same read))
    other false e = e

    whole : t ++ behind ≡ h.first ++ 10 ∷ (h.rest ++ behind)
    whole = ap (λ (x : List ℕ). x ++ behind) h.whole ∙ append_assoc h.first (10 ∷ h.rest) behind

    sum : length h.first + 1 + length h.rest ≡ length (h.first ++ 10 ∷ h.rest)
    sum = let long = length-append h.first (10 ∷ h.rest) in omega (arith, long)

rest_shorter : (size : ℕ) (t : List ℕ) (h : HasLine t) → length t ≤ suc size → length h.rest ≤ size
rest_shorter size t h small =
    let long = length-append h.first (10 ∷ h.rest) in
    let same : length t ≡ length (h.first ++ 10 ∷ h.rest) = ap length h.whole in
    omega (arith, small, long, same)

starts : (size : ℕ) (t u : List ℕ) (n : ℕ) (s : SoFar) (m : Script) → length t ≤ size → EndsLine t → script_from n s (lines_of t) ≡ Ok m → Starts u t
starts zero [] u n s m small ends is = here u
starts zero (b ∷ t) u n s m small ends is = absurd (omega (arith, small))
starts (suc size) t u n s m small ends is = by (by_lines t) (λ r k q d e f. starts size r u k q m d e f)
  where
    by : NoFeed t ⊎ HasLine t → ((r : List ℕ) (k : ℕ) (q : SoFar) → length r ≤ size → EndsLine r → script_from k q (lines_of r) ≡ Ok m → Starts u r) → Starts u t
    by (inl none) ih = subst (Starts u) (sym (nothing_left t none ends)) (here u)
    by (inr h) ih = one_more t u h n s m ends is (λ e k r f. ih h.rest k r (rest_shorter size t h small) e f)

pub starts_behind : (t u : List ℕ) (m : Script) → EndsLine t → script_of t ≡ Ok m → trace_start (t ++ (codes "trace" ++ 10 ∷ u)) ≡ length t
unfolding trace_start
starts_behind t u m ends is = starts (length t) t u 1 no_line m (omega arith) ends is

-- ---- the canonical declarations end with a line feed

both_end : (a b : List ℕ) → EndsLine a → EndsLine b → EndsLine (a ++ b)
both_end [] b one two = two
both_end (x ∷ []) [] one two = one
both_end (x ∷ []) (y ∷ b) one two = two
both_end (x ∷ z ∷ a) b one two = both_end (z ∷ a) b one two

fed : (w : List ℕ) → EndsLine (w ++ 10 ∷ [])
fed [] = refl
fed (b ∷ []) = refl
fed (b ∷ c ∷ w) = fed (c ∷ w)

row_ends : (head : List ℕ) (ws : List Word) → EndsLine (head ++ row_text ws)
row_ends head ws = subst EndsLine (append_assoc head (spaced ws) (10 ∷ [])) (fed (head ++ spaced ws))

with_row : (head : List ℕ) (ws : List Word) (more : List ℕ) → EndsLine more → EndsLine (head ++ (row_text ws ++ more))
with_row head ws more ends = subst EndsLine (append_assoc head (row_text ws) more) (both_end (head ++ row_text ws) more (row_ends head ws) ends)

names_end : (head : Word) (ws : List Word) → EndsLine (names_text head ws)
names_end head [] = tt
names_end head (w ∷ ws) = with_row head (w ∷ []) (names_text head ws) (names_end head ws)

clients_end : (clusters topics : List Word) (ds : List Declared) → EndsLine (clients_text clusters topics ds)
clients_end clusters topics [] = tt
clients_end clusters topics (d ∷ ds) = with_row (codes "client") (d.name ∷ name_at topics d.topic ∷ name_at clusters d.cluster ∷ []) (clients_text clusters topics ds) (clients_end clusters topics ds)

lines_end : (clusters : List Word) (client : Word) (ls : List Line) → EndsLine (lines_text clusters client ls)
lines_end clusters client [] = tt
lines_end clusters client (l ∷ ls) = with_row (codes "do") (client ∷ line_words clusters l) (lines_text clusters client ls) (lines_end clusters client ls)

all_lines_end : (clusters : List Word) (ds : List Declared) → EndsLine (all_lines_text clusters ds)
all_lines_end clusters [] = tt
all_lines_end clusters (d ∷ ds) = both_end (lines_text clusters d.name d.lines) (all_lines_text clusters ds) (lines_end clusters d.name d.lines) (all_lines_end clusters ds)

ledger_ends : (n : ℕ) → EndsLine (ledger_text n)
ledger_ends n = by (n == 50000)
  where
    by : (b : Bool) → EndsLine (if b then [] else codes "ledger" ++ row_text (decimal n ∷ []))
    by true = tt
    by false = row_ends (codes "ledger") (decimal n ∷ [])

chance_ends : (o : Option Chance) → EndsLine (chance_text o)
chance_ends None = tt
chance_ends (Some c) = row_ends (codes "chance") (decimal c.number ∷ decimal c.lost ∷ decimal c.twice ∷ decimal c.restart ∷ [])

module _ (s : Setup) (o : Option Chance) where
  abbrev of_clients : List ℕ
  of_clients = clients_text s.clusters s.topics s.clients ++ all_lines_text s.clusters s.clients

  abbrev of_topics : List ℕ
  of_topics = names_text (codes "topic") s.topics ++ of_clients

  abbrev of_clusters : List ℕ
  of_clusters = names_text (codes "cluster") s.clusters ++ of_topics

  abbrev of_chance : List ℕ
  of_chance = chance_text o ++ of_clusters

  pub declarations_end : EndsLine (declarations_text s o)
  declarations_end =
      let clients = both_end (clients_text s.clusters s.topics s.clients) (all_lines_text s.clusters s.clients) (clients_end s.clusters s.topics s.clients) (all_lines_end s.clusters s.clients) in
      let topics = both_end (names_text (codes "topic") s.topics) of_clients (names_end (codes "topic") s.topics) clients in
      let clusters = both_end (names_text (codes "cluster") s.clusters) of_topics (names_end (codes "cluster") s.clusters) topics in
      let chance = both_end (chance_text o) of_clusters (chance_ends o) clusters in
      both_end (codes "geo 1\n") (ledger_text s.per_ledger ++ of_chance) refl (both_end (ledger_text s.per_ledger) of_chance (ledger_ends s.per_ledger) chance)

-- ---- and so they are told apart from the trace after them

front : (a b : List ℕ) → take (length a) (a ++ b) ≡ a
front [] b = refl
front (x ∷ a) b = ap (λ (ys : List ℕ). x ∷ ys) (front a b)

pub apart_law : LawApart
apart_law n lines scenario =
    let text = declarations_text n.setup n.chance in
    let read = declarations_back n scenario in
    let start : trace_start (text ++ headed lines) ≡ length text = starts_behind text lines (declared_alone n.setup n.chance) (declarations_end n.setup n.chance) read in
    let declarations : declarations_in (text ++ headed lines) ≡ text = ap (λ (k : ℕ). take k (text ++ headed lines)) start ∙ front text (headed lines) in
    record {
      declarations = declarations;
      trace = ap (λ (k : ℕ). drop k (text ++ headed lines)) start ∙ drop-append_seam text (headed lines);
      declared = ap script_of declarations ∙ read;
    }
