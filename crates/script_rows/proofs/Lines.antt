-- A step that is written reads back, and a step that is read is known.
use Rattle.std.proofs.Common.{◌≡◌, ℕ, nat_lt, Bool, true, false, ◌&&◌, List, [], ◌∷◌, find, Option, Some, None, option_map, arith, refl, sym, ap, ◌∙◌, subst}
use Rattle.std.specs.Prelude.{⊤}
use Rattle.std.proofs.lemmas.Bool.{or_from, or_parts}
use Rattle.std.proofs.lemmas.Option.{none-some, same_Some}
use Rattle.geo_base.specs.declared.event.Event.{Event}
use Rattle.geo_base.specs.declared.event.Event.TheVariants as event
use Rattle.geo_base.specs.declared.event.Fate.{Fate}
use Rattle.geo_base.specs.declared.event.Fate.TheVariants as fate
use Rattle.geo_base.specs.declared.event.Step.{Step}
use Rattle.geo_base.specs.declared.event.Step.TheVariants as step
use Rattle.script_rows.specs.NameWords.{Word}
use Rattle.script_rows.specs.declared.column.Column.{Column}
use Rattle.script_rows.specs.declared.event_kind.EventKind.{EventKind}
use Rattle.script_rows.specs.declared.fault.Rule.{Rule}
use Rattle.script_rows.specs.declared.fault.Rule.TheVariants as rule
use Rattle.script_rows.specs.declared.heading.Heading.{Heading}
use Rattle.script_rows.specs.declared.heading.Heading.TheVariants as heading
use Rattle.script_rows.specs.declared.kind.Kind.{Kind}
use Rattle.script_rows.specs.declared.kind.Kind.TheVariants as kind
use Rattle.script_rows.specs.declared.line_kind.LineKind.TheVariants as line
use Rattle.script_rows.specs.declared.progress.Progress.{Progress}
use Rattle.script_rows.specs.declared.progress.Stage.{Stage}
use Rattle.script_rows.specs.declared.progress.Stage.TheVariants as stage
use Rattle.script_rows.specs.declared.value.Value.{Value}
use Rattle.script_rows.specs.Columns.{cell_breaks, seen_after}
use Rattle.script_rows.specs.Judging.{cells_break, heading_breaks, heading_of, is_form, kind_breaks, values_of, word_rules}
use Rattle.script_rows.specs.Known.{IsStep, ReadsAs, is_kind_built, schedules, step_in}
use Rattle.script_rows.specs.Names.{Names, Seen, nothing_seen}
use Rattle.script_rows.specs.Rows.{columns_of, event_built, halt_built, may_halt, rank}
use Rattle.script_rows.specs.Values.{event_of, fate_numbered, rest, step_of}
use Rattle.script_rows.specs.Words.{words_of}
use Rattle.script_rows.specs.Written.{AreDeclared, AreFit, event_values, fate_number, kind_of, step_kind, step_line, step_values, words_in}
use Rattle.script_rows.proofs.Back.{no_targets, row_back, row_ok}
use Rattle.script_rows.proofs.Chosen.{test_passed}
use Rattle.script_rows.proofs.Fits.{row_fits}
use Rattle.script_rows.proofs.Heads.{HasKind, event_heads, halt_heads, has_kind, settle_heads, stop_heads}
use Rattle.script_rows.proofs.Plain.{event_listless, step_cut}
use Rattle.script_rows.proofs.Ranges.{event_in, few_writes, made_kind, row_bounded}
use Rattle.script_rows.proofs.Writable.{event_fits}
use Rattle.geo_base.proofs.Bools.{cond_else_none}

-- ---- a step's values make the step
fate_back : (f : Fate) → fate_numbered (fate_number f) ≡ f
fate_back fate.Good = refl
fate_back fate.Lost = refl
fate_back fate.Twice = refl

event_back : (e : Event) → event_of (kind_of e) (event_values e) ≡ e
event_back (event.Go c) = refl
event_back (event.Get c) = refl
event_back (event.Reconnect c) = refl
event_back (event.Serve x c) = refl
event_back (event.Drop x c) = refl
event_back (event.Reset t x y) = refl
event_back (event.Read t x y) = refl
event_back (event.Take t x y f) = ap (event.Take t x y) (fate_back f)
event_back (event.Receipt t x y f) = ap (event.Receipt t x y) (fate_back f)
event_back (event.Snap t x) = refl
event_back (event.Offer t x s) = refl
event_back (event.Seek t x s p) = refl
event_back (event.Restart t x) = refl

step_back : (s : Step) → step_of (step_kind s) (step_values s) ≡ s
step_back (step.Plain e) = ap step.Plain (event_back e)
step_back (step.Halt k e) = ap (step.Halt k) (event_back e)
step_back step.Settle = refl
step_back step.Stop = refl

scheduled : (s : Step) → schedules (step_kind s) ≡ true
scheduled (step.Plain e) = refl
scheduled (step.Halt k e) = refl
scheduled step.Settle = refl
scheduled step.Stop = refl

-- ---- a step's line comes last
not_after : (s : Stage) → nat_lt 6 (rank s) ≡ false
not_after stage.Geo = refl
not_after stage.Setting = refl
not_after stage.Cluster = refl
not_after stage.Topic = refl
not_after stage.Client = refl
not_after stage.Do = refl
not_after stage.Event = refl

kind_ok : (p : Progress) (s : Step) (r : Rule) → kind_breaks p (step_kind s) r ≡ false
kind_ok p (step.Plain e) rule.Order = not_after p.last
kind_ok p (step.Halt k e) rule.Order = not_after p.last
kind_ok p step.Settle rule.Order = not_after p.last
kind_ok p step.Stop rule.Order = not_after p.last
kind_ok p (step.Plain e) rule.Twice = refl
kind_ok p (step.Halt k e) rule.Twice = refl
kind_ok p step.Settle rule.Twice = refl
kind_ok p step.Stop rule.Twice = refl
kind_ok p s r = refl

-- ---- what is written reads back
none_broken : (p : Rule → Bool) → ((r : Rule) → p r ≡ false) → (rs : List Rule) → find p rs ≡ None
none_broken p none [] = refl
none_broken p none (r ∷ rs) = rw (none r) (none_broken p none rs)

abbrev pub row_words : Names → Step → List Word
row_words n s = words_in n nothing_seen (columns_of (step_kind s)) (step_values s)

unbroken : (p : Progress) (n : Names) (s : Step) → AreDeclared n → no_targets (columns_of (step_kind s)) ≡ true → AreFit n nothing_seen (columns_of (step_kind s)) (step_values s) → find (heading_breaks p n (heading.Headed (step_kind s) (row_words n s))) word_rules ≡ None
unbroken p n s d t fits =
    none_broken (heading_breaks p n (heading.Headed (step_kind s) (row_words n s))) (λ r. or_from (kind_breaks p (step_kind s) r) (cells_break n r nothing_seen (columns_of (step_kind s)) (row_words n s)) (kind_ok p s r) (row_ok n r nothing_seen (columns_of (step_kind s)) (step_values s) d t fits)) word_rules

made : (n : Names) (s : Step) → AreDeclared n → no_targets (columns_of (step_kind s)) ≡ true → AreFit n nothing_seen (columns_of (step_kind s)) (step_values s) → step_in n (heading.Headed (step_kind s) (row_words n s)) ≡ Some s
made n s d t fits =
    rw (scheduled s, row_back n nothing_seen (columns_of (step_kind s)) (step_values s) d t fits) (ap Some (step_back s))

-- a line whose heading is the step's
reads : (p : Progress) (n : Names) (bytes : List ℕ) (s : Step) → AreDeclared n → no_targets (columns_of (step_kind s)) ≡ true → AreFit n nothing_seen (columns_of (step_kind s)) (step_values s) → heading_of (words_of bytes) ≡ heading.Headed (step_kind s) (row_words n s) → ReadsAs p n bytes s
reads p n bytes s d t fits head =
    (subst (λ (h : Heading). find (heading_breaks p n h) word_rules ≡ None) (sym head) (unbroken p n s d t fits), subst (λ (h : Heading). step_in n h ≡ Some s) (sym head) (made n s d t fits))

pub step_reads : (p : Progress) (n : Names) (s : Step) → AreDeclared n → IsStep n s → ReadsAs p n (step_line n s) s
step_reads p n (step.Plain e) d is =
    let fits = event_fits n nothing_seen e d is.0 in
    reads p n (step_line n (step.Plain e)) (step.Plain e) d (event_listless (kind_of e)) fits (ap heading_of (step_cut n (step.Plain e) d is) ∙ event_heads (kind_of e) (row_words n (step.Plain e)) is.1)
step_reads p n (step.Halt k e) d is =
    let fits = event_fits n nothing_seen e d is.1 in
    reads p n (step_line n (step.Halt k e)) (step.Halt k e) d (event_listless (kind_of e)) (omega arith, ((omega arith, is.0), omega arith), fits) (ap heading_of (step_cut n (step.Halt k e) d is) ∙ halt_heads _ (kind_of e) (row_words n (step.Plain e)) is.2)
step_reads p n step.Settle d is = reads p n (step_line n step.Settle) step.Settle d refl refl (settle_heads is)
step_reads p n step.Stop d is = reads p n (step_line n step.Stop) step.Stop d refl refl (stop_heads is)

-- ---- what is read is known
abbrev pub AllFail : (Rule → Bool) → List Rule → Type 0
AllFail p [] = ⊤
AllFail p (r ∷ rs) = (p r ≡ false) × AllFail p rs

pub all_fail : (p : Rule → Bool) (rs : List Rule) → find p rs ≡ None → AllFail p rs
all_fail p [] e = tt
all_fail p (r ∷ rs) e =
    let parts = cond_else_none (p r) r (find p rs) e in (parts.0, all_fail p rs parts.1)

-- a rule that no cell breaks
no_cell : (n : Names) (r : Rule) → is_form r ≡ false → ((s : Seen) (c : Column) (w : Word) → cell_breaks n s c w r ≡ false) → (s : Seen) (cs : List Column) (ws : List Word) → cells_break n r s cs ws ≡ false
no_cell n r f none s [] [] = refl
no_cell n r f none s [] (w ∷ ws) = f
no_cell n r f none s (c ∷ cs) [] = f
no_cell n r f none s (c ∷ cs) (w ∷ ws) = or_from _ _ (none s c w) (no_cell n r f none (seen_after n s c w) cs ws)

cells_ok : (p : Progress) (n : Names) (k : Kind) (ws : List Word) (r : Rule) → heading_breaks p n (heading.Headed k ws) r ≡ false → cells_break n r nothing_seen (columns_of k) ws ≡ false
cells_ok p n k ws r e = (or_parts (kind_breaks p k r) (cells_break n r nothing_seen (columns_of k) ws) e).1

pub row_unbroken : (p : Progress) (n : Names) (k : Kind) (ws : List Word) → find (heading_breaks p n (heading.Headed k ws)) word_rules ≡ None → (r : Rule) → cells_break n r nothing_seen (columns_of k) ws ≡ false
row_unbroken p n k ws e rule.Bytes = no_cell n rule.Bytes refl (λ s c w. refl) nothing_seen (columns_of k) ws
row_unbroken p n k ws e rule.Head = no_cell n rule.Head refl (λ s c w. refl) nothing_seen (columns_of k) ws
row_unbroken p n k ws e rule.Word =
    cells_ok p n k ws rule.Word (all_fail (heading_breaks p n (heading.Headed k ws)) word_rules e).0
row_unbroken p n k ws e rule.Form =
    cells_ok p n k ws rule.Form (all_fail (heading_breaks p n (heading.Headed k ws)) word_rules e).1.0
row_unbroken p n k ws e rule.LongName =
    cells_ok p n k ws rule.LongName (all_fail (heading_breaks p n (heading.Headed k ws)) word_rules e).1.1.0
row_unbroken p n k ws e rule.Order = no_cell n rule.Order refl (λ s c w. refl) nothing_seen (columns_of k) ws
row_unbroken p n k ws e rule.Twice = no_cell n rule.Twice refl (λ s c w. refl) nothing_seen (columns_of k) ws
row_unbroken p n k ws e rule.Clusters =
    cells_ok p n k ws rule.Clusters (all_fail (heading_breaks p n (heading.Headed k ws)) word_rules e).1.1.1.1.1.0
row_unbroken p n k ws e rule.NameTwice =
    cells_ok p n k ws rule.NameTwice (all_fail (heading_breaks p n (heading.Headed k ws)) word_rules e).1.1.1.1.1.1.0
row_unbroken p n k ws e rule.Lone =
    cells_ok p n k ws rule.Lone (all_fail (heading_breaks p n (heading.Headed k ws)) word_rules e).1.1.1.1.1.1.1.0
row_unbroken p n k ws e rule.Topics =
    cells_ok p n k ws rule.Topics (all_fail (heading_breaks p n (heading.Headed k ws)) word_rules e).1.1.1.1.1.1.1.1.0
row_unbroken p n k ws e rule.Clients =
    cells_ok p n k ws rule.Clients (all_fail (heading_breaks p n (heading.Headed k ws)) word_rules e).1.1.1.1.1.1.1.1.1.0
row_unbroken p n k ws e rule.Subscriptions =
    cells_ok p n k ws rule.Subscriptions (all_fail (heading_breaks p n (heading.Headed k ws)) word_rules e).1.1.1.1.1.1.1.1.1.1.0
row_unbroken p n k ws e rule.LongText =
    cells_ok p n k ws rule.LongText (all_fail (heading_breaks p n (heading.Headed k ws)) word_rules e).1.1.1.1.1.1.1.1.1.1.1.0
row_unbroken p n k ws e rule.Undeclared =
    cells_ok p n k ws rule.Undeclared (all_fail (heading_breaks p n (heading.Headed k ws)) word_rules e).1.1.1.1.1.1.1.1.1.1.1.1.0
row_unbroken p n k ws e rule.Mixed =
    cells_ok p n k ws rule.Mixed (all_fail (heading_breaks p n (heading.Headed k ws)) word_rules e).1.1.1.1.1.1.1.1.1.1.1.1.1.0
row_unbroken p n k ws e rule.StrangeSubscription =
    cells_ok p n k ws rule.StrangeSubscription (all_fail (heading_breaks p n (heading.Headed k ws)) word_rules e).1.1.1.1.1.1.1.1.1.1.1.1.1.1.0
row_unbroken p n k ws e rule.Loop =
    cells_ok p n k ws rule.Loop (all_fail (heading_breaks p n (heading.Headed k ws)) word_rules e).1.1.1.1.1.1.1.1.1.1.1.1.1.1.1.0
row_unbroken p n k ws e rule.TargetTwice =
    cells_ok p n k ws rule.TargetTwice (all_fail (heading_breaks p n (heading.Headed k ws)) word_rules e).1.1.1.1.1.1.1.1.1.1.1.1.1.1.1.1.0

-- the values of a row that breaks no rule fit its columns
pub unbroken_fits : (p : Progress) (n : Names) (k : Kind) (ws : List Word) (vs : List Value) → find (heading_breaks p n (heading.Headed k ws)) word_rules ≡ None → values_of n nothing_seen (columns_of k) ws ≡ Some vs → AreFit n nothing_seen (columns_of k) vs
unbroken_fits p n k ws vs none e =
    row_fits n nothing_seen (columns_of k) ws vs (row_bounded k) e (row_unbroken p n k ws none)

known_step : (n : Names) (k : Kind) (vs : List Value) → AreDeclared n → schedules k ≡ true → is_kind_built k ≡ true → AreFit n nothing_seen (columns_of k) vs → IsStep n (step_of k vs)
known_step n (kind.Event k) vs d is built f =
    (event_in n nothing_seen k vs d f, ap event_built (made_kind k vs) ∙ built)
known_step n (kind.Halt k) vs d is built f =
    (few_writes vs f.1, event_in n nothing_seen k (rest vs) d f.2, subst (λ (j : EventKind). (halt_built && event_built j && may_halt j) ≡ true) (sym (made_kind k (rest vs))) built)
known_step n (kind.Other line.Settle) vs d is built f = built
known_step n (kind.Other line.Stop) vs d is built f = built
known_step n (kind.Other line.Geo) vs d is built f = cc
known_step n (kind.Other line.Ledger) vs d is built f = cc
known_step n (kind.Other line.Chance) vs d is built f = cc
known_step n (kind.Other line.Cluster) vs d is built f = cc
known_step n (kind.Other line.Topic) vs d is built f = cc
known_step n (kind.Other line.Client) vs d is built f = cc
known_step n (kind.Do k) vs d is built f = cc

map_part : {A B : Type 0} (f : A → B) (o : Option A) (y : B) → option_map f o ≡ Some y → (x : A) × (o ≡ Some x) × (f x ≡ y)
map_part f None y e = absurd (none-some y e)
map_part f (Some x) y e = (x, refl, same_Some (f x) y e)

headed_known : (p : Progress) (n : Names) (h : Heading) (s : Step) → AreDeclared n → HasKind h → find (heading_breaks p n h) word_rules ≡ None → step_in n h ≡ Some s → IsStep n s
headed_known p n heading.Unknown s d is none e = absurd (none-some s e)
headed_known p n heading.Formless s d is none e = absurd (none-some s e)
headed_known p n (heading.Headed k ws) s d is none e =
    let parts = test_passed (schedules k) (option_map (step_of k) (values_of n nothing_seen (columns_of k) ws)) s e in
    let vs = map_part (step_of k) (values_of n nothing_seen (columns_of k) ws) s parts.1 in
    subst (IsStep n) vs.2 (known_step n k vs.0 d parts.0 is (unbroken_fits p n k ws vs.0 none vs.1))

pub step_known : (p : Progress) (n : Names) (bytes : List ℕ) (s : Step) → AreDeclared n → ReadsAs p n bytes s → IsStep n s
step_known p n bytes s d is =
    headed_known p n (heading_of (words_of bytes)) s d (has_kind (words_of bytes)) is.0 is.1
