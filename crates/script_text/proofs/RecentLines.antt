-- Places of no line, and what lines that were read before say.
use Rattle.std.proofs.Common.{◌≡◌, ℕ, All, Bool, true, List, [], ◌∷◌, ◌++◌, refl, ap, subst, sym, arith, Ok, inl, inr}
use Rattle.std.specs.Prelude.{Contains, Some}
use Rattle.std.proofs.lemmas.List.Elements.{All-contains, All-push, All-set}
use Rattle.geo_base.specs.declared.event.Step.{Step}
use Rattle.script_rows.specs.declared.progress.Progress.{Progress}
use Rattle.script_rows.specs.declared.progress.Stage.{Stage}
use Rattle.script_rows.specs.declared.progress.Stage.TheVariants as stage
use Rattle.script_rows.specs.Names.{Names}
use Rattle.script_text.specs.Lines.{TextLine}
use Rattle.script_text.specs.Recent.{IsNoted, IsNothing, Kept, Means, Schedules, nothing_kept, ended_line, among_events}

pub none_yet : (ks : List Kept) → ks ≡ [] → All IsNothing ks
none_yet ks is = subst (All IsNothing) (sym is) (λ k d under. absurd (omega (arith, under)))

pub one_more : (ks ls : List Kept) → All IsNothing ks → ls ≡ ks ++ nothing_kept ∷ [] → All IsNothing ls
one_more ks ls all is = subst (All IsNothing) (sym is) (All-push IsNothing ks nothing_kept all refl)

-- once events come, a progress is that of events
abbrev with_last : Progress → Stage → Progress
with_last p s = record p { last = s }

pub is_late : (p : Progress) → p.last ≡ stage.Event → among_events p ≡ p
is_late p is = ap (λ (s : Stage). with_last p s) (sym is)

abbrev line_kept : List ℕ → Step → Kept
line_kept bytes e = record { line = bytes; step = Some e }

abbrev line_of : List ℕ → Bool → TextLine
line_of bytes ended = record { bytes = bytes; ended = ended }

-- a line that was noted schedules what it did
pub noted_schedules : (p : Progress) (n : Names) (l : TextLine) (ks : List Kept) (e : Step) → p.last ≡ stage.Event → l.ended ≡ true
    → All (Means (among_events p) n) ks → Contains ks (line_kept l.bytes e) → Schedules p n l (Ok (Some e))
noted_schedules p n l ks e is ended all at =
    let means : Means (among_events p) n (line_kept l.bytes e) = All-contains (Means (among_events p) n) ks (line_kept l.bytes e) all at in
    let here : Schedules p n (ended_line l.bytes) (Ok (Some e)) = subst (λ (q : Progress). Schedules q n (ended_line l.bytes) (Ok (Some e))) (is_late p is) means in
    subst (λ (b : Bool). Schedules p n (line_of l.bytes b) (Ok (Some e))) (sym ended) here

-- and what it schedules may be noted
pub note_means : (p : Progress) (n : Names) (l : TextLine) (ks ls : List Kept) (e : Step) → p.last ≡ stage.Event → l.ended ≡ true
    → All (Means (among_events p) n) ks → Schedules p n l (Ok (Some e)) → IsNoted ks ls (line_kept l.bytes e) → All (Means (among_events p) n) ls
note_means p n l ks ls e is ended all says (inl same) = subst (All (Means (among_events p) n)) (sym same) all
note_means p n l ks ls e is ended all says (inr (i, set)) =
    let here : Schedules p n (ended_line l.bytes) (Ok (Some e)) = subst (λ (b : Bool). Schedules p n (line_of l.bytes b) (Ok (Some e))) ended says in
    let means : Means (among_events p) n (line_kept l.bytes e) = subst (λ (q : Progress). Schedules q n (ended_line l.bytes) (Ok (Some e))) (sym (is_late p is)) here in
    subst (All (Means (among_events p) n)) (sym set) (All-set (Means (among_events p) n) ks i (line_kept l.bytes e) means all)

-- no line was noted yet
pub none_noted : (p : Progress) (n : Names) (ks : List Kept) → All IsNothing ks → All (Means p n) ks
none_noted p n ks all = λ k d under. subst (Means p n) (sym (all k d under)) tt
