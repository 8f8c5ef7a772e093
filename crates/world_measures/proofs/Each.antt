-- Lines of each of some items, one item after another.
use Rattle.std.proofs.Common.{◌≡◌, ℕ, ◌+◌, ◌≤◌, Bool, true, List, [], ◌∷◌, ◌++◌, drop, length, refl, sym, subst, ◌∙◌, append_assoc, if◌then◌else◌}
use Rattle.std.proofs.Math.ListN.{drop_of_length-le}
use Rattle.std.proofs.lemmas.List.{append-nil}
use Rattle.std.specs.Prelude.{Err, Ok, OnOk, Result, Some, slice_get}
use Rattle.geo_base.specs.Broker.{Broker}
use Rattle.geo_base.specs.Report.{with_line_feeds}
use Rattle.geo_base.specs.Subscription.{Subscription}
use Rattle.report_lines.proofs.Added.{drop_here}
use Rattle.report_lines.proofs.Parts.{lines_added, with_line_feeds-append}
use Rattle.loss_laws.specs.Lost.{again, backlog_at}
use Rattle.loss_laws.specs.LostLines.{again_label, backlog_label, lines_of_each, named_lines, number_line, sub_lines}

-- the lines of the next item
pub each_added : {X : Type 0} (f : ℕ → X → List (List ℕ)) (xs : List X) (i : ℕ) (x : X) (old new whole : List ℕ) → slice_get xs i ≡ Some x
    → new ≡ old ++ with_line_feeds (f i x) → old ++ with_line_feeds (lines_of_each f i (drop i xs)) ≡ whole
    → new ++ with_line_feeds (lines_of_each f (i + 1) (drop (i + 1) xs)) ≡ whole
each_added f xs i x old new whole here added before =
    lines_added old new whole (f i x) (lines_of_each f (i + 1) (drop (i + 1) xs)) added (rw (drop_here xs i x here) at before)

-- and after the last one there are none
pub each_all : {X : Type 0} (f : ℕ → X → List (List ℕ)) (xs : List X) (i : ℕ) (new whole : List ℕ) → length xs ≤ i
    → new ++ with_line_feeds (lines_of_each f i (drop i xs)) ≡ whole → new ≡ whole
each_all f xs i new whole past before = sym (append-nil new) ∙ (rw (drop_of_length-le xs past) at before)

-- ---- what an answer that is Ok leaves

pub on_ok : {T E : Type 0} (r : Result T E) (P Q : Type 0) → (P → Q) → OnOk r P → OnOk r Q
on_ok (Ok v) P Q f h = f h
on_ok (Err e) P Q f h = tt

-- of a subscription at another cluster
pub sub_added : (names : Bool) (clusters : List (List ℕ)) (b c : Broker) (n : List ℕ) (place : ℕ) (v : Subscription) (old mid new : List ℕ) → v.replicated ≡ true
    → mid ≡ old ++ with_line_feeds (named_lines names clusters (again_label v.name n) (again b v c))
    → new ≡ mid ++ (number_line (backlog_label v.name n) (backlog_at c v.name) ++ 10 ∷ [])
    → new ≡ old ++ with_line_feeds (sub_lines names clusters b c n place v)
sub_added names clusters b c n place v old mid new replicated first second =
    let ls = named_lines names clusters (again_label v.name n) (again b v c) in let l = number_line (backlog_label v.name n) (backlog_at c v.name) in
    let whole : new ≡ old ++ with_line_feeds (ls ++ l ∷ []) = rw (second, first, append_assoc, with_line_feeds-append ls (l ∷ [])) refl in
    subst (λ (r : Bool). new ≡ old ++ with_line_feeds (if r then ls ++ l ∷ [] else [])) (sym replicated) whole

-- lines after lines
pub joined : (old mid new : List ℕ) (ls ms : List (List ℕ)) → mid ≡ old ++ with_line_feeds ls → new ≡ mid ++ with_line_feeds ms → new ≡ old ++ with_line_feeds (ls ++ ms)
joined old mid new ls ms first second = rw (second, first, append_assoc, with_line_feeds-append ls ms) refl

pub one_more : (old mid new line : List ℕ) (ms : List (List ℕ)) → mid ≡ old ++ (line ++ 10 ∷ []) → new ≡ mid ++ with_line_feeds ms → new ≡ old ++ with_line_feeds (line ∷ ms)
one_more old mid new line ms first second = joined old mid new (line ∷ []) ms first second
