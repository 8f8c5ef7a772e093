-- Lines that are appended one after another: what each leaves of the whole.
use Rattle.std.proofs.Common.{◌≡◌, ℕ, suc, zero, ◌+◌, ◌<◌, ◌≤◌, List, [], ◌∷◌, ◌++◌, drop, take, length, sym, ◌∙◌, append_assoc, arith}
use Rattle.std.proofs.Math.ListN.{drop_of_length-le}
use Rattle.std.proofs.lemmas.List.{append-nil}
use Rattle.std.specs.Prelude.{Some, slice_get}
use Rattle.geo_base.specs.declared.entry.Entry.{Entry}
use Rattle.geo_base.specs.Report.{entry_line, entry_lines, with_line_feeds}
use Rattle.geo_base.specs.Topic.{position_at}
use Rattle.report_lines.proofs.Standing.{still_stands}
use Rattle.geo_base.proofs.Lists.{get_some_below}

-- one line of those that are left
pub line_added : (old new line whole : List ℕ) (rest : List (List ℕ)) → new ≡ old ++ (line ++ 10 ∷ [])
    → old ++ with_line_feeds (line ∷ rest) ≡ whole → new ++ with_line_feeds rest ≡ whole
line_added old new line whole rest added before = rw added (simp append_assoc before)

-- the items from an index on are the one there and those after it
pub drop_here : {X : Type 0} (xs : List X) (i : ℕ) (x : X) → slice_get xs i ≡ Some x → drop i xs ≡ x ∷ drop (i + 1) xs
drop_here [] i x h = cc
drop_here (y ∷ xs) zero x h = cc
drop_here (y ∷ xs) (suc i) x h = let e : suc i + 1 ≡ suc (i + 1) = omega arith in rw e (drop_here xs i x h)

pub entry_added : (names : List (List ℕ)) (ledgers : List ℕ) (entries : List Entry) (i : ℕ) (e : Entry) (old new whole : List ℕ)
    → slice_get entries i ≡ Some e → new ≡ old ++ (entry_line names (position_at ledgers i) e ++ 10 ∷ [])
    → old ++ with_line_feeds (entry_lines names ledgers i (drop i entries)) ≡ whole
    → new ++ with_line_feeds (entry_lines names ledgers (i + 1) (drop (i + 1) entries)) ≡ whole
entry_added names ledgers entries i e old new whole here added before =
    line_added old new (entry_line names (position_at ledgers i) e) whole (entry_lines names ledgers (i + 1) (drop (i + 1) entries)) added
    (rw (drop_here entries i e here) at before)

-- the entry at an index that is there
pub next_added : (names : List (List ℕ)) (ledgers : List ℕ) (entries : List Entry) (i : ℕ) (old new whole : List ℕ) → i < length entries
    → ((e : Entry) → slice_get entries i ≡ Some e → new ≡ old ++ (entry_line names (position_at ledgers i) e ++ 10 ∷ []))
    → old ++ with_line_feeds (entry_lines names ledgers i (drop i entries)) ≡ whole
    → new ++ with_line_feeds (entry_lines names ledgers (i + 1) (drop (i + 1) entries)) ≡ whole
next_added names ledgers entries i old new whole within added before =
    let e = get_some_below entries i within in entry_added names ledgers entries i e.0 old new whole e.1 (added e.0 e.1) before

-- and what stood before it stands
pub next_stands : (names : List (List ℕ)) (ledgers : List ℕ) (entries : List Entry) (i : ℕ) (first old new : List ℕ) → i < length entries
    → ((e : Entry) → slice_get entries i ≡ Some e → new ≡ old ++ (entry_line names (position_at ledgers i) e ++ 10 ∷ []))
    → take (length first) old ≡ first → take (length first) new ≡ first
next_stands names ledgers entries i first old new within added stands =
    let e = get_some_below entries i within in still_stands first old new (entry_line names (position_at ledgers i) e.0 ++ 10 ∷ []) (added e.0 e.1) stands

-- after the last one there is none
pub all_added : (names : List (List ℕ)) (ledgers : List ℕ) (entries : List Entry) (i : ℕ) (new whole : List ℕ) → length entries ≤ i
    → new ++ with_line_feeds (entry_lines names ledgers i (drop i entries)) ≡ whole → new ≡ whole
all_added names ledgers entries i new whole past before = sym (append-nil new) ∙ (rw (drop_of_length-le entries past) at before)
