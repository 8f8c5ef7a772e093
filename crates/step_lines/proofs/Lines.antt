-- Lines that stand to the right, one after another.
use Rattle.std.proofs.Common.{◌≡◌, ℕ, ◌+◌, ◌<◌, ◌≤◌, List, [], ◌∷◌, ◌++◌, length, map, drop, get_or, append_assoc, refl, sym, ◌∙◌, ap}
use Rattle.std.proofs.lemmas.List.{drop_all, drop_more}
use Rattle.std.proofs.lemmas.Option.{get_or_from_slice_get}
use Rattle.geo_base.specs.Broker.{Broker}
use Rattle.step_laws.specs.Steps.{ReportChange, change_line, other_replicators}
use Rattle.step_lines.specs.Noted.{replicator_told}
use Rattle.report_lines.proofs.Added.{drop_here}
use Rattle.std.specs.Prelude.{Some, slice_get}
use Rattle.geo_base.specs.declared.entry.Entry.{Entry}
use Rattle.geo_base.specs.Report.{entry_line, entry_lines}
use Rattle.geo_base.specs.Topic.{position_at}
use Rattle.step_lines.specs.declared.heads.Indent.{Indent}
use Rattle.step_lines.specs.Changes.{spaces, stood, stood_lines}
pub use Rattle.geo_base.proofs.Lists.{get_some_below as item}

pub next_line : (i : Indent) (line : List ℕ) (ls : List (List ℕ)) (old mid new : List ℕ) → mid ≡ old ++ spaces i → new ≡ mid ++ (line ++ 10 ∷ [])
    → new ++ stood_lines i ls ≡ old ++ stood_lines i (line ∷ ls)
next_line i line ls old mid new one two =
    let sp = spaces i in let rest = stood_lines i ls in
    ap (λ (t : List ℕ). t ++ rest) (two ∙ ap (λ (t : List ℕ). t ++ (line ++ 10 ∷ [])) one)
    ∙ (append_assoc (old ++ sp) (line ++ 10 ∷ []) rest
    ∙ (ap (λ (t : List ℕ). (old ++ sp) ++ t) (append_assoc line (10 ∷ []) rest)
    ∙ (append_assoc old sp (line ++ (10 ∷ rest)) ∙ ap (λ (t : List ℕ). old ++ t) (sym (append_assoc sp line (10 ∷ rest))))))

pub next_entry : (names : List (List ℕ)) (ledgers : List ℕ) (es : List Entry) (i : Indent) (k : ℕ) (old mid new all : List ℕ) → k < length es → mid ≡ old ++ spaces i
    → ((e : Entry) → slice_get es k ≡ Some e → new ≡ mid ++ (entry_line names (position_at ledgers k) e ++ 10 ∷ []))
    → old ++ stood_lines i (entry_lines names ledgers k (drop k es)) ≡ all → new ++ stood_lines i (entry_lines names ledgers (k + 1) (drop (k + 1) es)) ≡ all
next_entry names ledgers es i k old mid new all lt one two before =
    let e = item es k lt in
    next_line i (entry_line names (position_at ledgers k) e.0) (entry_lines names ledgers (k + 1) (drop (k + 1) es)) old mid new one (two e.0 e.1)
    ∙ (ap (λ (fs : List Entry). old ++ stood_lines i (entry_lines names ledgers k fs)) (sym (drop_here es k e.0 e.1)) ∙ before)

pub stood_both : (i : Indent) (xs ys : List ReportChange) → stood_lines i (map change_line (xs ++ ys)) ≡ stood_lines i (map change_line xs) ++ stood_lines i (map change_line ys)
stood_both i [] ys = refl
stood_both i (x ∷ xs) ys =
    let l = stood i (change_line x) in
    ap (λ (t : List ℕ). l ++ (10 ∷ t)) (stood_both i xs ys) ∙ sym (append_assoc l (10 ∷ stood_lines i (map change_line xs)) (stood_lines i (map change_line ys)))

-- changes more, of those that are left
pub next_changes : (i : Indent) (xs ys all : List ReportChange) (old new whole : List ℕ) → all ≡ xs ++ ys → new ≡ old ++ stood_lines i (map change_line xs)
    → old ++ stood_lines i (map change_line all) ≡ whole → new ++ stood_lines i (map change_line ys) ≡ whole
next_changes i xs ys all old new whole is told before =
    ap (λ (t : List ℕ). t ++ stood_lines i (map change_line ys)) told
    ∙ (append_assoc old (stood_lines i (map change_line xs)) (stood_lines i (map change_line ys))
    ∙ (ap (λ (t : List ℕ). old ++ t) (sym (stood_both i xs ys)) ∙ (ap (λ (cs : List ReportChange). old ++ stood_lines i (map change_line cs)) (sym is) ∙ before)))

pub replicators_next : (own k : ℕ) (names : List (List ℕ)) (n : List ℕ) (b a : Broker) → k < length names → n ≡ get_or names k n
    → other_replicators own k (drop k names) b a ≡ replicator_told own k n b a ++ other_replicators own (k + 1) (drop (k + 1) names) b a
replicators_next own k names n b a lt is =
    ap (λ (ns : List (List ℕ)). other_replicators own k ns b a) (drop_more names k n lt ∙ ap (λ (m : List ℕ). m ∷ drop (k + 1) names) (sym is))

-- a replicator of which nothing is told
pub none_told : (own k : ℕ) (names : List (List ℕ)) (b a : Broker) (whole : List ReportChange) → k < length names → ((n : List ℕ) → replicator_told own k n b a ≡ [])
    → other_replicators own k (drop k names) b a ≡ whole → other_replicators own (k + 1) (drop (k + 1) names) b a ≡ whole
none_told own k names b a whole lt none before =
    let n = item names k lt in
    ap (λ (cs : List ReportChange). cs ++ other_replicators own (k + 1) (drop (k + 1) names) b a) (sym (none n.0))
    ∙ (sym (replicators_next own k names n.0 b a lt (sym (get_or_from_slice_get names k n.0 n.0 n.1))) ∙ before)

pub none_left : (own k : ℕ) (names : List (List ℕ)) (b a : Broker) (whole : List ReportChange) → length names ≤ k → other_replicators own k (drop k names) b a ≡ whole → whole ≡ []
none_left own k names b a whole past before = sym before ∙ ap (λ (ns : List (List ℕ)). other_replicators own k ns b a) (drop_all k names past)
