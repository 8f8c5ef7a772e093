-- What is chosen of a topic's entries, one entry after another.
use Rattle.std.proofs.Common.{◌≡◌, ℕ, zero, suc, ◌+◌, ◌≤◌, Bool, true, false, List, [], ◌∷◌, ◌++◌, length, map, take, refl, sym, ap, subst, ◌∙◌, arith}
use Rattle.std.specs.Prelude.{Some, if◌then◌else◌, slice_get}
use Rattle.std.proofs.lemmas.Option.{none-some, same_Some, slice_get_within}
use Rattle.std.proofs.lemmas.List.{length-append, map-append, take_all}
use Rattle.geo_base.specs.declared.entry.Entry.{Entry}
use Rattle.geo_base.specs.Report.{with_line_feeds}
use Rattle.report_lines.proofs.Parts.{with_line_feeds-append}
use Rattle.loss_laws.specs.Lost.{chosen}
use Rattle.loss_laws.specs.LostLines.{name_line, name_lines}
use Rattle.world_measures.specs.Named.{IsNamed, NamedBook, picked}

step : (b : Bool) (a : Entry) (l m r : List Entry) → l ≡ m ++ r → (if b then a ∷ l else l) ≡ (if b then a ∷ m else m) ++ r
step true a l m r same = ap (λ (k : List Entry). a ∷ k) same
step false a l m r same = same

chosen_behind : (p : ℕ → Entry → Bool) (n : ℕ) (es : List Entry) (e : Entry) → chosen p n (es ++ e ∷ []) ≡ chosen p n es ++ picked (p (n + length es) e) e
chosen_behind p n [] e = ap (λ (k : ℕ). if p k e then e ∷ [] else []) (omega arith)
chosen_behind p n (a ∷ es) e =
    let same : (n + 1) + length es ≡ n + length (a ∷ es) = omega arith in
    step (p n a) a (chosen p (n + 1) (es ++ e ∷ [])) (chosen p (n + 1) es) (picked (p (n + length (a ∷ es)) e) e)
    (subst (λ (k : ℕ). chosen p (n + 1) (es ++ e ∷ []) ≡ chosen p (n + 1) es ++ picked (p k e) e) same (chosen_behind p (n + 1) es e))

pub take_more : (es : List Entry) (i : ℕ) (e : Entry) → slice_get es i ≡ Some e → take (i + 1) es ≡ take i es ++ e ∷ []
take_more [] i e at = absurd (none-some e at)
take_more (a ∷ es) zero e at = ap (λ (x : Entry). x ∷ []) (same_Some a e at)
take_more (a ∷ es) (suc i) e at =
    let more : suc (i + 1) ≡ suc i + 1 = omega arith in
    subst (λ (n : ℕ). take n (a ∷ es) ≡ a ∷ (take i es ++ e ∷ [])) more (ap (λ (l : List Entry). a ∷ l) (take_more es i e at))

long : (es : List Entry) (i : ℕ) → i ≤ length es → length (take i es) ≡ i
long es zero within = refl
long [] (suc i) within = absurd (omega (arith, within))
long (a ∷ es) (suc i) within = ap suc (long es i (omega (arith, within)))

-- one more entry
pub next_chosen : (p : ℕ → Entry → Bool) (es : List Entry) (i : ℕ) (e : Entry) → slice_get es i ≡ Some e
    → chosen p 0 (take (i + 1) es) ≡ chosen p 0 (take i es) ++ picked (p i e) e
next_chosen p es i e at =
    let within = slice_get_within es i e at in
    let same : 0 + length (take i es) ≡ i = let l = long es i (omega (arith, within)) in omega (arith, l) in
    ap (chosen p 0) (take_more es i e at)
    ∙ (chosen_behind p 0 (take i es) e ∙ ap (λ (k : ℕ). chosen p 0 (take i es) ++ picked (p k e) e) same)

-- and that it is named
pub next_named : (p : ℕ → Entry → Bool) (names : Bool) (clusters : List (List ℕ)) (es : List Entry) (i : ℕ) (e : Entry) (b : Bool) (old new : NamedBook)
    → slice_get es i ≡ Some e → b ≡ p i e
    → ((n : Bool) (fs : List Entry) → IsNamed n clusters fs old → IsNamed n clusters (fs ++ picked b e) new)
    → IsNamed names clusters (chosen p 0 (take i es)) old → IsNamed names clusters (chosen p 0 (take (i + 1) es)) new
next_named p names clusters es i e b old new at same more before =
    subst (λ (fs : List Entry). IsNamed names clusters fs new) (sym (next_chosen p es i e at))
    (subst (λ (c : Bool). IsNamed names clusters (chosen p 0 (take i es) ++ picked c e) new) same (more names (chosen p 0 (take i es)) before))

-- all of them
pub all_named : (p : ℕ → Entry → Bool) (names : Bool) (clusters : List (List ℕ)) (es : List Entry) (i : ℕ) (v : NamedBook) → length es ≤ i
    → IsNamed names clusters (chosen p 0 (take i es)) v → IsNamed names clusters (chosen p 0 es) v
all_named p names clusters es i v past h = subst (λ (fs : List Entry). IsNamed names clusters (chosen p 0 fs) v) (take_all i es past) h

-- one more is counted and named
wlf_one : (l : List ℕ) (ls : List (List ℕ)) → with_line_feeds (ls ++ l ∷ []) ≡ with_line_feeds ls ++ (l ++ 10 ∷ [])
wlf_one l ls = with_line_feeds-append ls (l ∷ [])

pub named_more : (clusters : List (List ℕ)) (b : Bool) (e : Entry) (old new : NamedBook) → b ≡ true → old.names ≡ true → new.count ≡ old.count + 1 → new.names ≡ old.names
    → new.lines ≡ old.lines ++ (name_line clusters e ++ 10 ∷ []) → (names : Bool) (es : List Entry) → IsNamed names clusters es old → IsNamed names clusters (es ++ picked b e) new
named_more clusters b e old new is_so with_names count same lines names es h =
    let is : names ≡ true = sym h.names_too ∙ with_names in
    let long : length (es ++ e ∷ []) ≡ length es + 1 = length-append es (e ∷ []) in
    let more : new.lines ≡ with_line_feeds (name_lines true clusters (es ++ e ∷ [])) =
    lines
    ∙ (ap (λ (l : List ℕ). l ++ (name_line clusters e ++ 10 ∷ [])) (h.lines ∙ ap (λ (n : Bool). with_line_feeds (name_lines n clusters es)) is)
    ∙ (sym (wlf_one (name_line clusters e) (map (name_line clusters) es)) ∙ ap with_line_feeds (sym (map-append (name_line clusters) es (e ∷ []))))) in
    subst (λ (c : Bool). IsNamed names clusters (es ++ picked c e) new) (sym is_so)
    (record {
      count = count ∙ (ap (λ (k : ℕ). k + 1) h.count ∙ sym long);
      names_too = same ∙ h.names_too;
      lines = subst (λ (n : Bool). new.lines ≡ with_line_feeds (name_lines n clusters (es ++ e ∷ []))) (sym is) more;
    })
