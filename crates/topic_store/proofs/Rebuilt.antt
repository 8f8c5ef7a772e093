-- A table made anew, entry by entry.
use Rattle.std.proofs.Common.{◌≡◌, ℕ, ◌+◌, ◌<◌, ◌≤◌, List, [], ◌∷◌, ◌++◌, length, get_or, take, ap, sym, ◌∙◌, arith}
use Rattle.std.specs.Prelude.{Some, None, slice_get}
use Rattle.std.proofs.lemmas.List.{take_all, take_more}
use Rattle.std.proofs.lemmas.Option.{slice_get-get_or}
use Rattle.geo_base.specs.declared.entry.Entry.{Entry}
use Rattle.topic_store.specs.Table.{Row, Tells}

next_entry : (es : List Entry) (i : ℕ) (e : Entry) → i < length es → slice_get es i ≡ Some e → take (i + 1) es ≡ take i es ++ e ∷ []
next_entry es i e h s =
    let here : Some e ≡ Some (get_or es i e) = sym s ∙ slice_get-get_or es i e h in
    let same : e ≡ get_or es i e = cc in
    take_more es i e h ∙ ap (λ x. take i es ++ x ∷ []) (sym same)

pub one_more : (rows : List Row) (es : List Entry) (i : ℕ) (e : Entry) → i < length es → slice_get es i ≡ Some e → Tells rows (take i es ++ e ∷ []) → Tells rows (take (i + 1) es)
one_more rows es i e h s t = rw (next_entry es i e h s) t

-- something stands at each index
pub none_here : (rows : List Row) (es : List Entry) (i : ℕ) → i < length es → slice_get es i ≡ None → Tells rows (take (i + 1) es)
none_here rows [] i h s = absurd (omega arith)
none_here rows (e ∷ es) i h s = let there = slice_get-get_or (e ∷ es) i e h in absurd (cc)

pub all_told : (rows : List Row) (es : List Entry) (i : ℕ) → length es ≤ i → Tells rows (take i es) → Tells rows es
all_told rows es i h t = rw (take_all i es h) at t
