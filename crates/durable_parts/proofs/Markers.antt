-- The next own marker's sequence id, entry by entry.
use Rattle.std.proofs.Common.{◌≡◌, ◌∙◌, ℕ, ◌+◌, ◌-◌, ◌^◌, ◌<◌, ◌≤◌, max, min, Bool, true, false, List, [], ◌∷◌, ◌++◌, length, get_or, take, refl, ap, sym, arith}
use Rattle.std.specs.Prelude.{Some, None, if◌then◌else◌, slice_get}
use Rattle.std.proofs.lemmas.List.{take_all, take_more}
use Rattle.std.proofs.lemmas.Option.{slice_get-get_or}
use Rattle.geo_base.specs.declared.entry.Entry.{Entry}
use Rattle.geo_base.specs.Entry.{is_own_marker}
use Rattle.geo_base.specs.Topic.{next_marker}

-- one more entry at the end
abbrev pub next_with : ℕ → Entry → ℕ → ℕ
next_with own e next = if is_own_marker own e then max (e.ident.seq + 1) next else next

swapped : (own : ℕ) (d e : Entry) (n : ℕ) (b c : Bool) → (if b then max (d.ident.seq + 1) (if c then max (e.ident.seq + 1) n else n) else (if c then max (e.ident.seq + 1) n else n)) ≡ (if c then max (e.ident.seq + 1) (if b then max (d.ident.seq + 1) n else n) else (if b then max (d.ident.seq + 1) n else n))
swapped own d e n true true = omega arith
swapped own d e n true false = refl
swapped own d e n false c = refl

pub next_marker-push : (own : ℕ) (es : List Entry) (e : Entry) → next_marker own (es ++ e ∷ []) ≡ next_with own e (next_marker own es)
next_marker-push own [] e = refl
next_marker-push own (d ∷ es) e =
    ap (λ (n : ℕ). next_with own d n) (next_marker-push own es e)
    ∙ swapped own d e (next_marker own es) (is_own_marker own d) (is_own_marker own e)

next_entry : (es : List Entry) (i : ℕ) (e : Entry) → i < length es → slice_get es i ≡ Some e → take (i + 1) es ≡ take i es ++ e ∷ []
next_entry es i e h s =
    let here : Some e ≡ Some (get_or es i e) = sym s ∙ slice_get-get_or es i e h in
    let same : e ≡ get_or es i e = cc in
    take_more es i e h ∙ ap (λ (x : Entry). take i es ++ x ∷ []) (sym same)

capped : (s n : ℕ) (b : Bool) → min (if b then max (s + 1) n else n) (2 ^ 64 - 1) ≡ (if b then max (min n (2 ^ 64 - 1)) (min (s + 1) (2 ^ 64 - 1)) else min n (2 ^ 64 - 1))
capped s n true = omega arith
capped s n false = refl

pub one_more : (own : ℕ) (es : List Entry) (i : ℕ) (e : Entry) → i < length es → slice_get es i ≡ Some e → min (next_marker own (take (i + 1) es)) (2 ^ 64 - 1) ≡ (if is_own_marker own e then max (min (next_marker own (take i es)) (2 ^ 64 - 1)) (min (e.ident.seq + 1) (2 ^ 64 - 1)) else min (next_marker own (take i es)) (2 ^ 64 - 1))
one_more own es i e h s =
    let next : next_marker own (take (i + 1) es) ≡ next_with own e (next_marker own (take i es)) =
    ap (λ (xs : List Entry). next_marker own xs) (next_entry es i e h s) ∙ next_marker-push own (take i es) e in
    ap (λ (m : ℕ). min m (2 ^ 64 - 1)) next ∙ capped e.ident.seq (next_marker own (take i es)) (is_own_marker own e)

-- something stands at each index
pub none_here : (es : List Entry) (i : ℕ) → i < length es → slice_get es i ≡ None → ⊥
none_here [] i h s = absurd (omega arith)
none_here (e ∷ es) i h s = let there = slice_get-get_or (e ∷ es) i e h in absurd (cc)

pub all_read : (own : ℕ) (es : List Entry) (i : ℕ) → length es ≤ i → next_marker own (take i es) ≡ next_marker own es
all_read own es i h = ap (λ (xs : List Entry). next_marker own xs) (take_all i es h)
