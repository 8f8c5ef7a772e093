-- Each entry of a ledger.
use Rattle.std.proofs.Common.{◌≡◌, ℕ, zero, suc, ◌+◌, ◌<◌, ◌≤◌, ◌^◌, List, [], ◌∷◌, length, get_or, take, ◌++◌, IfSome, Result, Ok, Err, sym, ap, ◌∙◌, subst, arith}
use Rattle.std.specs.Prelude.{OnOk}
use Rattle.std.specs.List.{flat_map}
use Rattle.std.proofs.lemmas.List.{append_assoc, append-nil, take_all, take_more}
use Rattle.std.proofs.lemmas.List.Concat.{flat_map-append}
use Rattle.geo_base.specs.declared.entry.Entry.{Entry}
use Rattle.state_items.specs.EntryTexts.{AreShort, HasTexts}
use Rattle.frame_values.specs.Texts.{marker_number}
use Rattle.tiered_storage.specs.Readable.{AreReadable, AreTellable, IsReadable, IsTellable}

pub readable_is : (names : List (List ℕ)) (own : ℕ) (e : Entry) → IsTellable names own e → HasTexts names own e → AreShort names own e → e.ident.origin < 2 ^ 32 → e.ident.seq < 2 ^ 64
    → IfSome (marker_number e.content) (λ k. k < 2 ^ 64) → length e.ident.producer < 2 ^ 32 → IsReadable names own e
readable_is names own e tellable texts short origin seq kind producer =
    record { tellable = tellable; texts = texts; short = short; origin = origin; seq = seq; kind = kind; producer = producer }

-- a text after another, of what writing the last of them answered
pub behind : {T E : Type 0} (r : Result T E) (old x y here new : List ℕ) → here ≡ old ++ x → OnOk r (new ≡ here ++ y) → OnOk r (new ≡ old ++ (x ++ y))
behind (Ok t) old x y here new is after = after ∙ ap (λ (xs : List ℕ). xs ++ y) is ∙ append_assoc old x y
behind (Err e) old x y here new is after = tt

pub tellable_here : (names : List (List ℕ)) (own : ℕ) (es : List Entry) (i : ℕ) (d : Entry) → AreTellable names own es → i < length es → IsTellable names own (get_or es i d)
tellable_here names own [] i d h l = absurd (omega (arith, l))
tellable_here names own (e ∷ es) zero d h l = h.0
tellable_here names own (e ∷ es) (suc i) d h l = tellable_here names own es i d h.1 (omega (arith, l))

pub readable_here : (names : List (List ℕ)) (own : ℕ) (es : List Entry) (i : ℕ) (d : Entry) → AreReadable names own es → i < length es → IsReadable names own (get_or es i d)
readable_here names own [] i d h l = absurd (omega (arith, l))
readable_here names own (e ∷ es) zero d h l = h.0
readable_here names own (e ∷ es) (suc i) d h l = readable_here names own es i d h.1 (omega (arith, l))

-- one entry more is written
pub written_more : (f : Entry → List ℕ) (es : List Entry) (i : ℕ) (d : Entry) (old here new : List ℕ) → i < length es → here ≡ old ++ flat_map f (take i es) → new ≡ here ++ f (get_or es i d) → new ≡ old ++ flat_map f (take (i + 1) es)
written_more f es i d old here new l is after =
    let next : flat_map f (take (i + 1) es) ≡ flat_map f (take i es) ++ f (get_or es i d) =
    ap (λ (xs : List Entry). flat_map f xs) (take_more es i d l) ∙ flat_map-append f (take i es) (get_or es i d ∷ []) ∙ ap (λ (t : List ℕ). flat_map f (take i es) ++ t) (append-nil (f (get_or es i d))) in
    after ∙ ap (λ (xs : List ℕ). xs ++ f (get_or es i d)) is ∙ append_assoc old (flat_map f (take i es)) (f (get_or es i d)) ∙ ap (λ (t : List ℕ). old ++ t) (sym next)

-- one entry more is readable
pub readable_more : (names : List (List ℕ)) (own : ℕ) (es : List Entry) (i : ℕ) (d : Entry) → i < length es → AreReadable names own (take i es) → IsReadable names own (get_or es i d) → AreReadable names own (take (i + 1) es)
readable_more names own [] i d l h k = absurd (omega (arith, l))
readable_more names own (e ∷ es) zero d l h k = (k, tt)
readable_more names own (e ∷ es) (suc i) d l h k =
    let all : AreReadable names own (take (suc (i + 1)) (e ∷ es)) = (h.0, readable_more names own es i d (omega (arith, l)) h.1 k) in
    let next : suc (i + 1) ≡ suc i + 1 = omega arith in
    subst (λ (n : ℕ). AreReadable names own (take n (e ∷ es))) next all

pub all_readable : (names : List (List ℕ)) (own : ℕ) (es : List Entry) (i : ℕ) → length es ≤ i → AreReadable names own (take i es) → AreReadable names own es
all_readable names own es i l h = subst (λ (xs : List Entry). AreReadable names own xs) (take_all i es l) h

-- what is readable tells itself
pub tellable_all : (names : List (List ℕ)) (own : ℕ) (es : List Entry) → AreReadable names own es → AreTellable names own es
tellable_all names own [] h = tt
tellable_all names own (e ∷ es) h = (h.0.tellable, tellable_all names own es h.1)
