-- What is found at each place of a list, place by place.
use Rattle.std.proofs.Common.{◌≡◌, ℕ, zero, suc, ◌+◌, ◌-◌, ◌<◌, ◌≤◌, Bool, true, false, List, [], ◌∷◌, ◌++◌, length, take, drop, append_assoc, refl, sym, ap, ◌∙◌, arith}
use Rattle.std.specs.Prelude.{Some, slice_get, slice_index_or}
use Rattle.std.proofs.Math.ListN.{drop_of_length-le}
use Rattle.std.proofs.lemmas.List.{append-nil, drop_more, take_more}
use Rattle.std.proofs.lemmas.Option.{same_Some, slice_get_within}
use Rattle.geo_base.proofs.Lists.{get_some_below}
use Rattle.observation.specs.declared.finding.Finding.{Finding}
use Rattle.observation.specs.Findings.{each_at, unless}

get_is : {A : Type 0} (xs : List A) (i : ℕ) (d : A) → i < length xs → slice_get xs i ≡ Some (slice_index_or xs i d)
get_is [] i d lt = absurd (omega (arith, lt))
get_is (x ∷ xs) zero d lt = refl
get_is (x ∷ xs) (suc i) d lt = get_is xs i d (omega (arith, lt))

-- the item at a place, and those after it
index_is : {A : Type 0} (xs : List A) (i : ℕ) (a : A) → slice_get xs i ≡ Some a → slice_index_or xs i a ≡ a
index_is xs i a at = same_Some (slice_index_or xs i a) a (sym (get_is xs i a (slice_get_within xs i a at)) ∙ at)

pub get_at : {A : Type 0} (xs : List A) (i : ℕ) (a : A) → slice_get xs i ≡ Some a → drop i xs ≡ a ∷ drop (i + 1) xs
get_at xs i a at = drop_more xs i a (slice_get_within xs i a at) ∙ ap (λ y. y ∷ drop (i + 1) xs) (index_is xs i a at)

pub take_more_at : {A : Type 0} (xs : List A) (i : ℕ) (a : A) → slice_get xs i ≡ Some a → take (i + 1) xs ≡ take i xs ++ a ∷ []
take_more_at xs i a at = take_more xs i a (slice_get_within xs i a at) ∙ ap (λ y. take i xs ++ y ∷ []) (index_is xs i a at)

each_step : {A : Type 0} (f : ℕ → A → List Finding) (n : ℕ) (xs : List A) (i : ℕ) (a : A) → slice_get xs i ≡ Some a → each_at f n (drop i xs) ≡ f n a ++ each_at f (n + 1) (drop (i + 1) xs)
each_step f n xs i a at = ap (λ ys. each_at f n ys) (get_at xs i a at)

-- what was found so far, and what is found at the places that are left, is all
pub record FoundTo {A : Type 0} (f : ℕ → A → List Finding) (xs : List A) (old found : List Finding) (i : ℕ) : Type 0 where
  pub all : found ++ each_at f i (drop i xs) ≡ old ++ each_at f 0 xs

pub each_none : {A : Type 0} (f : ℕ → A → List Finding) (xs : List A) (old : List Finding) → FoundTo f xs old old 0
each_none f xs old = record { all = refl }

pub each_more : {A : Type 0} (f : ℕ → A → List Finding) (xs : List A) (old found found' : List Finding) (i : ℕ) (a : A) → FoundTo f xs old found i → slice_get xs i ≡ Some a → found' ≡ found ++ f i a
    → FoundTo f xs old found' (i + 1)
each_more f xs old found found' i a h at is = record {
  all =
      ap (λ (gs : List Finding). gs ++ each_at f (i + 1) (drop (i + 1) xs)) is
      ∙ (append_assoc found (f i a) (each_at f (i + 1) (drop (i + 1) xs))
      ∙ (ap (λ (gs : List Finding). found ++ gs) (sym (each_step f i xs i a at)) ∙ h.all));
}

-- where what is found is told by the place alone
pub number_more : {A : Type 0} (f : ℕ → List Finding) (xs : List A) (old found found' : List Finding) (i : ℕ) → FoundTo (λ k (a : A). f k) xs old found i → i < length xs → found' ≡ found ++ f i
    → FoundTo (λ k (a : A). f k) xs old found' (i + 1)
number_more f xs old found found' i h lt is = let a = get_some_below xs i lt in each_more (λ k a. f k) xs old found found' i a.0 h a.1 is

pub each_all : {A : Type 0} (f : ℕ → A → List Finding) (xs : List A) (old found : List Finding) (i : ℕ) → FoundTo f xs old found i → length xs ≤ i → found ≡ old ++ each_at f 0 xs
each_all f xs old found i h le = sym (append-nil found) ∙ (ap (λ ys. found ++ each_at f i ys) (sym (drop_of_length-le xs le)) ∙ h.all)

-- one finding, or none
pub one_found : (holds : Bool) (f : Finding) (old new : List Finding) → holds ≡ false → new ≡ old ++ f ∷ [] → new ≡ old ++ unless holds f
one_found holds f old new fails is = is ∙ ap (λ (b : Bool). old ++ unless b f) (sym fails)

pub none_found : (holds : Bool) (f : Finding) (old : List Finding) → holds ≡ true → old ≡ old ++ unless holds f
none_found holds f old is = sym (append-nil old) ∙ ap (λ (b : Bool). old ++ unless b f) (sym is)

pub nothing_found : (old : List Finding) → old ≡ old ++ []
nothing_found old = sym (append-nil old)

-- what eight rules find, one after another
joined : (w x y z : List Finding) → x ≡ w ++ y → x ++ z ≡ w ++ (y ++ z)
joined w x y z is = ap (λ (gs : List Finding). gs ++ z) is ∙ append_assoc w y z

pub eight_found : (a b c d e f g h f1 f2 f3 f4 f5 f6 f7 f8 : List Finding) → f1 ≡ [] ++ a → f2 ≡ f1 ++ b → f3 ≡ f2 ++ c → f4 ≡ f3 ++ d → f5 ≡ f4 ++ e → f6 ≡ f5 ++ f → f7 ≡ f6 ++ g → f8 ≡ f7 ++ h
    → f8 ≡ a ++ (b ++ (c ++ (d ++ (e ++ (f ++ (g ++ h))))))
eight_found a b c d e f g h f1 f2 f3 f4 f5 f6 f7 f8 i1 i2 i3 i4 i5 i6 i7 i8 =
    i8 ∙ (joined f6 f7 g h i7 ∙ (joined f5 f6 f (g ++ h) i6 ∙ (joined f4 f5 e (f ++ (g ++ h)) i5 ∙ (joined f3 f4 d (e ++ (f ++ (g ++ h))) i4
    ∙ (joined f2 f3 c (d ++ (e ++ (f ++ (g ++ h)))) i3 ∙ (joined f1 f2 b (c ++ (d ++ (e ++ (f ++ (g ++ h))))) i2 ∙ joined [] f1 a (b ++ (c ++ (d ++ (e ++ (f ++ (g ++ h)))))) i1))))))

-- the item at a place of a list that is told otherwise
pub item_at : {A : Type 0} (xs ys : List A) (i : ℕ) (a : A) → ys ≡ xs → i < length ys → a ≡ slice_index_or ys i a → slice_get xs i ≡ Some a
item_at xs ys i a same lt is = sym (ap (λ zs. slice_get zs i) same) ∙ (get_is ys i a lt ∙ ap Some (sym is))
