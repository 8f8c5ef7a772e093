-- Entries read one by one.
use Rattle.std.proofs.Common.{◌≡◌, ◌≢◌, inl, inr, ℕ, suc, ◌+◌, ◌<◌, ◌≤◌, ◌^◌, List, [], ◌∷◌, ◌++◌, length, get_or, take, drop, Ok, refl, sym, ap, ◌∙◌, append_assoc, append-nil, arith}
use Rattle.std.specs.Prelude.{◌==◌, nat_lt, Bool, true, false}
use Rattle.std.proofs.lemmas.Bool.Decides.{nat_tests}
use Rattle.std.specs.List.{flat_map}
use Rattle.std.proofs.lemmas.List.{take_all, take_more}
use Rattle.std.proofs.Math.ListN.{drop_of_length-le}
use Rattle.std.proofs.lemmas.List.Concat.{flat_map-cons}
use Rattle.std.proofs.Math.Seq.{drop-cons}
use Rattle.geo_base.specs.declared.entry.Entry.{Entry}
use Rattle.tiered_storage.specs.Readable.{AreReadable, IsReadable}
use Rattle.tiered_storage.specs.Reading.{entry_read, IsMiscounted}
use Rattle.tiered_storage.specs.Texts.{item_text, ledger_text}
use Rattle.tiered_storage.proofs.Back.{fails_alike}
use Rattle.tiered_storage.proofs.Each.{readable_here}
use Rattle.state_items.specs.declared.fault.ItemFault.{ItemFault}
use Rattle.state_items.specs.declared.rule.Rule.TheVariants as rule
use Rattle.state_items.specs.Reading.{Answer, Fails, Read, judge, number_at}
use Rattle.state_items.specs.Texts.{number, word}
use Rattle.state_items.proofs.Again.{number_again}
pub use Rattle.geo_base.proofs.Lists.{empty_by_length as ends}

-- of entries and more bytes after them so many entries were read, and the others are left
abbrev pub IsReadTo : List (List ℕ) → ℕ → List Entry → List ℕ → ℕ → List Entry → List ℕ → Type 0
IsReadTo names own es more i items rest = (items ≡ take i es) × (rest ≡ flat_map (item_text names own) (drop i es) ++ more)

abbrev pub given : {A : Type 0} → A → Answer A
given a = Ok a

abbrev pair_by : Entry → List ℕ → Entry × List ℕ
pair_by e x = (e, x)

abbrev pair_read : Entry × List ℕ → Read Entry
pair_read p = Ok p

same_pair : (p q : Entry × List ℕ) → pair_read p ≡ pair_read q → p ≡ q
same_pair p q h = cc

next_text : (names : List (List ℕ)) (own : ℕ) (es : List Entry) (more : List ℕ) (i : ℕ) (d : Entry) → i < length es
    → flat_map (item_text names own) (drop i es) ++ more ≡ item_text names own (get_or es i d) ++ (flat_map (item_text names own) (drop (i + 1) es) ++ more)
next_text names own es more i d l =
    let next : suc i ≡ i + 1 = omega arith in
    ap (λ (xs : List Entry). flat_map (item_text names own) xs ++ more) (drop-cons es i d l ∙ ap (λ (n : ℕ). get_or es i d ∷ drop n es) next)
    ∙ ap (λ (x : List ℕ). x ++ more) (flat_map-cons (item_text names own) (get_or es i d) (drop (i + 1) es))
    ∙ append_assoc (item_text names own (get_or es i d)) (flat_map (item_text names own) (drop (i + 1) es)) more

pub more_read : (names : List (List ℕ)) (own : ℕ) (es : List Entry) (more : List ℕ) (i : ℕ) (items new : List Entry) (e : Entry) (rest after : List ℕ) → AreReadable names own es → i < length es
    → IsReadTo names own es more i items rest
    → ((f : Entry) (left : List ℕ) → IsReadable names own f → rest ≡ item_text names own f ++ left → entry_read f left ≡ entry_read e after)
    → new ≡ items ++ e ∷ [] → IsReadTo names own es more (i + 1) new after
more_read names own es more i items new e rest after are l h gives is =
    let f = get_or es i e in
    let left = flat_map (item_text names own) (drop (i + 1) es) ++ more in
    let same = same_pair (pair_by f left) (pair_by e after) (gives f left (readable_here names own es i e are l) (h.1 ∙ next_text names own es more i e l)) in
    let first : f ≡ e = ap (λ (p : Entry × List ℕ). p.0) same in
    let second : left ≡ after = ap (λ (p : Entry × List ℕ). p.1) same in
    (is ∙ ap (λ (xs : List Entry). xs ++ e ∷ []) h.0 ∙ ap (λ (x : Entry). take i es ++ x ∷ []) (sym first) ∙ sym (take_more es i e l), sym second)

-- where an entry is not read, that is no fault of the bytes
pub none_read : (names : List (List ℕ)) (own : ℕ) (es : List Entry) (i : ℕ) (items : List Entry) (rest : List ℕ) (f : ItemFault) → AreReadable names own es → i < length es
    → IsReadTo names own es [] i items rest
    → ((e : Entry) (more : List ℕ) → IsReadable names own e → rest ≡ item_text names own e ++ more → Fails f (entry_read e more))
    → Fails f (given es)
none_read names own [] i items rest f are l h stops = absurd (omega (arith, l))
none_read names own (d ∷ ds) i items rest f are l h stops =
    let es : List Entry = d ∷ ds in
    let e = get_or es i d in
    let more = flat_map (item_text names own) (drop (i + 1) es) ++ [] in
    fails_alike f (entry_read e more) (pair_by e more) (given es) refl (stops e more (readable_here names own es i d are l) (h.1 ∙ next_text names own es [] i d l))

pub all_read : (names : List (List ℕ)) (own : ℕ) (es : List Entry) (more : List ℕ) (i : ℕ) (items : List Entry) (rest : List ℕ) → length es ≤ i → IsReadTo names own es more i items rest → given es ≡ given items
all_read names own es more i items rest l h = ap (λ (xs : List Entry). given xs) (sym (h.0 ∙ take_all i es l))

-- after the last one these bytes stand
pub last_left : (names : List (List ℕ)) (own : ℕ) (es : List Entry) (more : List ℕ) (i : ℕ) (items : List Entry) (rest : List ℕ) → length es ≤ i → IsReadTo names own es more i items rest → rest ≡ more
last_left names own es more i items rest l h = h.1 ∙ ap (λ (xs : List Entry). flat_map (item_text names own) xs ++ more) (drop_of_length-le es l)

-- before it something is left
some_text : (names : List (List ℕ)) (own : ℕ) (e : Entry) (left : List ℕ) → item_text names own e ++ left ≢ []
unfolding word
some_text names own e left h = cc

pub some_left : (names : List (List ℕ)) (own : ℕ) (es : List Entry) (more : List ℕ) (i : ℕ) (items : List Entry) (rest : List ℕ) → i < length es → IsReadTo names own es more i items rest → rest ≢ []
some_left names own [] more i items rest l h none = absurd (omega (arith, l))
some_left names own (d ∷ ds) more i items rest l h none =
    let es : List Entry = d ∷ ds in
    some_text names own (get_or es i d) (flat_map (item_text names own) (drop (i + 1) es) ++ more) (sym (h.1 ∙ next_text names own es more i d l) ∙ none)

-- the entries of a ledger's text and nothing more
pub with_none : (names : List (List ℕ)) (own : ℕ) (es : List Entry) (bytes : List ℕ) → bytes ≡ flat_map (item_text names own) es → bytes ≡ flat_map (item_text names own) es ++ []
with_none names own es bytes h = h ∙ sym (append-nil (flat_map (item_text names own) es))

pub is_end : (b : Bool) (rest : List ℕ) → b ≡ (length rest == 0) → rest ≡ [] → b ≡ true
is_end b rest h none = h ∙ ap (λ (xs : List ℕ). length xs == 0) none

pub no_end_fault : (holds : Bool) (rest : List ℕ) (f : ItemFault) (es : List Entry) → holds ≡ true → Fails f (judge holds rest rule.End) → Fails f (given es)
no_end_fault true rest f es is fails = fails_alike f (judge true rest rule.End) tt (given es) refl fails
no_end_fault false rest f es is fails = absurd (cc)

-- one that is read is not the last but one where the end is not reached
pub under_end : (i n : ℕ) → i ≤ n → (n ≤ i → ⊥) → i + 1 ≤ n
under_end i n within not = omega (arith, within, not)

pub ok_is_no_err : ◌≡◌ {A = Bool} false true → ⊥
ok_is_no_err h = cc

-- a wrong count does not come to its end
pub not_ended : (names : List (List ℕ)) (own : ℕ) (es : List Entry) (more : List ℕ) (count i : ℕ) (items : List Entry) (rest : List ℕ) → IsMiscounted (length es) count more → i ≡ count
    → (i ≤ length es → IsReadTo names own es more i items rest) → (more ≡ [] → i ≤ length es) → rest ≡ [] → ⊥
not_ended names own es more count i items rest (inl fewer) at to most none =
    let under : i < length es = omega (arith, fewer, at) in
    some_left names own es more i items rest under (to (omega (arith, under))) none
not_ended names own es more count i items rest (inr (inl all)) at to most none =
    let over : length es ≤ i = let many = all.0 in omega (arith, many, at) in
    let within : i ≤ length es = let many = all.0 in omega (arith, many, at) in
    all.1 (sym (last_left names own es more i items rest over (to within)) ∙ none)
not_ended names own es more count i items rest (inr (inr over)) at to most none =
    let within = most over.1 in let many = over.0 in absurd (omega (arith, within, many, at))

-- ---- a count, and the entries

abbrev pub count_by_rest : ℕ → List ℕ → ℕ × List ℕ
count_by_rest n rest = (n, rest)

abbrev pub count_read : ℕ × List ℕ → Read ℕ
count_read p = Ok p

same_count : (p q : ℕ × List ℕ) → count_read p ≡ count_read q → q ≡ p
same_count p q h = cc

pub counted_more : (n : ℕ) (bytes more : List ℕ) (count : ℕ) (rest : List ℕ) → n < 2 ^ 64 → bytes ≡ number n ++ more
    → number_at bytes ≡ count_read (count_by_rest count rest) → (count ≡ n) × (rest ≡ more)
counted_more n bytes more count rest few is read =
    let same = same_count (count_by_rest n more) (count_by_rest count rest) (sym (ap number_at is ∙ number_again n more few) ∙ read) in
    (ap (λ (p : ℕ × List ℕ). p.0) same, ap (λ (p : ℕ × List ℕ). p.1) same)

pub counted_after : (names : List (List ℕ)) (own : ℕ) (es : List Entry) (more bytes : List ℕ) (count : ℕ) (rest : List ℕ) → length es < 2 ^ 64 → bytes ≡ ledger_text names own es ++ more
    → number_at bytes ≡ count_read (count_by_rest count rest) → (count ≡ length es) × (rest ≡ flat_map (item_text names own) es ++ more)
unfolding ledger_text
counted_after names own es more bytes count rest few is read =
    counted_more (length es) bytes (flat_map (item_text names own) es ++ more) count rest few (is ∙ append_assoc (number (length es)) (flat_map (item_text names own) es) more) read

-- another count than that of the entries
miscounted_by : (k n count : ℕ) (b : Bool) → nat_lt count k ≡ b → n ≢ k → count ≡ n → IsMiscounted k count []
miscounted_by k n count true t other is = inl (grind (arith, nat_tests, t))
miscounted_by k n count false t other is = inr (inr ((let over : k ≤ count = grind (arith, nat_tests, t) in omega (arith, over, other, is)), refl))

pub miscounted : (k n count : ℕ) → n ≢ k → count ≡ n → IsMiscounted k count []
miscounted k n count other is = miscounted_by k n count (nat_lt count k) refl other is

counted_again : (names : List (List ℕ)) (own : ℕ) (es : List Entry) (bytes : List ℕ) → length es < 2 ^ 64 → bytes ≡ ledger_text names own es
    → number_at bytes ≡ count_read (count_by_rest (length es) (flat_map (item_text names own) es))
unfolding ledger_text
counted_again names own es bytes few is = ap number_at is ∙ number_again (length es) (flat_map (item_text names own) es) few

pub no_count : (names : List (List ℕ)) (own : ℕ) (es : List Entry) (bytes : List ℕ) (f : ItemFault) → length es < 2 ^ 64 → bytes ≡ ledger_text names own es → Fails f (number_at bytes) → Fails f (given es)
no_count names own es bytes f few is fails =
    fails_alike f (number_at bytes) (count_by_rest (length es) (flat_map (item_text names own) es)) (given es) (counted_again names own es bytes few is) fails

pub counted_is : (names : List (List ℕ)) (own : ℕ) (es : List Entry) (bytes : List ℕ) (count : ℕ) (rest : List ℕ) → length es < 2 ^ 64 → bytes ≡ ledger_text names own es
    → number_at bytes ≡ count_read (count_by_rest count rest) → (count ≡ length es) × (rest ≡ flat_map (item_text names own) es)
counted_is names own es bytes count rest few is read =
    let same = same_count (count_by_rest (length es) (flat_map (item_text names own) es)) (count_by_rest count rest) (sym (counted_again names own es bytes few is) ∙ read) in
    (ap (λ (p : ℕ × List ℕ). p.0) same, ap (λ (p : ℕ × List ℕ). p.1) same)
