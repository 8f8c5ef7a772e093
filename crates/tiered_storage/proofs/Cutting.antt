-- A list cut into ledgers.
use Rattle.std.proofs.Common.{◌≡◌, ℕ, zero, suc, ◌+◌, ◌-◌, ◌<◌, ◌≤◌, ◌^◌, nat_lt, Bool, true, false, List, [], ◌∷◌, ◌++◌, length, get_or, take, drop, map, refl, sym, ap, ◌∙◌, arith}
use Rattle.std.specs.Prelude.{Option, Some, None, if◌then◌else◌, slice_get}
use Rattle.std.specs.List.{count_by, sum}
use Rattle.std.proofs.lemmas.List.{length-drop, length-take, length-take-le, length_push, take_all, take_more}
use Rattle.std.proofs.lemmas.Option.{get_or_from_slice_get, slice_get_within}
use Rattle.std.proofs.lemmas.List.Sums.{sum_by-cons}
use Rattle.geo_base.specs.declared.entry.Entry.{Entry}
use Rattle.geo_base.specs.declared.position.Position.{Position}
use Rattle.geo_base.specs.Topic.{last_length, next_position}
use Rattle.tiered_storage.specs.Readable.{AreTellable}
use Rattle.tiered_storage.specs.Kept.{Kept}
use Rattle.topic_store.specs.Firsts.{lengths_of}
use Rattle.tiered_storage.specs.declared.part.Part.{Part}
use Rattle.tiered_storage.specs.declared.part.Part.TheVariants as part
use Rattle.tiered_storage.specs.Calls.{is_away}
use Rattle.tiered_storage.specs.Ledgers.{entries_in}
use Rattle.tiered_storage.specs.Tiered.{Holds, IsPart, Tiered, all_here, fresh, part_length}

-- ---- each ledger is a part of the list

pub ledger_short : (ls : List ℕ) (es : List Entry) (k : ℕ) → length (entries_in ls es k) ≤ length es
ledger_short [] es k = omega arith
ledger_short (l ∷ ls) es zero = let few = length-take l es in omega (arith, few)
ledger_short (l ∷ ls) es (suc k) =
    let rest = ledger_short ls (drop l es) k in
    let few = length-drop l es in
    omega (arith, rest, few)

taken_tellable : (names : List (List ℕ)) (own n : ℕ) (es : List Entry) → AreTellable names own es → AreTellable names own (take n es)
taken_tellable names own zero es h = tt
taken_tellable names own (suc n) [] h = tt
taken_tellable names own (suc n) (e ∷ es) h = (h.0, taken_tellable names own n es h.1)

dropped_tellable : (names : List (List ℕ)) (own n : ℕ) (es : List Entry) → AreTellable names own es → AreTellable names own (drop n es)
dropped_tellable names own zero es h = h
dropped_tellable names own (suc n) [] h = tt
dropped_tellable names own (suc n) (e ∷ es) h = dropped_tellable names own n es h.1

pub ledger_tellable : (names : List (List ℕ)) (own : ℕ) (ls : List ℕ) (es : List Entry) (k : ℕ) → AreTellable names own es → AreTellable names own (entries_in ls es k)
ledger_tellable names own [] es k h = tt
ledger_tellable names own (l ∷ ls) es zero h = taken_tellable names own l es h
ledger_tellable names own (l ∷ ls) es (suc k) h = ledger_tellable names own ls (drop l es) k (dropped_tellable names own l es h)

-- ---- all ledgers

pub parts_many : (ls : List ℕ) (es : List Entry) → length (all_here ls es) ≡ length ls
parts_many [] es = refl
parts_many (l ∷ ls) es = ap suc (parts_many ls (drop l es))

part_is : (ls : List ℕ) (es : List Entry) (k : ℕ) (d : Part) → k < length ls → get_or (all_here ls es) k d ≡ part.Here (entries_in ls es k)
part_is [] es k d h = absurd (omega (arith, h))
part_is (l ∷ ls) es zero d h = refl
part_is (l ∷ ls) es (suc k) d h = part_is ls (drop l es) k d (omega (arith, h))

-- one ledger more is cut
pub part_more : (ls : List ℕ) (es : List Entry) (k : ℕ) → k < length ls → take (k + 1) (all_here ls es) ≡ take k (all_here ls es) ++ part.Here (entries_in ls es k) ∷ []
part_more ls es k h =
    let many = parts_many ls es in
    take_more (all_here ls es) k part.Away (omega (arith, h, many))
    ∙ ap (λ (p : Part). take k (all_here ls es) ++ p ∷ []) (part_is ls es k part.Away h)

pub lengths_here : (ls : List ℕ) (es : List Entry) → sum ls ≡ length es → map part_length (all_here ls es) ≡ ls
lengths_here [] es h = refl
lengths_here (l ∷ ls) es h =
    let cons : sum (l ∷ ls) ≡ l + sum ls = sum_by-cons (λ (n : ℕ). n) l ls in
    let long : l ≤ length es = omega (arith, cons, h) in
    let here : length (take l es) ≡ l = length-take-le l es long in
    let few = length-drop l es in
    let rest : sum ls ≡ length (drop l es) = omega (arith, cons, h, few) in
    ap (λ (n : ℕ). n ∷ map part_length (all_here ls (drop l es))) here
    ∙ ap (λ (ns : List ℕ). l ∷ ns) (lengths_here ls (drop l es) rest)

pub none_away : (ls : List ℕ) (es : List Entry) → count_by is_away (all_here ls es) ≡ 0
none_away [] es = refl
none_away (l ∷ ls) es = none_away ls (drop l es)

-- ---- a topic of which nothing is offloaded

some_part : (p q : Part) → ◌≡◌ {A = Option Part} (Some p) (Some q) → p ≡ q
some_part p q h = cc

here_part : (names : List (List ℕ)) (own : ℕ) (kept : Kept) (ls : List ℕ) (es : List Entry) (j k : ℕ) (p : Part) → slice_get (all_here ls es) k ≡ Some p → IsPart names own kept j (entries_in ls es k) p
here_part names own kept [] es j k p h = absurd (cc)
here_part names own kept (l ∷ ls) es j zero (part.Here xs) h = let same : part.Here xs ≡ part.Here (take l es) = sym (some_part (part.Here (take l es)) (part.Here xs) h) in cc
here_part names own kept (l ∷ ls) es j zero part.Away h = absurd (let same : part.Here (take l es) ≡ part.Away = some_part (part.Here (take l es)) part.Away h in cc)
here_part names own kept (l ∷ ls) es j (suc k) p h = here_part names own kept ls (drop l es) j k p h

abbrev opened : ℕ → ℕ → Position
opened ledger entry = record { ledger = ledger; entry = entry }

opened_by : (n e : ℕ) (b : Bool) → (if b then opened (n - 1) e else opened n 0).ledger ≤ n
opened_by n e true = omega arith
opened_by n e false = omega arith

open_within : (per : ℕ) (ls : List ℕ) → (next_position per ls).ledger ≤ length ls
open_within per ls = opened_by (length ls) (last_length ls) (nat_lt (last_length ls) per)

pub fresh_holds : {T : Type 0} (names : List (List ℕ)) (kept : T → Kept) (own per : ℕ) (ls : List ℕ) (es : List Entry) (tier : T) → sum ls ≡ length es → length es < 2 ^ 64 → AreTellable names own es
    → Holds names kept es (fresh own per ls es tier)
fresh_holds names kept own per ls es tier counted few tellable =
    let many = parts_many ls es in
    let low = open_within per ls in
    record {
      counted = counted;
      few = few;
      many = many;
      closed = omega (arith, many, low);
      tellable = tellable;
      parts = λ k p h. here_part names own (kept tier) ls es k k p h;
      recalled = tt;
    }

pub lengths_are : (ls : List ℕ) (es : List Entry) (parts slice : List Part) (lengths numbers : List ℕ) → parts ≡ all_here ls es → slice ≡ parts → lengths ≡ map part_length slice → numbers ≡ lengths
    → sum ls ≡ length es → numbers ≡ ls
lengths_are ls es parts slice lengths numbers h i j k counted = k ∙ j ∙ ap (map part_length) (i ∙ h) ∙ lengths_here ls es counted

pub fresh_is : {T : Type 0} (own per : ℕ) (ls : List ℕ) (es : List Entry) (tier : T) (firsts numbers : List ℕ) (len : ℕ) (at : Position) (parts : List Part) → parts ≡ all_here ls es → numbers ≡ ls
    → sum ls ≡ length es → len ≡ length es → lengths_of firsts (sum numbers) ≡ numbers → at ≡ next_position per ls
    → ◌≡◌ {A = Tiered T} (record { own = own; ledgers = lengths_of firsts len; unclosed = at.ledger; parts = parts; recalled = None; tier = tier }) (fresh own per ls es tier)
fresh_is own per ls es tier firsts numbers len at parts h same counted long lengths next =
    let cut : lengths_of firsts len ≡ ls = ap (lengths_of firsts) (long ∙ sym counted ∙ ap sum (sym same)) ∙ lengths ∙ same in
    rw (cut, next, h) refl

-- ---- a ledger is copied, entry by entry

pub copied_more : (xs copies new : List Entry) (n : ℕ) (e f : Entry) → copies ≡ take (length copies) xs → n ≡ length copies → ◌≡◌ {A = Option Entry} (Some e) (slice_get xs n) → f ≡ e → new ≡ copies ++ f ∷ []
    → new ≡ take (length new) xs
copied_more xs copies new n e f h at found same is =
    let there : slice_get xs (length copies) ≡ Some e = ap (slice_get xs) (sym at) ∙ sym found in
    let within = slice_get_within xs (length copies) e there in
    let more : length new ≡ length copies + 1 = ap (λ (ys : List Entry). length ys) is ∙ length_push copies f in
    is ∙ ap (λ (ys : List Entry). ys ++ f ∷ []) h ∙ ap (λ (x : Entry). take (length copies) xs ++ x ∷ []) (same ∙ sym (get_or_from_slice_get xs (length copies) e e there))
    ∙ sym (take_more xs (length copies) e within) ∙ ap (λ (m : ℕ). take m xs) (sym more)

none_past : (xs : List Entry) (n : ℕ) → slice_get xs n ≡ None → length xs ≤ n
none_past [] n h = omega arith
none_past (x ∷ xs) zero h = absurd (cc)
none_past (x ∷ xs) (suc n) h = let rest = none_past xs n h in omega (arith, rest)

pub copied_all : (xs copies : List Entry) (n : ℕ) → copies ≡ take (length copies) xs → n ≡ length copies → slice_get xs n ≡ None → copies ≡ xs
copied_all xs copies n h at none =
    let past = none_past xs n none in
    h ∙ take_all (length copies) xs (omega (arith, past, at))

pub copied_fewer : (xs copies new : List Entry) (n : ℕ) (e f : Entry) → n ≡ length copies → ◌≡◌ {A = Option Entry} (Some e) (slice_get xs n) → new ≡ copies ++ f ∷ []
    → length xs - length new < length xs - length copies
copied_fewer xs copies new n e f at found is =
    let within = slice_get_within xs (length copies) e (ap (slice_get xs) (sym at) ∙ sym found) in
    let more : length new ≡ length copies + 1 = ap (λ (ys : List Entry). length ys) is ∙ length_push copies f in
    omega (arith, within, more)

-- ---- the lengths of the parts, one by one

lengths_push : (ps : List Part) (p : Part) → map part_length (ps ++ p ∷ []) ≡ map part_length ps ++ part_length p ∷ []
lengths_push [] p = refl
lengths_push (q ∷ ps) p = ap (λ (ns : List ℕ). part_length q ∷ ns) (lengths_push ps p)

pub lengths_more : (ps : List Part) (i : ℕ) (d p : Part) (ns new : List ℕ) (n : ℕ) → i < length ps → p ≡ get_or ps i d → ns ≡ map part_length (take i ps) → n ≡ part_length p → new ≡ ns ++ n ∷ []
    → new ≡ map part_length (take (i + 1) ps)
lengths_more ps i d p ns new n lt there h at is =
    is ∙ ap (λ (ms : List ℕ). ms ++ n ∷ []) h ∙ ap (λ (m : ℕ). map part_length (take i ps) ++ m ∷ []) (at ∙ ap part_length there) ∙ sym (lengths_push (take i ps) (get_or ps i d))
    ∙ ap (map part_length) (sym (take_more ps i d lt))

pub lengths_all : (ps : List Part) (i : ℕ) (ns : List ℕ) → length ps ≤ i → ns ≡ map part_length (take i ps) → ns ≡ map part_length ps
lengths_all ps i ns past h = h ∙ ap (map part_length) (take_all i ps past)

-- ---- and the parts themselves

pub parts_more : (ls : List ℕ) (es xs : List Entry) (i : ℕ) (ps new : List Part) → i < length ls → ps ≡ take i (all_here ls es) → xs ≡ entries_in ls es i → new ≡ ps ++ part.Here xs ∷ []
    → new ≡ take (i + 1) (all_here ls es)
parts_more ls es xs i ps new lt h at is =
    is ∙ ap (λ (qs : List Part). qs ++ part.Here xs ∷ []) h ∙ ap (λ (ys : List Entry). take i (all_here ls es) ++ part.Here ys ∷ []) at ∙ sym (part_more ls es i lt)
