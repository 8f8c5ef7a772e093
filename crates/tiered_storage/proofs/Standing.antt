-- Where an entry stands in its ledger.
use Rattle.std.proofs.Common.{◌≡◌, ℕ, zero, suc, ◌+◌, ◌-◌, ◌<◌, ◌≤◌, ◌==◌, nat_lt, Bool, true, false, List, [], ◌∷◌, length, take, drop, refl, sym, ap, ◌∙◌, arith}
use Rattle.std.specs.Prelude.{Option, Some, None, if◌then◌else◌, slice_get}
use Rattle.std.specs.List.{sum}
use Rattle.std.proofs.lemmas.Bool.Decides.{nat_tests}
use Rattle.std.proofs.lemmas.List.{length-take}
use Rattle.std.proofs.lemmas.Option.{slice_get_past}
use Rattle.std.proofs.lemmas.List.Sums.{sum_by-cons}
use Rattle.geo_base.specs.declared.entry.Entry.{Entry}
use Rattle.geo_base.specs.declared.position.Position.{Position}
use Rattle.geo_base.specs.Topic.{index_from, index_of, position_from, position_of}
use Rattle.tiered_storage.specs.Ledgers.{entries_in}
use Rattle.geo_base.proofs.Results.{some_number}

get_within : (n : ℕ) (es : List Entry) (i : ℕ) → i < n → slice_get (take n es) i ≡ slice_get es i
get_within zero es i l = absurd (omega (arith, l))
get_within (suc n) [] i l = refl
get_within (suc n) (e ∷ es) zero l = refl
get_within (suc n) (e ∷ es) (suc i) l = get_within n es i (omega (arith, l))

get_behind : (n : ℕ) (es : List Entry) (i : ℕ) → n ≤ i → slice_get (drop n es) (i - n) ≡ slice_get es i
get_behind zero es i l = let same : i - zero ≡ i = omega arith in ap (slice_get es) same
get_behind (suc n) [] zero l = absurd (omega (arith, l))
get_behind (suc n) [] (suc i) l = refl
get_behind (suc n) (e ∷ es) zero l = absurd (omega (arith, l))
get_behind (suc n) (e ∷ es) (suc i) l =
    let same : suc i - suc n ≡ i - n = omega arith in
    ap (slice_get (drop n es)) same ∙ get_behind n es i (omega (arith, l))

-- ---- from an index to its ledger

-- the ledger is the j-th after the first one of the list
abbrev IsPlace : List ℕ → List Entry → ℕ → ℕ → Position → Type 0
IsPlace ls es k i p = (j : ℕ) × (p.ledger ≡ k + j) × (j < length ls) × (slice_get (entries_in ls es j) p.entry ≡ slice_get es i)

here_is : (k i : ℕ) (p : Position) → ◌≡◌ {A = Option Position} (Some (record { ledger = k; entry = i })) (Some p) → (p.ledger ≡ k) × (p.entry ≡ i)
here_is k i p h = let same : ◌≡◌ {A = Position} (record { ledger = k; entry = i }) p = cc in (ap (λ (q : Position). q.ledger) (sym same), ap (λ (q : Position). q.entry) (sym same))

place_by : (l : ℕ) (ls : List ℕ) (es : List Entry) (k i : ℕ) (p : Position) (b : Bool) → nat_lt i l ≡ b
    → (position_from ls (k + 1) (i - l) ≡ Some p → IsPlace ls (drop l es) (k + 1) (i - l) p)
    → (if b then Some (record { ledger = k; entry = i }) else position_from ls (k + 1) (i - l)) ≡ Some p → IsPlace (l ∷ ls) es k i p
place_by l ls es k i p true t rest h =
    let is = here_is k i p h in
    let under : i < l = grind (arith, nat_tests, t) in
    (0, is.0 ∙ omega arith, omega arith, ap (slice_get (take l es)) is.1 ∙ get_within l es i under)
place_by l ls es k i p false t rest h =
    let found = rest h in
    let over : l ≤ i = grind (arith, nat_tests, t) in
    (suc found.0, found.1 ∙ omega arith, omega (arith, found.2), found.3 ∙ get_behind l es i over)

place_from : (ls : List ℕ) (es : List Entry) (k i : ℕ) (p : Position) → position_from ls k i ≡ Some p → IsPlace ls es k i p
place_from [] es k i p h = absurd (cc)
place_from (l ∷ ls) es k i p h = place_by l ls es k i p (nat_lt i l) refl (place_from ls (drop l es) (k + 1) (i - l) p) h

-- the entry at an index is the one that stands at its position in its ledger
pub place_found : (ls : List ℕ) (es : List Entry) (i : ℕ) (p : Position) → position_of ls i ≡ Some p → slice_get (entries_in ls es p.ledger) p.entry ≡ slice_get es i
place_found ls es i p h =
    let f = place_from ls es 0 i p h in
    let at : p.ledger ≡ f.0 = omega (arith, f.1) in
    ap (λ (k : ℕ). slice_get (entries_in ls es k) p.entry) at ∙ f.3

pub ledger_there : (ls : List ℕ) (es : List Entry) (i : ℕ) (p : Position) → position_of ls i ≡ Some p → p.ledger < length ls
ledger_there ls es i p h = let f = place_from ls es 0 i p h in omega (arith, f.1, f.2)

-- nothing stands at an index that has no position
past_by : (l : ℕ) (ls : List ℕ) (k i : ℕ) (b : Bool) → nat_lt i l ≡ b → (position_from ls (k + 1) (i - l) ≡ None → sum ls ≤ i - l)
    → (if b then Some (record { ledger = k; entry = i }) else position_from ls (k + 1) (i - l)) ≡ None → l + sum ls ≤ i
past_by l ls k i true t rest h = absurd (cc)
past_by l ls k i false t rest h =
    let over : l ≤ i = grind (arith, nat_tests, t) in
    let more = rest h in omega (arith, over, more)

pub past_end : (ls : List ℕ) (k i : ℕ) → position_from ls k i ≡ None → sum ls ≤ i
past_end [] k i h = omega arith
past_end (l ∷ ls) k i h =
    let cons : sum (l ∷ ls) ≡ l + sum ls = sum_by-cons (λ (n : ℕ). n) l ls in
    let most = past_by l ls k i (nat_lt i l) refl (past_end ls (k + 1) (i - l)) h in
    omega (arith, cons, most)

-- ---- from a ledger to its entries

get_at : (b : ℕ) (all : List Entry) (e : ℕ) → slice_get (drop b all) e ≡ slice_get all (b + e)
get_at zero all e = let same : e ≡ zero + e = omega arith in ap (slice_get all) same
get_at (suc b) [] e = refl
get_at (suc b) (x ∷ all) e =
    let same : suc b + e ≡ suc (b + e) = omega arith in
    get_at b all e ∙ ap (slice_get (x ∷ all)) (sym same)

-- the first ledger of the list
index_here : (l before e i : ℕ) (all es : List Entry) (t u : Bool) (rest : Option ℕ) → t ≡ true → nat_lt e l ≡ u → drop before all ≡ es
    → (if t then (if u then Some (before + e) else None) else rest) ≡ Some i → slice_get (take l es) e ≡ slice_get all i
index_here l before e i all es true true rest is u d h =
    let under : e < l = grind (arith, nat_tests, u) in
    get_within l es e under ∙ ap (λ (xs : List Entry). slice_get xs e) (sym d) ∙ get_at before all e ∙ ap (slice_get all) (some_number (before + e) i h)
index_here l before e i all es true false rest is u d h = absurd (cc)
index_here l before e i all es false u rest is v d h = absurd (cc)

-- one after it
index_behind : (t : Bool) (x rest : Option ℕ) (i : ℕ) → t ≡ false → (if t then x else rest) ≡ Some i → rest ≡ Some i
index_behind true x rest i is h = absurd (cc)
index_behind false x rest i is h = h

drop_none : (n : ℕ) → ◌≡◌ {A = List Entry} (drop n []) []
drop_none zero = refl
drop_none (suc n) = refl

drop_more : (b l : ℕ) (all : List Entry) → drop (b + l) all ≡ drop l (drop b all)
drop_more zero l all = let same : zero + l ≡ l = omega arith in ap (λ (n : ℕ). drop n all) same
drop_more (suc b) l [] = drop_none (suc b + l) ∙ sym (drop_none l)
drop_more (suc b) l (x ∷ all) = let same : suc b + l ≡ suc (b + l) = omega arith in ap (λ (n : ℕ). drop n (x ∷ all)) same ∙ drop_more b l all

pub index_found : (ls : List ℕ) (all es : List Entry) (k before j e i : ℕ) → drop before all ≡ es → index_from ls k before (record { ledger = k + j; entry = e }) ≡ Some i
    → slice_get (entries_in ls es j) e ≡ slice_get all i
index_found [] all es k before j e i d h = absurd (cc)
index_found (l ∷ ls) all es k before zero e i d h =
    let is : (k + zero == k) ≡ true = grind (arith, nat_tests) in
    index_here l before e i all es (k + zero == k) (nat_lt e l) (index_from ls (k + 1) (before + l) (record { ledger = k + zero; entry = e })) is refl d h
index_found (l ∷ ls) all es k before (suc j) e i d h =
    let is : (k + suc j == k) ≡ false = grind (arith, nat_tests) in
    let at : k + suc j ≡ (k + 1) + j = omega arith in
    let behind = index_behind (k + suc j == k) _ (index_from ls (k + 1) (before + l) (record { ledger = k + suc j; entry = e })) i is h in
    index_found ls all (drop l es) (k + 1) (before + l) j e i (drop_more before l all ∙ ap (drop l) d)
    (ap (λ (n : ℕ). index_from ls (k + 1) (before + l) (record { ledger = n; entry = e })) (sym at) ∙ behind)

-- nothing stands at a place that counts to no index
none_at : (l before e : ℕ) (es : List Entry) (u : Bool) → nat_lt e l ≡ u → ◌≡◌ {A = Option ℕ} (if u then Some (before + e) else None) None → slice_get (take l es) e ≡ None
none_at l before e es true u h = absurd (cc)
none_at l before e es false u h =
    let over : l ≤ e = grind (arith, nat_tests, u) in
    let few = length-take l es in
    slice_get_past (take l es) e (omega (arith, over, few))

none_here : (l before e : ℕ) (es : List Entry) (t : Bool) (rest : Option ℕ) → t ≡ true → (if t then (if nat_lt e l then Some (before + e) else None) else rest) ≡ None → slice_get (take l es) e ≡ None
none_here l before e es true rest is h = none_at l before e es (nat_lt e l) refl h
none_here l before e es false rest is h = absurd (cc)

none_behind : (t : Bool) (x rest : Option ℕ) → t ≡ false → (if t then x else rest) ≡ None → rest ≡ None
none_behind true x rest is h = absurd (cc)
none_behind false x rest is h = h

index_none : (ls : List ℕ) (es : List Entry) (k before j e : ℕ) → index_from ls k before (record { ledger = k + j; entry = e }) ≡ None → slice_get (entries_in ls es j) e ≡ None
index_none [] es k before j e h = refl
index_none (l ∷ ls) es k before zero e h =
    let is : (k + zero == k) ≡ true = grind (arith, nat_tests) in
    none_here l before e es (k + zero == k) (index_from ls (k + 1) (before + l) (record { ledger = k + zero; entry = e })) is h
index_none (l ∷ ls) es k before (suc j) e h =
    let is : (k + suc j == k) ≡ false = grind (arith, nat_tests) in
    let at : k + suc j ≡ (k + 1) + j = omega arith in
    let behind = none_behind (k + suc j == k) _ (index_from ls (k + 1) (before + l) (record { ledger = k + suc j; entry = e })) is h in
    index_none ls (drop l es) (k + 1) (before + l) j e
    (ap (λ (n : ℕ). index_from ls (k + 1) (before + l) (record { ledger = n; entry = e })) (sym at) ∙ behind)

abbrev place_at : ℕ → ℕ → Position
place_at e k = record { ledger = k; entry = e }

place_is : (k e : ℕ) → ◌≡◌ {A = Position} (record { ledger = k; entry = e }) (record { ledger = 0 + k; entry = e })
place_is k e = let same : k ≡ 0 + k = omega arith in ap (place_at e) same

pub entry_found : (ls : List ℕ) (es : List Entry) (k e i : ℕ) → index_of ls (record { ledger = k; entry = e }) ≡ Some i → slice_get (entries_in ls es k) e ≡ slice_get es i
entry_found ls es k e i h = index_found ls es es 0 0 k e i refl (ap (index_of ls) (sym (place_is k e)) ∙ h)

pub no_entry : (ls : List ℕ) (es : List Entry) (k e : ℕ) → index_of ls (record { ledger = k; entry = e }) ≡ None → slice_get (entries_in ls es k) e ≡ None
no_entry ls es k e h = index_none ls es 0 0 k e (ap (index_of ls) (sym (place_is k e)) ∙ h)

pub none_there : (ls : List ℕ) (es : List Entry) (i : ℕ) → sum ls ≡ length es → position_of ls i ≡ None → slice_get es i ≡ None
none_there ls es i counted h =
    let past = past_end ls 0 i h in
    slice_get_past es i (omega (arith, past, counted))
