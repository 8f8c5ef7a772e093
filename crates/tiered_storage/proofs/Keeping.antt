-- What is kept where a ledger moves, and where one is read.
use Rattle.std.proofs.Common.{◌≡◌, ◌≢◌, ◌⊎◌, ◌++◌, ◌^◌, [], ℕ, zero, suc, ◌<◌, ◌==◌, nat_lt, Bool, true, false, List, ◌∷◌, length, get_or, inl, inr, refl, sym, ap, subst, ◌∙◌, arith}
use Rattle.std.specs.Prelude.{Option, Some, None, Result, Ok, Err, IfOk, IfSome, is_ok, not, if◌then◌else◌, slice_get, slice_set}
use Rattle.std.proofs.lemmas.Bool.Decides.{nat_tests}
use Rattle.std.proofs.lemmas.Option.{slice_get_read}
use Rattle.geo_base.specs.declared.entry.Entry.{Entry}
use Rattle.tiered_storage.specs.Readable.{AreReadable}
use Rattle.tiered_storage.specs.Texts.{ledger_text}
use Rattle.tiered_storage.specs.declared.tier.Held.{Held}
use Rattle.tiered_storage.specs.declared.tier.Held.TheVariants as held
use Rattle.tiered_storage.specs.Kept.{IsRead, Kept, KeepsAll, KeepsOthers, MayPut, Puts}
use Rattle.tiered_storage.specs.declared.part.Part.{Part}
use Rattle.tiered_storage.specs.declared.part.Part.TheVariants as part
use Rattle.tiered_storage.specs.declared.part.Recalled.{Recalled}
use Rattle.tiered_storage.specs.declared.offload_fault.OffloadFault.{OffloadFault}
use Rattle.tiered_storage.specs.declared.offload_fault.TierFault.{TierFault}
use Rattle.tiered_storage.specs.declared.offload_fault.OffloadFault.TheVariants as fault
use Rattle.tiered_storage.specs.Calls.{Comes, fault_of, is_ledger}
use Rattle.tiered_storage.specs.Ledgers.{entries_in}
use Rattle.geo_base.specs.declared.position.Position.{Position}
use Rattle.geo_base.specs.Topic.{position_of}
use Rattle.tiered_storage.proofs.Cutting.{ledger_short}
use Rattle.tiered_storage.proofs.Standing.{place_found}
use Rattle.tiered_storage.specs.Tiered.{Holds, IsKept, IsPart, Tiered}

-- ---- parts

part_still : (names : List (List ℕ)) (own k : ℕ) (kept new : Kept) (es : List Entry) (p : Part) → new k ≡ kept k → IsPart names own kept k es p → IsPart names own new k es p
part_still names own k kept new es (part.Here xs) same h = h
part_still names own k kept new es part.Away same h = record { text = same ∙ h.text; readable = h.readable }

some_part : (p q : Part) → ◌≡◌ {A = Option Part} (Some p) (Some q) → p ≡ q
some_part p q h = cc

pub part_at : (ps : List Part) (k : ℕ) (p q : Part) → k < length ps → p ≡ get_or ps k p → p ≡ q → slice_get ps k ≡ Some q
part_at ps k p q within is same = slice_get_read ps (length ps) k p refl within is ∙ ap (λ (r : Part). Some r) same

pub here_is : {T : Type 0} (names : List (List ℕ)) (kept : T → Kept) (es : List Entry) (t : Tiered T) (k : ℕ) (xs : List Entry) → Holds names kept es t → slice_get t.parts k ≡ Some (part.Here xs) → xs ≡ entries_in t.ledgers es k
here_is names kept es t k xs h at = h.parts k (part.Here xs) at

pub away_is : {T : Type 0} (names : List (List ℕ)) (kept : T → Kept) (es : List Entry) (t : Tiered T) (k : ℕ) → Holds names kept es t → slice_get t.parts k ≡ Some part.Away → IsKept names t.own (kept t.tier) k (entries_in t.ledgers es k)
away_is names kept es t k h at = h.parts k part.Away at

-- ---- another tier, which keeps the same

pub kept_still : {T : Type 0} (names : List (List ℕ)) (kept : T → Kept) (es : List Entry) (t : Tiered T) (tier : T) → Holds names kept es t → KeepsAll (kept t.tier) (kept tier) → Holds names kept es (record t { tier = tier })
kept_still names kept es t tier h same = record {
  counted = h.counted;
  few = h.few;
  many = h.many;
  closed = h.closed;
  tellable = h.tellable;
  parts = λ k p at. part_still names t.own k (kept t.tier) (kept tier) (entries_in t.ledgers es k) p (same k) (h.parts k p at);
  recalled = h.recalled;
}

-- ---- another ledger is the one that was read last

pub recalled_now : {T : Type 0} (names : List (List ℕ)) (kept : T → Kept) (es : List Entry) (t : Tiered T) (k : ℕ) (xs : List Entry) → Holds names kept es t → xs ≡ entries_in t.ledgers es k
    → Holds names kept es (record t { recalled = Some (record { ledger = k; entries = xs }) })
recalled_now names kept es t k xs h is = record {
  counted = h.counted;
  few = h.few;
  many = h.many;
  closed = h.closed;
  tellable = h.tellable;
  parts = h.parts;
  recalled = is;
}

-- ---- a put that failed, for a ledger that is here

-- the others keep their bytes, and this one needs none
others_still : (names : List (List ℕ)) (own j k : ℕ) (old new : Kept) (es : List Entry) (p : Part) (b : Bool) → (k == j) ≡ b → KeepsOthers old new j → (k ≡ j → (p ≡ part.Away → ⊥))
    → IsPart names own old k es p → IsPart names own new k es p
others_still names own j k old new es (part.Here xs) b t others here h = h
others_still names own j k old new es part.Away true t others here h =
    let same : k ≡ j = grind (arith, nat_tests, t) in
    absurd (here same refl)
others_still names own j k old new es part.Away false t others here h =
    let other : k ≢ j = λ (e : k ≡ j). grind (arith, nat_tests, t) in
    record { text = others k other ∙ h.text; readable = h.readable }

at_one : (ps : List Part) (j k : ℕ) (xs : List Entry) (p : Part) → slice_get ps j ≡ Some (part.Here xs) → slice_get ps k ≡ Some p → k ≡ j → p ≡ part.Away → ⊥
at_one ps j k xs p here at same away = cc

pub not_moved : {T : Type 0} (names : List (List ℕ)) (kept : T → Kept) (es : List Entry) (t : Tiered T) (tier : T) (j : ℕ) (xs : List Entry) (bytes : List ℕ) → Holds names kept es t
    → slice_get t.parts j ≡ Some (part.Here xs) → MayPut (kept t.tier) (kept tier) j bytes → Holds names kept es (record t { tier = tier })
not_moved names kept es t tier j xs bytes h here may = record {
  counted = h.counted;
  few = h.few;
  many = h.many;
  closed = h.closed;
  tellable = h.tellable;
  parts = λ k p at. others_still names t.own j k (kept t.tier) (kept tier) (entries_in t.ledgers es k) p (k == j) refl may.1 (at_one t.parts j k xs p here at) (h.parts k p at);
  recalled = h.recalled;
}

-- ---- a ledger moves

length_set : (ps : List Part) (j : ℕ) (v : Part) → length (slice_set ps j v) ≡ length ps
length_set [] j v = refl
length_set (p ∷ ps) zero v = refl
length_set (p ∷ ps) (suc j) v = ap suc (length_set ps j v)

get_set : (ps : List Part) (j k : ℕ) (v p : Part) → slice_get (slice_set ps j v) k ≡ Some p → ((k ≡ j) × (p ≡ v)) ⊎ ((k ≢ j) × (slice_get ps k ≡ Some p))
get_set [] j k v p h = absurd (cc)
get_set (q ∷ ps) zero zero v p h = inl (refl, sym (some_part v p h))
get_set (q ∷ ps) zero (suc k) v p h = inr ((λ (e : suc k ≡ zero). omega (arith, e)), h)
get_set (q ∷ ps) (suc j) zero v p h = inr ((λ (e : zero ≡ suc j). omega (arith, e)), h)
get_set (q ∷ ps) (suc j) (suc k) v p h = elim (get_set ps j k v p h) [
  | inl a ↦ inl (ap suc a.0, a.1)
  | inr b ↦ inr ((λ (e : suc k ≡ suc j). b.0 (omega (arith, e))), b.1)
]

moved_part : (names : List (List ℕ)) (own j : ℕ) (new : Kept) (es : List Entry) → IsKept names own new j es → (k : ℕ) (p : Part) (fs : List Entry) → k ≡ j → p ≡ part.Away → fs ≡ es → IsPart names own new k fs p
moved_part names own j new es put k p fs at away same =
    let kept : IsKept names own new k es = subst (λ (n : ℕ). IsKept names own new n es) (sym at) put in
    let is : IsKept names own new k fs = subst (λ (xs : List Entry). IsKept names own new k xs) (sym same) kept in
    subst (λ (q : Part). IsPart names own new k fs q) (sym away) is

pub moved : {T : Type 0} (names : List (List ℕ)) (kept : T → Kept) (es : List Entry) (t : Tiered T) (tier : T) (j : ℕ) (xs : List Entry) → Holds names kept es t
    → slice_get t.parts j ≡ Some (part.Here xs) → AreReadable names t.own xs → Puts (kept t.tier) (kept tier) j (ledger_text names t.own xs) → Holds names kept es (record t { parts = slice_set t.parts j part.Away; tier = tier })
moved names kept es t tier j xs h here readable puts =
    let is : xs ≡ entries_in t.ledgers es j = here_is names kept es t j xs h here in
    let put : IsKept names t.own (kept tier) j (entries_in t.ledgers es j) =
    subst (λ (ys : List Entry). IsKept names t.own (kept tier) j ys) is (record { text = puts.0; readable = readable }) in
    record {
      counted = h.counted;
      few = h.few;
      many = length_set t.parts j part.Away ∙ h.many;
      closed = let many = length_set t.parts j part.Away in omega (arith, many, h.closed);
      tellable = h.tellable;
      parts = λ k p at. elim (get_set t.parts j k part.Away p at) [
        | inl a ↦ moved_part names t.own j (kept tier) (entries_in t.ledgers es j) put k p (entries_in t.ledgers es k) a.0 a.1 (ap (entries_in t.ledgers es) a.0)
        | inr b ↦ part_still names t.own k (kept t.tier) (kept tier) (entries_in t.ledgers es k) p (puts.1 k b.0) (h.parts k p b.1)
      ];
      recalled = h.recalled;
    }

-- ---- a ledger is read from the tier

read_some : (o : Option (List ℕ)) (bytes old new : List ℕ) (h : Held) → o ≡ Some bytes → old ≡ [] → IsRead o old new h → (h ≡ held.Yes) × (new ≡ bytes)
read_some None bytes old new h is none r = absurd (cc)
read_some (Some b) bytes old new h is none r =
    let same : b ≡ bytes = cc in
    (r.0, r.1 ∙ ap (λ (x : List ℕ). x ++ b) none ∙ same)

pub got_text : {T : Type 0} (names : List (List ℕ)) (kept : T → Kept) (es : List Entry) (t : Tiered T) (k : ℕ) (old new : List ℕ) (h : Held) → Holds names kept es t
    → slice_get t.parts k ≡ Some part.Away → old ≡ [] → IsRead (kept t.tier k) old new h → (h ≡ held.Yes) × (new ≡ ledger_text names t.own (entries_in t.ledgers es k))
got_text names kept es t k old new h holds away none r =
    read_some (kept t.tier k) (ledger_text names t.own (entries_in t.ledgers es k)) old new h (away_is names kept es t k holds away).text none r

pub read_with : {T : Type 0} (names : List (List ℕ)) (kept : T → Kept) (es : List Entry) (t : Tiered T) (k : ℕ) (bytes : List ℕ) (P : List Entry → Type 0) → Holds names kept es t
    → slice_get t.parts k ≡ Some part.Away → bytes ≡ ledger_text names t.own (entries_in t.ledgers es k)
    → ((own : ℕ) (fs : List Entry) → AreReadable names own fs → length fs < 2 ^ 64 → bytes ≡ ledger_text names own fs → P fs) → P (entries_in t.ledgers es k)
read_with names kept es t k bytes P holds away is reads =
    let short = ledger_short t.ledgers es k in
    let few = holds.few in
    reads t.own (entries_in t.ledgers es k) (away_is names kept es t k holds away).readable (omega (arith, short, few)) is

-- ---- the ledger that was read last

abbrev pub read_last : ℕ → List Entry → Recalled
read_last k xs = record { ledger = k; entries = xs }

last_is : (r : Recalled) (k : ℕ) (xs : List Entry) → r.ledger ≡ k → r.entries ≡ xs → read_last k xs ≡ r
last_is r k xs h i = ap (λ (n : ℕ). read_last n xs) (sym h) ∙ ap (read_last r.ledger) (sym i)

last_by : (k : ℕ) (ls : List ℕ) (es : List Entry) (r : Recalled) (b : Bool) → (r.ledger == k) ≡ b → r.entries ≡ entries_in ls es r.ledger
    → ◌≡◌ {A = Option Recalled} (Some (read_last k (entries_in ls es k))) (if not b then Some (read_last k (entries_in ls es k)) else Some r)
last_by k ls es r true t h =
    let same : r.ledger ≡ k = grind (arith, nat_tests, t) in
    ap (λ (q : Recalled). Some q) (last_is r k (entries_in ls es k) same (h ∙ ap (entries_in ls es) same))
last_by k ls es r false t h = refl

pub last_read : (k : ℕ) (ls : List ℕ) (es : List Entry) (o : Option Recalled) → IfSome o (λ r. r.entries ≡ entries_in ls es r.ledger)
    → ◌≡◌ {A = Option Recalled} (Some (read_last k (entries_in ls es k))) (if not (is_ledger k o) then Some (read_last k (entries_in ls es k)) else o)
last_read k ls es None h = refl
last_read k ls es (Some r) h = last_by k ls es r (r.ledger == k) refl h

pub last_there : (k : ℕ) (ls : List ℕ) (es : List Entry) (o : Option Recalled) → is_ledger k o ≡ true → IfSome o (λ r. r.entries ≡ entries_in ls es r.ledger)
    → o ≡ Some (read_last k (entries_in ls es k))
last_there k ls es None t h = absurd (cc)
last_there k ls es (Some r) t h =
    let same : r.ledger ≡ k = grind (arith, nat_tests, t) in
    ap (λ (q : Recalled). Some q) (sym (last_is r k (entries_in ls es k) same (h ∙ ap (entries_in ls es) same)))

-- the same with an answer, which is no error
pub last_if : (r : Result (Option Entry) TierFault) (k : ℕ) (ls : List ℕ) (es : List Entry) (o : Option Recalled) → IfSome o (λ r. r.entries ≡ entries_in ls es r.ledger)
    → ◌≡◌ {A = Option Recalled} (if is_ok r then Some (read_last k (entries_in ls es k)) else o) (if is_ok r then (if not (is_ledger k o) then Some (read_last k (entries_in ls es k)) else o) else o)
last_if (Ok x) k ls es o h = last_read k ls es o h
last_if (Err f) k ls es o h = refl

pub read_from : (ls : List ℕ) (es : List Entry) (i : ℕ) (p : Position) (r : Result (Option Entry) TierFault) → position_of ls i ≡ Some p
    → IfOk r (λ o. o ≡ slice_get (entries_in ls es p.ledger) p.entry) → IfOk r (λ o. o ≡ slice_get es i)
read_from ls es i p (Ok o) at h = h ∙ place_found ls es i p at
read_from ls es i p (Err f) at h = tt

-- the one that was read last stays where only the tier changes
pub recalled_still : {T : Type 0} (old new : Tiered T) → new ≡ record old { tier = new.tier } → new ≡ record old { recalled = new.recalled; tier = new.tier }
recalled_still {T} old new h = h ∙ ap (λ (o : Option Recalled). record old { recalled = o; tier = new.tier }) (sym (ap (λ (v : Tiered T). v.recalled) h))

-- ---- which fault comes

pub unknown_comes : (u l : ℕ) → u < l → Comes (fault_of u l) (Err (fault.Unknown l))
unknown_comes u l h = let over : nat_lt u l ≡ true = grind (arith, nat_tests, h) in rw over refl

pub open_comes : (u l : ℕ) → l ≡ u → Comes (fault_of u l) (Err (fault.Open l))
open_comes u l h =
    let under : nat_lt u l ≡ false = grind (arith, nat_tests, h) in
    let same : (l == u) ≡ true = grind (arith, nat_tests, h) in
    rw (under, same) refl

pub closed_comes : (u l : ℕ) (r : Result (Unit {0}) OffloadFault) → l < u → Comes None r → Comes (fault_of u l) r
closed_comes u l r h other =
    let under : nat_lt u l ≡ false = grind (arith, nat_tests, h) in
    let apart : (l == u) ≡ false = grind (arith, nat_tests, h) in
    rw (under, apart) other

-- ---- a part that is set to what it is

pub set_same : (ps : List Part) (k : ℕ) (v : Part) → slice_get ps k ≡ Some v → slice_set ps k v ≡ ps
set_same [] k v h = refl
set_same (p ∷ ps) zero v h = ap (λ (q : Part). q ∷ ps) (sym (some_part p v h))
set_same (p ∷ ps) (suc k) v h = ap (λ (qs : List Part). p ∷ qs) (set_same ps k v h)
