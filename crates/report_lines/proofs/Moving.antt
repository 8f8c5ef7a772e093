-- What each ledger that moves leaves of a topic.
use Rattle.std.proofs.Common.{◌≡◌, ℕ, zero, suc, ◌+◌, ◌<◌, ◌≤◌, ◌==◌, nat_lt, false, cond, List, [], ◌∷◌, length, drop, refl, ap, subst, ◌∙◌, arith}
use Rattle.std.specs.Prelude.{Option, None, Result, Ok, Err, if◌then◌else◌, is_ok, slice_get, slice_set}
use Rattle.std.specs.List.{count_by}
use Rattle.std.proofs.lemmas.Bool.Decides.{nat_tests}
use Rattle.std.proofs.lemmas.List.Sums.{sum_by-cons}
use Rattle.geo_base.specs.declared.entry.Entry.{Entry}
use Rattle.tiered_storage.specs.declared.offload_fault.OffloadFault.{OffloadFault}
use Rattle.tiered_storage.specs.declared.offload_fault.OffloadFault.TheVariants as fault
use Rattle.tiered_storage.specs.declared.part.Part.{Part}
use Rattle.tiered_storage.specs.declared.part.Part.TheVariants as part
use Rattle.tiered_storage.specs.Calls.{Comes, fault_of, is_away}
use Rattle.tiered_storage.specs.Tiered.{Tiered, all_here}
use Rattle.tiered_storage.proofs.Cutting.{none_away, parts_many}
use Rattle.report_lines.specs.Tiers.{first_away}

-- ---- one ledger

-- a closed ledger is not refused
not_refused : (closed ledger : ℕ) → ledger < closed → fault_of closed ledger ≡ None
not_refused closed ledger lt =
    let known : nat_lt closed ledger ≡ false = grind (arith, nat_tests, lt) in
    let other : (ledger == closed) ≡ false = grind (arith, nat_tests, lt) in
    rw (known, other) refl

comes_other : (closed ledger : ℕ) (r : Result (Unit {0}) OffloadFault) → ledger < closed → Comes (fault_of closed ledger) r → Comes None r
comes_other closed ledger r lt comes = subst (λ (o : Option OffloadFault). Comes o r) (not_refused closed ledger lt) comes

pub never_unknown : (closed ledger k : ℕ) (r : Result (Unit {0}) OffloadFault) → ledger < closed → Comes (fault_of closed ledger) r → r ≡ Err (fault.Unknown k) → ⊥
never_unknown closed ledger k r lt comes is = subst (λ (q : Result (Unit {0}) OffloadFault). Comes None q) is (comes_other closed ledger r lt comes)

pub never_open : (closed ledger k : ℕ) (r : Result (Unit {0}) OffloadFault) → ledger < closed → Comes (fault_of closed ledger) r → r ≡ Err (fault.Open k) → ⊥
never_open closed ledger k r lt comes is = subst (λ (q : Result (Unit {0}) OffloadFault). Comes None q) is (comes_other closed ledger r lt comes)

-- a topic, as a call leaves it that answers r
abbrev IsLeft : {T : Type 0} → Tiered T → Tiered T → Result (Unit {0}) OffloadFault → ℕ → Type 0
IsLeft t new r ledger = new ≡ record t { parts = if is_ok r then slice_set t.parts ledger part.Away else t.parts; tier = new.tier }

pub parts_moved : {T : Type 0} (t new : Tiered T) (r : Result (Unit {0}) OffloadFault) (ledger : ℕ) (u : Unit {0}) → IsLeft t new r ledger → r ≡ Ok u
    → new.parts ≡ slice_set t.parts ledger part.Away
parts_moved {T} t new r ledger u left ok =
    ap (λ (v : Tiered T). v.parts) left ∙ ap (λ (q : Result (Unit {0}) OffloadFault). if is_ok q then slice_set t.parts ledger part.Away else t.parts) ok

pub unclosed_still : {T : Type 0} (t new : Tiered T) (r : Result (Unit {0}) OffloadFault) (ledger : ℕ) → IsLeft t new r ledger → new.unclosed ≡ t.unclosed
unclosed_still {T} t new r ledger left = ap (λ (v : Tiered T). v.unclosed) left

-- ---- all of them

still_many : (n : ℕ) (ps : List Part) → length (first_away n ps) ≡ length ps
still_many zero ps = refl
still_many (suc n) [] = refl
still_many (suc n) (p ∷ ps) = ap suc (still_many n ps)

next_away : (n : ℕ) (ps : List Part) → n < length ps → slice_set (first_away n ps) n part.Away ≡ first_away (n + 1) ps
next_away zero [] h = absurd (omega (arith, h))
next_away zero (p ∷ ps) h = refl
next_away (suc n) [] h = absurd (omega (arith, h))
next_away (suc n) (p ∷ ps) h =
    let next : suc n + 1 ≡ suc (n + 1) = omega arith in rw next (ap (λ (qs : List Part). part.Away ∷ qs) (next_away n ps (omega (arith, h))))

-- of a topic whose ledgers were all here
module _ (ls : List ℕ) (es : List Entry) where
  abbrev pub moved_parts : ℕ → List Part
  moved_parts n = first_away n (all_here ls es)

  -- a closed ledger is one of them
  pub one_of : (n closed : ℕ) (parts : List Part) → parts ≡ moved_parts n → closed ≤ length parts → n < closed → n < length ls
  one_of n closed parts is low lt =
      let many = ap length is in let same = still_many n (all_here ls es) in let all_ = parts_many ls es in omega (arith, many, same, all_, low, lt)

  pub one_more : (n : ℕ) (parts new : List Part) → parts ≡ moved_parts n → n < length ls → new ≡ slice_set parts n part.Away → new ≡ moved_parts (n + 1)
  one_more n parts new is lt set =
      let all_ = parts_many ls es in
      set ∙ (ap (λ (ps : List Part). slice_set ps n part.Away) is ∙ next_away n (all_here ls es) (omega (arith, all_, lt)))

so_many : (n : ℕ) (ls : List ℕ) (es : List Entry) → n ≤ length ls → count_by is_away (first_away n (all_here ls es)) ≡ n
so_many zero ls es h = none_away ls es
so_many (suc n) [] es h = absurd (omega (arith, h))
so_many (suc n) (l ∷ ls) es h =
    let more : count_by is_away (part.Away ∷ first_away n (all_here ls (drop l es))) ≡ 1 + count_by is_away (first_away n (all_here ls (drop l es))) =
    sum_by-cons (λ (p : Part). cond (is_away p) 1 0) part.Away (first_away n (all_here ls (drop l es))) in
    let rest = so_many n ls (drop l es) (omega (arith, h)) in
    more ∙ omega (arith, rest)

-- and so many moved
pub all_counted : (n m : ℕ) (ls : List ℕ) (es : List Entry) (parts : List Part) → parts ≡ first_away n (all_here ls es) → n ≤ length ls → n ≡ m → count_by is_away parts ≡ m
all_counted n m ls es parts is few same = ap (count_by is_away) is ∙ (so_many n ls es few ∙ same)

-- the last ones, so many as were to stay, stand here
pub all_moved : (n m : ℕ) (ls : List ℕ) (es : List Entry) (parts : List Part) → parts ≡ first_away n (all_here ls es) → n ≡ m → parts ≡ first_away m (all_here ls es)
all_moved n m ls es parts is same = is ∙ ap (λ k. first_away k (all_here ls es)) same

-- ---- reading them

-- nothing but an entry stands at an index of the list
pub entry_there : (es : List Entry) (i : ℕ) → i < length es → None ≡ slice_get es i → ⊥
entry_there [] i lt none = omega (arith, lt)
entry_there (e ∷ es) zero lt none = cc none
entry_there (e ∷ es) (suc i) lt none = entry_there es i (omega (arith, lt)) none
