-- The limits of a run, by its counts.
use Rattle.std.proofs.Common.{◌≡◌, ℕ, ◌+◌, ◌<◌, ◌≤◌, Bool, true, false, ◌∙◌, ap, arith}
use Rattle.std.proofs.lemmas.Bool.Decides.{nat_tests}
use Rattle.std.specs.Prelude.{Option, Some, None, if◌then◌else◌, nat_lt}
use Rattle.kept_laws.specs.Standing.{limit_of}

abbrev pub by_tests : Bool → Bool → Option ℕ
by_tests x y = if x then Some 2 else if y then Some 3 else None

limits : (a b : Bool) (x y : Bool) → a ≡ x → b ≡ y → by_tests a b ≡ by_tests x y
limits a b x y p q = ap (λ (c : Bool). by_tests c b) p ∙ ap (λ (c : Bool). by_tests x c) q

within : (events idle bytes : ℕ) → events + idle ≤ 2000000 → bytes ≤ 1073741824 → limit_of events idle bytes ≡ None
within events idle bytes few short =
    let a : nat_lt 2000000 (events + idle) ≡ false = grind (arith, nat_tests, few) in let b : nat_lt 1073741824 bytes ≡ false = grind (arith, nat_tests, short) in
    limits (nat_lt 2000000 (events + idle)) (nat_lt 1073741824 bytes) false false a b

many : (events idle bytes : ℕ) → 2000000 < events + idle → limit_of events idle bytes ≡ Some 2
many events idle bytes over =
    let test : nat_lt 2000000 (events + idle) ≡ true = grind (arith, nat_tests, over) in
    ap (λ (b : Bool). by_tests b (nat_lt 1073741824 bytes)) test

long : (events idle bytes : ℕ) → events + idle ≤ 2000000 → 1073741824 < bytes → limit_of events idle bytes ≡ Some 3
long events idle bytes few over =
    let a : nat_lt 2000000 (events + idle) ≡ false = grind (arith, nat_tests, few) in let b : nat_lt 1073741824 bytes ≡ true = grind (arith, nat_tests, over) in
    limits (nat_lt 2000000 (events + idle)) (nat_lt 1073741824 bytes) false true a b

-- one more idle event
pub one_more : (events idle bytes : ℕ) → events + idle < 2000000 → bytes ≤ 1073741824 → limit_of events (idle + 1) bytes ≡ None
one_more events idle bytes few short = within events (idle + 1) bytes (omega (arith, few)) short

pub too_many : (events idle bytes : ℕ) → 2000000 ≤ events + idle → limit_of events (idle + 1) bytes ≡ Some 2
too_many events idle bytes over = many events (idle + 1) bytes (omega (arith, over))

-- one more event
pub more_bytes : (events idle bytes more : ℕ) → events + idle < 2000000 → bytes + more ≤ 1073741824 → limit_of (events + 1) idle (bytes + more) ≡ None
more_bytes events idle bytes more few short = within (events + 1) idle (bytes + more) (omega (arith, few)) short

pub too_many_events : (events idle bytes : ℕ) → 2000000 ≤ events + idle → limit_of (events + 1) idle bytes ≡ Some 2
too_many_events events idle bytes over = many (events + 1) idle bytes (omega (arith, over))

pub too_many_bytes : (events idle bytes more : ℕ) → events + idle < 2000000 → 1073741824 < bytes + more → limit_of (events + 1) idle (bytes + more) ≡ Some 3
too_many_bytes events idle bytes more few over = long (events + 1) idle (bytes + more) (omega (arith, few)) over

pub more_events : (events idle bytes : ℕ) → events + idle < 2000000 → bytes ≤ 1073741824 → limit_of (events + 1) idle bytes ≡ None
more_events events idle bytes few short = within (events + 1) idle bytes (omega (arith, few)) short
