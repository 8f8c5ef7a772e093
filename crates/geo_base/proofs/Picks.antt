-- The place that a rule of the machine names is that of a consumer with a permit.
use Rattle.std.proofs.Common.{◌≡◌, ℕ, zero, suc, ◌+◌, ◌<◌, ◌%◌, nat_lt, Bool, true, false, List, [], ◌∷◌, length, refl, ap, arith}
use Rattle.std.specs.Prelude.{Option, Some, None, if◌then◌else◌}
use Rattle.std.specs.List.{position_from}
use Rattle.std.proofs.lemmas.Bool.Decides.{nat_tests}
use Rattle.geo_base.specs.declared.consumer.Consumer.{Consumer}
use Rattle.geo_base.specs.declared.frame.SubKind.{SubKind}
use Rattle.geo_base.specs.declared.frame.SubKind.TheVariants as sub_kind
use Rattle.geo_base.specs.Dispatcher.{consumer_at, first_permitted, if_permitted, key_number, pick}

pub none_some : (i : ℕ) → None ≡ Some i → ⊥
none_some i h = absurd (cc)

-- a consumer with a permit stands at a place
pub record HasPermit (ks : List Consumer) (i : ℕ) : Type 0 where
  pub here : i < length ks
  pub permit : 0 < (consumer_at ks i).permits

-- past the last consumer there is no permit
within : (ks : List Consumer) (i : ℕ) → 0 < (consumer_at ks i).permits → HasPermit ks i
within [] i h = absurd (omega arith)
within (k ∷ ks) zero h = record { here = omega arith; permit = h }
within (k ∷ ks) (suc i) h = let r = within ks i h in record { here = omega (arith, r.here); permit = r.permit }

some_if : (b : Bool) (i j : ℕ) → (if b then Some i else None) ≡ Some j → (b ≡ true) × (i ≡ j)
some_if true i j h = (refl, cc)
some_if false i j h = absurd (cc)

pub if_permitted_has : (ks : List Consumer) (i j : ℕ) → if_permitted ks i ≡ Some j → HasPermit ks j
if_permitted_has ks i j h =
    let s = some_if (nat_lt 0 (consumer_at ks i).permits) i j h in
    let p : 0 < (consumer_at ks i).permits = grind (arith, nat_tests, s.0) in
    rw s.1 at (within ks i p)

-- a place counted from n
pub record PermitFrom (n : ℕ) (ks : List Consumer) (j : ℕ) : Type 0 where
  pub place : ℕ
  pub counted : j ≡ n + place
  pub has : HasPermit ks place

first_step : (b : Bool) (n : ℕ) (k : Consumer) (ks : List Consumer) (j : ℕ) → nat_lt 0 k.permits ≡ b → (first_permitted (n + 1) ks ≡ Some j → PermitFrom (n + 1) ks j) → (if b then Some n else first_permitted (n + 1) ks) ≡ Some j → PermitFrom n (k ∷ ks) j
first_step true n k ks j e next h =
    let same : n ≡ j = cc in
    let p : 0 < k.permits = grind (arith, nat_tests, e) in
    record { place = 0; counted = omega arith; has = record { here = omega arith; permit = p } }
first_step false n k ks j e next h =
    let r = next h in
    record { place = suc r.place; counted = omega (arith, r.counted); has = record { here = omega (arith, r.has.here); permit = r.has.permit } }

first_has : (n : ℕ) (ks : List Consumer) (j : ℕ) → first_permitted n ks ≡ Some j → PermitFrom n ks j
first_has n [] j h = absurd (cc)
first_has n (k ∷ ks) j h = first_step (nat_lt 0 k.permits) n k ks j refl (first_has (n + 1) ks j) h

pub first_permitted_has : (ks : List Consumer) (j : ℕ) → first_permitted 0 ks ≡ Some j → HasPermit ks j
first_permitted_has ks j h =
    let r = first_has 0 ks j h in
    let same : r.place ≡ j = omega (arith, r.counted) in
    rw same at r.has

pub pick_has : (kind : SubKind) (ks : List Consumer) (key : List ℕ) (j : ℕ) → pick kind ks key ≡ Some j → HasPermit ks j
pick_has sub_kind.Exclusive ks key j h = if_permitted_has ks 0 j h
pick_has sub_kind.Failover ks key j h = if_permitted_has ks 0 j h
pick_has sub_kind.Shared ks key j h = first_permitted_has ks j h
pick_has sub_kind.KeyShared [] key j h = absurd (cc)
pick_has sub_kind.KeyShared (k ∷ ks) key j h = if_permitted_has (k ∷ ks) (key_number key % length (k ∷ ks)) j h

-- as the law of a rule says it
pub pick_permitted : (kind : SubKind) (ks : List Consumer) (key : List ℕ) (j : ℕ) → pick kind ks key ≡ Some j → (j < length ks) × (0 < (consumer_at ks j).permits)
pick_permitted kind ks key j h = let p = pick_has kind ks key j h in (p.here, p.permit)

-- the first place of a consumer with a permit, in the library's word
pub first_is_position : (n : ℕ) (ks : List Consumer) → position_from (λ (k : Consumer). nat_lt 0 k.permits) n ks ≡ first_permitted n ks
first_is_position n [] = refl
first_is_position n (k ∷ ks) = ap (λ (o : Option ℕ). if nat_lt 0 k.permits then Some n else o) (first_is_position (n + 1) ks)
