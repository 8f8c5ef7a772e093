-- What an appended entry adds to the weight of its broker: so much for each replicator, of which there is one for each other cluster.
use Rattle.std.proofs.Common.{◌≡◌, ℕ, suc, ◌+◌, ◌-◌, ◌*◌, ◌<◌, ◌≤◌, Bool, true, false, List, [], ◌∷◌, ◌++◌, refl, sym, ap, ◌∙◌, ◌==◌, arith}
use Rattle.std.specs.Prelude.{if◌then◌else◌, ◌&&◌, not, nat_lt}
use Rattle.std.proofs.Math.Nat.{mul-suc}
use Rattle.std.proofs.lemmas.Bool.{false≢true, ltb-true}
use Rattle.std.proofs.lemmas.Bool.Decides.{nat_tests}
use Rattle.std.proofs.lemmas.Nat.{mul-le}
use Rattle.world_laws.proofs.Types.{Entry}
use Rattle.geo_base.specs.Entry.{goes_to, is_outbound}
use Rattle.geo_base.specs.Replicator.{Replicator}
use Rattle.world_laws.proofs.Budget.Tails.{at_add, at_le, from_push, sum_at}
use Rattle.world_laws.proofs.Walks.Walk.{left, on_if, on_test, right}
use Rattle.world_laws.proofs.Budget.Weights.{arrives, asking, behind, dear, is_peer, is_request, unread}

-- how many other clusters there are from i on
abbrev later : ℕ → ℕ → ℕ → ℕ
later n x i = if nat_lt x i then n - i else n - 1 - i

one_later : (n x i : ℕ) → x < n → i < n → (d e : Bool) → nat_lt x i ≡ d → nat_lt x (suc i) ≡ e → (i == x) ≡ false
    → (if d then n - i else n - 1 - i) ≡ suc (if e then n - suc i else n - 1 - suc i)
one_later n x i lt lt' true true h k other = omega (arith, lt, lt')
one_later n x i lt lt' true false h k other = absurd (grind (arith, nat_tests, h, k))
one_later n x i lt lt' false true h k other = absurd (grind (arith, nat_tests, h, k, other))
one_later n x i lt lt' false false h k other = let far : suc i ≤ x = grind (arith, nat_tests, k) in omega (arith, lt, far)

none_later : (n x i : ℕ) → (d e : Bool) → nat_lt x i ≡ d → nat_lt x (suc i) ≡ e → (if e then n - suc i else n - 1 - suc i) ≤ (if d then n - i else n - 1 - i)
none_later n x i true true h k = omega arith
none_later n x i true false h k = absurd (grind (arith, nat_tests, h, k))
none_later n x i false true h k = omega arith
none_later n x i false false h k = omega arith

peer_step : (n x c i rest : ℕ) → x < n → rest ≤ c * later n x (suc i) → (b : Bool) → is_peer n x i ≡ b → (if b then c else 0) + rest ≤ c * later n x i
peer_step n x c i rest lt le true h =
    let e =
    one_later n x i lt (ltb-true i n (left (nat_lt i n) _ h)) (nat_lt x i) (nat_lt x (suc i)) refl refl (other (i == x) (right (nat_lt i n) _ h)) in
    let d = ap (λ (j : ℕ). c * j) e ∙ mul-suc c (later n x (suc i)) in omega (arith, le, d)
  where
    other : (b : Bool) → not b ≡ true → b ≡ false
    other true h = absurd (false≢true h)
    other false h = refl
peer_step n x c i rest lt le false h =
    let more = mul-le c (later n x (suc i)) c (later n x i) (omega arith) (none_later n x i (nat_lt x i) (nat_lt x (suc i)) refl refl) in omega (arith, le, more)

-- so much for each
each_from : (n x c i : ℕ) → x < n → (ss : List Replicator) → sum_at (λ y (s : Replicator). if is_peer n x y then c else 0) i ss ≤ c * later n x i
each_from n x c i lt [] = omega arith
each_from n x c i lt (s ∷ ss) = peer_step n x c i _ lt (each_from n x c (suc i) lt ss) (is_peer n x i) refl

pub each_peer : (n x c : ℕ) → x < n → (ss : List Replicator) → sum_at (λ y (s : Replicator). if is_peer n x y then c else 0) 0 ss ≤ c * (n - 1)
each_peer n x c lt ss =
    let all : later n x 0 ≤ n - 1 = on_test (λ (j : ℕ). j ≤ n - 1) (nat_lt x 0) (n - 0) (n - 1 - 0) (λ h. absurd (grind (arith, nat_tests, h))) (λ _. omega arith) in
    omega (arith, each_from n x c 0 lt ss, mul-le c (later n x 0) c (n - 1) (omega arith) all)

-- so much for the one that sends to o
one_step : (o c i rest : ℕ) → (a b d : Bool) → (o == i) ≡ a → nat_lt o i ≡ b → nat_lt o (suc i) ≡ d → rest ≤ (if d then 0 else c)
    → (if a then c else 0) + rest ≤ (if b then 0 else c)
one_step o c i rest true true d h k l le = absurd (grind (arith, nat_tests, h, k))
one_step o c i rest true false true h k l le = omega (arith, le)
one_step o c i rest true false false h k l le = absurd (grind (arith, nat_tests, h, l))
one_step o c i rest false true true h k l le = omega (arith, le)
one_step o c i rest false true false h k l le = absurd (grind (arith, nat_tests, k, l))
one_step o c i rest false false true h k l le = omega (arith, le)
one_step o c i rest false false false h k l le = omega (arith, le)

one_from : (o c i : ℕ) (ss : List Replicator) → sum_at (λ y (s : Replicator). if o == y then c else 0) i ss ≤ (if nat_lt o i then 0 else c)
one_from o c i [] = omega arith
one_from o c i (s ∷ ss) = one_step o c i _ (o == i) (nat_lt o i) (nat_lt o (suc i)) refl refl refl (one_from o c (suc i) ss)

one_at : (o c : ℕ) (ss : List Replicator) → sum_at (λ y (s : Replicator). if o == y then c else 0) 0 ss ≤ c
one_at o c ss = let most : (if nat_lt o 0 then 0 else c) ≤ c = on_if (λ (j : ℕ). j ≤ c) (nat_lt o 0) 0 c (omega arith) (omega arith) in omega (arith, one_from o c 0 ss, most)

-- what an entry weighs for all replicators that have not read it
abbrev pub for_all : ℕ → ℕ → Entry → List Replicator → ℕ
for_all n x e ss = sum_at (λ y (s : Replicator). if is_peer n x y then unread (n - 1) x y e else 0) 0 ss

push_one : (b : Bool) (p q u : ℕ) → p ≤ q + u → (if b then p else 0) ≤ (if b then q else 0) + (if b then u else 0)
push_one true p q u h = h
push_one false p q u h = omega arith

pub pushed_weight : (n x : ℕ) (es : List Entry) (e : Entry) (ss : List Replicator)
    → sum_at (behind n x (es ++ e ∷ [])) 0 ss ≤ sum_at (behind n x es) 0 ss + for_all n x e ss
pushed_weight n x es e ss =
    let each =
    at_le (behind n x (es ++ e ∷ [])) (λ y (s : Replicator). behind n x es y s + (if is_peer n x y then unread (n - 1) x y e else 0))
    (λ y s. push_one (is_peer n x y) _ _ _ (from_push (unread (n - 1) x y) s.read_index es e)) 0 ss in
    let all = at_add (behind n x es) (λ y (s : Replicator). if is_peer n x y then unread (n - 1) x y e else 0) 0 ss in omega (arith, each, all)

-- the most that an entry weighs for one replicator
abbrev pub request_part : ℕ → Entry → ℕ
request_part m e = if is_request e.content then dear m else 0

most_unread : (a b : Bool) (m d : ℕ) → (if a then 3 + (m + d) else 1 + (if b then d else 0)) ≤ 3 + m + d
most_unread true b m d = omega arith
most_unread false true m d = omega arith
most_unread false false m d = omega arith

pub unread_most : (m x y : ℕ) (e : Entry) → unread m x y e ≤ 3 + m + request_part m e
unread_most m x y e = most_unread (is_outbound x y e) (e.ident.origin == y) m (request_part m e)

at_most : (b : Bool) (p q : ℕ) → p ≤ q → (if b then p else 0) ≤ (if b then q else 0)
at_most true p q h = h
at_most false p q h = omega arith

-- and for all
for_all_most : (n x : ℕ) (e : Entry) (ss : List Replicator) → x < n → for_all n x e ss ≤ (3 + (n - 1) + request_part (n - 1) e) * (n - 1)
for_all_most n x e ss lt =
    let c : ℕ = 3 + (n - 1) + request_part (n - 1) e in
    let each =
    at_le (λ y (s : Replicator). if is_peer n x y then unread (n - 1) x y e else 0) (λ y (s : Replicator). if is_peer n x y then c else 0)
    (λ y s. at_most (is_peer n x y) (unread (n - 1) x y e) c (unread_most (n - 1) x y e)) 0 ss in
    omega (arith, each, each_peer n x c lt ss)

pub plain_cost : (n x : ℕ) (e : Entry) (ss : List Replicator) → x < n → is_request e.content ≡ false → for_all n x e ss ≤ dear (n - 1)
unfolding dear
plain_cost n x e ss lt plain =
    let m : ℕ = n - 1 in
    let d : 3 + m + request_part m e ≡ 3 + m = let z = ap (λ (b : Bool). if b then dear m else 0) plain in omega (arith, z) in
    let c = ap (λ (k : ℕ). k * m) d in omega (arith, for_all_most n x e ss lt, c)

pub request_cost : (n x : ℕ) (e : Entry) (ss : List Replicator) → x < n → is_request e.content ≡ true → for_all n x e ss ≤ asking (n - 1)
unfolding asking
request_cost n x e ss lt asks =
    let m : ℕ = n - 1 in
    let d : 3 + m + request_part m e ≡ 3 + m + dear m = ap (λ (b : Bool). 3 + m + (if b then dear m else 0)) asks in
    let c = ap (λ (k : ℕ). k * m) d in omega (arith, for_all_most n x e ss lt, c)

-- an entry of another cluster
came_one : (a b p : Bool) (m d : ℕ) → a ≡ false → (if p then (if a then 3 + (m + d) else 1 + (if b then d else 0)) else 0) ≤ (if p then 1 else 0) + (if b then d else 0)
came_one true b p m d h = absurd (false≢true (sym h))
came_one false true true m d h = omega arith
came_one false false true m d h = omega arith
came_one false b false m d h = omega arith

pub came_cost : (n x : ℕ) (e : Entry) (ss : List Replicator) → x < n → (e.ident.origin == x) ≡ false → for_all n x e ss ≤ arrives (n - 1) e.content
came_cost n x e ss lt other =
    let m : ℕ = n - 1 in
    let d : ℕ = request_part m e in
    let each =
    at_le (λ y (s : Replicator). if is_peer n x y then unread m x y e else 0)
    (λ y (s : Replicator). (if is_peer n x y then 1 else 0) + (if e.ident.origin == y then d else 0))
    (λ y s. came_one (is_outbound x y e) (e.ident.origin == y) (is_peer n x y) m d (ap (λ (b : Bool). b && goes_to y e.to) other)) 0 ss in
    let all = at_add (λ y (s : Replicator). if is_peer n x y then 1 else 0) (λ y (s : Replicator). if e.ident.origin == y then d else 0) 0 ss in
    omega (arith, each, all, each_peer n x 1 lt ss, one_at e.ident.origin d ss)
