-- Lists pair by pair, and small facts of lists and numbers.
use Rattle.std.proofs.Common.{◌≡◌, ℕ, zero, suc, ◌+◌, ◌≤◌, ◌<◌, ◌^◌, List, [], ◌∷◌, ◌++◌, length, refl, ap, arith}
use Rattle.std.specs.Prelude.{None, drop, slice_get, slice_set, slice_index_or, map, replicate}
use Rattle.std.proofs.lemmas.List.{at_drop_more, drop_all, set_past}
use Rattle.geo_base.proofs.Lists.{index_or_past}
use Rattle.geo_base.specs.declared.packet.WireOut.{WireOut}
use Rattle.links.specs.Each.{Each, none, more, Both, neither, both}
use Rattle.links.specs.Queues.{Queue, bytes_of}

pub each_get : {A B : Type 0} (R : A → B → Type 0) (xs : List A) (ys : List B) (i : ℕ) → Each R xs ys → Both R (slice_get xs i) (slice_get ys i)
each_get R _ _ i none = neither
each_get R _ _ zero (more h t) = both h
each_get R _ _ (suc i) (more {xs = xs} {ys = ys} h t) = each_get R xs ys i t

pub each_or : {A B : Type 0} (R : A → B → Type 0) (xs : List A) (ys : List B) (i : ℕ) (d : A) (e : B) → R d e → Each R xs ys → R (slice_index_or xs i d) (slice_index_or ys i e)
each_or R _ _ i d e k none = k
each_or R _ _ zero d e k (more h t) = h
each_or R _ _ (suc i) d e k (more {xs = xs} {ys = ys} h t) = each_or R xs ys i d e k t

pub each_set : {A B : Type 0} (R : A → B → Type 0) (xs : List A) (ys : List B) (i : ℕ) (a : A) (b : B) → R a b → Each R xs ys → Each R (slice_set xs i a) (slice_set ys i b)
each_set R _ _ i a b k none = none
each_set R _ _ zero a b k (more h t) = more k t
each_set R _ _ (suc i) a b k (more {xs = xs} {ys = ys} h t) = more h (each_set R xs ys i a b k t)

pub each_push : {A B : Type 0} (R : A → B → Type 0) (xs : List A) (ys : List B) (a : A) (b : B) → R a b → Each R xs ys → Each R (xs ++ a ∷ []) (ys ++ b ∷ [])
each_push R _ _ a b k none = more k none
each_push R _ _ a b k (more {xs = xs} {ys = ys} h t) = more h (each_push R xs ys a b k t)

pub each_rest : {A B : Type 0} (R : A → B → Type 0) (xs : List A) (ys : List B) → Each R xs ys → Each R (drop 1 xs) (drop 1 ys)
each_rest R _ _ none = none
each_rest R _ _ (more h t) = t

pub each_copies : {A B : Type 0} (R : A → B → Type 0) (n : ℕ) (a : A) (b : B) → R a b → Each R (replicate n a) (replicate n b)
each_copies R zero a b k = none
each_copies R (suc n) a b k = more k (each_copies R n a b k)

pub each_map : {A B : Type 0} (R : A → B → Type 0) (f : A → A) (g : B → B) (xs : List A) (ys : List B) → ((x : A) (y : B) → R x y → R (f x) (g y)) → Each R xs ys → Each R (map f xs) (map g ys)
each_map R f g _ _ k none = none
each_map R f g _ _ k (more {x = x} {y = y} {xs = xs} {ys = ys} h t) = more (k x y h) (each_map R f g xs ys k t)

pub each_length : {A B : Type 0} (R : A → B → Type 0) (xs : List A) (ys : List B) → Each R xs ys → length xs ≡ length ys
each_length R _ _ none = refl
each_length R _ _ (more {xs = xs} {ys = ys} h t) = ap suc (each_length R xs ys t)

pub first_left : {A : Type 0} (n : ℕ) (xs : List A) → slice_get (drop n xs) 0 ≡ slice_get xs n
first_left zero xs = refl
first_left (suc n) [] = refl
first_left (suc n) (x ∷ xs) = first_left n xs

pub set_nowhere : {A : Type 0} (xs : List A) (i : ℕ) (x : A) → length xs ≤ i → slice_set xs i x ≡ xs
set_nowhere xs i x h = set_past xs i x h

-- past the last link there is nothing to take
pub next_nowhere : (qs : List Queue) (i : ℕ) → length qs ≤ i → slice_get (slice_index_or qs i []) 0 ≡ None
next_nowhere qs i h = ap (λ (q : Queue). slice_get q 0) (index_or_past qs i [] h)

-- ---- sums

pub rest_bytes : (os : List WireOut) (i n m : ℕ) (d : WireOut) → i < length os → m ≡ n + length (slice_index_or os i d).frame → n + bytes_of (drop i os) ≡ bytes_of os
    → m + bytes_of (drop (i + 1) os) ≡ bytes_of os
rest_bytes os i n m d h is all =
    let at : bytes_of (drop i os) ≡ length (slice_index_or os i d).frame + bytes_of (drop (i + 1) os) = at_drop_more bytes_of os i d h in
    omega (arith, at, is, all)

pub last_bytes : (os : List WireOut) (i n : ℕ) → length os ≤ i → n + bytes_of (drop i os) ≡ bytes_of os → n ≡ bytes_of os
last_bytes os i n h all =
    let nothing : bytes_of (drop i os) ≡ 0 = ap bytes_of (drop_all i os h) in
    omega (arith, nothing, all)

pub many_bytes : (os : List WireOut) (i n : ℕ) (d : WireOut) → i < length os → 2 ^ 64 ≤ n + length (slice_index_or os i d).frame → n + bytes_of (drop i os) ≡ bytes_of os → 2 ^ 64 ≤ bytes_of os
many_bytes os i n d h large all =
    let at : bytes_of (drop i os) ≡ length (slice_index_or os i d).frame + bytes_of (drop (i + 1) os) = at_drop_more bytes_of os i d h in
    omega (arith, at, large, all)
