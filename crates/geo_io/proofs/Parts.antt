-- The parts of lists that a call moves.
use Rattle.std.proofs.Common.{◌≡◌, ℕ, ◌+◌, ◌-◌, ◌<◌, ◌≤◌, min, List, [], ◌++◌, take, drop, length, sym, ◌∙◌, append-nil, ap, subst, arith}
use Rattle.std.specs.Io.KnownBytes.{Consumes, Keeps}
use Rattle.std.specs.Prelude.{Option, Some, None}
use Rattle.std.proofs.Math.Seq.{take-append-add}
use Rattle.std.proofs.lemmas.List.{length-append, length-take, length-take-le, take-append-drop, take-append-le, take-take, take_min, drop-drop}
pub use Rattle.geo_base.proofs.Results.{on_err_always as OnErr-from}

-- the n bytes that were copied from the first m of what is left, and then the rest
pub drop_copied : (bytes to : List ℕ) (taken n m : ℕ) → n ≤ m → take n to ≡ take n (take m (drop taken bytes)) → drop taken bytes ≡ take n to ++ drop (taken + n) bytes
drop_copied bytes to taken n m le copied =
    sym (take-append-drop n (drop taken bytes)) ∙ (ap (λ l. l ++ drop n (drop taken bytes)) (sym (copied ∙ take-take n m (drop taken bytes) le)) ∙ ap (λ l. take n to ++ l) (drop-drop n taken bytes))

-- the buffer up to where the copied bytes end, which are those of the piece that had room
pub take-filled : (buffer room rest piece : List ℕ) (at n : ℕ) → at ≤ length buffer → length room ≡ length buffer - at → n ≡ min (length piece) (length room) → take n room ≡ take n piece → take (at + n) (take at buffer ++ (room ++ rest)) ≡ take (length buffer) (take at buffer ++ piece)
take-filled buffer room rest piece at n within size count copied =
    let front : length (take at buffer) ≡ at = length-take-le at buffer within in
    let all : length (take at buffer) + (length buffer - at) ≡ length buffer = omega (arith, front) in
    let fits : n ≤ length room = omega (arith, count) in
    let kept : (l : List ℕ) (k : ℕ) → take (at + k) (take at buffer ++ l) ≡ take at buffer ++ take k l =
    λ l k. subst (λ (m : ℕ). take (m + k) (take at buffer ++ l) ≡ take at buffer ++ take k l) front (take-append-add (take at buffer) l k) in
    let moved : take n (room ++ rest) ≡ take (length buffer - at) piece =
    take-append-le n room rest fits ∙ (copied ∙ (ap (λ k. take k piece) (count ∙ omega (arith, size)) ∙ take_min (length buffer - at) piece)) in
    kept (room ++ rest) n ∙ (ap (λ l. take at buffer ++ l) moved ∙ (sym (kept piece (length buffer - at)) ∙ ap (λ k. take k (take at buffer ++ piece)) (omega (arith, within))))

-- some bytes, and the first n of a buffer after them, are no more than find room
pub within : (xs ys : List ℕ) (n most : ℕ) → length xs ≤ most → n ≤ most - length xs → length (xs ++ take n ys) ≤ most
within xs ys n most short room =
    let len : length (xs ++ take n ys) ≡ length xs + length (take n ys) = length-append xs (take n ys) in
    omega (arith, len, length-take n ys)

pub over : (xs ys : List ℕ) (n most : ℕ) → length xs ≤ most → n ≤ length ys → most - length xs < n → most < length (xs ++ take n ys)
over xs ys n most short all more =
    let len : length (xs ++ take n ys) ≡ length xs + length (take n ys) = length-append xs (take n ys) in
    let taken : length (take n ys) ≡ n = length-take-le n ys all in omega (arith, len, taken, short, more)

-- what held of some bytes holds of them with none after
pub with_none : (P : List ℕ → Type 0) (xs : List ℕ) → P (xs ++ []) → P xs
with_none P xs p = subst P (append-nil xs) p

pub none_taken : (P : List ℕ → Type 0) (n : ℕ) (xs : List ℕ) → n ≡ 0 → P (take n xs) → P []
none_taken P n xs is p = subst (λ (k : ℕ). P (take k xs)) is p

-- a call that failed took nothing from what was left
pub consumed_still : (a b c : Option (List ℕ)) (xs : List ℕ) → Consumes a b xs → Keeps b c → Consumes a c xs
consumed_still None b c xs first same = tt
consumed_still (Some a) None c xs first same = absurd first
consumed_still (Some a) (Some b) None xs first same = absurd same
consumed_still (Some a) (Some b) (Some c) xs first same = first ∙ ap (λ (l : List ℕ). xs ++ l) (sym same)
