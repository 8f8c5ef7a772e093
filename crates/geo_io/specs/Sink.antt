-- The bytes that a sink holds, where it tells them, and those that it took. A sink may stop telling what it holds, and then never
-- tells it again.
use Rattle.std.specs.Prelude.{◌≡◌, ℕ, List, [], ◌++◌, take, Option, Some, None, Result, MatchResult, ⊤}
use Rattle.std.proofs.Common.{sym, ap, ◌∙◌, append_assoc}
use Rattle.std.proofs.lemmas.List.{append-nil}
use Rattle.std.specs.Io.KnownBytes.{Appends}

-- a sink that tells its bytes told them before, and holds the same
abbrev pub Keeps : Option (List ℕ) → Option (List ℕ) → Type 0
Keeps old None = ⊤
Keeps None (Some ys) = ⊥
Keeps (Some xs) (Some ys) = ys ≡ xs

-- a sink that tells its bytes told them before, and holds these after them
abbrev pub Gains : Option (List ℕ) → Option (List ℕ) → List ℕ → Type 0
Gains old None bytes = ⊤
Gains None (Some ys) bytes = ⊥
Gains (Some xs) (Some ys) bytes = ys ≡ xs ++ bytes

-- a write took the first n bytes of the piece at `Ok(n)`, and none at `Err`
abbrev pub WriteGains : {E : Type 0} → Option (List ℕ) → Option (List ℕ) → Result ℕ E → List ℕ → Type 0
WriteGains old new result piece = MatchResult result (λ n. Gains old new (take n piece)) (λ _. Keeps old new)

-- the same, by what it took
abbrev pub WriteTakes : {E : Type 0} → (List ℕ → Type 0) → Result ℕ E → List ℕ → Type 0
WriteTakes taken result piece = MatchResult result (λ n. taken (take n piece)) (λ _. taken [])

-- ---- where what a sink took is what it gained
pub Gains-none : (a : Option (List ℕ)) → Gains a a []
Gains-none None = tt
Gains-none (Some xs) = sym (append-nil xs)

pub Gains-more : (a b c : Option (List ℕ)) (xs ys : List ℕ) → Gains a b xs → Gains b c ys → Gains a c (xs ++ ys)
Gains-more a b None xs ys first second = tt
Gains-more a None (Some c) xs ys first second = absurd second
Gains-more None (Some b) (Some c) xs ys first second = absurd first
Gains-more (Some a) (Some b) (Some c) xs ys first second =
    second ∙ (ap (λ l. l ++ ys) first ∙ append_assoc a xs ys)

pub Appends-none : (a : Option (List ℕ)) → Appends a a []
Appends-none None = tt
Appends-none (Some xs) = sym (append-nil xs)

pub Appends-more : (a b c : Option (List ℕ)) (xs ys : List ℕ) → Appends a b xs → Appends b c ys → Appends a c (xs ++ ys)
Appends-more None b c xs ys first second = tt
Appends-more (Some a) None c xs ys first second = absurd first
Appends-more (Some a) (Some b) None xs ys first second = absurd second
Appends-more (Some a) (Some b) (Some c) xs ys first second =
    second ∙ (ap (λ l. l ++ ys) first ∙ append_assoc a xs ys)
