-- Reading items from left to right, up to the first one that breaks a rule (own: a state file is this project's).
use Rattle.std.specs.Prelude.{◌≡◌, ℕ, zero, suc, nat_lt, nat_le, Bool, true, false, if◌then◌else◌, List, [], ◌∷◌, ◌++◌, length, take, drop, Result, Ok, Err}
use Rattle.std.specs.Int.{Width, w32, w64, byte_len, from_be_bytes}
use Rattle.state_items.specs.declared.fault.Broken.{Broken}
use Rattle.state_items.specs.declared.fault.ItemFault.{ItemFault}
use Rattle.state_items.specs.declared.fault.ItemFault.TheVariants as item_fault
use Rattle.state_items.specs.declared.rule.Rule.{Rule}
use Rattle.state_items.specs.declared.rule.Rule.TheVariants as rule

-- the item at the front of the bytes breaks a rule
abbrev pub broken : List ℕ → Rule → Broken
broken bytes r = record { left = length bytes; rule = r }

-- what is read, or the first item that breaks a rule
abbrev pub Answer : Type 0 → Type 0
Answer A = Result A Broken

-- a value and the bytes after it
abbrev pub Read : Type 0 → Type 0
Read A = Answer (A × List ℕ)

-- one reading and then the next
infixl 10 ◌>>=◌
abbrev pub ◌>>=◌ : {A B : Type 0} → Answer A → (A → Answer B) → Answer B
(Ok x) >>= f = f x
(Err e) >>= f = Err e

-- What a function answered is what reading gives, its value seen by view, unless memory ran out.
abbrev pub Fails : {Y : Type 0} → ItemFault → Answer Y → Type 0
Fails item_fault.Memory read = Unit {0}
Fails (item_fault.Broken b) read = read ≡ Err b

abbrev pub Gives : {X Y : Type 0} → (X → Y) → Result X ItemFault → Answer Y → Type 0
Gives view (Ok x) read = read ≡ Ok (view x)
Gives view (Err e) read = Fails e read

-- ---- items

-- a number of a width, its greatest byte first
abbrev pub wide_at : Width → List ℕ → Read ℕ
wide_at w bytes =
    if nat_lt (length bytes) (byte_len w) then Err (broken bytes rule.Whole)
    else Ok (from_be_bytes w (take (byte_len w) bytes), drop (byte_len w) bytes)

unfoldable pub number_at : List ℕ → Read ℕ
number_at bytes = wide_at w64 bytes

unfoldable pub word_at : List ℕ → Read ℕ
word_at bytes = wide_at w32 bytes

abbrev pub byte_at : List ℕ → Read ℕ
byte_at [] = Err (broken [] rule.Whole)
byte_at (b ∷ bytes) = Ok (b, bytes)

-- a length and so many bytes are one item
unfoldable pub text_at : List ℕ → Read (List ℕ)
text_at bytes = do
  n ← word_at bytes
  if nat_lt (length n.1) n.0 then Err (broken bytes rule.Whole) else Ok (take n.0 n.1, drop n.0 n.1)

-- a test of the item at the front of the bytes
abbrev pub judge : Bool → List ℕ → Rule → Answer (Unit {0})
judge true item r = Ok tt
judge false item r = Err (broken item r)

-- a number that is at most `most`
unfoldable pub number_within : ℕ → Rule → List ℕ → Read ℕ
number_within most r bytes = do
  n ← number_at bytes
  kept ← judge (nat_le n.0 most) bytes r
  Ok n

-- ---- lists

-- so many items, each read with those before it at hand
unfoldable pub many : {A : Type 0} → (List A → List ℕ → Read A) → ℕ → List A → List ℕ → Read (List A)
many one zero before bytes = Ok (before, bytes)
many one (suc n) before bytes = do
  x ← one before bytes
  many one n (before ++ x.0 ∷ []) x.1

-- a count of items, each of which breaks no rule by itself, and the items
abbrev pub list_at : {A : Type 0} → (List A → List ℕ → Read A) → List ℕ → Read (List A)
list_at one bytes = number_at bytes >>= λ n. many one n.0 [] n.1
