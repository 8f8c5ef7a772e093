-- What the bytes of a file are loaded as.
use Rattle.std.specs.Prelude.{◌≡◌, ℕ, ◌+◌, ◌-◌, ◌==◌, Bool, true, false, ◌||◌, List, length, take, Result, Ok, Err}
use Rattle.state_items.specs.declared.fault.Broken.{Broken}
use Rattle.state_items.specs.Numbers.{number_of}
use Rattle.state_items.specs.Reading.{number_at}
use Rattle.state_file.specs.State.{SavedState}
use Rattle.state_file.specs.Reading.{IsBody, version_at}

-- why a file is refused: the first item that breaks a rule, by the offset of its first byte and the rule's number, or a version
-- that nobody reads, which is judged before what stands after it
pub data Refusal : Type 0 where
  bad_state : (offset rule : ℕ) → Refusal
  version : (n : ℕ) → Refusal

abbrev pub is_known : ℕ → Bool
is_known v = (v == 1) || (v == 2)

-- an item of so many bytes
abbrev pub bad : ℕ → Broken → Refusal
bad whole b = bad_state (whole - b.left) (number_of b.rule)

-- a state and how many bytes it takes; the body begins after twenty
abbrev pub Loaded : Type 0
Loaded = Result (SavedState × ℕ) Refusal

pub data IsLoaded (bytes : List ℕ) (answer : Loaded) : Type 0 where
  no_version : (b : Broken) → version_at bytes ≡ Err b → answer ≡ Err (bad (length bytes) b) → IsLoaded bytes answer
  unknown : (v : ℕ × List ℕ) → version_at bytes ≡ Ok v → is_known v.0 ≡ false → answer ≡ Err (version v.0) → IsLoaded bytes answer
  no_size : (v : ℕ × List ℕ) (b : Broken) → version_at bytes ≡ Ok v → is_known v.0 ≡ true → number_at v.1 ≡ Err b → answer ≡ Err (bad (length bytes) b) → IsLoaded bytes answer
  broken : (v n : ℕ × List ℕ) (b : Broken) → version_at bytes ≡ Ok v → is_known v.0 ≡ true → number_at v.1 ≡ Ok n → IsBody v.0 n.0 (take n.0 n.1) (Err b) → answer ≡ Err (bad (20 + length (take n.0 n.1)) b) → IsLoaded bytes answer
  whole : (v n : ℕ × List ℕ) (s : SavedState) → version_at bytes ≡ Ok v → is_known v.0 ≡ true → number_at v.1 ≡ Ok n → IsBody v.0 n.0 (take n.0 n.1) (Ok s) → answer ≡ Ok (s, 20 + n.0) → IsLoaded bytes answer
