-- Lists whose items can be written and read again.
use Rattle.std.specs.Prelude.{◌≡◌, ℕ, List, [], ◌∷◌, ◌++◌}
use Rattle.cursor_acks.specs.declared.range.IndexRange.{IndexRange}
use Rattle.cursor_acks.specs.Ranges.{indexes_of}
use Rattle.state_items.specs.Ranges.{AreIn}

-- each fits after those before it
abbrev pub AllFit : {A : Type 0} → (List A → A → Type 0) → List A → List A → Type 0
AllFit Fits before [] = Unit {0}
AllFit Fits before (x ∷ xs) = Fits before x × AllFit Fits (before ++ x ∷ []) xs

-- the indexes of a cursor over a topic of n entries: they ascend, each once, and are below n
pub record IsCursor (n : ℕ) (set : List ℕ) : Type 0 where
  pub ranges : List IndexRange
  pub inside : AreIn n ranges
  pub is : set ≡ indexes_of ranges
