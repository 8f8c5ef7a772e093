-- The values of a row, word by word.
use Rattle.std.proofs.Common.{◌≡◌, ◌++◌, List, [], ◌∷◌, Some, option_map}
use Rattle.script_rows.specs.NameWords.{Word}
use Rattle.script_rows.specs.declared.column.Column.{Column}
use Rattle.script_rows.specs.declared.value.Value.{Value}
use Rattle.script_rows.specs.Columns.{seen_after, value_of}
use Rattle.script_rows.specs.Judging.{values_of}
use Rattle.script_rows.specs.Names.{Names, Seen}
use Rattle.script_rows.proofs.WordParts.{one_more}

pub values_step : (n : Names) (s : Seen) (c : Column) (w : Word) (v : Value) (cs : List Column) (ws : List Word) (xs : List Value) (columns : List Column) (words : List Word) → columns ≡ c ∷ cs → words ≡ w ∷ ws → value_of n s c w ≡ Some v → option_map (λ ys. xs ++ ys) (values_of n s columns words) ≡ option_map (λ ys. (xs ++ v ∷ []) ++ ys) (values_of n (seen_after n s c w) cs ws)
values_step n s c w v cs ws xs columns words first second e =
    rw (first, second, e) (one_more xs v (values_of n (seen_after n s c w) cs ws))
