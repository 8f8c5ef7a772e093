-- Names that are told apart, put into a table one by one: the next one is new.
use Rattle.std.proofs.Common.{◌≡◌, ℕ, ◌<◌, false, List, [], length, take, get_or, Some, arith, sym, ap, ◌∙◌}
use Rattle.std.specs.Str.{bytes_eq}
use Rattle.std.proofs.lemmas.List.{get_or-take, length-take-le}
use Rattle.std.proofs.lemmas.List.Elements.{All-from_get_or}
use Rattle.std.proofs.lemmas.List.Folds.{list_any_none}
use Rattle.std.proofs.lemmas.Option.{slice_get-get_or}
use Rattle.geo_base.specs.Scripted.{AreDistinct}
use Rattle.script_rows.specs.NameBytes.{is_among}
use Rattle.script_rows.specs.NameWords.{Word}

pub fresh : (xs : List Word) (i : ℕ) (x : Word) → AreDistinct xs → i < length xs → x ≡ get_or xs i x → is_among (take i xs) x ≡ false
fresh xs i x apart within is =
    let few : length (take i xs) ≡ i = length-take-le i xs (omega arith) in
    list_any_none (λ n. bytes_eq n x) (take i xs)
    (All-from_get_or (λ n. bytes_eq n x ≡ false) (take i xs) []
    (λ k before. rw (get_or-take i xs k [] (omega (arith, few))) (apart k i (get_or xs k []) x (omega (arith, few)) (slice_get-get_or xs k [] (omega (arith, few))) (slice_get-get_or xs i x within ∙ ap Some (sym is)))))
