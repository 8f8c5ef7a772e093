use Rattle.std.proofs.Common.{◌≡◌, List, ℕ, Some, None, cond, subst, sym}
use Rattle.script_rows.specs.NameBytes.{is_among, number_in}
use Rattle.script_rows.proofs.FoundNames.{found}
use Rattle.script_rows.proofs.table.NameTable.find.Goals as goal

pub returns-in-Some : goal.returns-in-Some
returns-in-Some c =
    subst (λ (v : List (List ℕ)). Some c.in-Some.place ≡ cond (is_among v c.args.word.now) (Some (number_in v c.args.word.now)) None) c.self.view_is (found c.args.word.now c.self.inside.names.keys c.in-Some.place (sym c.in-Some.ensures.index) c.in-Some.ensures.found)
