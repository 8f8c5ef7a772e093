use Rattle.std.proofs.Common.{◌≡◌, ◌∙◌, List, ℕ, subst}
use Rattle.script_rows.specs.NameBytes.{is_among}
use Rattle.script_rows.proofs.FoundNames.{among}
use Rattle.script_rows.proofs.table.NameTable.contains.Goals as goal

pub returns : goal.returns
returns c =
    subst (λ (v : List (List ℕ)). c.contains.result ≡ is_among v c.args.word.now) c.self.view_is (c.contains.ensures ∙ among c.args.word.now c.self.inside.names.keys)
