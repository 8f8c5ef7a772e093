use Rattle.std.proofs.Common.{◌≡◌, ◌++◌, ◌∷◌, [], ◌∙◌, List, ℕ, ap, false, subst, sym}
use Rattle.script_rows.specs.NameBytes.{is_among, words}
use Rattle.script_rows.proofs.FoundNames.{pushed}
use Rattle.script_rows.proofs.table.NameTable.push.Goals as goal

pub returns-clause-ok : goal.returns-clause-ok
returns-clause-ok c =
    let new : is_among (words c.self.inside.names.keys) c.args.name.now ≡ false = subst (λ (v : List (List ℕ)). is_among v c.args.name.now ≡ false) (sym c.self.view_is) c.requires in
    let made : words c.insert.new.self.keys ≡ words c.self.inside.names.keys ++ c.args.name.now ∷ [] = ap words c.in_ok-insert.ensures.keys ∙ pushed c.args.name c.self.inside.names.keys new in
    subst (λ (v : List (List ℕ)). words c.insert.new.self.keys ≡ v ++ c.args.name.now ∷ []) c.self.view_is made
