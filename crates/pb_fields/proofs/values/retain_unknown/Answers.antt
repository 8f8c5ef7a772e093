use Rattle.std.proofs.Common.{Bool, rules}
use Rattle.std.specs.Prelude.{is_none}
use Rattle.std.proofs.lemmas.Fn.{filter_same}
use Rattle.pb_fields.specs.declared.field.Field.{Field}
use Rattle.pb_fields.specs.Message.{row_of}
use Rattle.pb_fields.proofs.values.retain_unknown.Goals as goal

pub returns : goal.returns
returns c =
    let test : Field → Bool = λ f. is_none (row_of c.args.rows.now f.number) in
    filter_same _ test _ (λ x b f k. search rules) c.args.fields.now.items c.retain.new.self.items c.retain.ensures.filtered
