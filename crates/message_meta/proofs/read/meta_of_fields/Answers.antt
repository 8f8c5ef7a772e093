use Rattle.std.proofs.Common.{List, None, refl, sym, subst, ◌∙◌}
use Rattle.std.specs.Prelude.{IfSome}
use Rattle.std.specs.List.{last_or}
use Rattle.pb_fields.specs.declared.field.Value.{Value}
use Rattle.pb_fields.specs.declared.message.Form.TheVariants as form
use Rattle.pb_fields.specs.Message.{HasForm}
use Rattle.pb_fields.proofs.LastValues.{last_value-form, last_value-required, values-form}
use Rattle.message_meta.specs.Table.{rows}
use Rattle.message_meta.proofs.read.meta_of_fields.Goals as goal

pub texts-requires : goal.texts-requires
texts-requires c = rw c.as_slice-known.ensures.fields (values-form rows 7 _ c.args.fields refl c.requires.fit)

pub take_text-requires : goal.take_text-requires
take_text-requires c = last_value-form rows 1 _ c.args.fields refl c.requires.fit

pub unreachable-requires : goal.unreachable-requires
unreachable-requires c = last_value-required rows 1 _ c.args.fields refl refl c.requires c.in-None.ensures.taken

pub take_text-replicated_from-requires : goal.take_text-replicated_from-requires
take_text-replicated_from-requires c =
    subst (λ (vs : List Value). IfSome (last_or None vs) (λ v. HasForm v form.Text)) (sym (c.take_text.ensures.others 5 (λ e. cc))) (last_value-form rows 5 _ c.args.fields refl c.requires.fit)

pub take_text-key-requires : goal.take_text-key-requires
take_text-key-requires c =
    subst (λ (vs : List Value). IfSome (last_or None vs) (λ v. HasForm v form.Text)) (sym (c.take_text-replicated_from.ensures.others 6 (λ e. cc) ∙ c.take_text.ensures.others 6 (λ e. cc))) (last_value-form rows 6 _ c.args.fields refl c.requires.fit)

pub invariant_of-result : goal.invariant_of-result
invariant_of-result c = c.keep_unknown.ensures.unknown
