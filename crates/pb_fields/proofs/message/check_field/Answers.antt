use Rattle.std.proofs.Common.{◌≡◌, ◌≢◌, true, false, not, refl, sym, ◌∙◌, rules}
use denote.Enum.Bare.{sameb, same_true}
use Rattle.pb_fields.specs.contracts.field.WireType as wire_contract
use Rattle.pb_fields.specs.contracts.message.Form as form_contract
use Rattle.pb_fields.specs.declared.field.WireType.{WireType}
use Rattle.pb_fields.specs.declared.field.WireType.TheVariants as wire
use Rattle.pb_fields.specs.declared.message.Form.TheVariants as form
use Rattle.pb_fields.specs.Field.{wire_type}
use Rattle.pb_fields.specs.Message.{form_type, type_differs}
use Rattle.pb_fields.proofs.Messages.{text_wrong}
use Rattle.pb_fields.proofs.message.check_field.Goals as goal

apart : (a b : WireType) → true ≡ not (sameb wire_contract.the_type a b) → a ≢ b
apart wire.Varint wire.Varint e h = cc
apart wire.Fixed64 wire.Fixed64 e h = cc
apart wire.Bytes wire.Bytes e h = cc
apart wire.Fixed32 wire.Fixed32 e h = cc
apart a b e h = cc

together : (a b : WireType) → false ≡ not (sameb wire_contract.the_type a b) → a ≡ b
together wire.Varint wire.Varint e = refl
together wire.Fixed64 wire.Fixed64 e = refl
together wire.Bytes wire.Bytes e = refl
together wire.Fixed32 wire.Fixed32 e = refl
together a b e = absurd cc

pub returns-then-ne-clause-wrong : goal.returns-then-ne-clause-wrong
returns-then-ne-clause-wrong c =
    let differs : wire_type c.args.field.now.value ≢ form_type c.in-Some.row.now.form = λ e. apart _ _ c.if-ne.ensures (c.wire_type.ensures ∙ e ∙ sym c.wire_type-2.ensures) in
    type_differs c.in-Some.row.now (sym c.in-Some.ensures) differs refl

pub returns-then-not-is_text-clause-wrong : goal.returns-then-not-is_text-clause-wrong
returns-then-not-is_text-clause-wrong c =
    let same : wire_type c.args.field.now.value ≡ form_type c.in-Some.row.now.form = sym c.wire_type.ensures ∙ together _ _ c.if-ne.ensures ∙ c.wire_type-2.ensures in
    let text : c.in-Some.row.now.form ≡ form.Text = same_true form_contract.the_type (search rules) _ _ (sym c.if-eq.ensures) in
    text_wrong c.args.rows.now c.args.field.now c.in-Some.row.now c.args.field.now.value refl (sym c.in-Some.ensures) same text (λ h. let e = c.if-not-is_text.ensures.1 h in cc)
