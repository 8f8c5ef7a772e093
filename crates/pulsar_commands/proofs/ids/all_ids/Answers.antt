use Rattle.std.proofs.Common.{refl}
use Rattle.pb_fields.proofs.Nested.{values_held, IsHeld}
use Rattle.pb_fields.proofs.LastValues.{values-at}
use Rattle.pulsar_commands.specs.Text.{IdRight}
use Rattle.pb_fields.specs.declared.field.Field.{Field}
use Rattle.pulsar_commands.specs.Part.{IsId}
use Rattle.pulsar_commands.proofs.Reading.{held_bytes, held_none, values_same, values_other, AreIds-push}
use Rattle.pulsar_commands.proofs.ids.all_ids.Goals.{then-field-number+in-Some+in_ok-position_of-in-Some+in_ok-push-in-Some, else-field-number}
use Rattle.pulsar_commands.proofs.ids.all_ids.Goals as goal

pub position_of-requires : goal.position_of-requires
position_of-requires c =
    let n = c.args.number in
    let held = values-at (IsHeld (IdRight n)) n c.loop-field.field-index c.args.fields.now c.field-item.result c.loop-field-test.true c.field-item.is c.if-field-number.true (values_held IdRight c.args.rows.now n _ c.args.fields.now c.requires.row refl c.requires.message.fit) in
    held_bytes (IdRight n) c.field-item.result.value c.in-Some.content.now held c.in-Some.ensures

pub unreachable-requires : goal.unreachable-requires
unreachable-requires c =
    let n = c.args.number in
    let held = values-at (IsHeld (IdRight n)) n c.loop-field.field-index c.args.fields.now c.field-item.result c.loop-field-test.true c.field-item.is c.if-field-number.true (values_held IdRight c.args.rows.now n _ c.args.fields.now c.requires.row refl c.requires.message.fit) in
    held_none (IdRight n) c.field-item.result.value held c.in-None.ensures

pub loop-field-preserved : goal.loop-field-preserved
loop-field-preserved c =
    let n = c.args.number in
    let fields = c.args.fields.now in
    let i = c.loop-field.field-index in
    let f : Field = c.field-item.result in
    elim c.if-field-number.branch [
      | then-field-number+in-Some+in_ok-position_of-in-Some+in_ok-push-in-Some w ↦
          let said : IsId f.value w.in_ok-position_of-in-Some.field-0 = rw w.in-Some.ensures w.in_ok-position_of-in-Some.ensures in
          rw (w.positions-is, w.in_ok-push-in-Some.ensures.ok, values_same n fields i f c.loop-field-test.true c.field-item.is w.if-field-number.true) (AreIds-push _ _ _ _ c.loop-field.invariant said)
      | else-field-number w ↦ rw (w.positions-is, values_other n fields i f c.loop-field-test.true c.field-item.is w.if-field-number.false) c.loop-field.invariant
    ]
