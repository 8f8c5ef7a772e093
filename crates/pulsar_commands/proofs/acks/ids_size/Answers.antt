use Rattle.std.proofs.Common.{◌≡◌, arith, get_or}
use Rattle.std.proofs.lemmas.List.{get_or_default}
use Rattle.geo_base.specs.declared.position.Position.{Position}
use Rattle.pulsar_commands.proofs.UsualAcks.{ids_more}
use Rattle.pulsar_commands.proofs.acks.ids_size.Goals as goal

abbrev origin : Position
origin = record { ledger = 0; entry = 0 }

pub loop-position-preserved : goal.loop-position-preserved
loop-position-preserved c =
    let ps = c.args.positions.now in
    let i = c.loop-position.position-index in
    let p : Position = get_or ps i origin in
    let is : p ≡ get_or ps i p = get_or_default ps i origin p c.loop-position-test.true in
    record {
      size = ids_more ps i p c.loop-position.size c.id_size.result c.loop-position-test.true is c.id_size.ensures.size c.id_size.ensures.few c.loop-position.invariant.size;
      few = omega (arith, c.loop-position.invariant.few, c.id_size.ensures.few);
    }
