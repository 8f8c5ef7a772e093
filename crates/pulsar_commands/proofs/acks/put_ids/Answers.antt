use Rattle.std.proofs.Common.{◌≡◌, get_or}
use Rattle.std.proofs.lemmas.List.{get_or_default}
use Rattle.geo_base.specs.declared.position.Position.{Position}
use Rattle.pulsar_commands.proofs.UsualAcks.{next_position, next_put, next_room}
use Rattle.pulsar_commands.proofs.acks.put_ids.Goals as goal

abbrev origin : Position
origin = record { ledger = 0; entry = 0 }

pub put_id-requires-clause-room : goal.put_id-requires-clause-room
put_id-requires-clause-room c =
    let ps = c.args.positions.now in
    let i = c.loop-position.position-index in
    let p : Position = get_or ps i origin in
    let is : p ≡ get_or ps i p = get_or_default ps i origin p c.loop-position-test.true in
    next_room c.args.out.now c.loop-position.out ps i p c.loop-position-test.true is c.requires c.loop-position.invariant.so_far

pub loop-position-preserved : goal.loop-position-preserved
loop-position-preserved c =
    let ps = c.args.positions.now in
    let i = c.loop-position.position-index in
    let p : Position = get_or ps i origin in
    let is : p ≡ get_or ps i p = get_or_default ps i origin p c.loop-position-test.true in
    record {
      so_far = next_put c.args.out.now c.loop-position.out c.put_id.new.out ps i p c.loop-position-test.true is c.loop-position.invariant.so_far c.put_id.ensures.text;
      writable = next_position ps i p c.loop-position-test.true is c.loop-position.invariant.writable c.put_id.ensures.writable;
    }
