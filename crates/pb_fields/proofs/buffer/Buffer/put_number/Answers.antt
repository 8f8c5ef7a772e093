use Rattle.std.proofs.Common.{◌<◌, ◌^◌, arith}
use Rattle.pb_fields.proofs.Buffers.{number_ends, number_goes_on, room_goes_on, some_byte}
use Rattle.pb_fields.proofs.buffer.Buffer.put_number.Goals as goal

pub put_byte-requires : goal.put_byte-requires
put_byte-requires c = some_byte c.loop-rest.rest c.loop-rest.self.spare (omega (arith, c.loop-rest.auto.rest-fits)) c.loop-rest.invariant.room

pub loop-rest-preserved : goal.loop-rest-preserved
loop-rest-preserved c =
    let fits : c.loop-rest.rest < 2 ^ 64 = omega (arith, c.loop-rest.auto.rest-fits) in
    record {
      room = room_goes_on c.loop-rest.self c.put_byte.new.self _ c.loop-rest.rest c.loop-rest-test.true fits c.put_byte.ensures c.loop-rest.invariant.room;
      so_far = λ whole rest. c.loop-rest.invariant.so_far whole (number_goes_on c.loop-rest.self c.put_byte.new.self whole c.loop-rest.rest c.loop-rest-test.true fits c.put_byte.ensures rest);
    }

pub put_byte-requires-2 : goal.put_byte-requires-2
put_byte-requires-2 c = some_byte c.loop-rest.rest c.loop-rest.self.spare (omega (arith, c.loop-rest.auto.rest-fits)) c.loop-rest.invariant.room

pub returns : goal.returns
returns c = c.loop-rest.invariant.so_far c.put_byte-2.new.self (number_ends c.loop-rest.self c.put_byte-2.new.self c.loop-rest.rest c.loop-rest-test.false c.put_byte-2.ensures)
