use Rattle.std.proofs.Common.{◌+◌, ◌*◌, arith}
use Rattle.pb_fields.specs.Canonical.{varint}
use Rattle.pb_fields.proofs.Buffers.{tag_fits, tag_room, varint_put}
use Rattle.pb_fields.proofs.buffer.Buffer.put_varint.Goals as goal

pub put_byte-requires : goal.put_byte-requires
put_byte-requires c = tag_fits (8 * c.args.number + 0) c.args.self.now.spare (varint c.args.value) (omega (arith, c.requires.number.below)) c.requires.room

pub put_number-requires : goal.put_number-requires
put_number-requires c = tag_room c.args.self.now c.put_byte.new.self _ (8 * c.args.number + 0) (varint c.args.value) (omega (arith, c.requires.number.below)) c.put_byte.ensures c.requires.room

pub returns-clause-text : goal.returns-clause-text
returns-clause-text c = varint_put c.args.self.now c.put_byte.new.self c.put_number.new.self _ c.args.number c.args.value (omega (arith, c.number.ensures)) c.requires.number.below c.put_byte.ensures c.put_number.ensures
