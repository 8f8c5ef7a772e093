use Rattle.pb_fields.proofs.size.+varint_size.Given as goal

abbrev pub decreases-varint_size : goal.decreases-varint_size
decreases-varint_size l = l.number
