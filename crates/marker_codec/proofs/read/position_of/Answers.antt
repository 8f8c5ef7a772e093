use Rattle.std.proofs.Common.{inl, inr}
use Rattle.pb_fields.proofs.Nested.{unread_exact}
use Rattle.marker_codec.proofs.read.position_of.Goals as goal

pub wanting-requires : goal.wanting-requires
wanting-requires c =
    elim (c.in-Err.ensures.only unread_exact c.requires.fields c.requires.text c.requires.message) [
      | inl memory ↦ cc
      | inr ok ↦ absurd cc
    ]
