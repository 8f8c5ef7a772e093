use Rattle.std.proofs.Common.{inl, inr}
use Rattle.marker_codec.proofs.Exact.{position_exact}
use Rattle.marker_codec.proofs.read.cluster_of.Goals as goal

pub wanting-requires : goal.wanting-requires
wanting-requires c =
    elim (c.in-Err.ensures.only position_exact c.requires.fields c.requires.text c.requires.message) [
      | inl memory ↦ cc
      | inr ok ↦ absurd cc
    ]
