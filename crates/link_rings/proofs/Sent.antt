-- What a parcel adds to a ring.
use Rattle.std.proofs.Common.{◌≡◌, List, [], ◌∷◌, ◌++◌, ap, ◌∙◌}
use Rattle.std.specs.Prelude.{None, Option}
use Rattle.std.specs.List.{concat}
use Rattle.wire_ends.specs.declared.piece.Piece.{Piece}
use Rattle.wire_ends.specs.Parcels.{Packed, pieces_of}
use Rattle.wire_ends.specs.Pieces.{Begun, begun_at_end, cut_off, packets}
use Rattle.wire_ends.proofs.Joining.{parcel_ends, parcel_gives}

module _ (old new : List Piece) (p : Packed) (cut : concat p.parts ≡ p.packet.frame) (more : new ≡ old ++ pieces_of p) (rest : begun_at_end None old ≡ None) where
  pub sent_more : packets new ≡ packets old ++ p.packet ∷ []
  sent_more =
      ap packets more ∙ parcel_gives None old p cut
      ∙ ap (λ (o : Option Begun). packets old ++ (cut_off o ++ p.packet ∷ [])) rest

  pub sent_rests : begun_at_end None new ≡ None
  sent_rests = ap (begun_at_end None) more ∙ parcel_ends None old p cut
