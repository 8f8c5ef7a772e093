use Rattle.marker_codec.specs.Kinds.{kind_number}
use Rattle.marker_codec.proofs.Meaning.{only, refused}
use Rattle.marker_codec.proofs.marker.Marker.read.Goals as goal

pub returns-in-Some-clause-only : goal.returns-in-Some-clause-only
returns-in-Some-clause-only c = rw c.in-Some.ensures (only (kind_number c.in-Some.kind) c.args.bytes.now c.marker_of_kind.result c.marker_of_kind.ensures.found c.marker_of_kind.ensures.fault)

pub returns-in-Some-clause-refused : goal.returns-in-Some-clause-refused
returns-in-Some-clause-refused c = rw c.in-Some.ensures (refused (kind_number c.in-Some.kind) c.args.bytes.now c.marker_of_kind.result c.marker_of_kind.ensures.found c.marker_of_kind.ensures.fault)
