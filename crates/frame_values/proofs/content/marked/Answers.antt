use Rattle.std.proofs.Common.{rules}
use Rattle.marker_codec.specs.Markers.{IsMarkerText}
use Rattle.marker_codec.specs.Faults.{IsWrongOrMemory, WrongMarker}
use Rattle.frame_values.proofs.Contents.{read_canonical, read_foreign, wrong_unread}
use Rattle.frame_values.proofs.content.marked.Goals as goal

pub returns-then-eq : goal.returns-then-eq
returns-then-eq c =
    let h : IsMarkerText c.args.kind c.args.payload c.in-Ok.marker = rw (← c.as_slice.ensures) c.in-Ok.ensures.found in
    rw (c.in_ok-new-in-Ok.ensures, c.in_ok-placed-in-Ok.ensures, c.new-then-eq.ensures)
    (read_canonical c.args.names.now c.args.kind c.args.payload c.in_ok-canonical-in-Ok.canonical c.in-Ok.marker h c.in_ok-canonical-in-Ok.ensures.canonical (search rules))

pub returns-else-eq : goal.returns-else-eq
returns-else-eq c =
    let h : IsMarkerText c.args.kind c.args.payload c.in-Ok.marker = rw (← c.as_slice.ensures) c.in-Ok.ensures.found in
    rw (c.in_ok-new-in-Ok.ensures, c.in_ok-placed-in-Ok.ensures)
    (read_foreign c.args.names.now c.args.kind c.args.payload c.in_ok-canonical-in-Ok.canonical c.in-Ok.marker h c.in_ok-canonical-in-Ok.ensures.canonical (search rules))

pub returns-in_default : goal.returns-in_default
returns-in_default c =
    let h : IsWrongOrMemory (WrongMarker c.args.kind c.args.payload) c.in-Err.why = rw (← c.as_slice.ensures) c.in-Err.ensures.fault in
    wrong_unread c.args.names.now c.args.kind c.args.payload c.in-Err.why h c.in_default.not-Memory
