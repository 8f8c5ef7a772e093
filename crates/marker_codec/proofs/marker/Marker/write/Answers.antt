use Rattle.std.proofs.Common.{◌≡◌, ◌++◌, List, ℕ, ap, ◌∙◌}
use Rattle.pb_fields.specs.Canonical.{text}
use Rattle.marker_codec.specs.Canonical.{canonical_fields}
use Rattle.marker_codec.proofs.Written.{canonical_is}
use Rattle.marker_codec.proofs.marker.Marker.write.Goals as goal

pub returns-clause-text : goal.returns-clause-text
returns-clause-text c =
    let whole : c.append_marker.new.out ≡ text (canonical_fields c.args.self.now) = c.in_ok-append_marker.ensures.ok ∙ ap (λ (front : List ℕ). front ++ text (canonical_fields c.args.self.now)) c.new-out.ensures in
    rw whole (canonical_is c.args.self.now (record { fields = c.in_ok-append_marker.ensures.fields; parts = c.in_ok-append_marker.ensures.parts }))
