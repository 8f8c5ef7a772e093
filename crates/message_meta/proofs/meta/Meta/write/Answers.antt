use Rattle.std.proofs.Common.{◌≡◌, ◌++◌, List, ℕ, ap, ◌∙◌}
use Rattle.pb_fields.specs.Canonical.{text}
use Rattle.message_meta.specs.Canonical.{canonical_fields}
use Rattle.message_meta.proofs.Written.{canonical_is}
use Rattle.message_meta.proofs.meta.Meta.write.Goals as goal

pub returns-clause-text : goal.returns-clause-text
returns-clause-text c =
    let whole : c.append_meta.new.out ≡ text (canonical_fields c.args.self.now) = c.in_ok-append_meta.ensures.ok ∙ ap (λ (front : List ℕ). front ++ text (canonical_fields c.args.self.now)) c.new-out.ensures in
    rw whole (canonical_is c.args.self.now c.in_ok-append_meta.ensures.fits)
