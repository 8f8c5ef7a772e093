use Rattle.std.proofs.Common.{◌∙◌, List, ap, sym}
use Rattle.std.specs.Prelude.{find}
use Rattle.std.specs.Str.{bytes_eq}
use Rattle.geo_base.specs.Mirror.{MirrorSub}
use Rattle.audit.proofs.HeldSubs.{not_found}
use Rattle.audit.proofs.subs.Subs.find.Goals as goal

pub returns-in-None : goal.returns-in-None
returns-in-None c =
    sym (not_found c.args.name.now c.self.inside.slots c.in-None.ensures) ∙ ap (λ (vs : List MirrorSub). find (λ (v : MirrorSub). bytes_eq v.name c.args.name.now) vs) c.self.view_is
