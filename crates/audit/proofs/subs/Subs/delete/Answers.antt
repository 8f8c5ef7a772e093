use Rattle.std.proofs.Common.{◌≡◌, List, subst}
use Rattle.std.specs.Prelude.{filter, not}
use Rattle.std.specs.Str.{bytes_eq}
use Rattle.geo_base.specs.Mirror.{MirrorSub}
use Rattle.audit.proofs.HeldSubs.{none_less}
use Rattle.audit.proofs.subs.Subs.delete.Goals as goal

pub returns-in-None : goal.returns-in-None
returns-in-None c =
    subst (λ (vs : List MirrorSub). vs ≡ filter (λ (v : MirrorSub). not (bytes_eq v.name c.args.name.now)) vs) c.self.view_is (none_less c.args.name.now c.self.inside.slots c.in-None.ensures)
