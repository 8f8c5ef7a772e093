use Rattle.std.proofs.Common.{◌∙◌, List, ap}
use Rattle.std.specs.Prelude.{find}
use Rattle.std.specs.Str.{bytes_eq}
use Rattle.geo_base.specs.Mirror.{MirrorSub}
use Rattle.audit.proofs.HeldSubs.{none_named}
use Rattle.audit.proofs.subs.Subs.create.Goals as goal

pub push-requires : goal.push-requires
push-requires c =
    none_named c.args.sub.name c.self.inside.slots (ap (λ (vs : List MirrorSub). find (λ (v : MirrorSub). bytes_eq v.name c.args.sub.name) vs) c.self.view_is ∙ c.requires)
