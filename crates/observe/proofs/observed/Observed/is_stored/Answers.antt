use Rattle.std.proofs.Common.{ap}
use Rattle.observation.specs.Observed.{Seen}
use Rattle.observe.proofs.Once.{stored_where}
use Rattle.observe.proofs.observed.Observed.is_stored.Goals as goal

pub returns : goal.returns
returns c =
    let g = c.args.ident.now in let v : Seen = c.at.result.now in
    stored_where c.args.scenario.now.setup c.args.self.now c.args.topic g c.args.position.now v.topic.entries c.may_be_later.result c.is_some.result c.first_of.result c.may_be_later.ensures c.if-may_be_later.false
    (ap (λ (w : Seen). w.topic.entries) c.at.ensures) (c.first_of.ensures g c.in_ok-identity.ensures) c.is_some.ensures
