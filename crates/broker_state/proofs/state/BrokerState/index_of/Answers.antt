use Rattle.std.proofs.Common.{◌<◌, ℕ, ap, arith, length, subst}
use Rattle.std.specs.Prelude.{Option, IfSome}
use Rattle.broker_state.specs.State.{StateView}
use Rattle.broker_state.proofs.Indexes.{index_within}
use Rattle.broker_state.proofs.state.BrokerState.index_of.Goals as goal

pub returns-in-Some-clause-within : goal.returns-in-Some-clause-within
returns-in-Some-clause-within c =
    let s = c.self.inside.store in
    let within = subst (λ (o : Option ℕ). IfSome o (λ i. i < length s.entries)) c.in-Some.is (index_within s.ledgers (length s.entries) c.args.position c.index_of.result c.len-len.ensures.counted c.index_of.ensures) in
    omega (arith, within, ap (λ (b : StateView). length b.broker.entries) c.self.view_is)
