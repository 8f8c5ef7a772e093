use Rattle.std.proofs.Common.{sym, ◌∙◌}
use Rattle.std.proofs.lemmas.Bool.{false≢true}
use Rattle.broker_packets.proofs.Sessions.{opened}
use Rattle.broker_packets.proofs.usual_publishes.publishes.Goals as goal

pub is_published-requires : goal.is_published-requires
is_published-requires c = opened c.args.state.now.broker c.args.client c.args.came.session c.requires (sym c.is_open.ensures ∙ c.if-is_open.true)

pub returns-then-is_open-clause-only : goal.returns-then-is_open-clause-only
returns-then-is_open-clause-only c = λ is. record { open_now = sym c.is_open.ensures ∙ c.if-is_open.true; sound = c.is_published.ensures.only is }

pub returns-then-is_open-clause-all : goal.returns-then-is_open-clause-all
returns-then-is_open-clause-all c = λ is. c.is_published.ensures.all is.sound

pub returns-else-is_open-clause-all : goal.returns-else-is_open-clause-all
returns-else-is_open-clause-all c = λ is. absurd (false≢true (sym (sym c.is_open.ensures ∙ c.if-is_open.false) ∙ is.open_now))
