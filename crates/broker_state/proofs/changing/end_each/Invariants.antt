use Rattle.std.proofs.Common.{◌≡◌}
use Rattle.std.specs.Prelude.{None, Option}
use Rattle.geo_base.specs.declared.session.Session.{Session}
use Rattle.geo_base.proofs.Mapped.{mapped_to}
use Rattle.broker_state.proofs.changing.end_each.Given as goal

abbrev pub invariant-loop-session : goal.invariant-loop-session
invariant-loop-session l = l.session-items ≡ mapped_to (λ (s : Option Session). None) l.session-index l.fn.sessions
