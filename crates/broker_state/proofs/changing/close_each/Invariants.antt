use Rattle.std.proofs.Common.{◌≡◌, ℕ}
use Rattle.std.specs.Prelude.{None, Option}
use Rattle.geo_base.proofs.Mapped.{mapped_to}
use Rattle.broker_state.proofs.changing.close_each.Given as goal

abbrev pub invariant-loop-receiver : goal.invariant-loop-receiver
invariant-loop-receiver l = l.receiver-items ≡ mapped_to (λ (r : Option ℕ). None) l.receiver-index l.fn.receivers
