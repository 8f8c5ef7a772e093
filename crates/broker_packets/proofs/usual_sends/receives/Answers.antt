use Rattle.std.proofs.Common.{◌≡◌, ap, sym, ◌∙◌}
use Rattle.std.specs.Prelude.{Option, ℕ, false}
use Rattle.geo_base.specs.Broker.{receiver_at}
use Rattle.replicator.specs.declared.receiver.Taken.TheVariants as takes
use Rattle.replicator.specs.Taking.{taken}
use Rattle.broker_packets.proofs.UsualSends.{processed}
use Rattle.broker_packets.proofs.usual_sends.receives.Goals as goal

pub returns-in-Process-clause-only : goal.returns-in-Process-clause-only
returns-in-Process-clause-only c =
    let told : taken c.receiver.result.now c.args.came.session false ≡ takes.Process = sym c.next_packet.ensures ∙ c.in-Process.is in
    λ is. record { open_now = processed (receiver_at c.args.state.now.broker c.args.source) c.args.came.session (ap (λ (r : Option ℕ). taken r c.args.came.session false) (sym c.receiver.ensures) ∙ told); brings = c.is_brought.ensures.only is }

pub returns-in-Process-clause-all : goal.returns-in-Process-clause-all
returns-in-Process-clause-all c = λ is. c.is_brought.ensures.all is.brings
