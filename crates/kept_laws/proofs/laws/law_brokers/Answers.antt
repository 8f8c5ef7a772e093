use Rattle.kept_laws.proofs.Keeping.{broker_done, broker_halted, broker_idle}
use Rattle.kept_laws.proofs.laws.law_brokers.Goals as goal

pub returns : goal.returns
returns c = record { done = broker_done; idle = broker_idle; halted = broker_halted }
