use Rattle.world.proofs.Waiting.{acts_waiting, same_itself}
use Rattle.world.proofs.world.World.prepare.Goals as goal

pub returns-then-is_waiting-clause-idle : goal.returns-then-is_waiting-clause-idle
returns-then-is_waiting-clause-idle c = λ w reached stands is.
    acts_waiting c.args.scenario.now.setup c.args.self.now w c.args.event.now c.args.broker_ref c.requires.at c.requires.broker c.requires.scripted c.requires.broker_ref
    (c.is_waiting.ensures c.if-is_waiting.true) reached stands

pub returns-then-is_waiting-clause-same : goal.returns-then-is_waiting-clause-same
returns-then-is_waiting-clause-same c = same_itself c.args.self.now
