use Rattle.std.proofs.Common.{map}
use Rattle.state_nodes.specs.Nodes.{broker_of}
use Rattle.world.specs.World.{brokers_of}
use Rattle.world.proofs.SavedWorlds.{can_hold, have_indexes, saves_past, saves_state}
use Rattle.world.proofs.world.World.saved.Goals as goal

pub returns-in-Err-clause-saves : goal.returns-in-Err-clause-saves
returns-in-Err-clause-saves c = λ w stands.
    saves_past c.args.scenario c.args.self.now w c.in-Err.fault stands c.in-Err.ensures.large

pub returns-in-Ok-clause-saves : goal.returns-in-Ok-clause-saves
returns-in-Ok-clause-saves c = λ w stands.
    let parts = c.in-Ok.ensures in
    saves_state c.args.scenario c.args.self.now w _ stands c.without_steps.ensures parts.counts parts.brokers parts.clients parts.within

pub returns-in-Ok-clause-can : goal.returns-in-Ok-clause-can
returns-in-Ok-clause-can c =
    let b = c.args.self.now in let parts = c.in-Ok in
    can_hold (brokers_of b.brokers) (map broker_of parts.parts.brokers.items) parts.ensures.brokers parts.ensures.rests (have_indexes c.args.scenario.setup b c.requires.at)
