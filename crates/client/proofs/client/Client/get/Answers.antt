use Rattle.client.proofs.Wire.{next_acts, next_taken, none_acts, none_taken}
use Rattle.client.proofs.client.Client.get.Goals as goal

pub returns-in-None-clause-client : goal.returns-in-None-clause-client
returns-in-None-clause-client c = λ v h. none_acts c.args.site.now.setup.clusters c.args.site.now.declared c.args.self.now v (rw c.in-None.is at h)

pub returns-in-None-clause-took : goal.returns-in-None-clause-took
returns-in-None-clause-took c = λ v h. none_taken c.args.site.now.setup.clusters c.args.site.now.declared c.args.self.now v (rw c.in-None.is at h)

pub returns-in_ok-take-in-Some-clause-client : goal.returns-in_ok-take-in-Some-clause-client
returns-in_ok-take-in-Some-clause-client c =
    λ v h. next_acts c.args.site.now.setup.clusters c.args.site.now.declared c.args.self.now c.take.new.self c.in-Some.packet.now
    c.in_ok-take-in-Some.ensures.client v (rw c.in-Some.is at h)

pub returns-in_ok-take-in-Some-clause-took : goal.returns-in_ok-take-in-Some-clause-took
returns-in_ok-take-in-Some-clause-took c =
    λ v h. next_taken c.args.site.now.setup.clusters c.args.site.now.declared c.args.self.now c.in-Some.packet.now v (rw c.in-Some.is at h)
