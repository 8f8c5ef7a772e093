use Rattle.std.proofs.Common.{rules}
use Rattle.world.proofs.Stopping.{first_same, more_restarted, more_same, none_left}
use Rattle.world.proofs.stops.+restart_all.Goals as goal

pub returns-in_default-clause-ok : goal.returns-in_default-clause-ok
returns-in_default-clause-ok t c = none_left c.args.brokers.now c.in_default.ensures.cases

pub returns-in_err-prepare_restart-clause-err : goal.returns-in_err-prepare_restart-clause-err
returns-in_err-prepare_restart-clause-err t c = search (rules, first_same)

pub returns-in_err-restart_all-clause-err : goal.returns-in_err-restart_all-clause-err
returns-in_err-restart_all-clause-err t c = search (rules, more_same)

pub returns-clause-ok : goal.returns-clause-ok
returns-clause-ok t c =
    more_restarted c.args.brokers.now c.in-Some.rest.now c.restart_all.new.brokers c.in-Some.first.now c.prepare_restart.new.node c.commit.new.self c.prepare_restart.new.plan
    c.in-Some.ensures.cases.0 c.prepare_restart.ensures.same c.in_ok-prepare_restart.ensures.restarts c.commit.ensures.broker c.commit.ensures.node c.in_ok-restart_all.ensures.ok
