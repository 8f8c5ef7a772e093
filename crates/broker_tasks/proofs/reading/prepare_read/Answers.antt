use Rattle.std.proofs.Common.{rules, ◌≡◌, false}
use Rattle.geo_base.specs.Forwarding.{is_remote}
use Rattle.broker_tasks.proofs.Entries.{not_remote}
use Rattle.broker_tasks.proofs.reading.prepare_read.Goals as goal

pub returns-then-not-is_remote-clause-prepared : goal.returns-then-not-is_remote-clause-prepared
returns-then-not-is_remote-clause-prepared c =
    let other : is_remote c.args.state.now.site c.args.remote ≡ false = search rules in
    not_remote c.args.state.now.site c.args.state.now.broker c.args.remote c.args.plan.now other c.requires.empty
