use Rattle.observed_text.proofs.so_far.LinesSoFar.take.Goals as goal

pub returns-in-Logs : goal.returns-in-Logs
returns-in-Logs c = rw c.in-Logs.is (c.take_logged.ensures c.args.scenario.now.setup)
