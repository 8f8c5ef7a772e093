use Rattle.std.proofs.Common.{◌++◌}
use Rattle.geo_base.specs.Report.{client_lines, with_line_feeds}
use Rattle.run_report.specs.Shown.{shown_world}
use Rattle.run_report.proofs.Lines.{client_added, client_number, client_there, client_within}
use Rattle.run_report.proofs.world_report.add_clients.Goals as goal

pub overflow_cast-number : goal.overflow_cast-number
overflow_cast-number c =
    client_number c.args.scenario.now.setup c.loop-number.number c.requires.setup (rw c.clients-clients.ensures.clients at c.loop-number-test.true)

pub client-client-requires : goal.client-client-requires
client-client-requires c =
    client_within c.args.scenario.now.setup c.args.world.now c.loop-number.number c.requires (rw c.clients-clients.ensures.clients at c.loop-number-test.true)

pub loop-number-preserved : goal.loop-number-preserved
loop-number-preserved c =
    let s = c.args.scenario.now.setup in let b = c.args.world.now in let i = c.loop-number.number in
    let clients = c.clients-clients.ensures.clients in
    let k = c.client-client.result.now in
    client_added s (shown_world b) c.args.topic i c.index-clients-number.result k c.loop-number.lines c.add_client.new.lines
    (c.args.lines.now ++ with_line_feeds (client_lines s (shown_world b) c.args.topic 0 s.clients)) (rw clients at c.loop-number-test.true) (rw clients at c.index-clients-number.is)
    (client_there s b i k (client_within s b i c.requires (rw clients at c.loop-number-test.true)) c.client-client.ensures) c.in_ok-add_client.ensures.ok c.loop-number.invariant
