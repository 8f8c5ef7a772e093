use Rattle.report_lines.proofs.Standing.{first_stands, still_stands, stands_on, on_err, still_err}
use Rattle.report_lines.proofs.Parts.{broker_whole}
use Rattle.report_lines.proofs.broker_lines.add_broker.Goals as goal

pub returns-clause-ok : goal.returns-clause-ok
returns-clause-ok c =
    let v = c.args.broker.now in
    rw (broker_whole v.site.clusters v.site.own v.broker c.args.lines.now c.add_entries.new.lines c.add_replicators.new.lines
    (rw (c.clusters.ensures.clusters, c.site.ensures, c.store.ensures.ledgers, c.store.ensures.entries) at c.in_ok-add_entries.ensures.ok) c.in_ok-add_replicators.ensures.ok) c.add_subs.ensures.ok

pub returns-in_err-add_replicators-clause-err : goal.returns-in_err-add_replicators-clause-err
returns-in_err-add_replicators-clause-err c =
    let old = c.args.lines.now in
    let entries = first_stands old c.add_entries.new.lines _ c.in_ok-add_entries.ensures.ok in
    on_err c.from_residual-in_err-add_replicators.result (stands_on old c.add_entries.new.lines c.add_replicators.new.lines entries c.in_err-add_replicators.ensures.err)

pub returns-clause-err : goal.returns-clause-err
returns-clause-err c =
    let old = c.args.lines.now in
    let entries = first_stands old c.add_entries.new.lines _ c.in_ok-add_entries.ensures.ok in
    let replicators = still_stands old c.add_entries.new.lines c.add_replicators.new.lines _ c.in_ok-add_replicators.ensures.ok entries in
    still_err c.add_subs.result old c.add_replicators.new.lines c.add_subs.new.lines replicators c.add_subs.ensures.err
