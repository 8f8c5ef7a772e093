use Rattle.state_items.proofs.Standing.{first_stands, still_stands, stands_on, on_err, still_err}
use Rattle.state_nodes.proofs.writing.put_node.Goals as goal

pub returns-in_err-put_entries-clause-err : goal.returns-in_err-put_entries-clause-err
returns-in_err-put_entries-clause-err c =
    let old = c.args.out.now in
    let s1 = first_stands old c.put_ledgers.new.out _ c.in_ok-put_ledgers.ensures.ok in
    on_err c.from_residual-in_err-put_entries.result (stands_on old c.put_ledgers.new.out c.put_entries.new.out s1 c.in_err-put_entries.ensures.err)

pub returns-in_err-put_subs-clause-err : goal.returns-in_err-put_subs-clause-err
returns-in_err-put_subs-clause-err c =
    let old = c.args.out.now in
    let s1 = first_stands old c.put_ledgers.new.out _ c.in_ok-put_ledgers.ensures.ok in
    let s2 = still_stands old c.put_ledgers.new.out c.put_entries.new.out _ c.in_ok-put_entries.ensures.ok s1 in
    on_err c.from_residual-in_err-put_subs.result (stands_on old c.put_entries.new.out c.put_subs.new.out s2 c.in_err-put_subs.ensures.err)

pub returns-clause-err : goal.returns-clause-err
returns-clause-err c =
    let old = c.args.out.now in
    let s1 = first_stands old c.put_ledgers.new.out _ c.in_ok-put_ledgers.ensures.ok in
    let s2 = still_stands old c.put_ledgers.new.out c.put_entries.new.out _ c.in_ok-put_entries.ensures.ok s1 in
    let s3 = still_stands old c.put_entries.new.out c.put_subs.new.out _ c.in_ok-put_subs.ensures.ok s2 in
    still_err c.put_replicators.result old c.put_subs.new.out c.put_replicators.new.out s3 c.put_replicators.ensures.err
