use Rattle.state_items.proofs.Standing.{first_stands, still_err}
use Rattle.tiered_storage.proofs.writing.put_ledger.Goals as goal

pub returns-clause-err : goal.returns-clause-err
returns-clause-err c =
    let old = c.args.out.now in
    let s1 = first_stands old c.put_number.new.out _ c.in_ok-put_number.ensures.ok in
    still_err c.put_each.result old c.put_number.new.out c.put_each.new.out s1 c.put_each.ensures.err
