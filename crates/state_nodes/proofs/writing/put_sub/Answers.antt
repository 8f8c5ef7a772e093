use Rattle.state_items.proofs.Standing.{first_stands, still_stands, stands_on, on_err}
use Rattle.state_nodes.proofs.writing.put_sub.Goals as goal

pub returns-in_err-put_cursor-clause-err : goal.returns-in_err-put_cursor-clause-err
returns-in_err-put_cursor-clause-err c =
    let old = c.args.out.now in
    let s1 = first_stands old c.put_name.new.out _ c.in_ok-put_name.ensures.ok in
    let s2 = still_stands old c.put_name.new.out c.put_byte.new.out _ c.in_ok-put_byte.ensures.ok s1 in
    let s3 = still_stands old c.put_byte.new.out c.put_byte-2.new.out _ c.in_ok-put_byte-2.ensures.ok s2 in
    on_err c.from_residual-in_err-put_cursor.result (stands_on old c.put_byte-2.new.out c.put_cursor.new.out s3 c.in_err-put_cursor.ensures.err)
