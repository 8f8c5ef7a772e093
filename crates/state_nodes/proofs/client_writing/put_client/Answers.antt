use Rattle.state_items.proofs.Standing.{first_stands, still_stands, stands_on, on_err, still_err}
use Rattle.state_nodes.proofs.client_writing.put_client.Goals as goal

pub returns-in_err-put_force-clause-err : goal.returns-in_err-put_force-clause-err
returns-in_err-put_force-clause-err c =
    let old = c.args.out.now in
    let s1 = first_stands old c.put_place.new.out _ c.in_ok-put_place.ensures.ok in
    on_err c.from_residual-in_err-put_force.result (stands_on old c.put_place.new.out c.put_force.new.out s1 c.in_err-put_force.ensures.err)

pub returns-in_err-put_publishes-clause-err : goal.returns-in_err-put_publishes-clause-err
returns-in_err-put_publishes-clause-err c =
    let old = c.args.out.now in
    let s1 = first_stands old c.put_place.new.out _ c.in_ok-put_place.ensures.ok in
    let s2 = still_stands old c.put_place.new.out c.put_force.new.out _ c.in_ok-put_force.ensures.ok s1 in
    on_err c.from_residual-in_err-put_publishes.result (stands_on old c.put_force.new.out c.put_publishes.new.out s2 c.in_err-put_publishes.ensures.err)

pub returns-in_err-put_tally-clause-err : goal.returns-in_err-put_tally-clause-err
returns-in_err-put_tally-clause-err c =
    let old = c.args.out.now in
    let s1 = first_stands old c.put_place.new.out _ c.in_ok-put_place.ensures.ok in
    let s2 = still_stands old c.put_place.new.out c.put_force.new.out _ c.in_ok-put_force.ensures.ok s1 in
    let s3 = still_stands old c.put_force.new.out c.put_publishes.new.out _ c.in_ok-put_publishes.ensures.ok s2 in
    on_err c.from_residual-in_err-put_tally.result (stands_on old c.put_publishes.new.out c.put_tally.new.out s3 c.in_err-put_tally.ensures.err)

pub returns-clause-err : goal.returns-clause-err
returns-clause-err c =
    let old = c.args.out.now in
    let s1 = first_stands old c.put_place.new.out _ c.in_ok-put_place.ensures.ok in
    let s2 = still_stands old c.put_place.new.out c.put_force.new.out _ c.in_ok-put_force.ensures.ok s1 in
    let s3 = still_stands old c.put_force.new.out c.put_publishes.new.out _ c.in_ok-put_publishes.ensures.ok s2 in
    let s4 = still_stands old c.put_publishes.new.out c.put_tally.new.out _ c.in_ok-put_tally.ensures.ok s3 in
    still_err c.put_got.result old c.put_tally.new.out c.put_got.new.out s4 c.put_got.ensures.err
