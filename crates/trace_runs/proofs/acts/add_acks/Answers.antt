use Rattle.report_lines.proofs.Standing.{first_stands, still_stands, stands_on, on_err}
use Rattle.trace_runs.proofs.acts.add_acks.Goals as goal

pub returns-in_err-add_ranges-clause-err : goal.returns-in_err-add_ranges-clause-err
returns-in_err-add_ranges-clause-err c =
    let old = c.args.lines.now in
    let s1 = first_stands old c.add_sub.new.lines _ c.in_ok-add_sub.ensures.ok in
    let s2 = still_stands old c.add_sub.new.lines c.append.new.self _ c.in_ok-append.ensures.ok s1 in
    on_err c.from_residual-in_err-add_ranges.result (stands_on old c.append.new.self c.add_ranges.new.lines s2 c.in_err-add_ranges.ensures.err)

pub returns-in_err-add_cause-clause-err : goal.returns-in_err-add_cause-clause-err
returns-in_err-add_cause-clause-err c =
    let old = c.args.lines.now in
    let s1 = first_stands old c.add_sub.new.lines _ c.in_ok-add_sub.ensures.ok in
    let s2 = still_stands old c.add_sub.new.lines c.append.new.self _ c.in_ok-append.ensures.ok s1 in
    let s3 = still_stands old c.append.new.self c.add_ranges.new.lines _ c.in_ok-add_ranges.ensures.ok s2 in
    on_err c.from_residual-in_err-add_cause.result (stands_on old c.add_ranges.new.lines c.add_cause.new.lines s3 c.in_err-add_cause.ensures.err)
