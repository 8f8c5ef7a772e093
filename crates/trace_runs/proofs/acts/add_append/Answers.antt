use Rattle.report_lines.proofs.Standing.{first_stands, still_stands, stands_on, on_err}
use Rattle.trace_runs.proofs.acts.add_append.Goals as goal

pub returns-in_err-add_entry_words-clause-err : goal.returns-in_err-add_entry_words-clause-err
returns-in_err-add_entry_words-clause-err c =
    let old = c.args.lines.now in
    let s1 = first_stands old c.add_head.new.lines _ c.in_ok-add_head.ensures.ok in
    let s2 = still_stands old c.add_head.new.lines c.append.new.self _ c.in_ok-append.ensures.ok s1 in
    on_err c.from_residual-in_err-add_entry_words.result (stands_on old c.append.new.self c.add_entry_words.new.lines s2 c.in_err-add_entry_words.ensures.err)

pub returns-in_err-add_by-clause-err : goal.returns-in_err-add_by-clause-err
returns-in_err-add_by-clause-err c =
    let old = c.args.lines.now in
    let s1 = first_stands old c.add_head.new.lines _ c.in_ok-add_head.ensures.ok in
    let s2 = still_stands old c.add_head.new.lines c.append.new.self _ c.in_ok-append.ensures.ok s1 in
    let s3 = still_stands old c.append.new.self c.add_entry_words.new.lines _ c.in_ok-add_entry_words.ensures.ok s2 in
    on_err c.from_residual-in_err-add_by.result (stands_on old c.add_entry_words.new.lines c.add_by.new.lines s3 c.in_err-add_by.ensures.err)
