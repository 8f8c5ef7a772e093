use Rattle.report_lines.proofs.Standing.{first_stands, still_stands, stands_on, on_err, still_err}
use Rattle.report_lines.proofs.entries.add_entry_words.Goals as goal

pub returns-in_err-add_ident-clause-err : goal.returns-in_err-add_ident-clause-err
returns-in_err-add_ident-clause-err c =
    let old = c.args.lines.now in
    let place = first_stands old c.add_position.new.lines _ c.in_ok-add_position.ensures.ok in
    let before = still_stands old c.add_position.new.lines c.append.new.self _ c.in_ok-append.ensures.ok place in
    on_err c.from_residual-in_err-add_ident.result (stands_on old c.append.new.self c.add_ident.new.lines before c.in_err-add_ident.ensures.err)

pub returns-in_err-add_targets-clause-err : goal.returns-in_err-add_targets-clause-err
returns-in_err-add_targets-clause-err c =
    let old = c.args.lines.now in
    let place = first_stands old c.add_position.new.lines _ c.in_ok-add_position.ensures.ok in
    let space = still_stands old c.add_position.new.lines c.append.new.self _ c.in_ok-append.ensures.ok place in
    let ident = still_stands old c.append.new.self c.add_ident.new.lines _ c.in_ok-add_ident.ensures.ok space in
    let before = still_stands old c.add_ident.new.lines c.append-2.new.self _ c.in_ok-append-2.ensures.ok ident in
    on_err c.from_residual-in_err-add_targets.result (stands_on old c.append-2.new.self c.add_targets.new.lines before c.in_err-add_targets.ensures.err)

pub returns-clause-err : goal.returns-clause-err
returns-clause-err c =
    let old = c.args.lines.now in
    let place = first_stands old c.add_position.new.lines _ c.in_ok-add_position.ensures.ok in
    let space = still_stands old c.add_position.new.lines c.append.new.self _ c.in_ok-append.ensures.ok place in
    let ident = still_stands old c.append.new.self c.add_ident.new.lines _ c.in_ok-add_ident.ensures.ok space in
    let more = still_stands old c.add_ident.new.lines c.append-2.new.self _ c.in_ok-append-2.ensures.ok ident in
    let targets = still_stands old c.append-2.new.self c.add_targets.new.lines _ c.in_ok-add_targets.ensures.ok more in
    let before = still_stands old c.add_targets.new.lines c.append-3.new.self _ c.in_ok-append-3.ensures.ok targets in
    still_err c.add_content.result old c.append-3.new.self c.add_content.new.lines before c.add_content.ensures.err
