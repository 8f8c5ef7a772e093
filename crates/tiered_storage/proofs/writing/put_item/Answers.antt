use Rattle.std.proofs.Common.{◌++◌}
use Rattle.state_items.proofs.Standing.{first_stands, still_stands, stands_on, on_err, still_err}
use Rattle.frame_values.specs.Texts.{marker_number}
use Rattle.state_items.specs.EntryTexts.{entry_text}
use Rattle.state_items.specs.Texts.{number, text, word}
use Rattle.tiered_storage.specs.Texts.{kind_text, targets_text}
use Rattle.tiered_storage.proofs.Each.{behind}
use Rattle.tiered_storage.proofs.writing.put_item.Goals as goal

pub returns-in_err-put_text-clause-err : goal.returns-in_err-put_text-clause-err
returns-in_err-put_text-clause-err c =
    let old = c.args.out.now in
    let s1 = first_stands old c.put_word.new.out _ c.in_ok-put_word.ensures.ok in
    on_err c.from_residual-in_err-put_text.result (stands_on old c.put_word.new.out c.put_text.new.out s1 c.in_err-put_text.ensures.err)

pub returns-in_err-put_kind-clause-err : goal.returns-in_err-put_kind-clause-err
returns-in_err-put_kind-clause-err c =
    let old = c.args.out.now in
    let s1 = first_stands old c.put_word.new.out _ c.in_ok-put_word.ensures.ok in
    let s2 = still_stands old c.put_word.new.out c.put_text.new.out _ c.in_ok-put_text.ensures.text s1 in
    let s3 = still_stands old c.put_text.new.out c.put_number.new.out _ c.in_ok-put_number.ensures.ok s2 in
    on_err c.from_residual-in_err-put_kind.result (stands_on old c.put_number.new.out c.put_kind.new.out s3 c.in_err-put_kind.ensures.err)

pub returns-in_err-put_targets-clause-err : goal.returns-in_err-put_targets-clause-err
returns-in_err-put_targets-clause-err c =
    let old = c.args.out.now in
    let s1 = first_stands old c.put_word.new.out _ c.in_ok-put_word.ensures.ok in
    let s2 = still_stands old c.put_word.new.out c.put_text.new.out _ c.in_ok-put_text.ensures.text s1 in
    let s3 = still_stands old c.put_text.new.out c.put_number.new.out _ c.in_ok-put_number.ensures.ok s2 in
    let s4 = still_stands old c.put_number.new.out c.put_kind.new.out _ c.in_ok-put_kind.ensures.ok s3 in
    on_err c.from_residual-in_err-put_targets.result (stands_on old c.put_kind.new.out c.put_targets.new.out s4 c.in_err-put_targets.ensures.err)

pub returns-clause-err : goal.returns-clause-err
returns-clause-err c =
    let old = c.args.out.now in
    let s1 = first_stands old c.put_word.new.out _ c.in_ok-put_word.ensures.ok in
    let s2 = still_stands old c.put_word.new.out c.put_text.new.out _ c.in_ok-put_text.ensures.text s1 in
    let s3 = still_stands old c.put_text.new.out c.put_number.new.out _ c.in_ok-put_number.ensures.ok s2 in
    let s4 = still_stands old c.put_number.new.out c.put_kind.new.out _ c.in_ok-put_kind.ensures.ok s3 in
    let s5 = still_stands old c.put_kind.new.out c.put_targets.new.out _ c.in_ok-put_targets.ensures.ok s4 in
    still_err c.put_entry.result old c.put_targets.new.out c.put_entry.new.out s5 c.put_entry.ensures.err

pub returns-clause-text : goal.returns-clause-text
returns-clause-text c =
    let r = c.put_entry.result in
    let old = c.args.out.now in
    let new = c.put_entry.new.out in
    let e = c.args.entry.now in
    let rest = entry_text c.args.names.now c.args.own e in
    let to = targets_text e.to in
    let kind = kind_text (marker_number e.content) in
    let seq = number e.ident.seq in
    let producer = text e.ident.producer in
    let named = rw c.as_bytes.ensures at c.in_ok-put_text.ensures.text in
    let marked = rw c.marker_number.ensures at c.in_ok-put_kind.ensures.ok in
    let t4 = behind r c.put_kind.new.out to rest c.put_targets.new.out new c.in_ok-put_targets.ensures.ok c.put_entry.ensures.text in
    let t3 = behind r c.put_number.new.out kind (to ++ rest) c.put_kind.new.out new marked t4 in
    let t2 = behind r c.put_text.new.out seq (kind ++ (to ++ rest)) c.put_number.new.out new c.in_ok-put_number.ensures.ok t3 in
    let t1 = behind r c.put_word.new.out producer (seq ++ (kind ++ (to ++ rest))) c.put_text.new.out new named t2 in
    behind r old (word e.ident.origin) (producer ++ (seq ++ (kind ++ (to ++ rest)))) c.put_word.new.out new c.in_ok-put_word.ensures.ok t1
