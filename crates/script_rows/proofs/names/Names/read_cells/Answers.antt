use Rattle.std.proofs.Common.{[], ◌∷◌, sym, ap, ◌∙◌, length, arith, length-append}
use Rattle.script_rows.proofs.Walks.{next_broken, next_sound, read_sound, still_broken}
use Rattle.script_rows.proofs.Reading.{values_step}
use Rattle.script_rows.proofs.names.Names.read_cells.Goals as goal

pub seen_with-seen-requires : goal.seen_with-seen-requires
seen_with-seen-requires c =
    (read_sound c.args.self.now c.loop-column.seen c.in-Some.column c.in-Some-next_word.word.now c.in-Ok.value (sym c.read_cell.ensures ∙ c.in-Ok.is)).1

pub loop-column-preserved-in-Ok : goal.loop-column-preserved-in-Ok
loop-column-preserved-in-Ok c =
    let at = c.loop-column in
    let word = c.in-Some-next_word.word.now in
    let says = sym c.read_cell.ensures ∙ c.in-Ok.is in
    record {
      room = rw c.push.ensures (omega (arith, length-append at.row (c.in-Ok.value ∷ []), ap length c.in-Some.ensures));
      lowest = rw c.seen_with-seen.ensures (sym (next_sound c.args.self.now at.seen c.in-Some.column word c.in-Ok.value c.next_column.new.self c.next_word.new.self at.left_columns at.left at.broken c.in-Some.ensures c.in-Some-next_word.ensures says) ∙ at.invariant.lowest);
      said = λ none. rw (c.seen_with-seen.ensures, c.push.ensures) (sym (values_step c.args.self.now at.seen c.in-Some.column word c.in-Ok.value c.next_column.new.self c.next_word.new.self at.row at.left_columns at.left c.in-Some.ensures c.in-Some-next_word.ensures (read_sound c.args.self.now at.seen c.in-Some.column word c.in-Ok.value says).1) ∙ at.invariant.said none);
    }

pub loop-column-preserved : goal.loop-column-preserved
loop-column-preserved c =
    let at = c.loop-column in
    record {
      room = omega (arith, ap length c.in-Some.ensures);
      lowest = rw (c.seen_after-seen.ensures, c.lower-broken.ensures) (sym (next_broken c.args.self.now at.seen c.in-Some.column c.in-Some-next_word.word.now c.in-Err.rule c.next_column.new.self c.next_word.new.self at.left_columns at.left at.broken c.in-Some.ensures c.in-Some-next_word.ensures (sym c.read_cell.ensures ∙ c.in-Err.is)) ∙ at.invariant.lowest);
      said = λ none. absurd (still_broken at.broken c.in-Err.rule (sym c.lower-broken.ensures ∙ none));
    }
