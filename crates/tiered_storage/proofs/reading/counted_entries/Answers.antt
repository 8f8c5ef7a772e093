use Rattle.std.proofs.Common.{◌≡◌, ◌<◌, ◌≤◌, ◌+◌, [], length, refl, ◌∙◌, rules, arith}
use Rattle.std.proofs.lemmas.Result.{err_from_is_err_and}
use Rattle.tiered_storage.proofs.Loop.{all_read, ends, is_end, last_left, more_read, no_end_fault, none_read, not_ended, ok_is_no_err, under_end, with_none}
use Rattle.tiered_storage.proofs.reading.counted_entries.Goals as goal

pub returns-in_err-entry-clause-read : goal.returns-in_err-entry-clause-read
returns-in_err-entry-clause-read c = λ own es are many is.
    let r = err_from_is_err_and c.from_residual.result c.from_residual.ensures.1 in
    let h = c.loop.invariant.1 own es [] are (with_none c.args.names.now own es c.args.bytes.now is) in
    let test = c.loop-test.true in
    let under : c.loop.counter < length es = omega (arith, test, many) in
    rw (r.1, r.2) (none_read c.args.names.now own es c.loop.counter c.loop.entries.items c.loop.rest.now c.in_err-entry.field-0.0 are under (h.0 (omega (arith, under))) (λ f more. c.in_err-entry.ensures.read own f more))

pub loop-preserved : goal.loop-preserved
loop-preserved c =
    let test = c.loop-test.true in (
      omega (arith, test),
      λ own es more are is.
          let h = c.loop.invariant.1 own es more are is in (
            (λ (next : c.loop.counter + 1 ≤ length es).
                let under : c.loop.counter < length es = omega (arith, next) in
                more_read c.args.names.now own es more c.loop.counter c.loop.entries.items c.push.new.self.items c.in_ok-entry.entry c.loop.rest.now c.in_ok-entry.after.now are under (h.0 (omega (arith, under))) (λ f left. c.in_ok-entry.ensures.read own f left) (search rules)),
            (λ (none : more ≡ []).
                let within = h.1 none in
                under_end c.loop.counter (length es) within (λ (all : length es ≤ c.loop.counter).
                let left = last_left c.args.names.now own es more c.loop.counter c.loop.entries.items c.loop.rest.now all (h.0 within) in
                ok_is_no_err (c.in_ok-entry.ensures.none (left ∙ none)))),
          ),
    )

pub returns-in_err-judge-clause-read : goal.returns-in_err-judge-clause-read
returns-in_err-judge-clause-read c = λ own es are many is.
    let r = err_from_is_err_and c.from_residual-in_err-judge.result c.from_residual-in_err-judge.ensures.1 in
    let h = c.loop.invariant.1 own es [] are (with_none c.args.names.now own es c.args.bytes.now is) in
    let test = c.loop-test.false in
    let over : length es ≤ c.loop.counter = omega (arith, test, many) in
    let none = last_left c.args.names.now own es [] c.loop.counter c.loop.entries.items c.loop.rest.now over (h.0 (h.1 refl)) in
    rw (r.1, r.2) (no_end_fault c.is_empty.result c.loop.rest.now c.in_err-judge.field-0.0 es (is_end c.is_empty.result c.loop.rest.now c.is_empty.ensures none) c.in_err-judge.ensures.judged)

pub returns-clause-read : goal.returns-clause-read
returns-clause-read c = λ own es are many is.
    let h = c.loop.invariant.1 own es [] are (with_none c.args.names.now own es c.args.bytes.now is) in
    let test = c.loop-test.false in
    let over : length es ≤ c.loop.counter = omega (arith, test, many) in
    all_read c.args.names.now own es [] c.loop.counter c.loop.entries.items c.loop.rest.now over (h.0 (h.1 refl))

pub returns-clause-refused : goal.returns-clause-refused
returns-clause-refused c = λ own es more are off is.
    let h = c.loop.invariant.1 own es more are is in
    let test = c.loop-test.false in
    let most = c.loop.invariant.0 in
    let at : c.loop.counter ≡ c.args.count = omega (arith, test, most) in
    absurd (not_ended c.args.names.now own es more c.args.count c.loop.counter c.loop.entries.items c.loop.rest.now off at h.0 h.1 (ends c.loop.rest.now (search rules)))
