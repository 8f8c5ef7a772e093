use Rattle.std.proofs.Common.{◌≡◌, ◌≤◌, ◌∙◌, arith, false, get_or, sym, true}
use Rattle.std.specs.Prelude.{nat_le}
use Rattle.std.proofs.lemmas.Bool.Decides.{nat_tests}
use Rattle.std.proofs.lemmas.List.{get_or_default}
use Rattle.cursor_acks.specs.declared.range.IndexRange.{IndexRange}
use Rattle.audit.proofs.EntryAcks.{ends_by, range_fails, range_holds}
use Rattle.audit.proofs.runs.end_by.Goals as goal

abbrev empty : IndexRange
empty = record { first = 0; last = 0 }

pub returns-then-range-most : goal.returns-then-range-most
returns-then-range-most c =
    let rs = c.args.ranges.now in let i = c.loop-range.range-index in let lt = c.loop-range-test.true in
    let most = c.args.most in
    let r : IndexRange = get_or rs i empty in
    let is : r ≡ get_or rs i r = get_or_default rs i empty r lt in
    let own : r.first ≤ r.last = rw (← is) at (c.requires.each i r lt) in
    let past = c.if-range-most.true in
    let out : nat_le r.last most ≡ false = grind (arith, nat_tests, past) in
    sym (range_fails (λ k. nat_le k most) rs i r lt is (ends_by r.first r.last most own ∙ out)) ∙ c.loop-range.invariant

pub loop-range-preserved : goal.loop-range-preserved
loop-range-preserved c =
    let rs = c.args.ranges.now in let i = c.loop-range.range-index in let lt = c.loop-range-test.true in
    let most = c.args.most in
    let r : IndexRange = get_or rs i empty in
    let is : r ≡ get_or rs i r = get_or_default rs i empty r lt in
    let own : r.first ≤ r.last = rw (← is) at (c.requires.each i r lt) in
    let within = c.if-range-most.false in
    let low : nat_le r.last most ≡ true = grind (arith, nat_tests, within) in
    sym (range_holds (λ k. nat_le k most) rs i r lt is (ends_by r.first r.last most own ∙ low)) ∙ c.loop-range.invariant
