use Rattle.std.proofs.Common.{◌≡◌, ◌∙◌, arith, drop, false, get_or, sym, true}
use Rattle.std.proofs.lemmas.List.{get_or_default}
use Rattle.cursor_acks.specs.declared.range.IndexRange.{IndexRange}
use Rattle.cursor_acks.specs.Acks.{are_free}
use Rattle.audit.specs.Sub.{may_gain}
use Rattle.audit.proofs.Gains.{range_goes_on, range_past, range_taken}
use Rattle.audit.proofs.sub.may_gain.Goals as goal
use Rattle.audit.proofs.sub.may_gain.Goals.{then-range-len-via-then-range-len, then-range-len-via-else-range-len+then-not-are_free}

abbrev empty : IndexRange
empty = record { first = 0; last = 0 }

pub returns-then-range-len : goal.returns-then-range-len
returns-then-range-len c =
    let rs = c.args.ranges.now in let i = c.loop-range.range-index in let lt = c.loop-range-test.true in
    let set = c.args.cursor.now.indexes in let len = c.args.len in
    let r : IndexRange = get_or rs i empty in
    let is : r ≡ get_or rs i r = get_or_default rs i empty r lt in
    let out : may_gain set len (drop i rs) ≡ false =
    elim c.then-range-len.branch [
      | then-range-len-via-then-range-len w ↦ range_past set len rs i r c.requires lt is w.if-range-len.true
      | then-range-len-via-else-range-len+then-not-are_free w ↦
          let taken : are_free set r.first r.last ≡ false = grind (arith, w.if-not-are_free.true, w.are_free.ensures) in
          range_taken set len rs i r c.requires lt is taken
    ] in
    sym out ∙ c.loop-range.invariant

pub loop-range-preserved : goal.loop-range-preserved
loop-range-preserved c =
    let rs = c.args.ranges.now in let i = c.loop-range.range-index in let lt = c.loop-range-test.true in
    let set = c.args.cursor.now.indexes in let len = c.args.len in
    let r : IndexRange = get_or rs i empty in
    let is : r ≡ get_or rs i r = get_or_default rs i empty r lt in
    let free : are_free set r.first r.last ≡ true = grind (arith, c.if-not-are_free.false, c.are_free.ensures) in
    sym (range_goes_on set len rs i r c.requires lt is c.if-range-len.false free) ∙ c.loop-range.invariant
