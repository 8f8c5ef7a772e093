use Rattle.std.proofs.Common.{◌≡◌, ◌≢◌, ◌+◌, ◌<◌, get_or, length, ap, sym, ◌∙◌, arith}
use Rattle.std.proofs.lemmas.List.{get_or_default}
use Rattle.cursor_acks.specs.declared.range.IndexRange.{IndexRange}
use Rattle.cursor_acks.proofs.Reading.{first_open, mark_first, mark_not, zero_open}
use Rattle.cursor_acks.proofs.cursor.Cursor.mark_delete.Goals as goal

pub returns-in-None : goal.returns-in-None
returns-in-None c =
    let rs = c.self.inside.ranges.list in
    let out : (d : IndexRange) → 0 < length rs → (get_or rs 0 d).first ≢ 0 = λ d n. absurd (omega (arith, n, ap length c.in-None.ensures.none)) in
    rw (← c.self.view_is) (record { mark = sym (mark_not rs c.self.invariant out); least = zero_open rs c.self.invariant out })

pub overflow_add-result : goal.overflow_add-result
overflow_add-result c =
    let rs = c.self.inside.ranges.list in
    let here = c.in-Some.ensures.some in
    omega (arith, c.self.invariant.bounded 0 c.in-Some.lowest here.0, ap (λ (r : IndexRange). r.last) here.1)

pub returns-then-lowest-eq0 : goal.returns-then-lowest-eq0
returns-then-lowest-eq0 c =
    let rs = c.self.inside.ranges.list in
    let r = c.in-Some.lowest in
    let here = c.in-Some.ensures.some in
    let zero : (get_or rs 0 r).first ≡ 0 = sym (ap (λ (x : IndexRange). x.first) here.1) ∙ c.if-lowest-eq0.true in
    let last : (get_or rs 0 r).last + 1 ≡ r.last + 1 = omega (arith, ap (λ (x : IndexRange). x.last) here.1) in
    rw (← c.self.view_is, ← last) (record { mark = sym (mark_first rs r c.self.invariant here.0 zero); least = first_open rs r c.self.invariant here.0 zero })

pub returns-else-lowest-eq0 : goal.returns-else-lowest-eq0
returns-else-lowest-eq0 c =
    let rs = c.self.inside.ranges.list in
    let r = c.in-Some.lowest in
    let here = c.in-Some.ensures.some in
    let out : (d : IndexRange) → 0 < length rs → (get_or rs 0 d).first ≢ 0 =
    λ d n e. c.if-lowest-eq0.false (ap (λ (x : IndexRange). x.first) (here.1 ∙ get_or_default rs 0 r d n) ∙ e) in
    rw (← c.self.view_is) (record { mark = sym (mark_not rs c.self.invariant out); least = zero_open rs c.self.invariant out })
