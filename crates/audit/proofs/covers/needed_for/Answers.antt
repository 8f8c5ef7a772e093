use Rattle.std.proofs.Common.{◌≡◌, ◌∙◌, List, ap, arith, length, sym}
use Rattle.geo_base.specs.declared.entry.Entry.{Entry}
use Rattle.audit.specs.Stored.{StandsAt}
use Rattle.audit.proofs.Needing.{is_missing, needs_none, needs_place}
use Rattle.audit.proofs.covers.needed_for.Goals as goal

pub returns-then-not-must_stand : goal.returns-then-not-must_stand
returns-then-not-must_stand c = needs_none c.args.own c.args.here.now.entries c.args.entry.now (sym c.must_stand.ensures ∙ c.if-not-must_stand.true)

pub overflow_add-result : goal.overflow_add-result
overflow_add-result c =
    let stands : StandsAt c.args.entry.now c.args.here.now.entries c.in-Some.place = rw c.in-Some.is at c.in_ok-place_of.ensures in
    let within = stands.within in
    let same : length c.entries-len.result.now ≡ length c.args.here.now.entries = ap (λ (es : List Entry). length es) c.entries-len.ensures.entries in
    omega (arith, within, same)

pub returns-in-None : goal.returns-in-None
returns-in-None c =
    is_missing c.args.own c.args.here.now.entries c.args.entry.now (sym c.must_stand.ensures ∙ c.if-not-must_stand.false) (rw c.in-None.is at c.in_ok-place_of.ensures)

pub returns-in-Some : goal.returns-in-Some
returns-in-Some c =
    needs_place c.args.own c.args.here.now.entries c.args.entry.now c.in-Some.place (sym c.must_stand.ensures ∙ c.if-not-must_stand.false) (rw c.in-Some.is at c.in_ok-place_of.ensures)
