use Rattle.std.proofs.Common.{◌+◌, sym, ◌∙◌, ap}
use Rattle.client.specs.declared.held.index.SlotKey.{SlotKey}
use Rattle.client.proofs.SlotIndexes.{is_of_within, none_before_next, none_left, none_of_next}
use Rattle.client.proofs.held.slots.find_indexed.Goals as goal

pub returns-then-has-clause-some : goal.returns-then-has-clause-some
returns-then-has-clause-some c =
    let is = sym c.has.ensures ∙ c.if-has.true in
    record {
      within = is_of_within c.args.ident.now c.args.slots.now c.in-Some.slot is;
      is_one = is;
      none_before = none_before_next c.args.slots.now c.args.idents.now c.args.ident.now c.loop-slot.from c.in-Some.slot c.requires c.loop-slot.invariant.same c.loop-slot.invariant.none_before c.in-Some.ensures.first;
    }

pub loop-slot-preserved : goal.loop-slot-preserved
loop-slot-preserved c =
    let before = none_before_next c.args.slots.now c.args.idents.now c.args.ident.now c.loop-slot.from c.in-Some.slot c.requires c.loop-slot.invariant.same c.loop-slot.invariant.none_before c.in-Some.ensures.first in
    record {
      same = ap (λ (k : SlotKey). record k { slot = c.in-Some.slot + 1 }) c.loop-slot.invariant.same;
      none_before = none_of_next c.args.slots.now c.args.ident.now c.in-Some.slot before (sym c.has.ensures ∙ c.if-has.false);
    }

pub returns-clause-none : goal.returns-clause-none
returns-clause-none c = none_left c.args.slots.now c.args.idents.now c.args.ident.now c.loop-slot.from c.requires c.loop-slot.invariant.same c.loop-slot.invariant.none_before c.in_default.ensures.none
