use Rattle.std.proofs.Common.{◌≡◌, ◌∙◌, false, true, rules, sym, arith}
use Rattle.std.specs.Prelude.{None, Some, slice_get}
use Rattle.std.proofs.lemmas.Grind.{common_steps}
use Rattle.audit.specs.Subs.{is_named_at, slot_in}
use Rattle.audit.proofs.SlotRows.{named_other, named_there, named_unknown}
use Rattle.audit.proofs.slots.place_in.Goals as goal

pub returns-in_default : goal.returns-in_default
returns-in_default c =
    let none : c.slot_told.result ≡ None = first_of (search rules, cc, grind (arith, common_steps)) in
    named_unknown c.args.places.now.entries c.args.slots.now c.args.name.now c.requires (sym c.slot_told.ensures ∙ none)

pub returns-then-not-is_named_at : goal.returns-then-not-is_named_at
returns-then-not-is_named_at c =
    let found : slot_in c.args.name.now c.args.places.now.entries ≡ Some c.in-Some.slot = sym c.slot_told.ensures ∙ c.in-Some.is in
    let other : is_named_at c.args.name.now (slice_get c.args.slots.now c.in-Some.slot) ≡ false = sym c.is_named_at.ensures ∙ c.if-not-is_named_at.true in
    named_other c.args.places.now.entries c.args.slots.now c.args.name.now c.in-Some.slot c.requires found other

pub returns : goal.returns
returns c =
    let found : slot_in c.args.name.now c.args.places.now.entries ≡ Some c.in-Some.slot = sym c.slot_told.ensures ∙ c.in-Some.is in
    let named : is_named_at c.args.name.now (slice_get c.args.slots.now c.in-Some.slot) ≡ true = sym c.is_named_at.ensures ∙ c.if-not-is_named_at.false in
    named_there c.args.places.now.entries c.args.slots.now c.args.name.now c.in-Some.slot c.requires found named
