use Rattle.std.proofs.Common.{List, Option, ◌∙◌, ap}
use Rattle.geo_base.specs.declared.client.Held.{Held}
use Rattle.geo_base.specs.Going.{without_first}
use Rattle.client.specs.HeldSlots.{held_in}
use Rattle.client.proofs.HeldMessages.{left_without, none_left_out}
use Rattle.client.proofs.held.HeldTable.forget.Goals as goal

pub returns-in-Some : goal.returns-in-Some
returns-in-Some c =
    c.trim.ensures ∙ (ap (λ (slots : List (Option Held)). held_in slots) c.empty.ensures ∙ (left_without c.self.inside.slots c.args.ident.now c.in-Some.slot c.in-Some.ensures.some
    ∙ ap (λ (hs : List Held). without_first hs c.args.ident.now) c.self.view_is))

pub returns-in_default : goal.returns-in_default
returns-in_default c = rw (← c.self.view_is) (none_left_out c.self.inside.slots c.args.ident.now c.in_default.ensures.none)
