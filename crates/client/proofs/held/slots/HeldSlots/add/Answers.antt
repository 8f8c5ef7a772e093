use Rattle.std.proofs.Common.{List, Option, Some, [], ◌∷◌, ◌++◌, ◌∙◌, ap}
use Rattle.geo_base.specs.declared.client.Held.{Held}
use Rattle.client.proofs.HeldSlots.{one_more}
use Rattle.client.proofs.held.slots.HeldSlots.add.Goals as goal

pub invariant_of-self-2 : goal.invariant_of-self-2
invariant_of-self-2 c =
    one_more c.self.inside.slots.items c.self.inside.count c.self.inside.front c.self.inside.indexed c.self.inside.idents c.self.inside.positions [] [] c.self.invariant
    c.push_reserved.new.self.items c.args.held (c.push_reserved.ensures.items ∙ ap (λ (slots : List (Option Held)). slots ++ Some c.args.held ∷ []) c.reserve.ensures.items)
