use Rattle.std.proofs.Common.{List, sym, ◌∙◌, ap}
use Rattle.geo_base.specs.declared.client.Held.{Held}
use Rattle.geo_base.specs.Going.{first_held}
use Rattle.client.proofs.HeldMessages.{found, none_found}
use Rattle.client.proofs.held.HeldTable.first.Goals as goal

pub returns-in-Some : goal.returns-in-Some
returns-in-Some c =
    c.position_at.ensures ∙ (sym (found c.self.inside.slots c.args.ident.now c.in-Some.slot c.in-Some.ensures.some)
    ∙ ap (λ (hs : List Held). first_held hs c.args.ident.now) c.self.view_is)

pub returns-in-None : goal.returns-in-None
returns-in-None c = sym (none_found c.self.inside.slots c.args.ident.now c.in-None.ensures.none) ∙ ap (λ (hs : List Held). first_held hs c.args.ident.now) c.self.view_is
