use Rattle.std.proofs.Common.{◌≡◌, ◌++◌, ◌∷◌, [], List, true, ap, ◌∙◌}
use Rattle.geo_base.specs.declared.entry.Entry.{Entry}
use Rattle.geo_base.specs.declared.position.Position.{Position}
use Rattle.geo_base.specs.Audit.{is_above}
use Rattle.geo_base.specs.Topic.{accepts}
use Rattle.audit.specs.Stored.{TopicEntries}
use Rattle.audit.proofs.Tables.{told_after}
use Rattle.audit.proofs.stored.Stored.append.Goals as goal

pub make_way-requires : goal.make_way-requires
make_way-requires c =
    (c.self.invariant.told.at c.args.entry.ident).1 (ap (λ (t : TopicEntries). accepts t.entries c.args.entry.ident) c.self.view_is ∙ c.requires.new)

pub invariant_of-self-2 : goal.invariant_of-self-2
invariant_of-self-2 c =
    let s = c.self.inside in let e = c.args.entry in
    let entries : c.push_reserved-2.new.self.items ≡ s.entries.items ++ e ∷ [] = c.push_reserved-2.ensures.items ∙ ap (λ (es : List Entry). es ++ e ∷ []) c.make_way.ensures.entries in
    let positions : c.push_reserved.new.self.items ≡ s.positions.items ++ c.args.position ∷ [] =
    c.push_reserved.ensures.items ∙ ap (λ (ps : List Position). ps ++ c.args.position ∷ []) c.make_way.ensures.positions in
    let above : is_above s.positions.items c.args.position ≡ true = ap (λ (t : TopicEntries). is_above t.positions c.args.position) c.self.view_is ∙ c.requires.above in
    let new : accepts s.entries.items e.ident ≡ true = ap (λ (t : TopicEntries). accepts t.entries e.ident) c.self.view_is ∙ c.requires.new in
    told_after s.streams.rows c.make_way.new.streams.rows s.places.entries c.make_way.new.places.entries s.entries.items c.push_reserved-2.new.self.items s.positions.items c.push_reserved.new.self.items
    e c.args.position c.self.invariant above new c.in_ok-make_way.ensures.stream c.in_ok-make_way.ensures.place entries positions
