use Rattle.std.proofs.Common.{◌≡◌, true, List, [], ◌∷◌, ◌++◌, sym, subst}
use Rattle.geo_base.specs.declared.entry.Entry.{Entry}
use Rattle.geo_base.specs.declared.position.Position.{Position}
use Rattle.observation.specs.Observed.{Seen, is_above_all}
use Rattle.observe.specs.Kept.{ArePlaced}
use Rattle.observe.proofs.Above.{placed_more}
use Rattle.observe.proofs.seen.SeenTopic.push_entry.Goals as goal

placed_now : (es es' : List Entry) (ps ps' : List Position) (e : Entry) (p : Position) → ArePlaced es ps → es' ≡ es ++ e ∷ [] → ps' ≡ ps ++ p ∷ [] → is_above_all p ps ≡ true → ArePlaced es' ps'
placed_now es es' ps ps' e p placed is more above =
    subst (λ (fs : List Entry). ArePlaced fs ps') (sym is) (subst (λ (qs : List Position). ArePlaced (es ++ e ∷ []) qs) (sym more) (placed_more es ps e p placed above))

pub invariant_of-self-2 : goal.invariant_of-self-2
invariant_of-self-2 c =
    placed_now c.self.inside.kept _ c.self.inside.positions.items _ c.args.entry c.args.position c.self.invariant c.in_ok-push.ensures.ok (cc)
    (subst (λ (v : Seen). is_above_all c.args.position v.topic.positions ≡ true) (sym c.self.view_is) c.requires)
