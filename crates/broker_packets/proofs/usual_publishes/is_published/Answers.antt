use Rattle.std.proofs.Common.{ℕ, List, ◌∙◌, ap, subst, sym}
use Rattle.std.specs.Prelude.{◌≡◌, true, Option}
use Rattle.geo_base.specs.declared.session.AttachedProducer.{AttachedProducer}
use Rattle.geo_base.specs.Producing.{name_with}
use Rattle.frame_values.specs.Usual.{entry_viewed, source_viewed}
use Rattle.broker_packets.specs.Producing.{published}
use Rattle.broker_packets.proofs.usual_publishes.is_published.Goals as goal

pub returns-clause-only : goal.returns-clause-only
returns-clause-only c =
    let m = c.args.came in let h = c.args.state.now.site in
    let name = c.name_with-name.ensures ∙ ap (λ (xs : List AttachedProducer). name_with m.id xs) c.open_producers.ensures in
    λ is. subst (λ (o : Option (List ℕ)). published h o m.seq (source_viewed h.clusters m.message) (entry_viewed 0 m.message) ≡ true) name (c.is_sound.ensures.only is)

pub returns-clause-all : goal.returns-clause-all
returns-clause-all c =
    let m = c.args.came in let h = c.args.state.now.site in
    let name = c.name_with-name.ensures ∙ ap (λ (xs : List AttachedProducer). name_with m.id xs) c.open_producers.ensures in
    λ is. c.is_sound.ensures.all (subst (λ (o : Option (List ℕ)). published h o m.seq (source_viewed h.clusters m.message) (entry_viewed 0 m.message) ≡ true) (sym name) is)
