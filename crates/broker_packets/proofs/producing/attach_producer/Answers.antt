use Rattle.std.proofs.Common.{◌≡◌, ◌∙◌, ℕ, ◌≤◌, ◌++◌, ◌∷◌, [], List, length, sym, ap, subst}
use Rattle.geo_base.specs.declared.frame.Frame.TheVariants as frame
use Rattle.geo_base.specs.declared.session.AttachedProducer.{AttachedProducer}
use Rattle.geo_base.specs.Answers.{answer}
use Rattle.geo_base.specs.Plan.{plan_of}
use Rattle.geo_base.specs.Producing.{with_producers, without_producer}
use Rattle.broker_plans.specs.Prepared.{IsPrepared}
use Rattle.broker_plans.proofs.Keeping.{room_more}
use Rattle.broker_packets.specs.Serving.{open_at}
use Rattle.broker_packets.proofs.Producers.{having_more, short_name}
use Rattle.broker_packets.proofs.producing.attach_producer.Goals as goal

pub also_answer-requires-clause-small : goal.also_answer-requires-clause-small
also_answer-requires-clause-small c = subst (λ (n : List ℕ). length n ≤ 1024) (sym c.in_ok-copy.ensures) (short_name c.args.name.now c.requires.allowed)

pub returns-clause-prepared : goal.returns-clause-prepared
returns-clause-prepared c =
    let h = c.args.state.now.site in
    let b = c.args.state.now.broker in
    let x = c.args.client in
    let s = open_at b x in
    let a = c.args.asked.now in
    let one : AttachedProducer = record { id = a.id; name = c.args.name.now } in
    let ps = without_producer a.id s.producers ++ one ∷ [] in
    let kept = c.in_ok-kept.ensures ∙ ap (λ (xs : List AttachedProducer). without_producer a.id xs) c.open_producers.ensures in
    let same : c.in_ok-producers.producers ≡ ps = c.in_ok-producers.ensures ∙ ap (λ (xs : List AttachedProducer). xs ++ one ∷ []) kept in
    subst (λ (n : List ℕ). IsPrepared h b (plan_of [] (with_producers x s ps ∷ []) (answer x s (frame.ProducerSuccess a.request n))) c.also_answer.new.plan) c.in_ok-copy.ensures
    (having_more h b x (frame.ProducerSuccess a.request c.in_ok-copy.field-0) c.in_ok-producers.producers ps c.set_producers.new.plan c.also_answer.new.plan same c.in_ok-set_producers.ensures.prepared c.in_ok-also_answer.ensures)

pub returns-clause-room : goal.returns-clause-room
returns-clause-room c = λ room. room_more _ room _ _ _ (c.in_ok-set_producers.ensures.room room) c.in_ok-also_answer.ensures
