use Rattle.std.proofs.Common.{◌≡◌, ◌∙◌, List, [], ◌∷◌, ◌++◌, None, ap}
use Rattle.std.proofs.lemmas.List.{map-append}
use Rattle.geo_base.specs.Broker.{sub_named}
use Rattle.geo_base.specs.Subscription.{Subscription}
use Rattle.durable_parts.specs.declared.durable.DurableSub.{DurableSub}
use Rattle.durable_parts.specs.Parts.{AreNamedApart, sub_of, subs_of}
use Rattle.durable_parts.proofs.Named.{apart_added}
use Rattle.durable_parts.proofs.subs.DurableSubs.add.Goals as goal

pub invariant_of-self : goal.invariant_of-self
invariant_of-self c =
    let apart : AreNamedApart (subs_of c.self.inside.subs.items) = c.self.invariant in
    let same : subs_of c.reserve.new.self.items ≡ subs_of c.self.inside.subs.items = ap (λ (ds : List DurableSub). subs_of ds) c.reserve.ensures.items in
    rw same apart

pub invariant_of-self-in-Ok : goal.invariant_of-self-in-Ok
invariant_of-self-in-Ok c =
    let items = c.self.inside.subs.items in
    let sub = c.args.sub in
    let view : subs_of items ≡ c.args.self.now = c.self.view_is in
    let more : c.push_reserved.new.self.items ≡ items ++ sub ∷ [] =
    c.push_reserved.ensures.items ∙ ap (λ (ds : List DurableSub). ds ++ sub ∷ []) c.reserve.ensures.items in
    let seen : subs_of c.push_reserved.new.self.items ≡ subs_of items ++ sub_of sub ∷ [] =
    ap (λ (ds : List DurableSub). subs_of ds) more ∙ map-append sub_of items (sub ∷ []) in
    let absent : sub_named (subs_of items) sub.name ≡ None = ap (λ (ss : List Subscription). sub_named ss sub.name) view ∙ c.requires.new in
    rw seen (apart_added (subs_of items) (sub_of sub) absent c.self.invariant)

pub returns-in-Ok-clause-ok : goal.returns-in-Ok-clause-ok
returns-in-Ok-clause-ok c =
    let items = c.self.inside.subs.items in
    let sub = c.args.sub in
    let view : subs_of items ≡ c.args.self.now = c.self.view_is in
    let more : c.push_reserved.new.self.items ≡ items ++ sub ∷ [] =
    c.push_reserved.ensures.items ∙ ap (λ (ds : List DurableSub). ds ++ sub ∷ []) c.reserve.ensures.items in
    ap (λ (ds : List DurableSub). subs_of ds) more ∙ map-append sub_of items (sub ∷ []) ∙ ap (λ (ss : List Subscription). ss ++ sub_of sub ∷ []) view

pub returns-in-Err-clause-err : goal.returns-in-Err-clause-err
returns-in-Err-clause-err c =
    let view : subs_of c.self.inside.subs.items ≡ c.args.self.now = c.self.view_is in
    ap (λ (ds : List DurableSub). subs_of ds) c.reserve.ensures.items ∙ view
