use Rattle.std.proofs.Common.{◌≡◌, ◌∙◌, List, not, ap}
use Rattle.std.specs.List.{filter}
use Rattle.std.specs.Str.{bytes_eq}
use Rattle.geo_base.specs.Subscription.{Subscription}
use Rattle.durable_parts.specs.declared.durable.DurableSub.{DurableSub}
use Rattle.durable_parts.specs.Parts.{AreNamedApart, subs_of}
use Rattle.durable_parts.proofs.Named.{apart_without, without_name}
use Rattle.durable_parts.proofs.subs.DurableSubs.remove.Goals as goal

left : (c : goal.After-remove_named) → subs_of c.remove_named.new.subs.items ≡ filter (λ (s : Subscription). not (bytes_eq s.name c.args.name.now)) (subs_of c.self.inside.subs.items)
left c = ap (λ (ds : List DurableSub). subs_of ds) c.remove_named.ensures ∙ without_name c.args.name.now c.self.inside.subs.items

pub invariant_of-self : goal.invariant_of-self
invariant_of-self c =
    let apart : AreNamedApart (filter (λ (s : Subscription). not (bytes_eq s.name c.args.name.now)) (subs_of c.self.inside.subs.items)) =
    apart_without (λ (s : Subscription). not (bytes_eq s.name c.args.name.now)) (subs_of c.self.inside.subs.items) c.self.invariant in
    rw (left c) apart

pub returns : goal.returns
returns c =
    let view : subs_of c.self.inside.subs.items ≡ c.args.self.now = c.self.view_is in
    left c ∙ ap (λ (ss : List Subscription). filter (λ (s : Subscription). not (bytes_eq s.name c.args.name.now)) ss) view
