use Rattle.std.proofs.Common.{◌≡◌, ◌∙◌, List, position, sym, ap}
use Rattle.std.specs.Str.{bytes_eq}
use Rattle.geo_base.specs.Subscription.{Subscription}
use Rattle.durable_parts.specs.declared.durable.DurableSub.{DurableSub}
use Rattle.durable_parts.specs.Parts.{subs_of}
use Rattle.durable_parts.proofs.Named.{is_named, place_of_subs}
use Rattle.durable_parts.proofs.subs.DurableSubs.place_of.Goals as goal

pub returns : goal.returns
returns c =
    let items = c.self.inside.subs.items in
    let name = c.args.name.now in
    let view : subs_of items ≡ c.args.self.now = c.self.view_is in
    let here : c.place_of.result ≡ position (λ (d : DurableSub). bytes_eq d.name name) items =
    c.place_of.ensures ∙ ap (λ (ds : List DurableSub). position (λ (d : DurableSub). bytes_eq d.name name) ds) c.as_slice.ensures.value in
    here ∙ sym (place_of_subs name items) ∙ ap (λ (ss : List Subscription). position (is_named name) ss) view
