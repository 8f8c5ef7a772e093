use Rattle.std.proofs.Common.{◌≡◌, ◌<◌, ◌∙◌, length, ap, arith}
use Rattle.std.proofs.lemmas.List.{get_or_default}
use Rattle.geo_base.specs.Subscription.{Subscription}
use Rattle.durable_parts.specs.declared.durable.DurableSub.{DurableSub}
use Rattle.broker_subs.specs.Table.{sub_view_at, view_name, no_sub_view}
use Rattle.broker_subs.proofs.Anew.{not_before}
use Rattle.broker_subs.proofs.table.SubTable.durable.Goals as goal

pub add-requires : goal.add-requires
add-requires c =
    let items = c.self.inside.subs.items in
    let k = c.loop-sub_index.sub_index in
    let within : k < length items = omega (arith, c.loop-sub_index-test.true, c.loop-sub_index.auto.sub_index-end, c.len-sub_index-end.ensures, c.self.inside.subs.ok.0) in
    let item : c.index.result.now ≡ sub_view_at items k = c.index.ensures ∙ get_or_default items k c.index.result.now no_sub_view within in
    let name : c.in_ok-copy.field-0.name ≡ view_name (sub_view_at items k) =
    ap (λ (s : Subscription). s.name) c.in_ok-copy.ensures ∙ ap (λ (d : DurableSub). d.name) c.durable.ensures ∙ ap view_name item in
    record { new = rw (c.loop-sub_index.invariant, name) (not_before items k within c.self.invariant.names) }
