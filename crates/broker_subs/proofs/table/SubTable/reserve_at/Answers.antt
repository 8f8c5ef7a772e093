use Rattle.std.proofs.Common.{ap, ◌∙◌, ◌≡◌, ◌<◌, arith}
use Rattle.std.specs.Prelude.{length}
use Rattle.std.proofs.lemmas.List.{get_or_default}
use Rattle.geo_base.specs.Subscription.{Subscription}
use Rattle.broker_subs.specs.Table.{SubsView, sub_view_at, view_name, no_sub_view}
use Rattle.broker_subs.proofs.Places.{names_kept}
use Rattle.broker_subs.proofs.table.SubTable.reserve_at.Goals as goal

pub invariant_of-self : goal.invariant_of-self
invariant_of-self c =
    let items = c.self.inside.subs.items in
    let view : items ≡ c.args.self.now.subs = ap (λ (t : SubsView). t.subs) c.self.view_is in
    let within : c.args.sub_index < length items = omega (arith, c.requires, ap length view) in
    let old : c.index_mut.result.now ≡ sub_view_at items c.args.sub_index = c.index_mut.ensures.value ∙ get_or_default items c.args.sub_index _ no_sub_view within in
    let name : view_name c.reserve.new.self ≡ view_name (sub_view_at items c.args.sub_index) = ap (λ (s : Subscription). s.name) c.reserve.ensures.same ∙ ap view_name old in
    record {
      places = c.self.invariant.places;
      names = names_kept items c.args.sub_index c.reserve.new.self c.self.invariant.names within name;
    }
