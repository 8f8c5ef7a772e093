use Rattle.std.proofs.Common.{List, ap, ◌∙◌, ◌≡◌, arith}
use Rattle.std.specs.Prelude.{length}
use Rattle.broker_subs.specs.SubView.{SubView, subs_of}
use Rattle.broker_subs.specs.Table.{SubsView, names_of}
use Rattle.broker_subs.proofs.Places.{name_removed, names_removed, removed_subs, sub_at_place}
use Rattle.broker_subs.proofs.table.SubTable.delete.Goals as goal

pub invariant_of-self : goal.invariant_of-self
invariant_of-self c =
    let items = c.self.inside.subs.items in
    let view : items ≡ c.args.self.now.subs = ap (λ (t : SubsView). t.subs) c.self.view_is in
    record {
      places = omega (arith, c.self.invariant.places, c.remove.ensures.len, c.remove.ensures.capacity);
      names = rw c.remove.ensures.items (names_removed items c.args.sub_index c.self.invariant.names (omega (arith, c.requires, ap length view)));
    }

pub returns-clause-subs : goal.returns-clause-subs
returns-clause-subs c =
    let items = c.self.inside.subs.items in
    let view : items ≡ c.args.self.now.subs = ap (λ (t : SubsView). t.subs) c.self.view_is in
    rw (← view, sub_at_place items c.args.sub_index) (ap subs_of c.remove.ensures.items ∙ removed_subs items c.args.sub_index c.self.invariant.names (omega (arith, c.requires, ap length view)))

pub returns-clause-names : goal.returns-clause-names
returns-clause-names c =
    let items = c.self.inside.subs.items in
    let view : items ≡ c.args.self.now.subs = ap (λ (t : SubsView). t.subs) c.self.view_is in
    rw (← view) (ap (λ (bs : List SubView). names_of (subs_of bs)) c.remove.ensures.items ∙ name_removed items c.args.sub_index)
