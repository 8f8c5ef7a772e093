use Rattle.std.proofs.Common.{ℕ, ◌≡◌, ◌<◌, ◌==◌, get_or, ap, sym, ◌∙◌, arith}
use Rattle.std.specs.Prelude.{not}
use Rattle.std.specs.List.{remove}
use Rattle.std.specs.VecDeque.{deque_len}
use Rattle.geo_base.specs.Ascending.{IsGap, IsHere}
use Rattle.dispatcher.specs.Tables.{RedeliveryIndexes, index_itself}
use Rattle.geo_base.proofs.Ascending.{ascending_filter, gone_gap, gone_here}
use Rattle.dispatcher.proofs.Kept.{then_some}
use Rattle.dispatcher.proofs.due.RedeliverySet.remove.Goals as goal

pub returns-in-Ok-clause-indexes : goal.returns-in-Ok-clause-indexes
returns-in-Ok-clause-indexes c =
    let xs = c.self.inside.items.items in
    let at = c.in-Ok.at in
    let some : ℕ = 0 in
    let view = ap (λ (t : RedeliveryIndexes). t.indexes) c.self.view_is in
    let here : IsHere ℕ index_itself xs c.args.index at = rw view c.in-Ok.ensures.here in
    let within : at < deque_len c.self.inside.items = omega (arith, here.within, c.self.inside.items.ok.0) in
    let removes : c.remove.new.self.items ≡ remove xs at =
    then_some c.remove.result (c.remove.new.self.items ≡ remove xs at) (get_or xs at some) (c.remove.ensures.succeeds some within) c.remove.ensures.items in
    rw (← view) (removes ∙ sym (gone_here index_itself c.args.index xs some at c.self.invariant here))

pub invariant_of-self : goal.invariant_of-self
invariant_of-self c =
    let xs = c.self.inside.items.items in
    let at = c.in-Ok.at in
    let some : ℕ = 0 in
    let view = ap (λ (t : RedeliveryIndexes). t.indexes) c.self.view_is in
    let here : IsHere ℕ index_itself xs c.args.index at = rw view c.in-Ok.ensures.here in
    let within : at < deque_len c.self.inside.items = omega (arith, here.within, c.self.inside.items.ok.0) in
    let removes : c.remove.new.self.items ≡ remove xs at =
    then_some c.remove.result (c.remove.new.self.items ≡ remove xs at) (get_or xs at some) (c.remove.ensures.succeeds some within) c.remove.ensures.items in
    rw (removes ∙ sym (gone_here index_itself c.args.index xs some at c.self.invariant here)) (ascending_filter index_itself (λ (x : ℕ). not (index_itself x == c.args.index)) xs c.self.invariant)

pub returns-in_default-clause-indexes : goal.returns-in_default-clause-indexes
returns-in_default-clause-indexes c =
    let view = ap (λ (t : RedeliveryIndexes). t.indexes) c.self.view_is in
    let gap : IsGap ℕ index_itself c.self.inside.items.items c.args.index c.in_default.field-0 = rw view c.in_default.ensures.gap in
    rw (← view) (sym (gone_gap index_itself c.args.index c.self.inside.items.items c.in_default.field-0 c.self.invariant gap))
