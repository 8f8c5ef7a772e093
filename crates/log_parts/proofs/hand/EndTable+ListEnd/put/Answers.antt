use Rattle.std.proofs.Common.{refl, arith}
use Rattle.std.specs.Prelude.{true, false}
use Rattle.log_parts.proofs.Hands.{put_row}
use Rattle.log_parts.proofs.Tables.{row_none, row_of, row_within, set_same}
use Rattle.log_parts.proofs.hand.EndTable+ListEnd.put.Goals as goal

pub unreachable-requires : goal.unreachable-requires
unreachable-requires c = row_none c.args.from c.args.self.now.rows.items c.place.result c.place.ensures c.in_default.is c.requires

pub index_mut-requires : goal.index_mut-requires
index_mut-requires c =
    let lt = row_within c.args.from c.args.self.now.rows.items c.place.result c.in-Some.at c.place.ensures c.in-Some.is in
    omega (arith, lt, c.args.self.now.rows.ok.0)

pub returns-clause-put : goal.returns-clause-put
returns-clause-put c =
    put_row c.args.from c.args.packet c.args.self.now.rows.items c.in-Some.at c.index_mut.result.now _ c.put.result (row_of c.args.from c.args.self.now.rows.items c.place.result c.in-Some.at c.index_mut.result.now c.place.ensures c.in-Some.is c.index_mut.ensures.value) c.put.ensures.ok

pub returns-clause-peers : goal.returns-clause-peers
returns-clause-peers c = λ q.
    set_same (λ r. true) false c.args.from q c.args.self.now.rows.items c.in-Some.at c.index_mut.result.now _ (row_of c.args.from c.args.self.now.rows.items c.place.result c.in-Some.at c.index_mut.result.now c.place.ensures c.in-Some.is c.index_mut.ensures.value) refl refl
