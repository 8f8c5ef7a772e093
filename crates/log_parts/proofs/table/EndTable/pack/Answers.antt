use Rattle.std.proofs.Common.{[], refl, arith}
use Rattle.std.specs.Prelude.{None, true, false}
use Rattle.log_parts.proofs.Tables.{row_none, row_of, row_within, set_more, set_same}
use Rattle.log_parts.proofs.table.EndTable.pack.Goals as goal

pub unreachable-requires : goal.unreachable-requires
unreachable-requires g c = row_none c.args.to c.args.self.now.rows.items c.place.result c.place.ensures c.in_default.is c.requires

pub index_mut-requires : goal.index_mut-requires
index_mut-requires g c =
    let lt = row_within c.args.to c.args.self.now.rows.items c.place.result c.in-Some.at c.place.ensures c.in-Some.is in
    omega (arith, lt, c.args.self.now.rows.ok.0)

pub returns-clause-sends : goal.returns-clause-sends
returns-clause-sends g c = record {
  sent = λ q. set_same (λ r. g.E.End.sent r.send) [] c.args.to q c.args.self.now.rows.items c.in-Some.at c.index_mut.result.now _ (row_of c.args.to c.args.self.now.rows.items c.place.result c.in-Some.at c.index_mut.result.now c.place.ensures c.in-Some.is c.index_mut.ensures.value) refl (c.pack.ensures.sent);
  free = λ q. set_more (λ r. g.E.End.free r.send) c.args.to q c.args.self.now.rows.items c.in-Some.at c.index_mut.result.now _ (row_of c.args.to c.args.self.now.rows.items c.place.result c.in-Some.at c.index_mut.result.now c.place.ensures c.in-Some.is c.index_mut.ensures.value) refl c.pack.ensures.free;
}

pub returns-clause-takes : goal.returns-clause-takes
returns-clause-takes g c = record {
  taken = λ q. set_same (λ r. g.E.End.taken r.take) [] c.args.to q c.args.self.now.rows.items c.in-Some.at c.index_mut.result.now _ (row_of c.args.to c.args.self.now.rows.items c.place.result c.in-Some.at c.index_mut.result.now c.place.ensures c.in-Some.is c.index_mut.ensures.value) refl (refl);
  shown = λ q. set_same (λ r. g.E.End.shown r.take) None c.args.to q c.args.self.now.rows.items c.in-Some.at c.index_mut.result.now _ (row_of c.args.to c.args.self.now.rows.items c.place.result c.in-Some.at c.index_mut.result.now c.place.ensures c.in-Some.is c.index_mut.ensures.value) refl (refl);
}

pub returns-clause-peers : goal.returns-clause-peers
returns-clause-peers g c = λ q. set_same (λ r. true) false c.args.to q c.args.self.now.rows.items c.in-Some.at c.index_mut.result.now _ (row_of c.args.to c.args.self.now.rows.items c.place.result c.in-Some.at c.index_mut.result.now c.place.ensures c.in-Some.is c.index_mut.ensures.value) refl (refl)

pub returns-clause-looks : goal.returns-clause-looks
returns-clause-looks g c = λ q.
    set_more (λ r. g.E.End.looks r.send) c.args.to q c.args.self.now.rows.items c.in-Some.at c.index_mut.result.now _ (row_of c.args.to c.args.self.now.rows.items c.place.result c.in-Some.at c.index_mut.result.now c.place.ensures c.in-Some.is c.index_mut.ensures.value) refl
    (let same = c.pack.ensures.looks in omega (arith, same))
