use Rattle.std.proofs.Common.{[], ◌++◌, refl, sym, ◌∙◌, arith}
use Rattle.std.specs.Prelude.{None, true, false}
use Rattle.std.specs.Option.{option_to_list}
use Rattle.log_parts.proofs.Tables.{row_at, row_gone, row_of, row_within, set_by, set_more, set_same}
use Rattle.log_parts.proofs.table.EndTable.take.Goals as goal

pub index_mut-requires : goal.index_mut-requires
index_mut-requires g c =
    let lt = row_within c.args.from c.args.self.now.rows.items c.place.result c.in-Some.at c.place.ensures c.in-Some.is in
    omega (arith, lt, c.args.self.now.rows.ok.0)

pub returns-in-Some-clause-value : goal.returns-in-Some-clause-value
returns-in-Some-clause-value g c =
    c.take.ensures.value ∙ sym (row_at (λ r. g.E.End.shown r.take) None c.args.from c.args.self.now.rows.items c.in-Some.at c.index_mut.result.now (row_of c.args.from c.args.self.now.rows.items c.place.result c.in-Some.at c.index_mut.result.now c.place.ensures c.in-Some.is c.index_mut.ensures.value))

pub returns-in-Some-clause-taken : goal.returns-in-Some-clause-taken
returns-in-Some-clause-taken g c = λ q.
    set_by (λ r. g.E.End.taken r.take) [] c.args.from q c.args.self.now.rows.items c.in-Some.at c.index_mut.result.now _ (λ ps. ps ++ option_to_list c.take.result) (row_of c.args.from c.args.self.now.rows.items c.place.result c.in-Some.at c.index_mut.result.now c.place.ensures c.in-Some.is c.index_mut.ensures.value) refl c.take.ensures.taken

pub returns-in-Some-clause-sends : goal.returns-in-Some-clause-sends
returns-in-Some-clause-sends g c = record {
  sent = λ q. set_same (λ r. g.E.End.sent r.send) [] c.args.from q c.args.self.now.rows.items c.in-Some.at c.index_mut.result.now _ (row_of c.args.from c.args.self.now.rows.items c.place.result c.in-Some.at c.index_mut.result.now c.place.ensures c.in-Some.is c.index_mut.ensures.value) refl (refl);
  free = λ q. set_more (λ r. g.E.End.free r.send) c.args.from q c.args.self.now.rows.items c.in-Some.at c.index_mut.result.now _ (row_of c.args.from c.args.self.now.rows.items c.place.result c.in-Some.at c.index_mut.result.now c.place.ensures c.in-Some.is c.index_mut.ensures.value) refl (omega arith);
}

pub returns-in-Some-clause-peers : goal.returns-in-Some-clause-peers
returns-in-Some-clause-peers g c = λ q. set_same (λ r. true) false c.args.from q c.args.self.now.rows.items c.in-Some.at c.index_mut.result.now _ (row_of c.args.from c.args.self.now.rows.items c.place.result c.in-Some.at c.index_mut.result.now c.place.ensures c.in-Some.is c.index_mut.ensures.value) refl (refl)

pub returns-in-None-clause-value : goal.returns-in-None-clause-value
returns-in-None-clause-value g c = sym (row_gone (λ r. g.E.End.shown r.take) None c.args.from c.args.self.now.rows.items c.place.result c.place.ensures c.in-None.is)
