use Rattle.std.proofs.Common.{[], refl, sym, subst, arith}
use Rattle.std.specs.Prelude.{IfOk, Option, None, true, false}
use Rattle.log_parts.proofs.Tables.{row_gone, row_none, row_of, row_within, set_looked, set_more, set_own, set_same}
use Rattle.node_log.specs.Looking.{IsLooked}
use Rattle.node_log.proofs.Looks.{any_ok, on_ok}
use Rattle.node_log.proofs.looking.look_from.Goals as goal
use Rattle.wire_ends.specs.declared.packet.WirePacket.{WirePacket}

pub index_mut-requires : goal.index_mut-requires
index_mut-requires g c =
    let lt = row_within c.args.from c.args.ends.now.rows.items c.place.result c.in-Some.at c.place.ensures c.in-Some.is in
    omega (arith, lt, c.args.ends.now.rows.ok.0)

pub returns-in-Some-clause-looked : goal.returns-in-Some-clause-looked
returns-in-Some-clause-looked g c =
    subst (λ (o : Option WirePacket). IfOk c.look_at.result (λ n. IsLooked c.args.node.now c.args.event.now o n c.look_at.new.plan))
    (sym (set_own (λ r. g.E.End.shown r.take) None c.args.from c.args.ends.now.rows.items c.in-Some.at c.index_mut.result.now (record c.index_mut.result.now { take = c.look_at.new.end }) (row_of c.args.from c.args.ends.now.rows.items c.place.result c.in-Some.at c.index_mut.result.now c.place.ensures c.in-Some.is c.index_mut.ensures.value) refl)) c.look_at.ensures.looked

pub returns-in-Some-clause-looks : goal.returns-in-Some-clause-looks
returns-in-Some-clause-looks g c =
    on_ok c.look_at.result c.look_at.ensures.looks (λ looked. λ has. set_looked (λ r. g.E.End.looks r.take) c.args.from c.args.ends.now.rows.items c.in-Some.at c.index_mut.result.now (record c.index_mut.result.now { take = c.look_at.new.end }) (row_of c.args.from c.args.ends.now.rows.items c.place.result c.in-Some.at c.index_mut.result.now c.place.ensures c.in-Some.is c.index_mut.ensures.value) refl looked)

pub returns-in-Some-clause-rise : goal.returns-in-Some-clause-rise
returns-in-Some-clause-rise g c = λ q. set_more (λ r. g.E.End.looks r.send) c.args.from q c.args.ends.now.rows.items c.in-Some.at c.index_mut.result.now (record c.index_mut.result.now { take = c.look_at.new.end }) (row_of c.args.from c.args.ends.now.rows.items c.place.result c.in-Some.at c.index_mut.result.now c.place.ensures c.in-Some.is c.index_mut.ensures.value) refl (omega arith)

pub returns-in-Some-clause-sends : goal.returns-in-Some-clause-sends
returns-in-Some-clause-sends g c = record {
  sent = λ q. set_same (λ r. g.E.End.sent r.send) [] c.args.from q c.args.ends.now.rows.items c.in-Some.at c.index_mut.result.now _ (row_of c.args.from c.args.ends.now.rows.items c.place.result c.in-Some.at c.index_mut.result.now c.place.ensures c.in-Some.is c.index_mut.ensures.value) refl refl;
  free = λ q. set_more (λ r. g.E.End.free r.send) c.args.from q c.args.ends.now.rows.items c.in-Some.at c.index_mut.result.now _ (row_of c.args.from c.args.ends.now.rows.items c.place.result c.in-Some.at c.index_mut.result.now c.place.ensures c.in-Some.is c.index_mut.ensures.value) refl (omega arith);
}

pub returns-in-Some-clause-taken : goal.returns-in-Some-clause-taken
returns-in-Some-clause-taken g c = λ q. set_same (λ r. g.E.End.taken r.take) [] c.args.from q c.args.ends.now.rows.items c.in-Some.at c.index_mut.result.now _ (row_of c.args.from c.args.ends.now.rows.items c.place.result c.in-Some.at c.index_mut.result.now c.place.ensures c.in-Some.is c.index_mut.ensures.value) refl c.look_at.ensures.taken

pub returns-in-Some-clause-peers : goal.returns-in-Some-clause-peers
returns-in-Some-clause-peers g c = λ q. set_same (λ r. true) false c.args.from q c.args.ends.now.rows.items c.in-Some.at c.index_mut.result.now _ (row_of c.args.from c.args.ends.now.rows.items c.place.result c.in-Some.at c.index_mut.result.now c.place.ensures c.in-Some.is c.index_mut.ensures.value) refl refl

pub returns-in-None-clause-looked : goal.returns-in-None-clause-looked
returns-in-None-clause-looked g c =
    subst (λ (o : Option WirePacket). IfOk c.prepare_nothing.result (λ n. IsLooked c.args.node.now c.args.event.now o n c.prepare_nothing.new.plan))
    (sym (row_gone (λ r. g.E.End.shown r.take) None c.args.from c.args.ends.now.rows.items c.place.result c.place.ensures c.in-None.is)) c.prepare_nothing.ensures.looked

pub returns-in-None-clause-looks : goal.returns-in-None-clause-looks
returns-in-None-clause-looks g c = any_ok c.prepare_nothing.result (λ has. absurd (row_none c.args.from c.args.ends.now.rows.items c.place.result c.place.ensures c.in-None.is has))
