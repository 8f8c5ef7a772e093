use Rattle.std.proofs.Common.{[], refl, sym, subst, arith}
use Rattle.std.specs.Prelude.{IfNone, IfOk, Option, None, true, false}
use Rattle.log_parts.proofs.Tables.{row_gone, row_of, row_within, set_looked, set_more, set_own, set_same}
use Rattle.node_log.specs.Looking.{IsNotGot}
use Rattle.node_log.proofs.Gets.{got_at, if_ok, own_err, own_stays}
use Rattle.node_log.proofs.getting.get_from.Goals as goal
use Rattle.wire_ends.specs.declared.packet.WirePacket.{WirePacket}

pub index_mut-requires : goal.index_mut-requires
index_mut-requires g c =
    let lt = row_within c.args.from c.args.ends.now.rows.items c.place.result c.in-Some.at c.place.ensures c.in-Some.is in
    omega (arith, lt, c.args.ends.now.rows.ok.0)

pub returns-in-Some-clause-got : goal.returns-in-Some-clause-got
returns-in-Some-clause-got g c =
    got_at c.args.scenario.now.setup c.args.own.now.number c.site_of-site.result c.args.own.now.client c.get_at.new.client c.args.clock (g.E.End.shown c.get_at.new.end) _ c.get_at.result c.site_of-site.ensures.setup c.site_of-site.ensures.declared
    (sym (set_own (λ r. g.E.End.shown r.take) None c.args.from c.args.ends.now.rows.items c.in-Some.at c.index_mut.result.now (record c.index_mut.result.now { take = c.get_at.new.end }) (row_of c.args.from c.args.ends.now.rows.items c.place.result c.in-Some.at c.index_mut.result.now c.place.ensures c.in-Some.is c.index_mut.ensures.value) refl)) c.get_at.ensures.got

pub returns-in-Some-clause-none : goal.returns-in-Some-clause-none
returns-in-Some-clause-none g c =
    subst (λ (w : Option WirePacket). IfOk c.get_at.result (λ o. IfNone o (IsNotGot c.args.clock w)))
    (sym (set_own (λ r. g.E.End.shown r.take) None c.args.from c.args.ends.now.rows.items c.in-Some.at c.index_mut.result.now (record c.index_mut.result.now { take = c.get_at.new.end }) (row_of c.args.from c.args.ends.now.rows.items c.place.result c.in-Some.at c.index_mut.result.now c.place.ensures c.in-Some.is c.index_mut.ensures.value) refl)) c.get_at.ensures.none

pub returns-in-Some-clause-stays : goal.returns-in-Some-clause-stays
returns-in-Some-clause-stays g c = own_stays c.args.own.now.number c.args.own.now.client c.get_at.new.client c.get_at.result c.get_at.ensures.stays

pub returns-in-Some-clause-err : goal.returns-in-Some-clause-err
returns-in-Some-clause-err g c = own_err c.args.own.now.number c.args.own.now.client c.get_at.new.client c.get_at.result c.get_at.ensures.err

pub returns-in-Some-clause-looks : goal.returns-in-Some-clause-looks
returns-in-Some-clause-looks g c =
    if_ok c.get_at.result c.get_at.ensures.looks (λ looked. λ has. set_looked (λ r. g.E.End.looks r.take) c.args.from c.args.ends.now.rows.items c.in-Some.at c.index_mut.result.now (record c.index_mut.result.now { take = c.get_at.new.end }) (row_of c.args.from c.args.ends.now.rows.items c.place.result c.in-Some.at c.index_mut.result.now c.place.ensures c.in-Some.is c.index_mut.ensures.value) refl looked)

pub returns-in-Some-clause-sends : goal.returns-in-Some-clause-sends
returns-in-Some-clause-sends g c = record {
  sent = λ q. set_same (λ r. g.E.End.sent r.send) [] c.args.from q c.args.ends.now.rows.items c.in-Some.at c.index_mut.result.now _ (row_of c.args.from c.args.ends.now.rows.items c.place.result c.in-Some.at c.index_mut.result.now c.place.ensures c.in-Some.is c.index_mut.ensures.value) refl refl;
  free = λ q. set_more (λ r. g.E.End.free r.send) c.args.from q c.args.ends.now.rows.items c.in-Some.at c.index_mut.result.now _ (row_of c.args.from c.args.ends.now.rows.items c.place.result c.in-Some.at c.index_mut.result.now c.place.ensures c.in-Some.is c.index_mut.ensures.value) refl (omega arith);
}

pub returns-in-Some-clause-taken : goal.returns-in-Some-clause-taken
returns-in-Some-clause-taken g c = λ q. set_same (λ r. g.E.End.taken r.take) [] c.args.from q c.args.ends.now.rows.items c.in-Some.at c.index_mut.result.now _ (row_of c.args.from c.args.ends.now.rows.items c.place.result c.in-Some.at c.index_mut.result.now c.place.ensures c.in-Some.is c.index_mut.ensures.value) refl c.get_at.ensures.taken

pub returns-in-Some-clause-peers : goal.returns-in-Some-clause-peers
returns-in-Some-clause-peers g c = λ q. set_same (λ r. true) false c.args.from q c.args.ends.now.rows.items c.in-Some.at c.index_mut.result.now _ (row_of c.args.from c.args.ends.now.rows.items c.place.result c.in-Some.at c.index_mut.result.now c.place.ensures c.in-Some.is c.index_mut.ensures.value) refl refl

pub returns-in-None-clause-none : goal.returns-in-None-clause-none
returns-in-None-clause-none g c =
    IsNotGot.Nothing (row_gone (λ r. g.E.End.shown r.take) None c.args.from c.args.ends.now.rows.items c.place.result c.place.ensures c.in-None.is)
