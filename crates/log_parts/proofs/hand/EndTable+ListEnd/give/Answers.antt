use Rattle.std.proofs.Common.{[], drop, refl, sym, ◌∙◌, ap, arith}
use Rattle.std.specs.Prelude.{List, true, false, slice_get}
use Rattle.log_parts.proofs.Tables.{row_at, row_none, row_of, row_within, set_by, set_same}
use Rattle.log_parts.proofs.hand.EndTable+ListEnd.give.Goals as goal
use Rattle.wire_ends.specs.declared.packet.WirePacket.{WirePacket}

pub unreachable-requires : goal.unreachable-requires
unreachable-requires c = row_none c.args.to c.args.self.now.rows.items c.place.result c.place.ensures c.in_default.is c.requires

pub index_mut-requires : goal.index_mut-requires
index_mut-requires c =
    let lt = row_within c.args.to c.args.self.now.rows.items c.place.result c.in-Some.at c.place.ensures c.in-Some.is in
    omega (arith, lt, c.args.self.now.rows.ok.0)

pub returns-clause-value : goal.returns-clause-value
returns-clause-value c =
    c.give.ensures.value ∙ ap (λ (ps : List WirePacket). slice_get ps 0)
    (sym (row_at (λ r. r.send.held) [] c.args.to c.args.self.now.rows.items c.in-Some.at c.index_mut.result.now (row_of c.args.to c.args.self.now.rows.items c.place.result c.in-Some.at c.index_mut.result.now c.place.ensures c.in-Some.is c.index_mut.ensures.value)))

pub returns-clause-gave : goal.returns-clause-gave
returns-clause-gave c =
    let row = row_of c.args.to c.args.self.now.rows.items c.place.result c.in-Some.at c.index_mut.result.now c.place.ensures c.in-Some.is c.index_mut.ensures.value in
    record {
      given = λ q. set_by (λ r. r.send.held) [] c.args.to q c.args.self.now.rows.items c.in-Some.at c.index_mut.result.now _ (λ ps. drop 1 ps) row refl (ap (λ e. e.held) c.give.ensures.after);
      rest = λ q. set_same (λ r. r.take.held) [] c.args.to q c.args.self.now.rows.items c.in-Some.at c.index_mut.result.now _ row refl refl;
      sent = λ q. set_same (λ r. r.send.sent) [] c.args.to q c.args.self.now.rows.items c.in-Some.at c.index_mut.result.now _ row refl (ap (λ e. e.sent) c.give.ensures.after);
      taken = λ q. set_same (λ r. r.take.taken) [] c.args.to q c.args.self.now.rows.items c.in-Some.at c.index_mut.result.now _ row refl refl;
    }

pub returns-clause-peers : goal.returns-clause-peers
returns-clause-peers c = λ q.
    set_same (λ r. true) false c.args.to q c.args.self.now.rows.items c.in-Some.at c.index_mut.result.now _ (row_of c.args.to c.args.self.now.rows.items c.place.result c.in-Some.at c.index_mut.result.now c.place.ensures c.in-Some.is c.index_mut.ensures.value) refl refl
