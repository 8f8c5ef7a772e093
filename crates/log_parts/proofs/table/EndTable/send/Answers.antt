use Rattle.std.proofs.Common.{ℕ, ◌≤◌, [], ◌∷◌, ◌++◌, refl, subst, arith}
use Rattle.std.specs.Prelude.{true, false}
use Rattle.log_parts.proofs.Tables.{row_at, row_none, row_of, row_within, set_by, set_least, set_same}
use Rattle.log_parts.proofs.table.EndTable.send.Goals as goal

pub unreachable-requires : goal.unreachable-requires
unreachable-requires g c = row_none c.args.to c.args.self.now.rows.items c.place.result c.place.ensures c.in_default.is c.requires.has

pub index_mut-requires : goal.index_mut-requires
index_mut-requires g c =
    let lt = row_within c.args.to c.args.self.now.rows.items c.place.result c.in-Some.at c.place.ensures c.in-Some.is in
    omega (arith, lt, c.args.self.now.rows.ok.0)

pub send-requires-clause-room : goal.send-requires-clause-room
send-requires-clause-room g c =
    let row = row_of c.args.to c.args.self.now.rows.items c.place.result c.in-Some.at c.index_mut.result.now c.place.ensures c.in-Some.is c.index_mut.ensures.value in
    subst (λ (n : ℕ). c.args.parcel.places ≤ n) (row_at (λ r. g.E.End.free r.send) 0 c.args.to c.args.self.now.rows.items c.in-Some.at c.index_mut.result.now row) c.requires.room

pub returns-clause-sent : goal.returns-clause-sent
returns-clause-sent g c = λ q.
    set_by (λ r. g.E.End.sent r.send) [] c.args.to q c.args.self.now.rows.items c.in-Some.at c.index_mut.result.now _ (λ ps. ps ++ c.args.parcel.packet ∷ []) (row_of c.args.to c.args.self.now.rows.items c.place.result c.in-Some.at c.index_mut.result.now c.place.ensures c.in-Some.is c.index_mut.ensures.value) refl c.send.ensures.sent

pub returns-clause-free : goal.returns-clause-free
returns-clause-free g c = λ q.
    set_least (λ r. g.E.End.free r.send) c.args.to q c.args.self.now.rows.items c.in-Some.at c.index_mut.result.now _ c.args.parcel.places (row_of c.args.to c.args.self.now.rows.items c.place.result c.in-Some.at c.index_mut.result.now c.place.ensures c.in-Some.is c.index_mut.ensures.value) refl c.send.ensures.free

pub returns-clause-taken : goal.returns-clause-taken
returns-clause-taken g c = λ q.
    set_same (λ r. g.E.End.taken r.take) [] c.args.to q c.args.self.now.rows.items c.in-Some.at c.index_mut.result.now _ (row_of c.args.to c.args.self.now.rows.items c.place.result c.in-Some.at c.index_mut.result.now c.place.ensures c.in-Some.is c.index_mut.ensures.value) refl refl

pub returns-clause-peers : goal.returns-clause-peers
returns-clause-peers g c = λ q. set_same (λ r. true) false c.args.to q c.args.self.now.rows.items c.in-Some.at c.index_mut.result.now _ (row_of c.args.to c.args.self.now.rows.items c.place.result c.in-Some.at c.index_mut.result.now c.place.ensures c.in-Some.is c.index_mut.ensures.value) refl (refl)
