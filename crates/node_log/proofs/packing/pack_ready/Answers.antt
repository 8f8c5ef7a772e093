use Rattle.std.proofs.Common.{◌≡◌, ◌∙◌, true, false, arith, rules}
use Rattle.node_log.proofs.Packs.{are_peers, lacks_since, still_addressed}
use Rattle.node_log.proofs.packing.pack_ready.Goals as goal

pub has_room-requires : goal.has_room-requires
has_room-requires g c =
    let same : c.as_slice.result.now ≡ c.in_ok-packed.packed.parcels.items = c.as_slice.ensures.value in
    rw same (are_peers g.E.End.fits c.pack_all.new.ends.rows.items c.in_ok-packed.packed.parcels.items c.in_ok-packed.ensures.addressed)

pub returns-then-not-has_room-clause-full : goal.returns-then-not-has_room-clause-full
returns-then-not-has_room-clause-full g c =
    let full : c.has_room.result ≡ false = (let said = c.if-not-has_room.true in first_of (cc, search rules, grind (arith, said))) in
    let same : c.as_slice.result.now ≡ c.in_ok-packed.packed.parcels.items = c.as_slice.ensures.value in
    record {
      parcels = c.in_ok-packed.packed.parcels.items;
      packed = c.in_ok-packed.ensures.parcels;
      addressed = still_addressed g.E.End.fits c.pack_all.new.ends.rows.items c.has_room.new.self.rows.items c.in_ok-packed.packed.parcels.items c.in_ok-packed.ensures.addressed c.has_room.ensures.peers;
      lacks = lacks_since g.E.End.free g.E.End.looks c.args.ends.now.rows.items c.pack_all.new.ends.rows.items c.has_room.new.self.rows.items c.in_ok-packed.packed.parcels.items c.pack_all.ensures.looks
          (rw (← same) (c.has_room.ensures.few full));
    }

pub returns-then-not-has_room-clause-sends : goal.returns-then-not-has_room-clause-sends
returns-then-not-has_room-clause-sends g c = record {
  sent = λ q. c.has_room.ensures.sends.sent q ∙ c.pack_all.ensures.sends.sent q;
  free = λ q. let few = c.pack_all.ensures.sends.free q in let more = c.has_room.ensures.sends.free q in omega (arith, few, more);
}

pub returns-then-not-has_room-clause-takes : goal.returns-then-not-has_room-clause-takes
returns-then-not-has_room-clause-takes g c = record {
  taken = λ q. c.has_room.ensures.takes.taken q ∙ c.pack_all.ensures.takes.taken q;
  shown = λ q. c.has_room.ensures.takes.shown q ∙ c.pack_all.ensures.takes.shown q;
}

pub returns-then-not-has_room-clause-peers : goal.returns-then-not-has_room-clause-peers
returns-then-not-has_room-clause-peers g c = λ q. c.has_room.ensures.peers q ∙ c.pack_all.ensures.peers q

pub returns-in_err-reserve-clause-sends : goal.returns-in_err-reserve-clause-sends
returns-in_err-reserve-clause-sends g c = record {
  sent = λ q. c.has_room.ensures.sends.sent q ∙ c.pack_all.ensures.sends.sent q;
  free = λ q. let few = c.pack_all.ensures.sends.free q in let more = c.has_room.ensures.sends.free q in omega (arith, few, more);
}

pub returns-in_err-reserve-clause-takes : goal.returns-in_err-reserve-clause-takes
returns-in_err-reserve-clause-takes g c = record {
  taken = λ q. c.has_room.ensures.takes.taken q ∙ c.pack_all.ensures.takes.taken q;
  shown = λ q. c.has_room.ensures.takes.shown q ∙ c.pack_all.ensures.takes.shown q;
}

pub returns-in_err-reserve-clause-peers : goal.returns-in_err-reserve-clause-peers
returns-in_err-reserve-clause-peers g c = λ q. c.has_room.ensures.peers q ∙ c.pack_all.ensures.peers q

pub returns-clause-packed : goal.returns-clause-packed
returns-clause-packed g c =
    let holds : c.has_room.result ≡ true = (let said = c.if-not-has_room.false in first_of (cc, search rules, grind (arith, said))) in
    let same : c.as_slice.result.now ≡ c.in_ok-packed.packed.parcels.items = c.as_slice.ensures.value in
    record {
      stamp = c.in_ok-packed.ensures.stamp;
      sent = c.in_ok-packed.ensures.sent;
      parcels = c.in_ok-packed.ensures.parcels;
      addressed = still_addressed g.E.End.fits c.pack_all.new.ends.rows.items c.has_room.new.self.rows.items c.in_ok-packed.packed.parcels.items c.in_ok-packed.ensures.addressed c.has_room.ensures.peers;
      room = rw (← same) (c.has_room.ensures.room holds);
    }

pub returns-clause-sends : goal.returns-clause-sends
returns-clause-sends g c = record {
  sent = λ q. c.has_room.ensures.sends.sent q ∙ c.pack_all.ensures.sends.sent q;
  free = λ q. let few = c.pack_all.ensures.sends.free q in let more = c.has_room.ensures.sends.free q in omega (arith, few, more);
}

pub returns-clause-takes : goal.returns-clause-takes
returns-clause-takes g c = record {
  taken = λ q. c.has_room.ensures.takes.taken q ∙ c.pack_all.ensures.takes.taken q;
  shown = λ q. c.has_room.ensures.takes.shown q ∙ c.pack_all.ensures.takes.shown q;
}

pub returns-clause-peers : goal.returns-clause-peers
returns-clause-peers g c = λ q. c.has_room.ensures.peers q ∙ c.pack_all.ensures.peers q
