use Rattle.std.proofs.Common.{◌∙◌, arith, le_refl, refl}
use Rattle.std.specs.Vec.Iter.{into_iter_items}
use Rattle.node_log.proofs.Packs.{next_goes, sent_more}
use Rattle.node_log.specs.Packing.{packed_all}
use Rattle.node_log.proofs.packing.+pack_rest.Goals as goal

pub returns-clause-looks : goal.returns-clause-looks
returns-clause-looks t n c = λ q. let up = c.pack.ensures.looks q in let more = c.pack_rest.ensures.looks q in omega (arith, up, more)

pub returns-clause-sends : goal.returns-clause-sends
returns-clause-sends t n c = record {
  sent = λ q. c.pack_rest.ensures.sends.sent q ∙ c.pack.ensures.sends.sent q;
  free = λ q. let few = c.pack.ensures.sends.free q in let more = c.pack_rest.ensures.sends.free q in omega (arith, few, more);
}

pub returns-clause-takes : goal.returns-clause-takes
returns-clause-takes t n c = record {
  taken = λ q. c.pack_rest.ensures.takes.taken q ∙ c.pack.ensures.takes.taken q;
  shown = λ q. c.pack_rest.ensures.takes.shown q ∙ c.pack.ensures.takes.shown q;
}

pub returns-clause-peers : goal.returns-clause-peers
returns-clause-peers t n c = λ q. c.pack_rest.ensures.peers q ∙ c.pack.ensures.peers q

pub pack-requires-clause-peer : goal.pack-requires-clause-peer
pack-requires-clause-peer t n c = (next_goes c.args.ends.now.rows.items c.next.result c.in-Some.out (into_iter_items c.args.outs) (into_iter_items c.next.new.self) c.in-Some.is c.next.ensures.items c.requires.peers).0

pub pack-requires-clause-addressed : goal.pack-requires-clause-addressed
pack-requires-clause-addressed t n c = c.requires.addressed

pub returns-clause-stamp : goal.returns-clause-stamp
returns-clause-stamp t n c = c.pack_rest.ensures.stamp ∙ c.pack.ensures.stamp

pub returns-clause-sent : goal.returns-clause-sent
returns-clause-sent t n c =
    sent_more c.pack_rest.result c.args.packed.now.stamp c.pack.new.packed.stamp c.next.result c.in-Some.out (into_iter_items c.args.outs) (into_iter_items c.next.new.self) c.args.packed.now.sent.items c.pack.new.packed.sent.items c.pack_rest.new.packed.sent.items
    c.in-Some.is c.next.ensures.items c.pack.ensures.stamp c.in_ok-pack.ensures.sent c.pack_rest.ensures.sent

pub returns-clause-parcels : goal.returns-clause-parcels
returns-clause-parcels t n c =
    sent_more c.pack_rest.result c.args.packed.now.stamp c.pack.new.packed.stamp c.next.result c.in-Some.out (into_iter_items c.args.outs) (into_iter_items c.next.new.self) (packed_all c.args.packed.now.parcels.items) (packed_all c.pack.new.packed.parcels.items)
    (packed_all c.pack_rest.new.packed.parcels.items) c.in-Some.is c.next.ensures.items c.pack.ensures.stamp c.in_ok-pack.ensures.parcels c.pack_rest.ensures.parcels

pub returns-clause-addressed : goal.returns-clause-addressed
returns-clause-addressed t n c = c.pack_rest.ensures.addressed

pub returns-in_err-pack-clause-stamp : goal.returns-in_err-pack-clause-stamp
returns-in_err-pack-clause-stamp t n c = c.pack.ensures.stamp

pub returns-in_err-pack-clause-looks : goal.returns-in_err-pack-clause-looks
returns-in_err-pack-clause-looks t n c = c.pack.ensures.looks

pub returns-in_err-pack-clause-sends : goal.returns-in_err-pack-clause-sends
returns-in_err-pack-clause-sends t n c = c.pack.ensures.sends

pub returns-in_err-pack-clause-takes : goal.returns-in_err-pack-clause-takes
returns-in_err-pack-clause-takes t n c = c.pack.ensures.takes

pub returns-in_err-pack-clause-peers : goal.returns-in_err-pack-clause-peers
returns-in_err-pack-clause-peers t n c = c.pack.ensures.peers

pub returns-in_default-clause-stamp : goal.returns-in_default-clause-stamp
returns-in_default-clause-stamp t n c = refl

pub returns-in_default-clause-looks : goal.returns-in_default-clause-looks
returns-in_default-clause-looks t n c = λ q. le_refl _

pub returns-in_default-clause-sends : goal.returns-in_default-clause-sends
returns-in_default-clause-sends t n c = record { sent = λ q. refl; free = λ q. le_refl _ }

pub returns-in_default-clause-takes : goal.returns-in_default-clause-takes
returns-in_default-clause-takes t n c = record { taken = λ q. refl; shown = λ q. refl }

pub returns-in_default-clause-peers : goal.returns-in_default-clause-peers
returns-in_default-clause-peers t n c = λ q. refl
