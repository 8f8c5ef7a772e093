use Rattle.std.proofs.Common.{le_refl, refl}
use Rattle.node_log.proofs.Packs.{addressed_last, parcel_last}
use Rattle.node_log.proofs.packing.pack.Goals as goal

pub returns-clause-addressed : goal.returns-clause-addressed
returns-clause-addressed g c =
    rw c.in_ok-push-2.ensures.items
    (addressed_last g.E.End.fits c.args.ends.now.rows.items c.pack.new.self.rows.items c.args.packed.now.parcels.items _ c.requires.addressed c.in_ok-parcel.ensures.peers c.requires.peer c.in_ok-parcel.ensures.fits)

pub returns-clause-parcels : goal.returns-clause-parcels
returns-clause-parcels g c =
    rw c.in_ok-push-2.ensures.items
    (parcel_last c.args.packed.now.stamp c.args.out c.args.packed.now.parcels.items _ refl (cc c.in_ok-parcel.ensures.packet))

pub returns-clause-looks : goal.returns-clause-looks
returns-clause-looks g c = c.pack.ensures.looks

pub returns-clause-sends : goal.returns-clause-sends
returns-clause-sends g c = c.pack.ensures.sends

pub returns-clause-takes : goal.returns-clause-takes
returns-clause-takes g c = c.pack.ensures.takes

pub returns-clause-peers : goal.returns-clause-peers
returns-clause-peers g c = c.pack.ensures.peers

pub returns-in_err-push-clause-looks : goal.returns-in_err-push-clause-looks
returns-in_err-push-clause-looks g c = λ q. le_refl _

pub returns-in_err-push-clause-sends : goal.returns-in_err-push-clause-sends
returns-in_err-push-clause-sends g c = record { sent = λ q. refl; free = λ q. le_refl _ }

pub returns-in_err-push-clause-takes : goal.returns-in_err-push-clause-takes
returns-in_err-push-clause-takes g c = record { taken = λ q. refl; shown = λ q. refl }

pub returns-in_err-push-clause-peers : goal.returns-in_err-push-clause-peers
returns-in_err-push-clause-peers g c = λ q. refl

pub returns-in_err-parcel-clause-looks : goal.returns-in_err-parcel-clause-looks
returns-in_err-parcel-clause-looks g c = c.pack.ensures.looks

pub returns-in_err-parcel-clause-sends : goal.returns-in_err-parcel-clause-sends
returns-in_err-parcel-clause-sends g c = c.pack.ensures.sends

pub returns-in_err-parcel-clause-takes : goal.returns-in_err-parcel-clause-takes
returns-in_err-parcel-clause-takes g c = c.pack.ensures.takes

pub returns-in_err-parcel-clause-peers : goal.returns-in_err-parcel-clause-peers
returns-in_err-parcel-clause-peers g c = c.pack.ensures.peers

pub returns-in_err-push-2-clause-looks : goal.returns-in_err-push-2-clause-looks
returns-in_err-push-2-clause-looks g c = c.pack.ensures.looks

pub returns-in_err-push-2-clause-sends : goal.returns-in_err-push-2-clause-sends
returns-in_err-push-2-clause-sends g c = c.pack.ensures.sends

pub returns-in_err-push-2-clause-takes : goal.returns-in_err-push-2-clause-takes
returns-in_err-push-2-clause-takes g c = c.pack.ensures.takes

pub returns-in_err-push-2-clause-peers : goal.returns-in_err-push-2-clause-peers
returns-in_err-push-2-clause-peers g c = c.pack.ensures.peers
