use Rattle.std.proofs.Common.{◌≡◌, [], ◌∷◌, List, map, ap, sym, refl, ◌∙◌, arith}
use Rattle.std.proofs.lemmas.List.{nil_from_length}
use Rattle.geo_base.specs.declared.write.Write.{Write}
use Rattle.geo_base.specs.Broker.{Site, written}
use Rattle.geo_base.specs.Plan.{all_written}
use Rattle.broker_subs.specs.Table.{names_of, sub_at}
use Rattle.broker_state.specs.Fits.{all_names_after}
use Rattle.broker_state.specs.Plan.{name_of}
use Rattle.broker_state.specs.Writes.{machine_write}
use Rattle.broker_state.specs.declared.write.StateWrite.{StateWrite}
use Rattle.broker_state.proofs.InTurn.{fits_now, given_next, placed, room_next, same_write}
use Rattle.broker_state.proofs.state.BrokerState.write_all.Goals as goal

pub loop-write-preserved : goal.loop-write-preserved
loop-write-preserved c =
    let k = c.args.sub_index in
    let per = c.args.self.now.site.per_ledger in
    let n = name_of c.args.self.now.broker.subs k c.args.writes.now.items in
    let es = c.args.self.now.broker.entries in
    let b = c.loop-write.self.broker in
    let inv = c.loop-write.invariant in
    let w = c.in-Some.write in
    let ws = c.pop_front.new.self.items in
    let items : c.loop-write.writes.items ≡ w ∷ ws = c.in-Some.ensures.items in
    let named = rw items at inv.named in
    let fits = rw items at inv.fits in
    let room = rw items at inv.room in
    let given = rw items at inv.given in
    let replicators = rw items at inv.replicators in
    let next : c.write.new.self.broker ≡ written per b (machine_write n es w) =
    c.write.ensures.broker ∙ ap (λ (h : Site). written h.per_ledger b (machine_write (sub_at b.subs k).name b.entries w)) inv.site ∙ ap (λ (x : Write). written per b x) (same_write n es k b w named.0 fits.0) in
    record {
      named = rw c.write.ensures.names named.1;
      fits = rw next fits.1;
      room = room_next k w ws c.loop-write.self.room c.write.new.self.room room c.write.ensures.room;
      rest = rw next (ap (λ (xs : List StateWrite). all_written per b (map (machine_write n es) xs)) (sym items) ∙ inv.rest);
      names = rw c.write.ensures.names (ap (λ (xs : List StateWrite). all_names_after k (names_of b.subs) xs) (sym items) ∙ inv.names);
      given = omega (arith, given, given_next k w ws c.loop-write.self.room c.write.new.self.room c.write.ensures.room);
      replicators = omega (arith, replicators, c.write.ensures.room.replicators);
      site = c.write.ensures.site ∙ inv.site;
      shape = record {
        replicators = c.write.ensures.shape.replicators ∙ inv.shape.replicators;
        receivers = c.write.ensures.shape.receivers ∙ inv.shape.receivers;
        sessions = c.write.ensures.shape.sessions ∙ inv.shape.sessions;
      };
    }

pub loop-write-init : goal.loop-write-init
loop-write-init c = record {
  named = c.requires.named;
  fits = c.requires.fits;
  room = c.requires.room;
  rest = refl;
  names = refl;
  given = omega arith;
  replicators = omega arith;
  site = refl;
  shape = record { replicators = refl; receivers = refl; sessions = refl };
}

pub write-requires : goal.write-requires
write-requires c =
    let k = c.args.sub_index in
    let es = c.args.self.now.broker.entries in
    let b = c.loop-write.self.broker in
    let inv = c.loop-write.invariant in
    let w = c.in-Some.write in
    let ws = c.pop_front.new.self.items in
    let items : c.loop-write.writes.items ≡ w ∷ ws = c.in-Some.ensures.items in
    let named = rw items at inv.named in
    let fits = rw items at inv.fits in
    let room = rw items at inv.room in
    record {
      sub_index = placed (name_of c.args.self.now.broker.subs k c.args.writes.now.items) k b.subs w named.0;
      fits = fits_now es k b w fits.0;
      entries = omega (arith, room.entries);
      streams = omega (arith, room.streams);
      places = omega (arith, room.places);
      acks = room.acks.0;
      replicators = omega (arith, room.replicators);
    }

pub returns-clause-broker : goal.returns-clause-broker
returns-clause-broker c =
    let none : c.loop-write.writes.items ≡ [] = nil_from_length c.loop-write.writes.items (omega (arith, c.in_default.ensures.cases.0, c.loop-write.writes.ok.0)) in
    rw none at c.loop-write.invariant.rest

pub returns-clause-names : goal.returns-clause-names
returns-clause-names c =
    let none : c.loop-write.writes.items ≡ [] = nil_from_length c.loop-write.writes.items (omega (arith, c.in_default.ensures.cases.0, c.loop-write.writes.ok.0)) in
    rw none at c.loop-write.invariant.names

pub returns-clause-given : goal.returns-clause-given
returns-clause-given c =
    let none : c.loop-write.writes.items ≡ [] = nil_from_length c.loop-write.writes.items (omega (arith, c.in_default.ensures.cases.0, c.loop-write.writes.ok.0)) in
    rw none at c.loop-write.invariant.given

pub returns-clause-replicators : goal.returns-clause-replicators
returns-clause-replicators c =
    let none : c.loop-write.writes.items ≡ [] = nil_from_length c.loop-write.writes.items (omega (arith, c.in_default.ensures.cases.0, c.loop-write.writes.ok.0)) in
    let many = rw none at c.loop-write.invariant.replicators in
    omega (arith, many)

pub returns-clause-site : goal.returns-clause-site
returns-clause-site c = c.loop-write.invariant.site

pub returns-clause-shape : goal.returns-clause-shape
returns-clause-shape c = c.loop-write.invariant.shape
