use Rattle.std.proofs.Common.{◌≡◌, [], ◌∷◌, List, map, ap, sym, refl, ◌∙◌, arith}
use Rattle.std.proofs.lemmas.List.{nil_from_length}
use Rattle.geo_base.specs.declared.change.Change.{Change}
use Rattle.geo_base.specs.Broker.{changed}
use Rattle.geo_base.specs.Plan.{all_changed}
use Rattle.broker_subs.specs.Table.{sub_at}
use Rattle.broker_state.specs.Writes.{machine_change}
use Rattle.broker_state.specs.declared.change.StateChange.{StateChange}
use Rattle.broker_state.proofs.InTurn.{change_placed, changes_next, same_change}
use Rattle.broker_state.proofs.state.BrokerState.change_all.Goals as goal

pub loop-change-init : goal.loop-change-init
loop-change-init c = record {
  named = c.requires.named;
  fits = c.requires.fits;
  room = c.requires.room;
  rest = refl;
  site = refl;
  shape = record { replicators = refl; receivers = refl; sessions = refl };
}

pub change-requires : goal.change-requires
change-requires c =
    let k = c.args.sub_index in
    let n = (sub_at c.args.self.now.broker.subs k).name in
    let b = c.loop-change.self.broker in
    let inv = c.loop-change.invariant in
    let x = c.in-Some.change in
    let xs = c.pop_front.new.self.items in
    let items : c.loop-change.changes.items ≡ x ∷ xs = c.in-Some.ensures.items in
    let named = rw items at inv.named in
    let fits = rw items at inv.fits in
    let room = rw items at inv.room in
    record {
      sub_index = change_placed n k b.subs x named.0;
      fits = fits.0;
      room = omega (arith, room.given);
      replicators = omega (arith, room.replicators);
    }

pub loop-change-preserved : goal.loop-change-preserved
loop-change-preserved c =
    let k = c.args.sub_index in
    let n = (sub_at c.args.self.now.broker.subs k).name in
    let b = c.loop-change.self.broker in
    let inv = c.loop-change.invariant in
    let x = c.in-Some.change in
    let xs = c.pop_front.new.self.items in
    let items : c.loop-change.changes.items ≡ x ∷ xs = c.in-Some.ensures.items in
    let named = rw items at inv.named in
    let fits = rw items at inv.fits in
    let room = rw items at inv.room in
    let next : c.change.new.self.broker ≡ changed b (machine_change n x) = c.change.ensures.broker ∙ ap (λ (y : Change). changed b y) (same_change n k b.subs x named.0) in
    record {
      named = rw c.change.ensures.names named.1;
      fits = rw next fits.1;
      room = changes_next k x xs c.loop-change.self.room c.change.new.self.room room c.change.ensures.room;
      rest = rw next (ap (λ (ys : List StateChange). all_changed b (map (machine_change n) ys)) (sym items) ∙ inv.rest);
      site = c.change.ensures.site ∙ inv.site;
      shape = record {
        replicators = c.change.ensures.shape.replicators ∙ inv.shape.replicators;
        receivers = c.change.ensures.shape.receivers ∙ inv.shape.receivers;
        sessions = c.change.ensures.shape.sessions ∙ inv.shape.sessions;
      };
    }

pub returns-clause-broker : goal.returns-clause-broker
returns-clause-broker c =
    let none : c.loop-change.changes.items ≡ [] = nil_from_length c.loop-change.changes.items (omega (arith, c.in_default.ensures.cases.0, c.loop-change.changes.ok.0)) in
    rw none at c.loop-change.invariant.rest

pub returns-clause-site : goal.returns-clause-site
returns-clause-site c = c.loop-change.invariant.site

pub returns-clause-shape : goal.returns-clause-shape
returns-clause-shape c = c.loop-change.invariant.shape
