use Rattle.std.proofs.Common.{◌≡◌, List, map, ap, ◌∙◌}
use Rattle.geo_base.specs.declared.change.Change.{Change}
use Rattle.geo_base.specs.Broker.{Broker}
use Rattle.geo_base.specs.Plan.{all_changed, all_written}
use Rattle.broker_subs.specs.Table.{names_of, sub_at}
use Rattle.broker_state.specs.Fits.{AllChangesFit, ChangesNamed, all_names_after}
use Rattle.broker_state.specs.Plan.{PlanView, name_in}
use Rattle.broker_state.specs.Writes.{machine_change, machine_write}
use Rattle.broker_state.proofs.InTurn.{all_fit, all_there, renamed, there_named}
use Rattle.broker_state.proofs.state.BrokerState.commit.Goals as goal

pub change_all-requires-clause-named : goal.change_all-requires-clause-named
change_all-requires-clause-named c =
    let p = c.args.plan.now in
    let sub : c.plan.inside.sub ≡ p.sub = ap (λ (q : PlanView). q.sub) c.plan.view_is in
    let writes : c.plan.inside.writes.items ≡ p.writes = ap (λ (q : PlanView). q.writes) c.plan.view_is in
    let changes : c.plan.inside.changes.items ≡ p.changes = ap (λ (q : PlanView). q.changes) c.plan.view_is in
    let b = c.args.self.now.broker in
    let ss = c.write_all.new.self.broker.subs in
    let n = name_in b.subs p in
    let names : names_of ss ≡ all_names_after p.sub (names_of b.subs) p.writes =
    rw (sub, writes) at c.write_all.ensures.names in
    let named : ChangesNamed n p.sub (names_of ss) p.changes = rw names c.requires.fits.changes_named in
    rw (sub, changes)
    (all_there (sub_at ss p.sub).name n p.sub (names_of ss) p.changes (there_named ss p.sub n) named)

pub change_all-requires-clause-fits : goal.change_all-requires-clause-fits
change_all-requires-clause-fits c =
    let p = c.args.plan.now in
    let sub : c.plan.inside.sub ≡ p.sub = ap (λ (q : PlanView). q.sub) c.plan.view_is in
    let writes : c.plan.inside.writes.items ≡ p.writes = ap (λ (q : PlanView). q.writes) c.plan.view_is in
    let changes : c.plan.inside.changes.items ≡ p.changes = ap (λ (q : PlanView). q.changes) c.plan.view_is in
    let b = c.args.self.now.broker in
    let per = c.args.self.now.site.per_ledger in
    let ss = c.write_all.new.self.broker.subs in
    let n = name_in b.subs p in
    let names : names_of ss ≡ all_names_after p.sub (names_of b.subs) p.writes =
    rw (sub, writes) at c.write_all.ensures.names in
    let named : ChangesNamed n p.sub (names_of ss) p.changes = rw names c.requires.fits.changes_named in
    let written : c.write_all.new.self.broker ≡ all_written per b (map (machine_write n b.entries) p.writes) =
    rw (sub, writes) at c.write_all.ensures.broker in
    let fits : AllChangesFit n p.sub c.write_all.new.self.broker p.changes = rw written c.requires.fits.changes in
    rw (sub, changes)
    (all_fit (sub_at ss p.sub).name n p.sub (names_of ss) c.write_all.new.self.broker p.changes (there_named ss p.sub n) named fits)

pub returns-clause-broker : goal.returns-clause-broker
returns-clause-broker c =
    let p = c.args.plan.now in
    let sub : c.plan.inside.sub ≡ p.sub = ap (λ (q : PlanView). q.sub) c.plan.view_is in
    let writes : c.plan.inside.writes.items ≡ p.writes = ap (λ (q : PlanView). q.writes) c.plan.view_is in
    let changes : c.plan.inside.changes.items ≡ p.changes = ap (λ (q : PlanView). q.changes) c.plan.view_is in
    let b = c.args.self.now.broker in
    let per = c.args.self.now.site.per_ledger in
    let ss = c.write_all.new.self.broker.subs in
    let n = name_in b.subs p in
    let names : names_of ss ≡ all_names_after p.sub (names_of b.subs) p.writes =
    rw (sub, writes) at c.write_all.ensures.names in
    let named : ChangesNamed n p.sub (names_of ss) p.changes = rw names c.requires.fits.changes_named in
    let written : c.write_all.new.self.broker ≡ all_written per b (map (machine_write n b.entries) p.writes) =
    rw (sub, writes) at c.write_all.ensures.broker in
    let changed : c.change_all.new.self.broker ≡ all_changed c.write_all.new.self.broker (map (machine_change (sub_at ss p.sub).name) p.changes) =
    rw (sub, changes) at c.change_all.ensures.broker in
    changed
    ∙ ap (λ (cs : List Change). all_changed c.write_all.new.self.broker cs) (renamed (sub_at ss p.sub).name n p.sub (names_of ss) p.changes (there_named ss p.sub n) named)
    ∙ ap (λ (x : Broker). all_changed x (map (machine_change n) p.changes)) written
