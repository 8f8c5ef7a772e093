use Rattle.std.proofs.Common.{◌∙◌, ap}
use Rattle.geo_base.specs.Broker.{Site}
use Rattle.broker_plans.proofs.Keeping.{new_position, new_room, new_stored, no_room, old_place, old_stored, stores_is}
use Rattle.broker_plans.proofs.receiving.storing.Goals as goal

pub returns-in_ok-write-in-Ok-Some-clause-prepared : goal.returns-in_ok-write-in-Ok-Some-clause-prepared
returns-in_ok-write-in-Ok-Some-clause-prepared c =
    let e = c.args.entry in
    let new = rw c.in-Ok-Some.field-0-is at c.in-Ok-Some.ensures.new in
    let is = stores_is e c.in-Ok-Some.stream c.begin.new.self c.write.new.self new.1 c.begin.ensures c.in_ok-write-in-Ok-Some.ensures.ok in
    new_stored c.args.state.now.site c.args.state.now.broker e c.write.new.self new.0 c.requires.storable is

pub returns-in_ok-write-in-Ok-Some-clause-position : goal.returns-in_ok-write-in-Ok-Some-clause-position
returns-in_ok-write-in-Ok-Some-clause-position c =
    let new = rw c.in-Ok-Some.field-0-is at c.in-Ok-Some.ensures.new in
    let store = c.store.result.now in
    let same = c.new_stream.ensures.kept in
    let each = c.store.ensures.per_ledger ∙ ap (λ (h : Site). h.per_ledger) same.site in
    new_position c.args.state.now.site.per_ledger c.args.state.now.broker c.new_stream.new.state.broker c.args.entry store.per_ledger store.ledgers c.next.result new.0 c.next.ensures each c.store.ensures.ledgers same.broker

pub returns-in_ok-write-in-Ok-Some-clause-room : goal.returns-in_ok-write-in-Ok-Some-clause-room
returns-in_ok-write-in-Ok-Some-clause-room c =
    let e = c.args.entry in
    let new = rw c.in-Ok-Some.field-0-is at c.in-Ok-Some.ensures.new in
    let is = stores_is e c.in-Ok-Some.stream c.begin.new.self c.write.new.self new.1 c.begin.ensures c.in_ok-write-in-Ok-Some.ensures.ok in
    new_room c.new_stream.new.state.room e c.write.new.self new.2 new.3 is

pub returns-in-Ok-None-clause-prepared : goal.returns-in-Ok-None-clause-prepared
returns-in-Ok-None-clause-prepared c =
    let old = rw c.in-Ok-None.field-0-is at c.in-Ok-None.ensures.duplicate in
    old_stored c.args.state.now.site c.args.state.now.broker c.args.entry c.begin.new.self old c.begin.ensures

pub returns-in-Ok-None-clause-position : goal.returns-in-Ok-None-clause-position
returns-in-Ok-None-clause-position c =
    let old = rw c.in-Ok-None.field-0-is at c.in-Ok-None.ensures.duplicate in
    old_place c.args.state.now.site.per_ledger c.args.state.now.broker c.args.entry old

pub returns-in-Ok-None-clause-room : goal.returns-in-Ok-None-clause-room
returns-in-Ok-None-clause-room c = no_room c.new_stream.new.state.room 0 c.begin.new.self c.begin.ensures
