use Rattle.std.proofs.Common.{◌≡◌, true, false, ◌∙◌, ap}
use Rattle.geo_base.specs.Broker.{Site}
use Rattle.geo_base.specs.Topic.{accepts}
use Rattle.frame_values.specs.Usual.{entry_viewed}
use Rattle.broker_plans.proofs.Keeping.{new_position, new_room, new_stored, no_room, old_place, old_stored, stream_tells}
use Rattle.broker_plans.proofs.UsualMessages.{stores_message}
use Rattle.broker_plans.proofs.usual.storing_message.Goals as goal

pub returns-then-not-accepts-clause-prepared : goal.returns-then-not-accepts-clause-prepared
returns-then-not-accepts-clause-prepared c =
    let b = c.args.state.now.broker in
    let e = entry_viewed c.args.origin c.args.message in
    let told = stream_tells b.entries e.ident c.in_ok-stream.stream c.accepts.result c.in_ok-stream.ensures c.accepts.ensures in
    let old : accepts b.entries e.ident ≡ false = cc in
    old_stored c.args.state.now.site b e c.begin.new.self old c.begin.ensures

pub returns-clause-prepared : goal.returns-clause-prepared
returns-clause-prepared c =
    let b = c.args.state.now.broker in
    let e = entry_viewed c.args.origin c.args.message in
    let told = stream_tells b.entries e.ident c.in_ok-stream.stream c.accepts.result c.in_ok-stream.ensures c.accepts.ensures in
    let new : accepts b.entries e.ident ≡ true = cc in
    new_stored c.args.state.now.site b e c.append_message.new.plan new c.requires.storable (stores_message e c.begin.new.self c.append_message.new.plan c.begin.ensures c.in_ok-append_message.ensures.ok)

pub returns-then-not-accepts-clause-position : goal.returns-then-not-accepts-clause-position
returns-then-not-accepts-clause-position c =
    let b = c.args.state.now.broker in
    let e = entry_viewed c.args.origin c.args.message in
    let told = stream_tells b.entries e.ident c.in_ok-stream.stream c.accepts.result c.in_ok-stream.ensures c.accepts.ensures in
    let old : accepts b.entries e.ident ≡ false = cc in
    old_place c.args.state.now.site.per_ledger b e old

pub returns-then-not-accepts-clause-room : goal.returns-then-not-accepts-clause-room
returns-then-not-accepts-clause-room c = no_room c.args.state.now.room 0 c.begin.new.self c.begin.ensures

pub returns-clause-position : goal.returns-clause-position
returns-clause-position c =
    let b = c.args.state.now.broker in
    let e = entry_viewed c.args.origin c.args.message in
    let told = stream_tells b.entries e.ident c.in_ok-stream.stream c.accepts.result c.in_ok-stream.ensures c.accepts.ensures in
    let new : accepts b.entries e.ident ≡ true = cc in
    let store = c.store.result.now in
    let made = c.in_ok-reserve_entries.ensures in
    let each = c.store.ensures.per_ledger ∙ ap (λ (h : Site). h.per_ledger) made.site in
    new_position c.args.state.now.site.per_ledger b c.reserve_entries.new.self.broker e store.per_ledger store.ledgers c.next.result new c.next.ensures each c.store.ensures.ledgers made.broker

pub returns-clause-room : goal.returns-clause-room
returns-clause-room c =
    let e = entry_viewed c.args.origin c.args.message in
    let made = c.in_ok-reserve_entries.ensures in
    new_room c.reserve_entries.new.self.room e c.append_message.new.plan made.entries made.streams (stores_message e c.begin.new.self c.append_message.new.plan c.begin.ensures c.in_ok-append_message.ensures.ok)
