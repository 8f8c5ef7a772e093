use Rattle.std.proofs.Common.{◌≡◌, ◌≤◌, ◌∙◌, ◌+◌, List, [], ◌∷◌, ℕ, length, ap, subst, arith}
use Rattle.std.specs.Prelude.{None}
use Rattle.std.proofs.lemmas.Result.{on_ok_weaker}
use Rattle.geo_base.specs.declared.change.Change.TheVariants as change
use Rattle.geo_base.specs.declared.entry.Entry.{Entry}
use Rattle.geo_base.specs.Broker.{Broker}
use Rattle.geo_base.specs.Updating.{handled, updated_indexes, update_writes}
use Rattle.replicated_subs.specs.Alone.{alone}
use Rattle.broker_subs.specs.declared.writing.SubWrite.TheVariants as sub_write
use Rattle.broker_state.specs.Room.{HasRoom, Room}
use Rattle.broker_plans.specs.Prepared.{IsPrepared}
use Rattle.broker_plans.proofs.Places.{many}
use Rattle.broker_tasks.specs.Reading.{handled_view}
use Rattle.broker_tasks.specs.Updating.{acked_view, creating_writes, update_acks}
use Rattle.broker_tasks.proofs.Acknowledged.{created, created_room}
use Rattle.broker_tasks.proofs.updating.create.Goals as goal

pub returns-clause-prepared : goal.returns-clause-prepared
returns-clause-prepared c =
    let b = c.args.state.now.broker in
    let y = c.args.at.remote in
    let i = c.args.at.index in
    let j = c.args.to in
    let k = length b.subs in
    let runs = c.runs-runs.ensures ∙ ap (λ (is : List ℕ). alone is (updated_indexes y 0 (j + 1) c.store.result.now.entries)) c.none.ensures ∙ ap (λ (es : List Entry). alone [] (updated_indexes y 0 (j + 1) es)) c.store.ensures.entries in
    let sub_index : c.len.result ≡ k = c.len.ensures ∙ many c.subs.result.now.subs b.subs (c.subs.ensures.subs ∙ ap (λ (d : Broker). d.subs) c.in_ok-reserve_places.ensures.broker) in
    let h = c.args.state.now.site in
    let n = c.args.sub in
    let sub = c.in_ok-sub.sub in
    let p = c.begin_created.new.plan in
    on_ok_weaker {P = p ≡ handled_view y i (acked_view c.len.result (creating_writes sub (sub_write.UpdateTo j y c.runs-runs.result)))}
    {Q = IsPrepared h b (handled y i (update_writes h b n (updated_indexes y 0 (j + 1) b.entries) None) (change.Acked n ∷ [])) p} c.begin_created.result
    (λ made.
    created h b y i n j sub p c.requires.reading c.requires.missing c.requires.to c.in_ok-sub.ensures.sub
    (made ∙ ap (λ (r : ℕ). handled_view y i (acked_view c.len.result (creating_writes sub (sub_write.UpdateTo j y r)))) runs ∙ ap (λ (m : ℕ). handled_view y i (acked_view m (creating_writes sub (update_acks b.entries [] y j)))) sub_index))
    c.begin_created.ensures

pub returns-clause-room : goal.returns-clause-room
returns-clause-room c =
    let es = c.args.state.now.broker.entries in
    let y = c.args.at.remote in
    let i = c.args.at.index in
    let j = c.args.to in
    let k = c.len.result in
    let sub = c.in_ok-sub.sub in
    let room = c.reserve_places.new.self.room in
    let p = c.begin_created.new.plan in
    let runs = c.runs-runs.ensures ∙ ap (λ (is : List ℕ). alone is (updated_indexes y 0 (j + 1) c.store.result.now.entries)) c.none.ensures ∙ ap (λ (xs : List Entry). alone [] (updated_indexes y 0 (j + 1) xs)) c.store.ensures.entries in
    let acks = subst (λ (r : ℕ). r + 1 ≤ sub.acks) runs c.in_ok-sub.ensures.acks in
    let replicators : 1 ≤ room.replicators = omega (arith, c.requires.replicators, ap (λ (r : Room). r.replicators) c.in_ok-reserve_places.ensures.rest) in
    on_ok_weaker {P = p ≡ handled_view y i (acked_view k (creating_writes sub (sub_write.UpdateTo j y c.runs-runs.result)))} {Q = HasRoom room p} c.begin_created.result
    (λ made.
    created_room room es k y i j sub p c.in_ok-reserve_places.ensures.places replicators acks (made ∙ ap (λ (r : ℕ). handled_view y i (acked_view k (creating_writes sub (sub_write.UpdateTo j y r)))) runs))
    c.begin_created.ensures
