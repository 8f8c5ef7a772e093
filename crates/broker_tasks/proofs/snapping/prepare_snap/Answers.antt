use Rattle.std.proofs.Common.{◌≡◌, ◌∙◌, List, ℕ, true, false, sym, ap}
use Rattle.geo_base.specs.declared.position.Position.{Position}
use Rattle.geo_base.specs.Broker.{Broker, Site, cluster_name}
use Rattle.geo_base.specs.SnapshotBuilder.{snapshot_id}
use Rattle.geo_base.specs.Topic.{next_position}
use Rattle.broker_tasks.proofs.Plans.{asks_now, not_asked}
use Rattle.broker_tasks.proofs.snapping.prepare_snap.Goals as goal

pub returns-then-not-may_ask-clause-prepared : goal.returns-then-not-may_ask-clause-prepared
returns-then-not-may_ask-clause-prepared c =
    let may : c.may_ask.result ≡ false = cc in
    not_asked c.args.state.now.site c.args.state.now.broker c.args.plan.now (sym c.may_ask.ensures ∙ may) c.requires.empty

pub returns-clause-prepared : goal.returns-clause-prepared
returns-clause-prepared c =
    let h = c.args.state.now.site in
    let now = c.reserve_entries.new.self in
    let may : c.may_ask.result ≡ true = cc in
    let seen = c.site-site.ensures.value ∙ c.in_ok-reserve_entries.ensures.site in
    let name = c.as_str-name.ensures.text ∙ c.cluster_name.ensures ∙ ap (λ x. cluster_name c.site-site.result.now x) c.own.ensures.own ∙ ap (λ (g : Site). cluster_name g g.own) seen in
    let per = c.store.ensures.per_ledger ∙ ap (λ (g : Site). g.per_ledger) c.in_ok-reserve_entries.ensures.site in
    let ledgers = c.store.ensures.ledgers ∙ ap (λ (b : Broker). b.ledgers) c.in_ok-reserve_entries.ensures.broker in
    let position = c.next.ensures ∙ ap (λ n. next_position n c.store.result.now.ledgers) per ∙ ap (λ (ls : List ℕ). next_position h.per_ledger ls) ledgers in
    let id = c.in_ok-id.ensures.id ∙ ap (λ (n : List ℕ). snapshot_id n c.next.result) name ∙ ap (λ (p : Position). snapshot_id (cluster_name h h.own) p) position in
    asks_now h now.site c.args.state.now.broker now.broker c.in_ok-id.id c.ask.new.plan c.in_ok-reserve_entries.ensures.site c.in_ok-reserve_entries.ensures.broker (sym c.may_ask.ensures ∙ may) id c.in_ok-ask.ensures.prepared
