use Rattle.std.proofs.Common.{◌≡◌, ◌∙◌, List, ℕ, true, ap, subst}
use Rattle.std.specs.Prelude.{OnOk, Some}
use Rattle.geo_base.specs.declared.position.Position.{Position}
use Rattle.geo_base.specs.declared.snapshot.SnapshotBuilder.{SnapshotBuilder}
use Rattle.geo_base.specs.SnapshotBuilder.{on_response}
use Rattle.geo_base.specs.Entry.{means_cluster}
use Rattle.geo_base.specs.Plan.{Plan}
use Rattle.geo_base.specs.Topic.{or_first, position_of}
use Rattle.broker_plans.specs.Prepared.{IsPrepared}
use Rattle.broker_tasks.proofs.Heard.{heard_builder, heard_is}
use Rattle.broker_tasks.proofs.hearing.hear_response.Goals as goal

pub act_on_progress-requires-clause-builder : goal.act_on_progress-requires-clause-builder
act_on_progress-requires-clause-builder c =
    let b = c.args.state.now.broker in
    let tried = c.in_ok-tried.tried in
    let there : Some tried ≡ b.builder = ap (λ (u : SnapshotBuilder). Some u) c.in_ok-tried.ensures ∙ c.in-Some.ensures in
    heard_builder c.args.state.now.site b.builder tried c.on_response-progress.new.self c.as_str.result.now c.args.at.remote c.args.answer.now.position c.or_first-local.result c.on_response-progress.result
    c.requires.can.kept.builder there c.on_response-progress.ensures.heard

pub returns-clause-prepared : goal.returns-clause-prepared
returns-clause-prepared c =
    let h = c.args.state.now.site in
    let b = c.args.state.now.broker in
    let y = c.args.at.remote in
    let i = c.args.at.index in
    let tried = c.in_ok-tried.tried in
    let named = c.args.answer.now.position in
    let there : Some tried ≡ b.builder = ap (λ (u : SnapshotBuilder). Some u) c.in_ok-tried.ensures ∙ c.in-Some.ensures in
    let from : means_cluster y c.args.answer.now.cluster ≡ true = cc in
    let local = c.or_first-local.ensures ∙ ap or_first (c.position_of.ensures ∙ ap (λ (ls : List ℕ). position_of ls i) c.store.ensures.ledgers) in
    let heard = c.on_response-progress.ensures.heard ∙ ap (λ (id : List ℕ). on_response tried id y named c.or_first-local.result) c.as_str.ensures ∙ ap (λ (p : Position). on_response tried c.args.id.now y named p) local in
    subst (λ (p : Plan). OnOk c.act_on_progress.result (IsPrepared h b p c.act_on_progress.new.plan))
    (heard_is h b y i c.args.id.now c.args.answer.now tried c.on_response-progress.new.self c.on_response-progress.result there from heard) c.act_on_progress.ensures.prepared
