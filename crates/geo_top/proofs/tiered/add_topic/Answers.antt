use Rattle.std.proofs.Common.{◌++◌, List, [], refl, subst, sym, ◌∙◌}
use Rattle.std.specs.Prelude.{slice_index_or}
use Rattle.geo_base.specs.declared.entry.Entry.{Entry}
use Rattle.geo_base.specs.Report.{with_line_feeds}
use Rattle.tiered_storage.specs.Readable.{AreTellable}
use Rattle.tiered_storage.specs.Calls.{offloaded}
use Rattle.run_report.specs.Shown.{shown_world}
use Rattle.geo_top.specs.Tiered.{tiers_at}
use Rattle.geo_top.proofs.Tiers.{entries_there, moved_first, tier_added}
use Rattle.geo_top.proofs.Views.{name_at}
use Rattle.geo_top.proofs.tiered.add_topic.Goals as goal

pub moved_to_tier-requires : goal.moved_to_tier-requires
moved_to_tier-requires c =
    let s = c.args.scenario.now.setup in let b = c.args.world.now in let x = c.loop-number.number in
    let names = c.clusters-clusters.ensures.names in
    let cluster = rw names at c.loop-number-test.true in
    rw names (subst (λ (es : List Entry). AreTellable s.clusters x es)
    (sym (entries_there s b c.requires.at c.args.topic x c.requires.topic cluster c.topic.result.now c.store-store.result.now.entries c.topic.ensures c.store-store.ensures.entries))
    (c.requires.tellable c.args.topic x c.requires.topic cluster))

pub loop-number-preserved : goal.loop-number-preserved
loop-number-preserved c =
    let s = c.args.scenario.now.setup in let b = c.args.world.now in let x = c.loop-number.number in
    let es = c.store-store.result.now.entries in let names = c.clusters-clusters.ensures.names in
    let name = slice_index_or s.topics c.args.topic [] in
    tier_added s b c.requires.at c.args.topic x c.requires.topic (rw names at c.loop-number-test.true) c.args.keep (offloaded c.in_ok-moved.moved) c.store-store.result.now.per_ledger name c.index-clusters-number.result c.topic.result.now
    es c.store-store.result.now.ledgers c.loop-number.lines _ c.add_moved-added.new.lines
    (c.args.lines.now ++ with_line_feeds (tiers_at s (shown_world b) c.args.keep c.args.topic name 0 s.clusters))
    (rw names at c.index-clusters-number.is) c.topic.ensures c.store-store.ensures.entries c.store-store.ensures.ledgers c.store-store.ensures.per_ledger
    c.in_ok-moved.ensures.moved
    (moved_first name c.index-clusters-number.result c.as_str-name.result.now c.as_str.result.now _ c.loop-number.lines _ (offloaded c.in_ok-moved.moved)
    refl refl
    (c.as_str-name.ensures.text ∙ name_at s.topics c.args.topic c.index-topics-topic.result c.requires.topic (rw c.topics.ensures.names at c.index-topics-topic.is))
    c.as_str.ensures.text)
    (rw names at c.in_ok-added.ensures) c.loop-number.invariant
