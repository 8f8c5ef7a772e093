use Rattle.std.proofs.Common.{rules, ◌<◌, length}
use Rattle.observed_text.specs.Observing.{is_told}
use Rattle.observed_text.proofs.Anys.{any_here, any_later, any_none}
use Rattle.observed_text.proofs.so_far.LinesSoFar.is_any_told.Goals as goal

pub returns-then-is_told : goal.returns-then-is_told
returns-then-is_told c =
    let s = c.args.scenario.now.setup in let i = c.loop-to.to in let lt : i < length s.clusters = search rules in
    any_here (is_told s c.args.self.now c.args.at.topic c.args.at.cluster) i (length s.clusters) c.is_told.result lt c.is_told.ensures c.if-is_told.true c.loop-to.invariant

pub loop-to-preserved : goal.loop-to-preserved
loop-to-preserved c =
    let s = c.args.scenario.now.setup in let i = c.loop-to.to in let lt : i < length s.clusters = search rules in
    any_later (is_told s c.args.self.now c.args.at.topic c.args.at.cluster) i (length s.clusters) c.is_told.result lt c.is_told.ensures c.if-is_told.false c.loop-to.invariant

pub returns : goal.returns
returns c =
    let s = c.args.scenario.now.setup in
    any_none (is_told s c.args.self.now c.args.at.topic c.args.at.cluster) c.loop-to.to (length s.clusters) (search rules) c.loop-to.invariant
