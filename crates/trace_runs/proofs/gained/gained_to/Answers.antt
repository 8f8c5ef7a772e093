use Rattle.std.proofs.Common.{◌+◌, ◌<◌, arith}
use Rattle.geo_base.specs.Cursor.{below}
use Rattle.geo_base.specs.Traced.{gained}
use Rattle.trace_runs.proofs.Gains.{any, below_walk, gain_end, gain_start, gain_step}
use Rattle.trace_runs.proofs.gained.gained_to.Goals as goal

pub loop-at-init : goal.loop-at-init
loop-at-init c =
    let set = c.args.cursor.now.indexes in let first = c.next_open-at.ensures.least in
    record {
      lacks = first.outside;
      rest = gain_start any set c.none-gained.result.indexes (below (c.args.index + 1)) c.next_open-at.result (c.args.index + 1) c.none-gained.ensures (below_walk (c.args.index + 1)) first;
    }

pub loop-at-preserved : goal.loop-at-preserved
loop-at-preserved c =
    let set = c.args.cursor.now.indexes in let first = c.next_open-at-in-loop-at.ensures.least in
    let within : c.loop-at.at < c.args.index + 1 = omega (arith, c.loop-at-test.true) in
    record {
      lacks = first.outside;
      rest =
          gain_step any set c.loop-at.gained.indexes c.add.new.gained.indexes c.loop-at.at c.next_open-at-in-loop-at.result (c.args.index + 1) (gained set (below (c.args.index + 1))) within c.loop-at.invariant.lacks
          c.in_ok-add.ensures first c.loop-at.invariant.rest;
    }

pub returns : goal.returns
returns c = gain_end any c.args.cursor.now.indexes c.loop-at.gained.indexes c.loop-at.at (c.args.index + 1) _ (omega (arith, c.loop-at-test.false)) c.loop-at.invariant.rest
