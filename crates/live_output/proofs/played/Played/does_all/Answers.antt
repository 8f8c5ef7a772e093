use Rattle.std.proofs.Common.{arith, rules}
use Rattle.live_output.proofs.OneMore.{goes_on, more_events}
use Rattle.live_output.proofs.played.Played.does_all.Goals as goal

pub loop-place-preserved : goal.loop-place-preserved
loop-place-preserved c =
    let s = c.args.scenario.now.setup in
    let steps = c.args.steps.now in
    let old = c.loop-place.self.steps in
    let new = c.does.new.self.steps in
    let is_done = c.if-not-branch.false in
    let done = c.in_ok-does.ensures.done (search (rules, is_done)) in
    record {
      steps = goes_on s steps old new c.loop-place.place c.at.result (omega arith) c.at.ensures c.loop-place.invariant.steps done;
      events = more_events s steps old new c.loop-place.place c.at.result (omega arith) c.at.ensures c.requires.events c.loop-place.invariant.events done.1;
      at = c.in_ok-does.ensures.at;
    }
