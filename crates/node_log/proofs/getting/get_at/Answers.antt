use Rattle.std.proofs.Common.{◌≡◌, ◌≤◌, ◌<◌, ◌^◌, max, arith, rules}
use Rattle.node_log.proofs.Gets.{got_it, got_late, got_none}
use Rattle.node_log.proofs.Looks.{looked_shown, shows_none, shows_some}
use Rattle.node_log.proofs.getting.get_at.Goals as goal

pub returns-then-last-ge-STAMPS-clause-none : goal.returns-then-last-ge-STAMPS-clause-none
returns-then-last-ge-STAMPS-clause-none g c =
    let last_is : c.max-last.result ≡ max c.args.clock c.in-Some.packet.now.stamp = first_of (cc, search rules, grind arith) in
    let high : 2 ^ 63 ≤ c.max-last.result = (let test = c.if-last-ge-STAMPS.true in omega (arith, test)) in
    got_late c.args.clock c.max-last.result (g.E.End.shown c.peek.follows.lender-at-none) c.in-Some.packet.now (shows_some (g.E.End.shown c.peek.follows.lender-at-none) c.peek.result c.in-Some.packet c.peek.follows.holds-at-none.0 c.in-Some.is) last_is high

pub returns-then-last-ge-STAMPS-clause-looks : goal.returns-then-last-ge-STAMPS-clause-looks
returns-then-last-ge-STAMPS-clause-looks g c = looked_shown (g.E.End.looks c.args.end.now) (g.E.End.looks c.gather.new.self) (g.E.End.looks c.peek.follows.lender-at-none) c.gather.ensures.looked c.peek.follows.holds-at-none

pub returns-in-None-clause-none : goal.returns-in-None-clause-none
returns-in-None-clause-none g c = got_none c.args.clock (g.E.End.shown c.peek.follows.lender-at-none) (shows_none (g.E.End.shown c.peek.follows.lender-at-none) c.peek.result c.peek.follows.holds-at-none.0 c.in-None.is)

pub returns-in-None-clause-looks : goal.returns-in-None-clause-looks
returns-in-None-clause-looks g c = looked_shown (g.E.End.looks c.args.end.now) (g.E.End.looks c.gather.new.self) (g.E.End.looks c.peek.follows.lender-at-none) c.gather.ensures.looked c.peek.follows.holds-at-none

pub returns-in_ok-get-in-Some-clause-got : goal.returns-in_ok-get-in-Some-clause-got
returns-in_ok-get-in-Some-clause-got g c =
    let last_is : c.max-last.result ≡ max c.args.clock c.in-Some.packet.now.stamp = first_of (cc, search rules, grind arith) in
    let low : c.max-last.result < 2 ^ 63 = (let test = c.if-last-ge-STAMPS.false in omega (arith, test)) in
    got_it c.args.site.now.setup.clusters c.args.site.now.declared c.args.client.now c.get.new.self c.args.clock c.max-last.result (g.E.End.shown c.peek.follows.lender-at-none) c.in-Some.packet.now
    (shows_some (g.E.End.shown c.peek.follows.lender-at-none) c.peek.result c.in-Some.packet c.peek.follows.holds-at-none.0 c.in-Some.is) last_is low c.in_ok-get-in-Some.ensures.said c.in_ok-get-in-Some.ensures.client

pub returns-in_ok-get-in-Some-clause-looks : goal.returns-in_ok-get-in-Some-clause-looks
returns-in_ok-get-in-Some-clause-looks g c = looked_shown (g.E.End.looks c.args.end.now) (g.E.End.looks c.gather.new.self) (g.E.End.looks c.peek.follows.lender-at-none) c.gather.ensures.looked c.peek.follows.holds-at-none
