use Rattle.std.proofs.Common.{sym, subst}
use Rattle.std.specs.Prelude.{IfOk, Option}
use Rattle.node_log.specs.Looking.{IsLooked}
use Rattle.node_log.proofs.Looks.{any_ok, looked_packet, looked_shown, shows_none, shows_some}
use Rattle.node_log.proofs.looking.look_at.Goals as goal
use Rattle.wire_ends.specs.declared.packet.WirePacket.{WirePacket}

pub returns-in-None-clause-looked : goal.returns-in-None-clause-looked
returns-in-None-clause-looked g c =
    subst (λ (o : Option WirePacket). IfOk c.prepare_nothing.result (λ n. IsLooked c.args.node.now c.args.event.now o n c.prepare_nothing.new.plan))
    (sym (shows_none (g.E.End.shown c.peek.follows.lender-at-none) c.peek.result c.peek.follows.holds-at-none.0 c.in-None.is)) c.prepare_nothing.ensures.looked

pub returns-in-None-clause-looks : goal.returns-in-None-clause-looks
returns-in-None-clause-looks g c = any_ok c.prepare_nothing.result (looked_shown (g.E.End.looks c.args.end.now) (g.E.End.looks c.gather.new.self) (g.E.End.looks c.peek.follows.lender-at-none) c.gather.ensures.looked c.peek.follows.holds-at-none)

pub returns-in_ok-prepare-in-Some-clause-looked : goal.returns-in_ok-prepare-in-Some-clause-looked
returns-in_ok-prepare-in-Some-clause-looked g c =
    rw c.number.ensures (looked_packet c.args.node.now c.args.event.now (g.E.End.shown c.peek.follows.lender-at-none) c.in-Some.packet.now c.prepare.new.plan
    (shows_some (g.E.End.shown c.peek.follows.lender-at-none) c.peek.result c.in-Some.packet c.peek.follows.holds-at-none.0 c.in-Some.is) c.in_ok-prepare-in-Some.ensures.said c.in_ok-prepare-in-Some.ensures.prepared)

pub returns-in_ok-prepare-in-Some-clause-looks : goal.returns-in_ok-prepare-in-Some-clause-looks
returns-in_ok-prepare-in-Some-clause-looks g c = looked_shown (g.E.End.looks c.args.end.now) (g.E.End.looks c.gather.new.self) (g.E.End.looks c.peek.follows.lender-at-none) c.gather.ensures.looked c.peek.follows.holds-at-none
