use Rattle.std.proofs.Common.{ℕ, List, ap, subst}
use Rattle.geo_base.specs.Broker.{Site}
use Rattle.broker_packets.specs.Answers.{AlsoAnswers, outs_of, receipt_answer}
use Rattle.broker_packets.proofs.Answered.{receiving_prepared, room_answers}
use Rattle.broker_packets.proofs.taking.receive_entry.Goals as goal

pub returns-clause-prepared : goal.returns-clause-prepared
returns-clause-prepared c =
    let h = c.args.state.now.site in
    let at = c.args.arrival in
    let position = c.in_ok-position.position in
    let answers : AlsoAnswers h.clusters (outs_of (receipt_answer at.source at.session at.again c.args.seq position)) c.storing.new.plan c.also_receipt.new.plan =
    subst (λ (names : List (List ℕ)). AlsoAnswers names (outs_of (receipt_answer at.source at.session at.again c.args.seq position)) c.storing.new.plan c.also_receipt.new.plan)
    (ap (λ (g : Site). g.clusters) c.storing.ensures.kept.site) c.in_ok-also_receipt.ensures in
    receiving_prepared h c.args.state.now.broker at.source at.session at.again c.args.seq c.args.entry position c.storing.new.plan c.also_receipt.new.plan
    c.in_ok-position.ensures.prepared c.in_ok-position.ensures.position answers

pub returns-clause-room : goal.returns-clause-room
returns-clause-room c = room_answers _ _ _ _ _ c.in_ok-position.ensures.room c.in_ok-also_receipt.ensures
