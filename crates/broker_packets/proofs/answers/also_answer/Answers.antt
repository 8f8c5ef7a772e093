use Rattle.broker_packets.proofs.Answered.{answers_again, answers_once, second_brief}
use Rattle.broker_packets.proofs.answers.also_answer.Goals as goal

pub also_send-requires : goal.also_send-requires
also_send-requires c = let brief = c.requires.first in record { simple = brief.simple; readable = brief.readable; small = brief.small }

pub also_send-requires-in-Some : goal.also_send-requires-in-Some
also_send-requires-in-Some c =
    let brief = second_brief c.args.state.now.site.clusters c.args.answer.now.second _ c.in-Some.is c.requires.second in
    record { simple = brief.simple; readable = brief.readable; small = brief.small }

pub returns-in-None : goal.returns-in-None
returns-in-None c = answers_once c.args.state.now.site.clusters c.args.answer.now c.args.plan.now c.also_send.new.plan c.in-None.is c.in_ok-also_send.ensures.ok

pub returns-in_ok-also_send-in-Some : goal.returns-in_ok-also_send-in-Some
returns-in_ok-also_send-in-Some c =
    answers_again c.args.state.now.site.clusters c.args.answer.now _ c.args.plan.now c.also_send.new.plan c.also_send-in-Some.new.plan c.in-Some.is
    c.in_ok-also_send.ensures.ok c.in_ok-also_send-in-Some.ensures.ok
