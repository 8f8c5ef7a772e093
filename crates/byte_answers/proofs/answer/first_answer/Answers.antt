use Rattle.std.proofs.Common.{subst}
use Rattle.pulsar_frames.specs.Streams.{Reading, Answered}
use Rattle.byte_answers.proofs.Frames.{written_is, none_is}
use Rattle.byte_answers.proofs.answer.first_answer.Goals as goal

pub returns-in-Some : goal.returns-in-Some
returns-in-Some c =
    written_is c.args.bytes.now c.feed-fed.result c.feed-fed.new.self c.next.new.self c.in-Some.frame c.written_frame-answer.result
    (subst (λ (r : Reading). Answered r c.args.bytes.now c.feed-fed.result c.feed-fed.new.self) c.requires c.feed-fed.ensures.fed)
    c.in-Some.ensures.taken c.written_frame-answer.ensures

pub returns-in-None : goal.returns-in-None
returns-in-None c =
    none_is c.args.bytes.now c.feed-fed.result c.feed-fed.new.self c.no_frame.result
    (subst (λ (r : Reading). Answered r c.args.bytes.now c.feed-fed.result c.feed-fed.new.self) c.requires c.feed-fed.ensures.fed)
    c.in-None.ensures.taken.0 c.no_frame.ensures
