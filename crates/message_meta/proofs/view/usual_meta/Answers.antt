use Rattle.std.proofs.Common.{length, sym, ◌∙◌}
use Rattle.std.specs.Option.{option_copied}
use Rattle.std.proofs.lemmas.Bool.{eqb-true}
use Rattle.std.proofs.lemmas.List.{nil_from_length}
use Rattle.message_meta.proofs.Usual.{usual_is}
use Rattle.message_meta.proofs.view.usual_meta.Goals as goal

pub returns-then-is_empty : goal.returns-then-is_empty
returns-then-is_empty c =
    let one = c.in_ok-producer in
    let two = c.in_ok-seq in
    let three = c.in_ok-publish_time in
    let five = c.in_ok-replicated_from in
    let six = c.in_ok-key in
    let nothing = nil_from_length six.rest.now (eqb-true (length six.rest.now) 0 (sym c.is_empty.ensures ∙ c.if-is_empty.true)) in
    usual_is one.producer.now two.seq three.publish_time (option_copied five.replicated_from) (option_copied six.key) c.args.bytes.now one.rest.now two.rest.now three.rest.now five.rest.now six.rest.now
    one.ensures.takes two.ensures three.ensures five.ensures.takes six.ensures.takes nothing one.ensures.utf8 five.ensures.utf8 six.ensures.utf8
