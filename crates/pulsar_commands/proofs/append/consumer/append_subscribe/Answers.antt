use Rattle.pulsar_commands.proofs.Writing.{writes_last, writes_more}
use Rattle.pulsar_commands.proofs.append.consumer.append_subscribe.Goals as goal

pub returns : goal.returns
returns c =
    let r = c.append_flag-2.result in
    let kind = rw c.sub_type_number.ensures at c.in_ok-append_number.ensures.ok in
    writes_more _ _ _ _ _ r c.in_ok-append_text.ensures
    (writes_more _ _ _ _ _ r c.in_ok-append_text-2.ensures
    (writes_more _ _ _ _ _ r kind
    (writes_more _ _ _ _ _ r c.in_ok-append_number-2.ensures.ok
    (writes_more _ _ _ _ _ r c.in_ok-append_number-3.ensures.ok
    (writes_more _ _ _ _ _ r c.in_ok-append_optional_text.ensures
    (writes_more _ _ _ _ _ r c.in_ok-append_flag.ensures
    (writes_last _ _ _ r c.append_flag-2.ensures)))))))
