use Rattle.std.proofs.Common.{◌≡◌, ◌∙◌, arith, false, length, nat_lt, sym}
use Rattle.std.proofs.lemmas.Bool.Decides.{nat_tests}
use Rattle.audit.proofs.EntryAcks.{passed_past}
use Rattle.audit.proofs.runs.Runs.may_ack_range.Goals as goal

pub returns-else-range-len : goal.returns-else-range-len
returns-else-range-len c =
    let past = c.if-range-len.false in
    let out : nat_lt c.args.range.last (length c.args.entries.now) ≡ false = grind (arith, nat_tests, past) in
    out ∙ sym (passed_past c.args.self.now.what c.args.entries.now c.args.range.first c.args.range.last c.requires.order past)
