use Rattle.std.proofs.Common.{arith, rules}
use Rattle.topic_store.proofs.Parts.{ends_below, firsts_more, has_all, has_lengths, lengths_more}
use Rattle.topic_store.proofs.firsts.firsts_of.Goals as goal

pub overflow_add-end : goal.overflow_add-end
overflow_add-end c =
    let i = c.loop-ledger.invariant in
    omega (arith, ends_below c.loop-ledger.firsts.items c.args.lengths.now c.loop-ledger.end c.loop-ledger.ledger i.begin i.are c.loop-ledger-test.true, c.requires.fits)

pub loop-ledger-preserved : goal.loop-ledger-preserved
loop-ledger-preserved c =
    let i = c.loop-ledger.invariant in
    let fs = c.loop-ledger.firsts.items in
    let more = c.push_reserved-in-loop-ledger.ensures in
    record {
      begin = rw more.items (firsts_more fs c.loop-ledger.end _ i.begin);
      are = rw more.items (lengths_more fs c.args.lengths.now c.loop-ledger.end c.loop-ledger.ledger c.loop-ledger-test.true i.are);
      many = search rules;
      room = search rules;
    }

pub returns-clause-firsts : goal.returns-clause-firsts
returns-clause-firsts c =
    let i = c.loop-ledger.invariant in
    has_all c.loop-ledger.firsts.items c.args.lengths.now c.loop-ledger.end c.loop-ledger.ledger i.begin c.loop-ledger-test.false i.are

pub returns-clause-lengths : goal.returns-clause-lengths
returns-clause-lengths c =
    let i = c.loop-ledger.invariant in
    has_lengths c.loop-ledger.firsts.items c.args.lengths.now c.loop-ledger.end c.loop-ledger.ledger i.begin c.loop-ledger-test.false i.are
