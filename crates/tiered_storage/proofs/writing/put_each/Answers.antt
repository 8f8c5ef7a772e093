use Rattle.std.proofs.Common.{arith}
use Rattle.tiered_storage.specs.Texts.{item_text}
use Rattle.tiered_storage.proofs.Each.{all_readable, readable_more, tellable_here, written_more}
use Rattle.tiered_storage.proofs.writing.put_each.Goals as goal

pub put_item-requires : goal.put_item-requires
put_item-requires c = rw c.entry-item.is (tellable_here c.args.names.now c.args.own c.args.entries.now c.loop-entry.entry-index _ c.requires c.loop-entry-test.true)

pub loop-entry-preserved : goal.loop-entry-preserved
loop-entry-preserved c =
    let written = rw c.entry-item.is at c.in_ok-put_item.ensures.text in
    let readable = rw c.entry-item.is at c.in_ok-put_item.ensures.readable in
    record {
      text = written_more (item_text c.args.names.now c.args.own) c.args.entries.now c.loop-entry.entry-index _ c.args.out.now c.loop-entry.out c.put_item.new.out c.loop-entry-test.true c.loop-entry.invariant.text written;
      readable = readable_more c.args.names.now c.args.own c.args.entries.now c.loop-entry.entry-index _ c.loop-entry-test.true c.loop-entry.invariant.readable readable;
    }

pub returns-clause-readable : goal.returns-clause-readable
returns-clause-readable c =
    all_readable c.args.names.now c.args.own c.args.entries.now c.loop-entry.entry-index (omega (arith, c.loop-entry-test.false)) c.loop-entry.invariant.readable
