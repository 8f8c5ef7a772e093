use Rattle.std.proofs.Common.{inl, inr, refl, arith}
use Rattle.geo_base.specs.declared.entry.Entry.{Entry}
use Rattle.observe.proofs.Below.{all_added, more_added}
use Rattle.observe.proofs.Each.{item_at}
use Rattle.observe.proofs.dealt.Dealt.add_messages.Goals as goal

pub loop-at-preserved : goal.loop-at-preserved
loop-at-preserved c =
    let i = c.loop-at.at in let e : Entry = c.index-entries-at.result in let lt = c.loop-at-test.true in let start = c.loop-at.invariant.start in
    let at = item_at _ c.args.entries.now i e refl (omega (arith, lt, c.requires)) c.index-entries-at.is in
    record {
      added = more_added _ _ i e _ _ _ start at c.add_entry.ensures.keeps c.in_ok-add_entry.ensures.messages c.loop-at.invariant.added;
      start = omega (arith, start);
      end = inl (omega (arith, lt));
    }

pub returns-clause-messages : goal.returns-clause-messages
returns-clause-messages c =
    let past = c.loop-at-test.false in
    all_added _ _ _ _ _ _ c.loop-at.invariant.added (elim c.loop-at.invariant.end [ inl le ↦ omega (arith, le, past) | inr is ↦ omega (arith, is, past) ])
