use Rattle.std.proofs.Common.{◌==◌, ℕ, arith, sym}
use Rattle.script_text.proofs.Feeds.{found_near, none_near}
use Rattle.script_text.proofs.lines.line_end.Goals as goal

pub returns-in-Some-memchr : goal.returns-in-Some-memchr
returns-in-Some-memchr c =
    sym (found_near (λ (b : ℕ). b == 10) 32 c.loop-near.seen c.in-Some-memchr.place c.args.bytes.now c.loop-near.rest.now c.in-Some.near.now
    c.loop-near.invariant.none c.loop-near.invariant.all c.in-Some.ensures.cases.0 c.in-Some-memchr.ensures)

pub loop-near-preserved : goal.loop-near-preserved
loop-near-preserved c = record {
  none = none_near (λ (b : ℕ). b == 10) 32 c.loop-near.seen c.args.bytes.now c.loop-near.rest.now c.in-Some.near.now c.in-Some.behind.now
      c.loop-near.invariant.none (omega (arith, c.in-Some.ensures.cases.2)) c.in-Some.ensures.cases.0 c.in-Some.ensures.cases.1 c.in_default-memchr.ensures;
  all = omega (arith, c.in-Some.ensures.cases.2, c.loop-near.invariant.all);
}
