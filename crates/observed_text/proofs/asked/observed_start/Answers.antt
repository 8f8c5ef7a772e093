use Rattle.std.proofs.Common.{◌≡◌, ◌≤◌, ◌+◌, ◌-◌, ◌∷◌, [], false, true, length, rules, arith}
use Rattle.std.specs.Prelude.{is_some}
use Rattle.std.proofs.lemmas.Grind.{common_steps}
use Rattle.script_rows.specs.NameWords.{cut_by}
use Rattle.observed_text.specs.Starts.{head_of, observed_from, observed_start}
use Rattle.observed_text.proofs.Walks.{begins_here, begins_later, begins_nowhere, cut_length}
use Rattle.observed_text.proofs.asked.observed_start.Goals as goal

pub loop-line-init : goal.loop-line-init
unfolding observed_start
loop-line-init c = record { within = omega arith; starts = omega arith }

pub returns-then-is_some-clause-start : goal.returns-then-is_some-clause-start
returns-then-is_some-clause-start c =
    let rest = c.loop-line.rest.now in let line = c.in-Some.line.now in let behind = c.in-Some.behind.now in
    let cut : cut_by 10 rest ≡ line ∷ cut_by 10 behind = (let whole = c.in-Some.ensures in first_of (cc, search rules, grind (arith, common_steps))) in
    let head : is_some (head_of line) ≡ true =
    (let is = c.head_of.ensures in let some = c.is_some.ensures in let yes = c.if-is_some.true in first_of (cc, search rules, grind (arith, common_steps))) in
    let here : observed_from (cut_by 10 rest) ≡ 0 = begins_here rest line behind cut head in
    let starts : length c.args.input.now - length rest + observed_from (cut_by 10 rest) ≡ observed_start c.args.input.now = c.loop-line.invariant.starts in
    omega (arith, here, starts)

pub loop-line-smaller : goal.loop-line-smaller
loop-line-smaller c =
    let rest = c.loop-line.rest.now in let line = c.in-Some.line.now in let behind = c.in-Some.behind.now in
    let cut : cut_by 10 rest ≡ line ∷ cut_by 10 behind = (let whole = c.in-Some.ensures in first_of (cc, search rules, grind (arith, common_steps))) in
    let size : length rest ≡ length line + 1 + length behind = cut_length rest line behind cut in
    omega (arith, size)

pub loop-line-preserved : goal.loop-line-preserved
loop-line-preserved c =
    let rest = c.loop-line.rest.now in let line = c.in-Some.line.now in let behind = c.in-Some.behind.now in
    let cut : cut_by 10 rest ≡ line ∷ cut_by 10 behind = (let whole = c.in-Some.ensures in first_of (cc, search rules, grind (arith, common_steps))) in
    let size : length rest ≡ length line + 1 + length behind = cut_length rest line behind cut in
    let other : is_some (head_of line) ≡ false =
    (let is = c.head_of.ensures in let some = c.is_some.ensures in let no = c.if-is_some.false in first_of (cc, search rules, grind (arith, common_steps))) in
    let later : observed_from (cut_by 10 rest) ≡ length line + 1 + observed_from (cut_by 10 behind) = begins_later rest line behind cut other in
    let within : length rest ≤ length c.args.input.now = c.loop-line.invariant.within in
    let starts : length c.args.input.now - length rest + observed_from (cut_by 10 rest) ≡ observed_start c.args.input.now = c.loop-line.invariant.starts in
    record { within = omega (arith, size, within); starts = omega (arith, size, later, within, starts) }

pub returns-clause-start : goal.returns-clause-start
returns-clause-start c =
    let rest = c.loop-line.rest.now in
    let cut : cut_by 10 rest ≡ rest ∷ [] = (let whole = c.in_default.ensures in first_of (cc, search rules, grind (arith, common_steps))) in
    let end : observed_from (cut_by 10 rest) ≡ length rest = begins_nowhere rest cut in
    let within : length rest ≤ length c.args.input.now = c.loop-line.invariant.within in
    let starts : length c.args.input.now - length rest + observed_from (cut_by 10 rest) ≡ observed_start c.args.input.now = c.loop-line.invariant.starts in
    omega (arith, end, within, starts)
