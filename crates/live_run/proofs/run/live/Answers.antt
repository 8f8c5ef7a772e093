use Rattle.std.proofs.Common.{◌≡◌, true, length, arith, rules, ap, ◌∙◌}
use Rattle.std.proofs.lemmas.List.{take_at}
use Rattle.std.specs.Arc.{arc_value}
use Rattle.geo_base.specs.Nodes.{node_count}
use Rattle.live_run.specs.Crews.{crews_below, members_in}
use Rattle.live_run.proofs.Turning.{on_any, took}
use Rattle.live_run.proofs.run.live.Goals as goal

pub returns-clause-turns : goal.returns-clause-turns
returns-clause-turns g c =
    let olds : c.as_mut_slice.result.now ≡ c.in_ok-crews.crews.items = first_of (cc, search rules) in
    let formed : members_in c.as_mut_slice.result.now ≡ crews_below (arc_value c.args.scenario.now) c.args.workers c.args.workers = first_of (cc, search rules) in
    let count : length c.as_mut_slice.result.now ≡ c.args.workers = first_of (cc, search rules) in
    let fits : length c.run.new.crews ≡ c.in_ok-crews.crews.len = (let kept = c.run.ensures.count in let held = c.in_ok-crews.crews.ok.0 in let lent = ap length olds in omega (arith, kept, held, lent)) in
    let news : c.as_slice-2.result.now ≡ c.run.new.crews = c.as_slice-2.ensures.value ∙ take_at c.run.new.crews _ _ fits in
    let nodes : length c.as_slice.result.now ≡ node_count (arc_value c.args.scenario.now).setup = first_of (cc, search rules, grind arith) in
    let whole : c.are_whole.result ≡ true = (let said = c.if-not-are_whole.false in first_of (cc, search rules, grind (arith, said))) in
    on_any c.close.result _
    (took (arc_value c.args.scenario.now) c.args.workers c.args.turns (length c.as_slice.result.now) (length c.as_slice-2.result.now) c.as_mut_slice.result.now c.run.new.crews
    formed count (ap length news) c.run.ensures.count nodes c.run.ensures.ran (rw (← news) (c.are_whole.ensures whole)))
