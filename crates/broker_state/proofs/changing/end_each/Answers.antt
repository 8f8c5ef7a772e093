use Rattle.std.proofs.Common.{◌∙◌, List, ap, arith}
use Rattle.std.specs.Prelude.{None, Option, slice_set}
use Rattle.geo_base.specs.declared.session.Session.{Session}
use Rattle.geo_base.proofs.Mapped.{all_mapped, set_mapped}
use Rattle.broker_state.proofs.changing.end_each.Goals as goal

abbrev ended : Option Session → Option Session
ended s = None

pub loop-session-preserved : goal.loop-session-preserved
loop-session-preserved c =
    let olds = c.args.sessions.now in
    let k = c.loop-session.session-index in
    ap (λ (ss : List (Option Session)). slice_set ss k None) c.loop-session.invariant
    ∙ set_mapped ended k olds None (omega arith)

pub returns : goal.returns
returns c = c.loop-session.invariant ∙ all_mapped ended c.loop-session.session-index c.args.sessions.now (omega arith)
