use Rattle.std.proofs.Common.{◌≤◌, length, arith, ap, sym}
use Rattle.std.proofs.lemmas.Bool.{ltb-false}
use Rattle.script_text.proofs.NoTopic.{none_past}
use Rattle.script_text.proofs.declarations.Declarations.sub_names.Goals as goal

pub returns-in-None : goal.returns-in-None
returns-in-None c =
    let s = c.self.inside.setup in
    let past : length s.topics ≤ c.args.topic = omega (arith, ltb-false c.args.topic (length c.as_slice.result.now) (sym c.in-None.ensures.lookup.0), ap length c.as_slice.ensures, c.self.invariant.1.many) in
    rw (← c.self.view_is) (sym (none_past s c.args.topic past c.self.invariant.0.clients))
