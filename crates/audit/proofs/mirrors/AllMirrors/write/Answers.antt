use Rattle.std.proofs.Common.{◌≡◌, ◌<◌, ◌∙◌, List, ap, arith, get_or, length, subst}
use Rattle.std.proofs.lemmas.List.{get_or_default}
use Rattle.geo_base.specs.Mirror.{Mirror, Mirrors, no_mirror}
use Rattle.trace_lines.specs.Said.{act_said}
use Rattle.audit.proofs.Bringing.{one_brought_grows}
use Rattle.audit.proofs.Needing.{Grown, one_grows}
use Rattle.audit.proofs.Judging.{grown_after}
use Rattle.audit.proofs.mirrors.AllMirrors.write.Goals as goal

pub invariant_of-self : goal.invariant_of-self
invariant_of-self c =
    let topics : List Mirror = c.self.inside.topics.items in let n = c.args.number in
    let seen : length topics ≡ length c.args.self.now.topics = ap (λ (q : Mirrors). length q.topics) c.self.view_is in
    let within : n < length topics = omega (arith, seen, c.requires.number) in
    let is : c.index_mut.result.now ≡ get_or topics n no_mirror = c.index_mut.ensures.value ∙ get_or_default topics n c.index_mut.result.now no_mirror within in
    let grown : Grown c.index_mut.result.now.entries c.write.new.self.entries =
    grown_after c.write.result c.index_mut.result.now c.write.new.self (act_said c.args.written) c.write.ensures.ok c.write.ensures.err in
    let more : Grown (get_or topics n no_mirror).entries c.write.new.self.entries = subst (λ (m : Mirror). Grown m.entries c.write.new.self.entries) is grown in (
      one_grows topics c.self.inside.covers.items n c.write.new.self more c.self.invariant.0,
      one_brought_grows topics c.self.inside.brought.items n c.write.new.self more c.self.invariant.1,
    )
