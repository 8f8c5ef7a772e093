use Rattle.std.proofs.Common.{◌<◌, ℕ, length, subst}
use Rattle.std.specs.Prelude.{slice_index_or}
use Rattle.geo_base.specs.Mirror.{no_mirror}
use Rattle.audit.proofs.mirrors.AllMirrors.may_snapshot.Goals as goal

pub is_cut-requires-clause-local : goal.is_cut-requires-clause-local
is_cut-requires-clause-local c =
    subst (λ (n : ℕ). c.in-Some.local < length (slice_index_or c.args.self.now.topics n no_mirror).entries) c.number_of-number.ensures.number c.in-Some.ensures.within
