use Rattle.std.proofs.Common.{◌≡◌, drop}
use Rattle.geo_base.specs.declared.entry.Ident.{Ident}
use Rattle.audit.specs.Stored.{identity_of}
use Rattle.observe.specs.Dealt.{is_away, may_be, may_be_from}
use Rattle.observe.proofs.logs.Logs.may_be.Given as goal

abbrev pub invariant-loop-cluster : goal.invariant-loop-cluster
invariant-loop-cluster l =
    (g : Ident) → l.identity ≡ identity_of g
    → may_be_from (is_away l.self.setup l.self.observed l.self.topic g) l.cluster (drop l.cluster l.dealt.unsure) ≡ may_be l.self.setup l.self.observed l.self.topic g l.dealt.unsure
