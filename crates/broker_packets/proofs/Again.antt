-- An act that is done two times in a row.
use Rattle.std.proofs.Common.{◌≡◌, ℕ, ap, ◌∙◌}
use Rattle.std.specs.Prelude.{if◌then◌else◌, ◌++◌}
use Rattle.geo_base.specs.Broker.{Broker}
use Rattle.geo_base.specs.Plan.{Plan, done, plan_of, twice}

-- a plan and the one after it
abbrev pub both : Plan → Plan → Plan
both p q = if p.idle then p else plan_of (p.writes ++ q.writes) (p.changes ++ q.changes) (p.sent ++ q.sent)

pub twice_is : (per : ℕ) (b : Broker) (P : Broker → Plan) (p q : Plan) → P b ≡ p → P (done per b p) ≡ q → twice per b P ≡ both p q
twice_is per b P p q first second =
    ap (λ (r : Plan). both r (P (done per b r))) first ∙ ap (λ (r : Plan). both p r) second
