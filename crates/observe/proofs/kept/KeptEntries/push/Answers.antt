use Rattle.std.proofs.Common.{◌≡◌, ℕ, List, [], ◌∷◌, ◌++◌, length, sym, ap, subst, arith}
use Rattle.geo_base.specs.declared.entry.Entry.{Entry}
use Rattle.audit.specs.declared.identity.Identity.{Identity}
use Rattle.audit.specs.Stored.{Row, identity_of}
use Rattle.observe.specs.Kept.{AreKept, with_first}
use Rattle.observe.proofs.Firsts.{kept_more}
use Rattle.observe.proofs.kept.KeptEntries.push.Goals as goal

kept_now : (es es' : List Entry) (e : Entry) (ids ids' : List Identity) (rows rows' : List Row) (n : ℕ) → AreKept es ids rows → es' ≡ es ++ e ∷ [] → ids' ≡ ids ++ identity_of e.ident ∷ [] → n ≡ length es
    → rows' ≡ with_first rows (identity_of e.ident) n → AreKept es' ids' rows'
kept_now es es' e ids ids' rows rows' n kept is more size told = subst (λ (fs : List Entry). AreKept fs ids' rows') (sym is) (kept_more es e ids ids' rows rows' n kept more size told)

pub invariant_of-self-2 : goal.invariant_of-self-2
invariant_of-self-2 c =
    let size : c.len.result ≡ length c.self.inside.entries.items = omega (arith, c.self.inside.entries.ok.0, ap length c.reserve.ensures.items) in
    kept_now c.self.inside.entries.items _ c.args.entry c.self.inside.identities.items _ c.self.inside.firsts.entries _ c.len.result c.self.invariant
    (cc) (cc (c.in_ok-identity.ensures)) size c.in_ok-tell_first.ensures.ok
