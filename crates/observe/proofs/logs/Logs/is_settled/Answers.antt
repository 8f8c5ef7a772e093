use Rattle.std.proofs.Common.{◌≡◌, ◌∙◌, Bool, true, false, List, ℕ, refl, ap, subst, sym, arith}
use Rattle.std.specs.Prelude.{◌||◌, not}
use Rattle.std.specs.List.{list_any}
use Rattle.std.proofs.lemmas.Grind.{common_steps}
use Rattle.geo_base.specs.declared.entry.Entry.{Entry}
use Rattle.geo_base.specs.Entry.{is_data, same_ident}
use Rattle.geo_base.specs.Setup.{Setup}
use Rattle.audit.specs.declared.identity.Identity.{Identity}
use Rattle.audit.specs.Stored.{identity_of, is_identity}
use Rattle.observation.specs.Observed.{Observation, all_settled, is_dealt_with, is_unsure}
use Rattle.observe.specs.Dealt.{AreLogs, LogsOf, SubDealt, dealt_at, may_be}
use Rattle.observe.proofs.Dealings.{dealt_some}
use Rattle.observe.proofs.logs.Logs.is_settled.Goals as goal

settled_by : (s : Setup) (o : Observation) (t : ℕ) (n : List ℕ) (e : Entry) (r : Bool) → is_data e.content ≡ true
    → r ≡ (list_any (same_ident e.ident) (all_settled s o t n o.said) || list_any (is_unsure s o t n e.ident) o.said) → r ≡ is_dealt_with s o t n e
unfolding is_dealt_with
settled_by s o t n e r message is =
    is ∙ sym (ap (λ (b : Bool). not b || (list_any (same_ident e.ident) (all_settled s o t n o.said) || list_any (is_unsure s o t n e.ident) o.said)) message)

pub at-dealt-requires : goal.at-dealt-requires
at-dealt-requires c = (c.number_of.ensures.finds.at c.args.name.now c.in-Some.number (sym c.number_of.ensures.number ∙ c.in-Some.is)).within

pub returns-then-has : goal.returns-then-has
returns-then-has c =
    let q = c.args.self.now in let e = c.args.entry.now in let k = c.in-Some.number in let v = c.self.inside.dealt in
    let logs = subst (λ (l : LogsOf). AreLogs l.setup l.observed l.topic v) c.self.view_is c.self.invariant in
    let message : is_data e.content ≡ true = grind (arith, common_steps) in
    let has_is : c.has.result ≡ list_any (is_identity (identity_of e.ident)) (dealt_at v.subs k).messages =
    c.has.ensures ∙ (ap (λ (i : Identity). list_any (is_identity i) c.at-dealt.result.now.messages) c.requires ∙ ap (λ (d : SubDealt). list_any (is_identity (identity_of e.ident)) d.messages) c.at-dealt.ensures.dealt) in
    settled_by q.setup q.observed q.topic c.args.name.now e _ message
    (c.if-has.true
    ∙ dealt_some q.setup q.observed q.topic c.args.name.now e.ident v k true (may_be q.setup q.observed q.topic e.ident (dealt_at v.subs k).unsure) logs.told c.number_of.ensures.finds
    (sym c.number_of.ensures.number ∙ c.in-Some.is) (sym c.if-has.true ∙ has_is) refl)

pub returns-else-has : goal.returns-else-has
returns-else-has c =
    let q = c.args.self.now in let e = c.args.entry.now in let k = c.in-Some.number in let v = c.self.inside.dealt in
    let logs = subst (λ (l : LogsOf). AreLogs l.setup l.observed l.topic v) c.self.view_is c.self.invariant in
    let message : is_data e.content ≡ true = grind (arith, common_steps) in
    let has_is : c.has.result ≡ list_any (is_identity (identity_of e.ident)) (dealt_at v.subs k).messages =
    c.has.ensures ∙ (ap (λ (i : Identity). list_any (is_identity i) c.at-dealt.result.now.messages) c.requires ∙ ap (λ (d : SubDealt). list_any (is_identity (identity_of e.ident)) d.messages) c.at-dealt.ensures.dealt) in
    let may_is : c.may_be.result ≡ may_be q.setup q.observed q.topic e.ident (dealt_at v.subs k).unsure =
    c.may_be.ensures e.ident c.requires ∙ ap (λ (d : SubDealt). may_be q.setup q.observed q.topic e.ident d.unsure) c.at-dealt.ensures.dealt in
    settled_by q.setup q.observed q.topic c.args.name.now e _ message
    (dealt_some q.setup q.observed q.topic c.args.name.now e.ident v k false c.may_be.result logs.told c.number_of.ensures.finds
    (sym c.number_of.ensures.number ∙ c.in-Some.is) (sym c.if-has.false ∙ has_is) may_is)
