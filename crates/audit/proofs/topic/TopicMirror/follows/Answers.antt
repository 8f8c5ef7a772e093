use Rattle.std.proofs.Common.{◌≡◌, ◌∙◌, Bool, List, ap, false, sym, true}
use Rattle.std.specs.Prelude.{◌&&◌, nat_le}
use Rattle.std.specs.List.{list_all}
use Rattle.std.proofs.lemmas.Result.{IfOk-weaker}
use Rattle.cursor_acks.specs.declared.range.IndexRange.{IndexRange}
use Rattle.cursor_acks.specs.Ranges.{indexes_of}
use Rattle.geo_base.specs.Mirror.{Mirror}
use Rattle.audit.specs.declared.acks.Followed.{Followed}
use Rattle.audit.specs.declared.runs.AckCause.TheVariants as passed
use Rattle.audit.specs.Acks.{follows_all}
use Rattle.audit.specs.Runs.{all_acked_by}
use Rattle.audit.proofs.Passing.{follows_parts}
use Rattle.audit.proofs.topic.TopicMirror.follows.Goals as goal

pub returns-then-not-end_by-clause-follows : goal.returns-then-not-end_by-clause-follows
returns-then-not-end_by-clause-follows c =
    let m : Mirror = c.args.self.now in let f : Followed = c.in-Some.followed in let is = indexes_of c.args.ranges.now in
    let ends : list_all (λ i. nat_le i f.index) is ≡ false =
    ap (λ (rs : List IndexRange). list_all (λ i. nat_le i f.index) (indexes_of rs)) (sym c.as_slice.ensures.ranges) ∙ (sym c.end_by.ensures ∙ c.if-not-end_by.true) in
    sym (ap (follows_all m is) c.in-Some.is ∙ (follows_parts f.cluster f.index m is ∙ ap (λ (b : Bool). b && all_acked_by (passed.By f.cluster) m.entries is) ends))

pub returns-else-not-end_by-clause-follows : goal.returns-else-not-end_by-clause-follows
returns-else-not-end_by-clause-follows c =
    let m : Mirror = c.args.self.now in let f : Followed = c.in-Some.followed in let is = indexes_of c.args.ranges.now in
    let ends : list_all (λ i. nat_le i f.index) is ≡ true =
    ap (λ (rs : List IndexRange). list_all (λ i. nat_le i f.index) (indexes_of rs)) (sym c.as_slice.ensures.ranges) ∙ (sym c.end_by.ensures ∙ c.if-not-end_by.false) in
    let all : follows_all m is c.args.followed ≡ all_acked_by (passed.By f.cluster) m.entries is =
    ap (follows_all m is) c.in-Some.is ∙ (follows_parts f.cluster f.index m is ∙ ap (λ (b : Bool). b && all_acked_by (passed.By f.cluster) m.entries is) ends) in
    IfOk-weaker c.pass.result (λ (p : Bool). p ≡ all_acked_by (passed.By f.cluster) m.entries is) (λ (p : Bool). p ≡ follows_all m is c.args.followed) (λ p h. h ∙ sym all) c.pass.ensures.pass
