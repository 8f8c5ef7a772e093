use Rattle.std.proofs.Common.{◌≡◌, ℕ, List, ap, subst, sym, true}
use Rattle.std.specs.Prelude.{IfSome, find}
use Rattle.std.specs.Str.{bytes_eq}
use Rattle.geo_base.specs.Mirror.{Mirror, MirrorSub, mirror_sub}
use Rattle.audit.specs.Sub.{may_gain}
use Rattle.audit.proofs.Following.{gains_if_new}
use Rattle.audit.proofs.topic.TopicMirror.ack.Goals as goal

pub ack-requires : goal.ack-requires
ack-requires c =
    let m : Mirror = c.args.self.now in let n = c.args.sub.now in let rs = c.args.ranges.now in
    let gains : IfSome (mirror_sub m n) (λ (v : MirrorSub). may_gain v.cursor c.len-len.result rs ≡ true) =
    subst (λ (k : ℕ). IfSome (mirror_sub m n) (λ (v : MirrorSub). may_gain v.cursor k rs ≡ true)) (sym c.len-len.ensures) (gains_if_new m (mirror_sub m n) rs c.requires) in
    subst (λ (vs : List MirrorSub). IfSome (find (λ (v : MirrorSub). bytes_eq v.name n) vs) (λ (v : MirrorSub). may_gain v.cursor c.len-len.result rs ≡ true))
    (sym (ap (λ (q : Mirror). q.subs) c.self.view_is)) gains
