use Rattle.std.proofs.Common.{◌≡◌, ◌<◌, ◌∙◌, length, ap, subst, arith}
use Rattle.std.proofs.lemmas.List.{get_or_default}
use Rattle.observe.specs.Dealt.{KeepsSize, SubDealt, SubsDealt, dealt_at, no_dealt}
use Rattle.observe.proofs.Dealings.{finds_with}
use Rattle.observe.proofs.topic_dealt.TopicDealt.take_below.Goals as goal

pub invariant_of-self : goal.invariant_of-self
invariant_of-self c =
    let items = c.self.inside.subs.items in let k = c.in_ok-number.number in
    let size = ap (λ (v : SubsDealt). length v.subs) c.self.view_is in
    let within : k < length items = omega (arith, c.in_ok-number.ensures.within, size) in
    let old : c.index_mut.result.now ≡ dealt_at items k = c.index_mut.ensures.value ∙ get_or_default items k _ no_dealt within in
    finds_with _ _ items k c.add_below.new.self c.self.invariant (subst (λ (d : SubDealt). KeepsSize d c.add_below.new.self) old c.add_below.ensures.keeps)
