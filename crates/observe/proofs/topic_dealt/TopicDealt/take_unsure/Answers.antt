use Rattle.std.proofs.Common.{◌≡◌, ◌<◌, ◌++◌, ◌∷◌, [], ◌∙◌, ℕ, true, Some, length, ap, subst, sym, arith}
use Rattle.std.specs.Prelude.{slice_set}
use Rattle.std.proofs.lemmas.List.{get_or_default, length-set}
use Rattle.audit.specs.Subs.{slot_in}
use Rattle.observation.specs.declared.said.Said.TheVariants as said
use Rattle.observe.specs.Dealt.{SubDealt, SubsDealt, TellsTopic, dealt_at, no_dealt}
use Rattle.observe.proofs.Dealings.{finds_sized, unsure_told}
use Rattle.observe.proofs.topic_dealt.TopicDealt.take_unsure.Goals as goal

abbrev not_sure : ℕ → SubDealt → SubDealt
not_sure x d = record { name = d.name; messages = d.messages; below = d.below; unsure = slice_set d.unsure x true }

pub invariant_of-self : goal.invariant_of-self
invariant_of-self c =
    let items = c.self.inside.subs.items in let k = c.in_ok-number.number in let x = c.args.cluster in
    let size = ap (λ (v : SubsDealt). length v.subs) c.self.view_is in
    let within : k < length items = omega (arith, c.in_ok-number.ensures.within, size) in
    let old : c.index_mut.result.now ≡ dealt_at items k = c.index_mut.ensures.value ∙ get_or_default items k _ no_dealt within in
    let is : c.set_unsure.new.self ≡ not_sure x (dealt_at items k) = c.set_unsure.ensures ∙ ap (not_sure x) old in
    finds_sized _ _ items k c.set_unsure.new.self c.self.invariant (ap (λ (d : SubDealt). d.name) is) (ap (λ (d : SubDealt). length d.below) is)
    (ap (λ (d : SubDealt). length d.unsure) is ∙ length-set (dealt_at items k).unsure x true)

pub returns-clause-told : goal.returns-clause-told
returns-clause-told c = λ s o t ls h.
    let items = c.self.inside.subs.items in let k = c.in_ok-number.number in let x = c.args.cluster in let n = c.args.name.now in
    let size = ap (λ (v : SubsDealt). length v.subs) c.self.view_is in let clusters = ap (λ (v : SubsDealt). v.clusters) c.self.view_is in
    let within : k < length items = omega (arith, c.in_ok-number.ensures.within, size) in
    let old : c.index_mut.result.now ≡ dealt_at items k = c.index_mut.ensures.value ∙ get_or_default items k _ no_dealt within in
    let is : c.set_unsure.new.self ≡ not_sure x (dealt_at items k) = c.set_unsure.ensures ∙ ap (not_sure x) old in
    let at : slot_in n c.self.inside.numbers.entries ≡ Some k = subst (λ (v : SubsDealt). slot_in n v.numbers ≡ Some k) (sym c.self.view_is) c.in_ok-number.ensures.named in
    let told = subst (TellsTopic s o t ls) (sym c.self.view_is) (c.in_ok-number.ensures.told s o t ls h) in
    subst (λ (d : SubDealt). TellsTopic s o t (ls ++ said.Unsure t x n ∷ []) (record { clusters = c.self.inside.clusters; numbers = c.self.inside.numbers.entries; subs = slice_set items k d })) (sym is)
    (unsure_told s o t x ls c.self.inside.clusters c.self.inside.numbers.entries items n k c.self.invariant at (omega (arith, c.requires, c.number_for.ensures.clusters, clusters)) told)
