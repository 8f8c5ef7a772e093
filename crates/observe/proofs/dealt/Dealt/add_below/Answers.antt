use Rattle.std.proofs.Common.{◌≡◌, ◌<◌, ◌∙◌, length, ap, subst, sym}
use Rattle.std.specs.Prelude.{slice_index}
use Rattle.std.proofs.lemmas.List.{get_or_read}
use Rattle.observe.specs.Dealt.{AddedTo, SubDealt}
use Rattle.observe.proofs.Below.{below_up}
use Rattle.observe.proofs.dealt.Dealt.add_below.Goals as goal

pub returns-then-end-from-clause-below : goal.returns-then-end-from-clause-below
returns-then-end-from-clause-below c = λ held.
    let x = c.args.cluster in let from = c.index-from.result.now in let end = c.end_below-end.result in
    let within : x < length c.self.inside.below.items = subst (λ (v : SubDealt). x < length v.below) (sym c.self.view_is) c.requires in
    let read = get_or_read c.self.inside.below.items _ _ within c.index-from.ensures 0 in
    let from_is : from ≡ slice_index c.args.self.now.below x = read ∙ ap (λ (v : SubDealt). slice_index v.below x) c.self.view_is in
    below_up x c.args.entries.now from end c.args.index c.args.self.now
    (record { name = c.self-2.inside.name; messages = c.self-2.inside.messages.keys; below = c.self-2.inside.below.items; unsure = c.self-2.inside.unsure.items })
    c.requires from_is c.if-end-from.true c.end_below-end.ensures.end
    (subst (λ (v : SubDealt). AddedTo c.args.entries.now from c.args.self.now v end) (sym c.self-2.view_is) c.in_ok-add_messages.ensures.messages) held
