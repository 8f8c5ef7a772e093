use Rattle.std.proofs.Common.{◌≡◌, ◌+◌, ◌∙◌, ◌++◌, ◌∷◌, drop, take, refl, ap, sym}
use Rattle.std.proofs.lemmas.Bool.{true≢false}
use Rattle.cursor_acks.specs.declared.range.IndexRange.{IndexRange}
use Rattle.cursor_acks.specs.Blocks.{flat}
use Rattle.cursor_acks.proofs.AddedRange.{free_first, place_free, put_alone, put_in}
use Rattle.cursor_acks.proofs.list.RangeList.put.Goals as goal

pub begin-requires-clause-new : goal.begin-requires-clause-new
begin-requires-clause-new c = free_first c.args.self.now.list c.args.first c.args.last c.requires.new c.requires.order

pub end-requires-clause-range_index : goal.end-requires-clause-range_index
end-requires-clause-range_index c = place_free c.args.self.now.list c.args.first c.args.last (flat c.args.self.now.blocks c.args.at) c.requires.kept c.requires.range_index c.requires.order c.requires.new

pub end-requires-in-Some-clause-range_index : goal.end-requires-in-Some-clause-range_index
end-requires-in-Some-clause-range_index c = place_free c.args.self.now.list c.args.first c.args.last (flat c.args.self.now.blocks c.args.at) c.requires.kept c.requires.range_index c.requires.order c.requires.new

pub insert-requires-clause-room : goal.insert-requires-clause-room
insert-requires-clause-room c =
    let f = flat c.args.self.now.blocks c.args.at in
    c.requires.room (put_alone c.args.self.now.list c.args.first c.args.last f f f c.args.first c.args.last c.in-None.ensures.none c.in-None-end.ensures.none refl)

pub returns-in-None-end-clause-kept : goal.returns-in-None-end-clause-kept
returns-in-None-end-clause-kept c =
    let f = flat c.args.self.now.blocks c.args.at in
    let r : IndexRange = record { first = c.args.first; last = c.args.last } in
    (put_in c.args.self.now.list c.insert.new.self.list c.args.first c.args.last f f f r c.requires.kept c.requires.order c.requires.new c.requires.range_index c.in-None.ensures.none c.in-None-end.ensures.none c.insert.ensures.list).0

pub returns-in-None-end-clause-indexes : goal.returns-in-None-end-clause-indexes
returns-in-None-end-clause-indexes c =
    let f = flat c.args.self.now.blocks c.args.at in
    let r : IndexRange = record { first = c.args.first; last = c.args.last } in
    (put_in c.args.self.now.list c.insert.new.self.list c.args.first c.args.last f f f r c.requires.kept c.requires.order c.requires.new c.requires.range_index c.in-None.ensures.none c.in-None-end.ensures.none c.insert.ensures.list).1

pub returns-in-None-end-clause-grown : goal.returns-in-None-end-clause-grown
returns-in-None-end-clause-grown c joined =
    let f = flat c.args.self.now.blocks c.args.at in
    absurd (true≢false (sym (put_alone c.args.self.now.list c.args.first c.args.last f f f c.args.first c.args.last c.in-None.ensures.none c.in-None-end.ensures.none refl) ∙ joined))

pub returns-in-Some-end-clause-kept : goal.returns-in-Some-end-clause-kept
returns-in-Some-end-clause-kept c =
    let f = flat c.args.self.now.blocks c.args.at in
    let r : IndexRange = record { first = c.args.first; last = c.in-Some-end.last } in
    (put_in c.args.self.now.list c.set.new.self.list c.args.first c.args.last f f (f + 1) r c.requires.kept c.requires.order c.requires.new c.requires.range_index c.in-None.ensures.none c.in-Some-end.ensures.some.1 c.set.ensures.list).0

pub returns-in-Some-end-clause-indexes : goal.returns-in-Some-end-clause-indexes
returns-in-Some-end-clause-indexes c =
    let f = flat c.args.self.now.blocks c.args.at in
    let r : IndexRange = record { first = c.args.first; last = c.in-Some-end.last } in
    (put_in c.args.self.now.list c.set.new.self.list c.args.first c.args.last f f (f + 1) r c.requires.kept c.requires.order c.requires.new c.requires.range_index c.in-None.ensures.none c.in-Some-end.ensures.some.1 c.set.ensures.list).1

pub returns-in-None-end-2-clause-kept : goal.returns-in-None-end-2-clause-kept
returns-in-None-end-2-clause-kept c =
    let f = flat c.args.self.now.blocks c.args.at in
    let low = flat c.args.self.now.blocks c.in-Some.low in
    let there = c.in-Some.ensures.some in
    let r : IndexRange = record { first = c.in-Some.first; last = c.args.last } in
    let is : c.set-in-None-end-2.new.self.list ≡ take low c.args.self.now.list ++ r ∷ drop f c.args.self.now.list =
    c.set-in-None-end-2.ensures.list ∙ ap (λ n. take low c.args.self.now.list ++ r ∷ drop n c.args.self.now.list) there.1.0 in
    (put_in c.args.self.now.list c.set-in-None-end-2.new.self.list c.args.first c.args.last f low f r c.requires.kept c.requires.order c.requires.new c.requires.range_index there.1.1 c.in-None-end-2.ensures.none is).0

pub returns-in-None-end-2-clause-indexes : goal.returns-in-None-end-2-clause-indexes
returns-in-None-end-2-clause-indexes c =
    let f = flat c.args.self.now.blocks c.args.at in
    let low = flat c.args.self.now.blocks c.in-Some.low in
    let there = c.in-Some.ensures.some in
    let r : IndexRange = record { first = c.in-Some.first; last = c.args.last } in
    let is : c.set-in-None-end-2.new.self.list ≡ take low c.args.self.now.list ++ r ∷ drop f c.args.self.now.list =
    c.set-in-None-end-2.ensures.list ∙ ap (λ n. take low c.args.self.now.list ++ r ∷ drop n c.args.self.now.list) there.1.0 in
    (put_in c.args.self.now.list c.set-in-None-end-2.new.self.list c.args.first c.args.last f low f r c.requires.kept c.requires.order c.requires.new c.requires.range_index there.1.1 c.in-None-end-2.ensures.none is).1

pub returns-in-Some-end-2-clause-kept : goal.returns-in-Some-end-2-clause-kept
returns-in-Some-end-2-clause-kept c =
    let f = flat c.args.self.now.blocks c.args.at in
    let low = flat c.args.self.now.blocks c.in-Some.low in
    let there = c.in-Some.ensures.some in
    let r : IndexRange = record { first = c.in-Some.first; last = c.in-Some-end-2.last } in
    (put_in c.args.self.now.list c.join.new.self.list c.args.first c.args.last f low (f + 1) r c.requires.kept c.requires.order c.requires.new c.requires.range_index there.1.1 c.in-Some-end-2.ensures.some.1 c.join.ensures.list).0

pub returns-in-Some-end-2-clause-indexes : goal.returns-in-Some-end-2-clause-indexes
returns-in-Some-end-2-clause-indexes c =
    let f = flat c.args.self.now.blocks c.args.at in
    let low = flat c.args.self.now.blocks c.in-Some.low in
    let there = c.in-Some.ensures.some in
    let r : IndexRange = record { first = c.in-Some.first; last = c.in-Some-end-2.last } in
    (put_in c.args.self.now.list c.join.new.self.list c.args.first c.args.last f low (f + 1) r c.requires.kept c.requires.order c.requires.new c.requires.range_index there.1.1 c.in-Some-end-2.ensures.some.1 c.join.ensures.list).1
