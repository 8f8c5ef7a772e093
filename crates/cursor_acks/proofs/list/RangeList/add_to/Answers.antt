use Rattle.std.proofs.Common.{◌≡◌, ◌+◌, ◌∙◌, ◌++◌, ◌∷◌, drop, take, refl, ap}
use Rattle.cursor_acks.specs.declared.range.IndexRange.{IndexRange}
use Rattle.cursor_acks.specs.Blocks.{flat}
use Rattle.cursor_acks.proofs.Added.{put_up_to}
use Rattle.cursor_acks.proofs.list.RangeList.add_to.Goals as goal

pub returns-in-Some-clause-indexes : goal.returns-in-Some-clause-indexes
returns-in-Some-clause-indexes c =
    let f = flat c.args.self.now.blocks c.place_of-at.result in
    let r : IndexRange = record { first = 0; last = c.in-Some.last } in
    (put_up_to c.args.self.now.list c.start_at.new.self.list c.args.index f (f + 1) r refl c.requires.kept c.place_of-at.ensures.range_index c.in-Some.ensures.some.1 c.start_at.ensures.list).1

pub returns-in-Some-before-clause-kept : goal.returns-in-Some-before-clause-kept
returns-in-Some-before-clause-kept c =
    let f = flat c.args.self.now.blocks c.place_of-at.result in
    let r : IndexRange = record { first = 0; last = c.args.index } in
    let is : c.start_at-in-Some-before.new.self.list ≡ r ∷ drop f c.args.self.now.list =
    c.start_at-in-Some-before.ensures.list ∙ ap (λ n. r ∷ drop n c.args.self.now.list) c.in-Some-before.ensures.some.1 in
    (put_up_to c.args.self.now.list c.start_at-in-Some-before.new.self.list c.args.index f f r refl c.requires.kept c.place_of-at.ensures.range_index c.in-None.ensures.none is).0

pub returns-in-Some-before-clause-indexes : goal.returns-in-Some-before-clause-indexes
returns-in-Some-before-clause-indexes c =
    let f = flat c.args.self.now.blocks c.place_of-at.result in
    let r : IndexRange = record { first = 0; last = c.args.index } in
    let is : c.start_at-in-Some-before.new.self.list ≡ r ∷ drop f c.args.self.now.list =
    c.start_at-in-Some-before.ensures.list ∙ ap (λ n. r ∷ drop n c.args.self.now.list) c.in-Some-before.ensures.some.1 in
    (put_up_to c.args.self.now.list c.start_at-in-Some-before.new.self.list c.args.index f f r refl c.requires.kept c.place_of-at.ensures.range_index c.in-None.ensures.none is).1

pub returns-in-None-before-clause-indexes : goal.returns-in-None-before-clause-indexes
returns-in-None-before-clause-indexes c =
    let f = flat c.args.self.now.blocks c.place_of-at.result in
    let r : IndexRange = record { first = 0; last = c.args.index } in
    let is : c.insert.new.self.list ≡ r ∷ drop f c.args.self.now.list =
    c.insert.ensures.list ∙ ap (λ n. take n c.args.self.now.list ++ r ∷ drop f c.args.self.now.list) c.in-None-before.ensures.none in
    (put_up_to c.args.self.now.list c.insert.new.self.list c.args.index f f r refl c.requires.kept c.place_of-at.ensures.range_index c.in-None.ensures.none is).1
