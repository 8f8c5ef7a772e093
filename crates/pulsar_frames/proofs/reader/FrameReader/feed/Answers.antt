use Rattle.std.proofs.Common.{◌≡◌, ◌++◌, None, ap, sym, ◌∙◌}
use Rattle.pulsar_frames.specs.Streams.{Feeds, Reading}
use Rattle.pulsar_frames.proofs.Fed.{answered_refused, feeds_piece, answered, came_to}
use Rattle.pulsar_frames.proofs.reader.FrameReader.feed.Goals as goal

pub returns-in-Some-clause-fed : goal.returns-in-Some-clause-fed
returns-in-Some-clause-fed c = answered_refused c.args.self.now c.args.piece.now c.in-Some.why (sym (ap (λ (r : Reading). r.fault) c.self.view_is) ∙ c.in-Some.is)

pub returns-in-Ok-clause-fed : goal.returns-in-Ok-clause-fed
returns-in-Ok-clause-fed c =
    let none : c.args.self.now.fault ≡ None = sym (ap (λ (r : Reading). r.fault) c.self.view_is) ∙ c.in_default.is in
    let fed : Feeds c.args.self.now c.args.piece.now c.read_rest.new.self = feeds_piece c.args.self.now _ c.read_rest.new.self c.args.piece.now (ap (λ (r : Reading). r.waiting) c.self.view_is) (c.in_ok-extend_from_slice.ensures.ok ∙ ap (λ (r : Reading). r.rest ++ c.args.piece.now) c.self.view_is) (ap (λ (r : Reading). r.fault) c.self.view_is) none c.in-Ok.ensures.ok in
    answered c.args.self.now c.args.piece.now c.answer.result c.read_rest.new.self none fed c.answer.ensures

pub returns-in-Ok-clause-only : goal.returns-in-Ok-clause-only
returns-in-Ok-clause-only c =
    let none : c.args.self.now.fault ≡ None = sym (ap (λ (r : Reading). r.fault) c.self.view_is) ∙ c.in_default.is in
    let fed : Feeds c.args.self.now c.args.piece.now c.read_rest.new.self = feeds_piece c.args.self.now _ c.read_rest.new.self c.args.piece.now (ap (λ (r : Reading). r.waiting) c.self.view_is) (c.in_ok-extend_from_slice.ensures.ok ∙ ap (λ (r : Reading). r.rest ++ c.args.piece.now) c.self.view_is) (ap (λ (r : Reading). r.fault) c.self.view_is) none c.in-Ok.ensures.ok in
    came_to c.args.self.now c.args.piece.now c.answer.result c.read_rest.new.self fed c.answer.ensures
