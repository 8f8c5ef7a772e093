use Rattle.std.proofs.Common.{◌≡◌, ◌∙◌, ℕ, List, ap}
use Rattle.std.proofs.lemmas.Result.{on_ok_weaker}
use Rattle.cursor_acks.specs.Ranges.{indexes_of}
use Rattle.geo_base.specs.Cursor.{with_indexes}
use Rattle.geo_base.specs.Mirror.{with_cursor}
use Rattle.audit.specs.Subs.{held_subs, with_cursor_in}
use Rattle.audit.proofs.HeldSubs.{one_moved}
use Rattle.audit.proofs.subs.Subs.ack.Goals as goal

pub returns-in-Some : goal.returns-in-Some
returns-in-Some c =
    let f : List ℕ → List ℕ = λ (set : List ℕ). with_indexes set (indexes_of c.args.ranges.now) in
    on_ok_weaker c.ack.result (λ (new : c.ack.new.self ≡ with_cursor_in f c.self.inside.slots c.in-Some.slot).
    ap held_subs new ∙ (one_moved c.args.name.now f c.self.inside.slots c.in-Some.slot c.in-Some.ensures ∙ ap (with_cursor c.args.name.now f) c.self.view_is)) c.ack.ensures
