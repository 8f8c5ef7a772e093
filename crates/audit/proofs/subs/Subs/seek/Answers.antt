use Rattle.std.proofs.Common.{◌≡◌, ◌∙◌, ℕ, List, ap}
use Rattle.std.proofs.lemmas.Result.{on_ok_weaker}
use Rattle.geo_base.specs.Cursor.{below}
use Rattle.geo_base.specs.Mirror.{with_cursor}
use Rattle.audit.specs.Subs.{held_subs, with_cursor_in}
use Rattle.audit.proofs.HeldSubs.{one_moved}
use Rattle.audit.proofs.subs.Subs.seek.Goals as goal

pub returns-in-Some : goal.returns-in-Some
returns-in-Some c =
    let f : List ℕ → List ℕ = λ (set : List ℕ). below c.args.index in
    on_ok_weaker c.seek.result (λ (new : c.seek.new.self ≡ with_cursor_in f c.self.inside.slots c.in-Some.slot).
    ap held_subs new ∙ (one_moved c.args.name.now f c.self.inside.slots c.in-Some.slot c.in-Some.ensures ∙ ap (with_cursor c.args.name.now f) c.self.view_is)) c.seek.ensures
