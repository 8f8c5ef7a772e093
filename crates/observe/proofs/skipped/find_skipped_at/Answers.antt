use Rattle.std.proofs.Common.{◌≡◌, ◌<◌, ◌∙◌, ℕ, Bool, true, List, ap, length, subst, sym, arith}
use Rattle.std.specs.Prelude.{◌||◌, not}
use Rattle.std.proofs.lemmas.Option.{same_Some}
use Rattle.geo_base.proofs.Bools.{or_of_second}
use Rattle.geo_base.specs.declared.entry.Entry.{Entry}
use Rattle.geo_base.specs.Cursor.{has}
use Rattle.observation.specs.Observed.{Seen, entries_seen, is_dealt_with}
use Rattle.observe.proofs.Each.{item_at, none_found}
use Rattle.observe.proofs.skipped.find_skipped_at.Goals.{else-has-via-then-has+else-not-is_settled, else-has-via-else-has}
use Rattle.observe.proofs.skipped.find_skipped_at.Goals as goal

pub returns-else-has : goal.returns-else-has
returns-else-has c = λ e at.
    let q = c.args.logs.now in let f : Entry = c.index-entries-index.result in
    let there : c.entries.result.now ≡ entries_seen q.setup q.observed q.topic c.args.cluster = c.entries.ensures ∙ ap (λ (v : Seen). v.topic.entries) c.at-seen.ensures in
    let size = ap length there in
    let lt : c.args.index < length c.entries.result.now = omega (arith, c.requires.index, size) in
    let same : f ≡ e = same_Some f e (sym (item_at _ c.entries.result.now c.args.index f there lt c.index-entries-index.is) ∙ at) in
    elim c.else-has.branch [
      | else-has-via-then-has+else-not-is_settled w ↦
          none_found _ _ _
          (or_of_second (not (has c.args.sub.now.cursor c.args.index)) (is_dealt_with q.setup q.observed q.topic c.args.sub.now.name e)
          (subst (λ (g : Entry). is_dealt_with q.setup q.observed q.topic c.args.sub.now.name g ≡ true) same
          (sym (ap (λ (n : List ℕ). is_dealt_with q.setup q.observed q.topic n f) w.name.ensures) ∙ (sym w.is_settled.ensures ∙ w.if-not-is_settled.false))))
      | else-has-via-else-has w ↦
          none_found _ _ _ (ap (λ (b : Bool). not b || is_dealt_with q.setup q.observed q.topic c.args.sub.now.name e) (sym c.has.ensures ∙ w.if-has.false))
    ]
