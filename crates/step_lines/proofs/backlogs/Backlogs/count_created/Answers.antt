use Rattle.std.proofs.Common.{◌≡◌, ℕ, false, List, [], ◌∷◌, ◌++◌, ap, sym, ◌∙◌}
use Rattle.std.specs.Prelude.{is_some}
use Rattle.geo_base.specs.declared.entry.Entry.{Entry}
use Rattle.geo_base.specs.Broker.{sub_named}
use Rattle.geo_base.specs.Cursor.{below}
use Rattle.step_lines.specs.Backlogs.{KnownBacklogs, backlogs_of}
use Rattle.step_lines.specs.Counting.{open_messages}
use Rattle.step_lines.proofs.Counting.{created_more}
use Rattle.step_lines.proofs.backlogs.Backlogs.count_created.Goals as goal

pub returns-in_ok-push : goal.returns-in_ok-push
returns-in_ok-push c = λ per p ok.
    let b = c.args.broker.now.broker in let s = c.args.sub.now in let first = c.first_open-first.result in let old = c.self.inside.counts.items in
    let are : old ≡ backlogs_of b = ap (λ (k : KnownBacklogs). k.counts) c.self.view_is ∙ c.requires in
    let named : c.as_bytes.result.now ≡ s.sub.name = c.as_bytes.ensures.value ∙ (c.as_str.ensures.text ∙ c.name.ensures) in
    let other : is_some (sub_named b.subs s.sub.name) ≡ false =
    ap (λ (n : List ℕ). is_some (sub_named b.subs n)) (sym named) ∙ (sym c.has_sub.ensures ∙ c.if-not-has_sub.true) in
    let count : c.messages_from.result ≡ open_messages b.entries (below first) =
    c.messages_from.ensures ∙ ap (λ (es : List Entry). open_messages es (below first)) c.store.ensures.entries in
    created_more per b p s c.args.latest first old _ other c.first_open-first.ensures are (c.in_ok-push.ensures.items ∙ ap (λ (n : ℕ). old ++ n ∷ []) count)
