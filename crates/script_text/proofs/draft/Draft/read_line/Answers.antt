use Rattle.std.proofs.Common.{ℕ, List, Some, sym, ap, subst, ◌∙◌}
use Rattle.script_rows.specs.Judging.{heading_of}
use Rattle.script_rows.specs.Words.{words_of}
use Rattle.script_text.specs.Drafts.{CanAdd, Draft, draft_with}
use Rattle.script_text.specs.Subs.{AreKnown}
use Rattle.script_text.proofs.Drafting.{row_adds}
use Rattle.script_text.proofs.draft.Draft.read_line.Goals as goal

pub add-requires : goal.add-requires
add-requires c =
    let d = c.self.inside in
    let said = c.heading_of-heading.ensures ∙ ap (λ (b : List ℕ). heading_of (words_of b)) c.bytes.ensures in
    let known = subst (λ (x : Draft). AreKnown x.declared.setup x.names) (sym c.self.view_is) c.requires in
    subst (λ (x : Draft). CanAdd x c.in-Headed.kind c.as_slice.result.now) c.self.view_is (row_adds (draft_with d.names d.progress d.chance d.per_ledger d.clusters d.topics d.clients.items) c.args.line.now c.heading_of-heading.result c.in-Headed.kind c.in-Headed.field-1 c.as_slice.result.now said known (sym c.read_row.ensures.lowest ∙ c.in_default.is) c.in-Headed.is (c.read_row.ensures.values c.in_default.is ∙ ap Some (sym c.as_slice.ensures)))
