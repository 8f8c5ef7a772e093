use Rattle.std.proofs.Common.{◌≡◌, ◌<◌, ◌∷◌, ◌++◌, ◌∙◌, ℕ, List, [], ap, arith, length, subst, sym}
use Rattle.std.specs.Prelude.{Some, slice_get}
use Rattle.geo_base.specs.declared.entry.Entry.{Entry}
use Rattle.audit.specs.Runs.{AreRunsOf, RunStarts, next_start}
use Rattle.audit.proofs.EntryAcks.{runs_more, some_at}
use Rattle.audit.proofs.runs.Runs.extend.Goals as goal

pub entries-preserved : goal.entries-preserved
entries-preserved c =
    let es = c.args.entries.now in
    let r : RunStarts = record { what = c.self.inside.what; starts = c.self.inside.starts.items } in
    let e : Entry = c.index-entries-len.result in
    let before : AreRunsOf es r = subst (AreRunsOf es) (sym c.self.view_is) c.entries.invariant.runs in
    let place : c.len-in-entries.result ≡ length r.starts = omega (arith, c.len-in-entries.ensures, c.self.inside.starts.ok.0) in
    let within : length r.starts < length es = omega (arith, c.entries-test.true, c.len.ensures, c.self.inside.starts.ok.0) in
    let at : slice_get es (length r.starts) ≡ Some e =
    subst (λ (i : ℕ). slice_get es i ≡ Some e) place (some_at es c.len-in-entries.result e (omega (arith, within, place)) ∙ ap Some (sym c.index-entries-len.is)) in
    let start : c.next_start-start.result ≡ next_start r e = c.next_start-start.ensures ∙ ap (λ (q : RunStarts). next_start q e) (sym c.self.view_is) in
    let starts : c.push.new.self.items ≡ r.starts ++ next_start r e ∷ [] = c.in_ok-push.ensures.items ∙ ap (λ (n : ℕ). r.starts ++ n ∷ []) start in
    record {
      runs = subst (λ (ss : List ℕ). AreRunsOf es (record { what = r.what; starts = ss })) (sym starts) (runs_more es r e before within at);
      what = ap (λ (q : RunStarts). q.what) c.self.view_is ∙ c.entries.invariant.what;
    }
