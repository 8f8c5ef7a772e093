use Rattle.std.proofs.Common.{◌≡◌, ◌<◌, ◌∙◌, ℕ, ap, arith, length, subst, sym}
use Rattle.std.specs.Prelude.{Some, slice_get}
use Rattle.geo_base.specs.declared.entry.Entry.{Entry}
use Rattle.audit.specs.Covers.{AreNeeded, IsMissing, NeededHere, NeedsHere, is_covered_in}
use Rattle.audit.proofs.Needing.{needed_more, one_missing}
use Rattle.audit.proofs.EntryAcks.{some_at}
use Rattle.audit.proofs.covers.Needed.extend.Goals as goal

pub returns-in-None-clause-missing : goal.returns-in-None-clause-missing
returns-in-None-clause-missing c = λ short n.
    let here = c.args.here.now.entries in let there = c.args.there.now in let f : Entry = c.index-there-len.result in let k = c.len-in-entries.result in
    let lt : k < c.args.to = omega (arith, c.len.ensures, c.len-in-entries.ensures, c.entries-test.true) in
    let within : k < length there = omega (arith, lt, c.requires.to) in
    let at : slice_get there k ≡ Some f = some_at there k f within ∙ ap Some (sym c.index-there-len.is) in
    let own : c.self.inside.own ≡ c.args.self.now.own = ap (λ (q : NeededHere). q.own) c.self.view_is ∙ c.entries.invariant.own in
    let missing : IsMissing c.self.inside.own here f = rw c.in-None.is at c.in_ok-needed_for.ensures in
    one_missing (is_covered_in c.args.self.now.own here n) there c.args.to k f lt at (subst (λ (x : ℕ). IsMissing x here f) own missing n)

pub entries-preserved : goal.entries-preserved
entries-preserved c =
    let here = c.args.here.now.entries in let there = c.args.there.now in let f : Entry = c.index-there-len.result in
    let q : NeededHere = c.entries.self in
    let place : c.len-in-entries.result ≡ length q.needed = c.len-in-entries.ensures in
    let within : length q.needed < length there = omega (arith, place, c.len.ensures, c.entries-test.true, c.requires.to) in
    let at : slice_get there (length q.needed) ≡ Some f =
    subst (λ (i : ℕ). slice_get there i ≡ Some f) place (some_at there c.len-in-entries.result f (omega (arith, within, place)) ∙ ap Some (sym c.index-there-len.is)) in
    let needs : NeedsHere c.self.inside.own here f c.in-Some.count = rw c.in-Some.is at c.in_ok-needed_for.ensures in
    let own : c.self.inside.own ≡ q.own = ap (λ (r : NeededHere). r.own) c.self.view_is in
    let grown = c.in_ok-push-in-Some.ensures.ok in
    record {
      needed = subst (AreNeeded here there) (sym grown) (needed_more here there q f c.in-Some.count c.entries.invariant.needed within at (subst (λ (x : ℕ). NeedsHere x here f c.in-Some.count) own needs));
      own = ap (λ (r : NeededHere). r.own) grown ∙ c.entries.invariant.own;
      there = ap (λ (r : NeededHere). r.there) grown ∙ c.entries.invariant.there;
    }
