use Rattle.std.proofs.Common.{◌≡◌, ◌<◌, ◌∙◌, ℕ, List, Ok, Err, inr, length, refl, subst, sym, ap, arith}
use Rattle.std.proofs.lemmas.Result.{err_from_is_err_and}
use Rattle.std.specs.Prelude.{Some, not, slice_get, slice_set}
use Rattle.geo_base.specs.declared.entry.Entry.{Entry}
use Rattle.tiered_storage.specs.Readable.{AreReadable, AreTellable}
use Rattle.tiered_storage.specs.Texts.{ledger_text}
use Rattle.tiered_storage.specs.Kept.{Puts}
use Rattle.topic_store.specs.Firsts.{lengths_of}
use Rattle.tiered_storage.specs.declared.offload_fault.OffloadFault.TheVariants as fault
use Rattle.tiered_storage.specs.declared.part.Part.{Part}
use Rattle.tiered_storage.specs.declared.part.Part.TheVariants as part
use Rattle.tiered_storage.specs.Calls.{AtMostOne, Comes, calls_if, fault_of, is_offloaded}
use Rattle.tiered_storage.specs.Ledgers.{entries_in}
use Rattle.tiered_storage.specs.Tiered.{Holds, Tiered}
use Rattle.tiered_storage.proofs.Cutting.{ledger_tellable}
use Rattle.tiered_storage.proofs.Keeping.{away_is, closed_comes, here_is, moved, not_moved, open_comes, part_at, set_same, unknown_comes}
use Rattle.tiered_storage.proofs.tiered.TieredLedger.offload.Goals as goal

pub returns-in_default-clause-kept : goal.returns-in_default-clause-kept
returns-in_default-clause-kept g c =
    let t : Tiered g.row.T.Denot = record { own = c.self.inside.own; ledgers = lengths_of c.self.inside.firsts.items c.self.inside.len; unclosed = c.self.inside.unclosed; parts = c.self.inside.parts.items; recalled = c.self.inside.recalled; tier = c.self.inside.tier } in
    let holds : Holds c.args.names.now g.T.Tier.kept g.entries t = subst (λ (v : Tiered g.row.T.Denot). Holds c.args.names.now g.T.Tier.kept g.entries v) (sym c.self.view_is) c.requires.1 in
    let within : c.args.ledger < length c.self.inside.parts.items = let low = c.if-ledger-self.false in let other = c.if-ledger-self-2.false in let closed = holds.closed in omega (arith, low, other, closed) in
    let away : slice_get t.parts c.args.ledger ≡ Some part.Away = part_at c.self.inside.parts.items c.args.ledger c.index.result.now part.Away within c.index.ensures c.in_default.is in
    let text = (away_is c.args.names.now g.T.Tier.kept g.entries t c.args.ledger holds away).text in
    subst (λ (v : Tiered g.row.T.Denot). g.T.Tier.kept v.tier c.args.ledger ≡ Some (ledger_text c.args.names.now v.own (entries_in v.ledgers g.entries c.args.ledger))) c.self.view_is text

pub returns-in_default-clause-calls : goal.returns-in_default-clause-calls
returns-in_default-clause-calls g c =
    let t : Tiered g.row.T.Denot = record { own = c.self.inside.own; ledgers = lengths_of c.self.inside.firsts.items c.self.inside.len; unclosed = c.self.inside.unclosed; parts = c.self.inside.parts.items; recalled = c.self.inside.recalled; tier = c.self.inside.tier } in
    let holds : Holds c.args.names.now g.T.Tier.kept g.entries t = subst (λ (v : Tiered g.row.T.Denot). Holds c.args.names.now g.T.Tier.kept g.entries v) (sym c.self.view_is) c.requires.1 in
    let within : c.args.ledger < length c.self.inside.parts.items = let low = c.if-ledger-self.false in let other = c.if-ledger-self-2.false in let closed = holds.closed in omega (arith, low, other, closed) in
    let away : slice_get t.parts c.args.ledger ≡ Some part.Away = part_at c.self.inside.parts.items c.args.ledger c.index.result.now part.Away within c.index.ensures c.in_default.is in
    let none : g.T.Tier.calls t.tier ≡ calls_if (not (is_offloaded t c.args.ledger)) (g.T.Tier.calls t.tier) = rw away refl in
    subst (λ (v : Tiered g.row.T.Denot). g.T.Tier.calls v.tier ≡ calls_if (not (is_offloaded v c.args.ledger)) (g.T.Tier.calls v.tier)) c.self.view_is none

pub text_of-requires : goal.text_of-requires
text_of-requires g c =
    let t : Tiered g.row.T.Denot = record { own = c.self.inside.own; ledgers = lengths_of c.self.inside.firsts.items c.self.inside.len; unclosed = c.self.inside.unclosed; parts = c.self.inside.parts.items; recalled = c.self.inside.recalled; tier = c.self.inside.tier } in
    let holds : Holds c.args.names.now g.T.Tier.kept g.entries t = subst (λ (v : Tiered g.row.T.Denot). Holds c.args.names.now g.T.Tier.kept g.entries v) (sym c.self.view_is) c.requires.1 in
    let within : c.args.ledger < length c.self.inside.parts.items = let low = c.if-ledger-self.false in let other = c.if-ledger-self-2.false in let closed = holds.closed in omega (arith, low, other, closed) in
    let here : slice_get t.parts c.args.ledger ≡ Some (part.Here c.in-Here.entries) = part_at c.self.inside.parts.items c.args.ledger c.index.result.now (part.Here c.in-Here.entries) within c.index.ensures c.in-Here.is in
    let is : c.as_slice.result.now ≡ entries_in t.ledgers g.entries c.args.ledger = c.as_slice.ensures ∙ here_is c.args.names.now g.T.Tier.kept g.entries t c.args.ledger c.in-Here.entries holds here in
    subst (λ (xs : List Entry). AreTellable c.args.names.now t.own xs) (sym is) (ledger_tellable c.args.names.now t.own t.ledgers g.entries c.args.ledger holds.tellable)

pub returns-in_err-put-clause-holds : goal.returns-in_err-put-clause-holds
returns-in_err-put-clause-holds g c =
    let t : Tiered g.row.T.Denot = record { own = c.self.inside.own; ledgers = lengths_of c.self.inside.firsts.items c.self.inside.len; unclosed = c.self.inside.unclosed; parts = c.self.inside.parts.items; recalled = c.self.inside.recalled; tier = c.self.inside.tier } in
    let holds : Holds c.args.names.now g.T.Tier.kept g.entries t = subst (λ (v : Tiered g.row.T.Denot). Holds c.args.names.now g.T.Tier.kept g.entries v) (sym c.self.view_is) c.requires.1 in
    let within : c.args.ledger < length c.self.inside.parts.items = let low = c.if-ledger-self.false in let other = c.if-ledger-self-2.false in let closed = holds.closed in omega (arith, low, other, closed) in
    let here : slice_get t.parts c.args.ledger ≡ Some (part.Here c.in-Here.entries) = part_at c.self.inside.parts.items c.args.ledger c.index.result.now (part.Here c.in-Here.entries) within c.index.ensures c.in-Here.is in
    not_moved c.args.names.now g.T.Tier.kept g.entries t c.put.new.self c.args.ledger c.in-Here.entries c.as_slice-2.result.now holds here c.in_err-put.ensures.err

pub returns-clause-holds : goal.returns-clause-holds
returns-clause-holds g c =
    let t : Tiered g.row.T.Denot = record { own = c.self.inside.own; ledgers = lengths_of c.self.inside.firsts.items c.self.inside.len; unclosed = c.self.inside.unclosed; parts = c.self.inside.parts.items; recalled = c.self.inside.recalled; tier = c.self.inside.tier } in
    let holds : Holds c.args.names.now g.T.Tier.kept g.entries t = subst (λ (v : Tiered g.row.T.Denot). Holds c.args.names.now g.T.Tier.kept g.entries v) (sym c.self.view_is) c.requires.1 in
    let within : c.args.ledger < length c.self.inside.parts.items = let low = c.if-ledger-self.false in let other = c.if-ledger-self-2.false in let closed = holds.closed in omega (arith, low, other, closed) in
    let here : slice_get t.parts c.args.ledger ≡ Some (part.Here c.in-Here.entries) = part_at c.self.inside.parts.items c.args.ledger c.index.result.now (part.Here c.in-Here.entries) within c.index.ensures c.in-Here.is in
    let bytes : c.as_slice-2.result.now ≡ ledger_text c.args.names.now t.own c.in-Here.entries = c.as_slice-2.ensures ∙ c.in_ok-text.ensures.text ∙ ap (ledger_text c.args.names.now t.own) c.as_slice.ensures in
    let puts : Puts (g.T.Tier.kept t.tier) (g.T.Tier.kept c.put.new.self) c.args.ledger (ledger_text c.args.names.now t.own c.in-Here.entries) =
    subst (λ (b : List ℕ). Puts (g.T.Tier.kept t.tier) (g.T.Tier.kept c.put.new.self) c.args.ledger b) bytes c.in_ok-put.ensures.ok in
    let readable : AreReadable c.args.names.now t.own c.in-Here.entries = subst (λ (xs : List Entry). AreReadable c.args.names.now t.own xs) c.as_slice.ensures c.in_ok-text.ensures.readable in
    moved c.args.names.now g.T.Tier.kept g.entries t c.put.new.self c.args.ledger c.in-Here.entries holds here readable puts

pub returns-clause-kept : goal.returns-clause-kept
returns-clause-kept g c =
    let t : Tiered g.row.T.Denot = record { own = c.self.inside.own; ledgers = lengths_of c.self.inside.firsts.items c.self.inside.len; unclosed = c.self.inside.unclosed; parts = c.self.inside.parts.items; recalled = c.self.inside.recalled; tier = c.self.inside.tier } in
    let holds : Holds c.args.names.now g.T.Tier.kept g.entries t = subst (λ (v : Tiered g.row.T.Denot). Holds c.args.names.now g.T.Tier.kept g.entries v) (sym c.self.view_is) c.requires.1 in
    let within : c.args.ledger < length c.self.inside.parts.items = let low = c.if-ledger-self.false in let other = c.if-ledger-self-2.false in let closed = holds.closed in omega (arith, low, other, closed) in
    let here : slice_get t.parts c.args.ledger ≡ Some (part.Here c.in-Here.entries) = part_at c.self.inside.parts.items c.args.ledger c.index.result.now (part.Here c.in-Here.entries) within c.index.ensures c.in-Here.is in
    let bytes : c.as_slice-2.result.now ≡ ledger_text c.args.names.now t.own c.in-Here.entries = c.as_slice-2.ensures ∙ c.in_ok-text.ensures.text ∙ ap (ledger_text c.args.names.now t.own) c.as_slice.ensures in
    let puts : Puts (g.T.Tier.kept t.tier) (g.T.Tier.kept c.put.new.self) c.args.ledger (ledger_text c.args.names.now t.own c.in-Here.entries) =
    subst (λ (b : List ℕ). Puts (g.T.Tier.kept t.tier) (g.T.Tier.kept c.put.new.self) c.args.ledger b) bytes c.in_ok-put.ensures.ok in
    let is : c.in-Here.entries ≡ entries_in t.ledgers g.entries c.args.ledger = here_is c.args.names.now g.T.Tier.kept g.entries t c.args.ledger c.in-Here.entries holds here in
    let text : g.T.Tier.kept c.put.new.self c.args.ledger ≡ Some (ledger_text c.args.names.now t.own (entries_in t.ledgers g.entries c.args.ledger)) = puts.0 ∙ ap (λ (xs : List Entry). Some (ledger_text c.args.names.now t.own xs)) is in
    subst (λ (v : Tiered g.row.T.Denot). g.T.Tier.kept c.put.new.self c.args.ledger ≡ Some (ledger_text c.args.names.now v.own (entries_in v.ledgers g.entries c.args.ledger))) c.self.view_is text

pub returns-clause-calls : goal.returns-clause-calls
returns-clause-calls g c =
    let t : Tiered g.row.T.Denot = record { own = c.self.inside.own; ledgers = lengths_of c.self.inside.firsts.items c.self.inside.len; unclosed = c.self.inside.unclosed; parts = c.self.inside.parts.items; recalled = c.self.inside.recalled; tier = c.self.inside.tier } in
    let holds : Holds c.args.names.now g.T.Tier.kept g.entries t = subst (λ (v : Tiered g.row.T.Denot). Holds c.args.names.now g.T.Tier.kept g.entries v) (sym c.self.view_is) c.requires.1 in
    let within : c.args.ledger < length c.self.inside.parts.items = let low = c.if-ledger-self.false in let other = c.if-ledger-self-2.false in let closed = holds.closed in omega (arith, low, other, closed) in
    let here : slice_get t.parts c.args.ledger ≡ Some (part.Here c.in-Here.entries) = part_at c.self.inside.parts.items c.args.ledger c.index.result.now (part.Here c.in-Here.entries) within c.index.ensures c.in-Here.is in
    let one : g.T.Tier.calls c.put.new.self ≡ calls_if (not (is_offloaded t c.args.ledger)) (g.T.Tier.calls t.tier) = rw here c.put.ensures.counted in
    subst (λ (v : Tiered g.row.T.Denot). g.T.Tier.calls c.put.new.self ≡ calls_if (not (is_offloaded v c.args.ledger)) (g.T.Tier.calls v.tier)) c.self.view_is one

pub returns-then-ledger-self-clause-cause : goal.returns-then-ledger-self-clause-cause
returns-then-ledger-self-clause-cause g c =
    subst (λ (v : Tiered g.row.T.Denot). Comes (fault_of v.unclosed c.args.ledger) (Err (fault.Unknown c.args.ledger))) c.self.view_is (unknown_comes c.self.inside.unclosed c.args.ledger (let over = c.if-ledger-self.true in omega (arith, over)))

pub returns-then-ledger-self-2-clause-cause : goal.returns-then-ledger-self-2-clause-cause
returns-then-ledger-self-2-clause-cause g c =
    subst (λ (v : Tiered g.row.T.Denot). Comes (fault_of v.unclosed c.args.ledger) (Err (fault.Open c.args.ledger))) c.self.view_is (open_comes c.self.inside.unclosed c.args.ledger (let same = c.if-ledger-self-2.true in omega (arith, same)))

pub returns-in_default-clause-cause : goal.returns-in_default-clause-cause
returns-in_default-clause-cause g c =
    let low : c.args.ledger < c.self.inside.unclosed = let below = c.if-ledger-self.false in let other = c.if-ledger-self-2.false in omega (arith, below, other) in
    subst (λ (v : Tiered g.row.T.Denot). Comes (fault_of v.unclosed c.args.ledger) (Ok tt)) c.self.view_is (closed_comes c.self.inside.unclosed c.args.ledger (Ok tt) low tt)

pub returns-in_default-clause-value : goal.returns-in_default-clause-value
returns-in_default-clause-value g c =
    let t : Tiered g.row.T.Denot = record { own = c.self.inside.own; ledgers = lengths_of c.self.inside.firsts.items c.self.inside.len; unclosed = c.self.inside.unclosed; parts = c.self.inside.parts.items; recalled = c.self.inside.recalled; tier = c.self.inside.tier } in
    let holds : Holds c.args.names.now g.T.Tier.kept g.entries t = subst (λ (v : Tiered g.row.T.Denot). Holds c.args.names.now g.T.Tier.kept g.entries v) (sym c.self.view_is) c.requires.1 in
    let within : c.args.ledger < length c.self.inside.parts.items = let low = c.if-ledger-self.false in let other = c.if-ledger-self-2.false in let closed = holds.closed in omega (arith, low, other, closed) in
    let away : slice_get t.parts c.args.ledger ≡ Some part.Away = part_at c.self.inside.parts.items c.args.ledger c.index.result.now part.Away within c.index.ensures c.in_default.is in
    subst (λ (v : Tiered g.row.T.Denot). ◌≡◌ {A = Tiered g.row.T.Denot} v (record v { parts = slice_set v.parts c.args.ledger part.Away })) c.self.view_is
    (ap (λ (ps : List Part). record t { parts = ps }) (sym (set_same t.parts c.args.ledger part.Away away)))

pub returns-in_err-text-clause-cause : goal.returns-in_err-text-clause-cause
returns-in_err-text-clause-cause g c =
    let low : c.args.ledger < c.self.inside.unclosed = let below = c.if-ledger-self.false in let other = c.if-ledger-self-2.false in omega (arith, below, other) in
    let p = err_from_is_err_and c.from_residual.result c.from_residual.ensures.1 in
    rw (p.1, p.2) (subst (λ (v : Tiered g.row.T.Denot). Comes (fault_of v.unclosed c.args.ledger) (Err fault.Memory)) c.self.view_is (closed_comes c.self.inside.unclosed c.args.ledger (Err fault.Memory) low tt))

pub returns-in_err-put-clause-cause : goal.returns-in_err-put-clause-cause
returns-in_err-put-clause-cause g c =
    let low : c.args.ledger < c.self.inside.unclosed = let below = c.if-ledger-self.false in let other = c.if-ledger-self-2.false in omega (arith, below, other) in
    let p = err_from_is_err_and c.from_residual-in_err-put.result c.from_residual-in_err-put.ensures.1 in
    rw (p.1, p.2) (subst (λ (v : Tiered g.row.T.Denot). Comes (fault_of v.unclosed c.args.ledger) (Err fault.Failed)) c.self.view_is (closed_comes c.self.inside.unclosed c.args.ledger (Err fault.Failed) low tt))

pub returns-in_err-put-clause-one : goal.returns-in_err-put-clause-one
returns-in_err-put-clause-one g c =
    subst (λ (v : Tiered g.row.T.Denot). AtMostOne (g.T.Tier.calls v.tier) (g.T.Tier.calls c.put.new.self)) c.self.view_is (inr c.put.ensures.counted)

pub returns-in_err-put-clause-value : goal.returns-in_err-put-clause-value
returns-in_err-put-clause-value g c =
    let t : Tiered g.row.T.Denot = record { own = c.self.inside.own; ledgers = lengths_of c.self.inside.firsts.items c.self.inside.len; unclosed = c.self.inside.unclosed; parts = c.self.inside.parts.items; recalled = c.self.inside.recalled; tier = c.self.inside.tier } in
    let p = err_from_is_err_and c.from_residual-in_err-put.result c.from_residual-in_err-put.ensures.1 in
    rw p.1 (subst (λ (v : Tiered g.row.T.Denot). ◌≡◌ {A = Tiered g.row.T.Denot} (record t { tier = c.put.new.self }) (record v { tier = c.put.new.self })) c.self.view_is refl)

pub returns-clause-cause : goal.returns-clause-cause
returns-clause-cause g c =
    let low : c.args.ledger < c.self.inside.unclosed = let below = c.if-ledger-self.false in let other = c.if-ledger-self-2.false in omega (arith, below, other) in
    subst (λ (v : Tiered g.row.T.Denot). Comes (fault_of v.unclosed c.args.ledger) (Ok tt)) c.self.view_is (closed_comes c.self.inside.unclosed c.args.ledger (Ok tt) low tt)

pub returns-clause-one : goal.returns-clause-one
returns-clause-one g c =
    subst (λ (v : Tiered g.row.T.Denot). AtMostOne (g.T.Tier.calls v.tier) (g.T.Tier.calls c.put.new.self)) c.self.view_is (inr c.put.ensures.counted)

pub returns-clause-value : goal.returns-clause-value
returns-clause-value g c =
    let t : Tiered g.row.T.Denot = record { own = c.self.inside.own; ledgers = lengths_of c.self.inside.firsts.items c.self.inside.len; unclosed = c.self.inside.unclosed; parts = c.self.inside.parts.items; recalled = c.self.inside.recalled; tier = c.self.inside.tier } in
    subst (λ (v : Tiered g.row.T.Denot). ◌≡◌ {A = Tiered g.row.T.Denot} (record t { parts = slice_set t.parts c.args.ledger part.Away; tier = c.put.new.self }) (record v { parts = slice_set v.parts c.args.ledger part.Away; tier = c.put.new.self })) c.self.view_is refl
