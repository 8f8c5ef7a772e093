use Rattle.std.proofs.Common.{◌≡◌, ◌∙◌, false, true, rules, sym, ap, arith}
use Rattle.std.specs.Prelude.{None, Some, slice_get}
use Rattle.std.proofs.lemmas.Grind.{common_steps}
use Rattle.audit.specs.Stored.{identity_of, is_same_at, place_in}
use Rattle.audit.proofs.Tables.{stands_other, stands_there, stands_unknown}
use Rattle.audit.proofs.stored.place_among.Goals as goal

pub returns-in_default : goal.returns-in_default
returns-in_default c =
    let rows = c.args.places.now.entries in let es = c.args.entries.now in let e = c.args.entry.now in
    let none : c.place_told.result ≡ None = first_of (search rules, cc, grind (arith, common_steps)) in
    stands_unknown rows es e c.requires.finds (ap (place_in rows) (sym c.requires.identity) ∙ (sym c.place_told.ensures ∙ none))

pub returns-then-not-stands_at : goal.returns-then-not-stands_at
returns-then-not-stands_at c =
    let rows = c.args.places.now.entries in let es = c.args.entries.now in let e = c.args.entry.now in let place = c.in-Some.place in
    let found : place_in rows (identity_of e.ident) ≡ Some place = ap (place_in rows) (sym c.requires.identity) ∙ (sym c.place_told.ensures ∙ c.in-Some.is) in
    let other : is_same_at e (slice_get es place) ≡ false = sym c.stands_at.ensures ∙ c.if-not-stands_at.true in
    stands_other rows es e place c.requires.finds found other

pub returns : goal.returns
returns c =
    let rows = c.args.places.now.entries in let es = c.args.entries.now in let e = c.args.entry.now in let place = c.in-Some.place in
    let found : place_in rows (identity_of e.ident) ≡ Some place = ap (place_in rows) (sym c.requires.identity) ∙ (sym c.place_told.ensures ∙ c.in-Some.is) in
    let same : is_same_at e (slice_get es place) ≡ true = sym c.stands_at.ensures ∙ c.if-not-stands_at.false in
    stands_there rows es e place c.requires.finds found same
