-- How strictly a trace is judged (own): by the rules of `Audit` alone, or by one more, under which a cluster has no gap in what it has of
-- another one. A trace that stops anywhere keeps that rule, so it asks for no more than that messages come in their order, each of them.
use Rattle.std.specs.Prelude.{ℕ, ◌==◌, Bool, false, ◌||◌, List, [], ◌∷◌, length, Option, Some, None, slice_get, Result, Ok}
use Rattle.geo_base.specs.declared.entry.Entry.{Entry}
use Rattle.geo_base.specs.Audit.{Refusal, judged, refused, unless_broken}
use Rattle.geo_base.specs.Laws.{of_origin, outbound}
use Rattle.geo_base.specs.Mirror.{Mirror, Mirrors, mirror_at, opening_mirrors, told}
use Rattle.geo_base.specs.Run.{or_else}
use Rattle.geo_base.specs.Setup.{Setup}
use Rattle.geo_base.specs.TraceItems.{Act, Acks, Appends, Begins, Creates, Deletes, Item, Seeks, Writes}
use Rattle.audit.specs.Stored.{is_same_at}
use Rattle.audit.specs.declared.strictness.Strictness.{Strictness}
use Rattle.audit.specs.declared.strictness.Strictness.TheVariants as strictness

-- ---- 12: an entry of another cluster is the next one of those that this cluster has for it

-- of what cluster z stored first and has for cluster x, the first that x does not have, by their counts alone
abbrev pub next_of : ℕ → ℕ → Mirror → Mirror → Option Entry
next_of z x there here = slice_get (outbound z x there.entries) (length (of_origin z here.entries))

abbrev pub is_next : Setup → Mirrors → ℕ → ℕ → Entry → Bool
is_next s a t x e = is_same_at e (next_of e.ident.origin x (mirror_at s a t e.ident.origin) (mirror_at s a t x))

abbrev pub may_follow : Setup → Mirrors → ℕ → ℕ → Entry → Bool
may_follow s a t x e = (e.ident.origin == x) || is_next s a t x e

abbrev pub act_gaps : Setup → Mirrors → ℕ → ℕ → Act → Option ℕ
act_gaps s a t x (Appends p e by) = unless_broken 12 (may_follow s a t x e) None
act_gaps s a t x (Creates n latest) = None
act_gaps s a t x (Deletes n) = None
act_gaps s a t x (Acks n is c) = None
act_gaps s a t x (Seeks n i) = None

abbrev pub gaps : Setup → Mirrors → Item → Option ℕ
gaps s a (Begins n) = None
gaps s a (Writes t x act) = act_gaps s a t x act

-- ---- the lowest rule that a line breaks

abbrev pub refused_by : Strictness → Setup → Mirrors → Item → Option ℕ
refused_by strictness.Plain s a i = refused s a i
refused_by strictness.Whole s a i = or_else (refused s a i) (gaps s a i)

-- ---- the fold, as in `Audit`

abbrev pub audited_from_by : Strictness → Setup → Mirrors → List Item → Result Mirrors Refusal
audited_from_by k s a [] = Ok a
audited_from_by k s a (i ∷ is) = judged a.events (refused_by k s a i) (audited_from_by k s (told s a i) is)

abbrev pub audited_by : Strictness → Setup → List Item → Result Mirrors Refusal
audited_by k s is = audited_from_by k s (opening_mirrors s) is
