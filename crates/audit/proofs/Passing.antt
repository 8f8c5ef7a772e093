-- Which entries of a topic may be passed over, in the words of the rules.
use Rattle.std.proofs.Common.{◌≡◌, ℕ, Bool, true, false, List, [], ◌∷◌, ◌++◌, refl, sym, ap, subst, ◌∙◌}
use Rattle.std.specs.Prelude.{◌&&◌, nat_le, Option, Some, None, slice_get, Result, Ok, Err, OnOk, OnErr}
use Rattle.std.specs.List.{list_all}
use Rattle.geo_base.specs.declared.entry.Entry.{Entry}
use Rattle.geo_base.specs.declared.position.Position.{Position}
use Rattle.geo_base.specs.Audit.{are_markers, is_marker, is_passed, is_updated_at}
use Rattle.geo_base.specs.Mirror.{Mirror}
use Rattle.audit.proofs.EntryAcks.{all_runs_grow}
use Rattle.audit.specs.declared.runs.AckCause.TheVariants as passed
use Rattle.audit.specs.Runs.{AreAllRunsOf, RunStarts, all_acked_by, is_acked_at}
use Rattle.audit.specs.Stored.{TopicEntries}

-- an append, or want of memory for it
pub runs_after : {A E : Type 0} (r : Result A E) (s t : TopicEntries) (e : Entry) (p : Position) (rs : List RunStarts)
    → OnOk r (t ≡ record { entries = s.entries ++ e ∷ []; positions = s.positions ++ p ∷ [] }) → OnErr r (t ≡ s) → AreAllRunsOf s.entries rs → AreAllRunsOf t.entries rs
runs_after (Ok x) s t e p rs ok err h = subst (λ (u : TopicEntries). AreAllRunsOf u.entries rs) (sym ok) (all_runs_grow s.entries e rs h)
runs_after (Err x) s t e p rs ok err h = subst (λ (u : TopicEntries). AreAllRunsOf u.entries rs) (sym err) h

-- ---- the rules in these words

pub markers_passed : (m : Mirror) (is : List ℕ) → are_markers m is ≡ all_acked_by passed.Markers m.entries is
markers_passed m [] = refl
markers_passed m (i ∷ is) = by (slice_get m.entries i) (markers_passed m is)
  where
    by : (o : Option Entry) → are_markers m is ≡ all_acked_by passed.Markers m.entries is → (is_marker o && are_markers m is) ≡ (is_acked_at passed.Markers o && all_acked_by passed.Markers m.entries is)
    by None ih = refl
    by (Some e) ih = ap (λ (b : Bool). is_acked_at passed.Markers (Some e) && b) ih

pub follows_parts : (y j : ℕ) (m : Mirror) (is : List ℕ) → list_all (is_passed y j m) is ≡ (list_all (λ i. nat_le i j) is && all_acked_by (passed.By y) m.entries is)
follows_parts y j m [] = refl
follows_parts y j m (i ∷ is) =
    by (nat_le i j) (slice_get m.entries i) (list_all (λ k. nat_le k j) is) (all_acked_by (passed.By y) m.entries is) (list_all (is_passed y j m) is) (follows_parts y j m is)
  where
    four : (a b c d : Bool) → ((a && b) && (c && d)) ≡ ((a && c) && (b && d))
    four true true c d = refl
    four true false true d = refl
    four true false false d = refl
    four false b c d = refl

    by : (a : Bool) (o : Option Entry) (c d w : Bool) → w ≡ (c && d) → ((a && is_updated_at y o) && w) ≡ ((a && c) && (is_acked_at (passed.By y) o && d))
    by a None c d w e = ap (λ (b : Bool). (a && false) && b) e ∙ four a false c d
    by a (Some u) c d w e = ap (λ (b : Bool). (a && is_updated_at y (Some u)) && b) e ∙ four a (is_updated_at y (Some u)) c d
