-- An accepted line keeps all that, so what all lines make of topics and subscriptions is safe.
use Rattle.std.proofs.Common.{◌≡◌, ℕ, ◌*◌, true, List, [], ◌∷◌, ◌++◌, length, refl, sym, ap, subst, ◌∙◌}
use Rattle.std.specs.Prelude.{None, slice_index_or, Ok}
use Rattle.std.specs.List.{AllByRecursion, list_any}
use Rattle.std.proofs.lemmas.List.{append_assoc, get_or-replicate, length-replicate}
use Rattle.std.proofs.lemmas.Option.{none-some}
use Rattle.world_laws.proofs.Types.{Ident}
use Rattle.geo_base.specs.Entry.{same_ident}
use Rattle.geo_base.specs.Settled.{SettledSoFar}
use Rattle.geo_base.specs.Setup.{Setup}
use Rattle.world_laws.proofs.Telling.OnlyTold.{first_included}
use Rattle.world_laws.proofs.Replicating.Sizes.{node_lt}
use Rattle.world_laws.proofs.Telling.Told.{Includes, told_too}
use Rattle.geo_base.specs.TraceItems.{Acks, Appends, Begins, Creates, Deletes, Item, Seeks, Writes}
use Rattle.geo_base.specs.Mirror.{Mirror, Mirrors, mirror_at, no_mirror, opening_mirrors, mirror_number, settled_by, told}
use Rattle.geo_base.specs.Audit.{audited_from, refused, settled_from}
use Rattle.trace_laws.specs.Audited.{IsItemOf, LawAudited, all_told}
use Rattle.trace_laws.proofs.Kept.{Kept, Lengthened, TopicKept, all_lengths, as_before, left_alone}
use Rattle.trace_laws.proofs.Refusals.{accepted}
use Rattle.trace_laws.proofs.AppendLines.{appends_kept}
use Rattle.trace_laws.proofs.SubLines.{acks_kept, creates_kept, deletes_kept, seeks_kept}

-- with more settled, and another count of events
same_topics : (s : Setup) (a a' : Mirrors) (settled more : SettledSoFar) → a'.topics ≡ a.topics → Includes settled more → Kept s a settled → Kept s a' more
same_topics s a a' settled more same all kept =
    let grown : Lengthened s a a' = λ t x there.
    let m : List Mirror → Mirror = λ ms. slice_index_or ms (mirror_number s t x) no_mirror in
    as_before (mirror_at s a t x) (mirror_at s a' t x) (ap (λ (ms : List Mirror). (m ms).entries) same) (ap (λ (ms : List Mirror). (m ms).positions) same) in
    record {
      sized = ap (λ (ms : List Mirror). length ms) same ∙ kept.sized;
      topics = λ t x there.
          subst (λ (ms : List Mirror). TopicKept s a' more t x (slice_index_or ms (mirror_number s t x) no_mirror)) (sym same)
          (left_alone s a a' settled more t x (mirror_at s a t x) (all_lengths s a settled kept) grown all there (kept.topics t x there));
    }

one_line : (s : Setup) (a : Mirrors) (settled : SettledSoFar) (i : Item) → IsItemOf s i → Kept s a settled → refused s a i ≡ None
    → Kept s (told s a i) (told_too settled (settled_by s a i))
unfolding refused
one_line s a settled (Begins n) of kept h = same_topics s a (told s a (Begins n)) settled _ refl (first_included settled (settled_by s a (Begins n))) kept
one_line s a settled (Writes t x (Appends p e by_position)) of kept h =
    same_topics s _ _ settled _ refl (first_included settled (settled_by s a (Writes t x (Appends p e by_position)))) (appends_kept s a settled t x p e by_position (of.0, of.1) of.2 kept h)
one_line s a settled (Writes t x (Creates n latest)) of kept h = creates_kept s a settled t x n latest (of.0, of.1) kept
one_line s a settled (Writes t x (Deletes n)) of kept h = deletes_kept s a settled t x n (of.0, of.1) kept
one_line s a settled (Writes t x (Acks n is c)) of kept h = acks_kept s a settled t x n is c (of.0, of.1) kept h
one_line s a settled (Writes t x (Seeks n i)) of kept h = seeks_kept s a settled t x n i (of.0, of.1) kept h

all_lines : (s : Setup) (a b : Mirrors) (settled : SettledSoFar) (before after : List Item) → AllByRecursion (IsItemOf s) (before ++ after) → Kept s a settled
    → audited_from s a (before ++ after) ≡ Ok b → Kept s (all_told s a before) (told_too settled (λ t n. settled_from s a before t n))
all_lines s a b settled [] after of kept h = same_topics s a a settled _ refl (first_included settled (λ t n. [])) kept
all_lines s a b settled (i ∷ is) after of kept h =
    let both = accepted a.events (refused s a i) (audited_from s (told s a i) (is ++ after)) b h in
    let next : SettledSoFar = told_too settled (settled_by s a i) in
    let rest : SettledSoFar = λ t n. settled_from s (told s a i) is t n in
    same_topics s _ _ (told_too next rest) _ refl
    (λ t n e k. subst (λ (l : List Ident). list_any (same_ident e.ident) l ≡ true) (append_assoc (settled t n) (settled_by s a i t n) (rest t n)) k)
    (all_lines s (told s a i) b next is after of.1 (one_line s a settled i of.0 kept both.0) both.1)

opening_kept : (s : Setup) → Kept s (opening_mirrors s) (λ t n. [])
opening_kept s = record {
  sized = length-replicate (length s.topics * length s.clusters) no_mirror;
  topics = λ t x there.
      subst (TopicKept s (opening_mirrors s) (λ t n. []) t x)
      (sym (get_or-replicate (length s.topics * length s.clusters) (mirror_number s t x) no_mirror no_mirror (node_lt s t x there)))
      (record {
        lengths = refl;
        origins = λ i e at. absurd (none-some e at);
        once = λ i j e f lt at. absurd (none-some e at);
        only = λ k v at. absurd (none-some v at);
        snapshots = λ i e id local remote at. absurd (none-some e at);
        updates = λ i e n remote at. absurd (none-some e at);
      });
}

pub audited_safe : LawAudited
audited_safe s before after a of h =
    let kept = all_lines s (opening_mirrors s) a (λ t n. []) before after of (opening_kept s) h in
    record {
      only = λ t x k v lt small at. (kept.topics t x (lt, small)).only k v at;
      once = λ t x lt small. (kept.topics t x (lt, small)).once;
    }
