-- How much there is of each table, and that a line keeps it so.
use Rattle.std.proofs.Common.{◌≡◌, ℕ, zero, suc, ◌+◌, ◌*◌, ◌<◌, Bool, true, false, List, [], ◌∷◌, ◌++◌, length, refl, sym, ap, subst, ◌∙◌, arith}
use Rattle.std.specs.Prelude.{Some, slice_get, slice_index_or, slice_set}
use Rattle.std.proofs.lemmas.List.{get_or-replicate, length-replicate, length-set}
use Rattle.std.proofs.lemmas.Nat.{mul-add-lt}
use Rattle.std.proofs.lemmas.Option.{none-some, same_Some}
use Rattle.std.proofs.Math.Nat.{mul_assoc, mul_comm}
use Rattle.geo_base.specs.Setup.{Setup}
use Rattle.observation.specs.declared.said.Said.{Said}
use Rattle.observation.specs.declared.said.Said.TheVariants as said
use Rattle.observation.specs.Observed.{Seen, nothing_seen, seen_at}
use Rattle.observe.specs.Reads.{empty_seen, unread, with_cursor, with_entry, with_received, with_seen}
use Rattle.observe.specs.Topics.{IsOf, IsSaidOf}
use Rattle.observed_text.specs.declared.line.Line.{Line}
use Rattle.observed_text.specs.declared.line.Line.TheVariants as line
use Rattle.observed_text.specs.declared.line.Logged.TheVariants as logged
use Rattle.observed_text.specs.declared.line.Read.{Read}
use Rattle.observed_text.specs.declared.line.Read.TheVariants as read
use Rattle.observed_text.specs.Observing.{SoFar, cursor_of, line_taken, named, nothing_told, read_taken, told_place, with_said}
use Rattle.observed_text.specs.Sizes.{IsLineOf, IsSized}

-- the place of a replicator's cursor among all
pub told_within : (topics clusters t x y : ℕ) → t < topics → x < clusters → y < clusters → (t * clusters + x) * clusters + y < topics * (clusters * clusters)
told_within topics clusters t x y topic cluster to =
    let row = mul-add-lt t clusters x topics topic cluster in
    let place = mul-add-lt (t * clusters + x) clusters y (clusters * topics) row to in
    let turned : clusters * (clusters * topics) ≡ topics * (clusters * clusters) = sym (mul_assoc clusters clusters topics) ∙ mul_comm (clusters * clusters) topics in
    subst (λ (n : ℕ). (t * clusters + x) * clusters + y < n) turned place

-- ---- where nothing is told

pub opening_sized : (s : Setup) (quiet : Bool) → IsSized s (nothing_told s quiet)
opening_sized s quiet = record {
  topics = length-replicate (length s.topics * length s.clusters) (empty_seen (length s.clusters));
  received = λ t x topic cluster.
      let l = mul-add-lt t (length s.clusters) x (length s.topics) topic cluster in let c = mul_comm (length s.topics) (length s.clusters) in
      let within : t * length s.clusters + x < length s.topics * length s.clusters = omega (arith, l, c) in
      ap (λ (v : Seen). length v.received)
      (get_or-replicate (length s.topics * length s.clusters) (t * length s.clusters + x) (empty_seen (length s.clusters)) nothing_seen within)
      ∙ length-replicate (length s.clusters) [];
  subs = length-replicate (length s.topics) [];
  told = length-replicate (length s.topics * (length s.clusters * length s.clusters)) false;
  said = λ k l is. absurd (none-some l is);
}

-- ---- one line more

-- what holds of a value and of the one at a place holds of that after a change
at_set : {X : Type 0} (P : X → Type 0) (xs : List X) (k z : ℕ) (v d : X) → P v → P (slice_index_or xs z d) → P (slice_index_or (slice_set xs k v) z d)
at_set P [] k z v d new old = old
at_set P (x ∷ xs) zero zero v d new old = new
at_set P (x ∷ xs) zero (suc z) v d new old = old
at_set P (x ∷ xs) (suc k) zero v d new old = old
at_set P (x ∷ xs) (suc k) (suc z) v d new old = at_set P xs k z v d new old

said_more : (s : Setup) (ls : List Said) (m : Said) → ((k : ℕ) (l : Said) → slice_get ls k ≡ Some l → IsSaidOf s l) → IsSaidOf s m
    → (k : ℕ) (l : Said) → slice_get (ls ++ m ∷ []) k ≡ Some l → IsSaidOf s l
said_more s [] m all of zero l is = subst (IsSaidOf s) (same_Some m l is) of
said_more s [] m all of (suc k) l is = absurd (none-some l is)
said_more s (a ∷ ls) m all of zero l is = all 0 l is
said_more s (a ∷ ls) m all of (suc k) l is = said_more s ls m (λ j h at. all (suc j) h at) of k l is

-- a topic at a cluster that has a cursor for as many others as before
seen_sized : (s : Setup) (r : SoFar) (t x : ℕ) (v : Seen) (subs : List (List (List ℕ))) (told : List Bool) → IsSized s r → t < length s.topics → x < length s.clusters
    → length v.received ≡ length (seen_at s r.seen t x).received → length subs ≡ length r.subs → length told ≡ length r.told
    → IsSized s (record { seen = with_seen s r.seen t x v; subs = subs; told = told })
seen_sized s r t x v subs told h topic cluster same named marked = record {
  topics = length-set r.seen.topics (t * length s.clusters + x) v ∙ h.topics;
  received = λ u y topic' cluster'.
      at_set (λ (w : Seen). length w.received ≡ length s.clusters) r.seen.topics (t * length s.clusters + x) (u * length s.clusters + y) v nothing_seen
      (same ∙ h.received t x topic cluster) (h.received u y topic' cluster');
  subs = named ∙ h.subs;
  told = marked ∙ h.told;
  said = h.said;
}

said_sized : (s : Setup) (r : SoFar) (subs : List (List (List ℕ))) (l : Said) → IsSized s r → IsSaidOf s l → length subs ≡ length r.subs
    → IsSized s (record { seen = with_said r.seen l; subs = subs; told = r.told })
said_sized s r subs l h of named = record {
  topics = h.topics;
  received = h.received;
  subs = named ∙ h.subs;
  told = h.told;
  said = said_more s r.seen.said l h.said of;
}

named_length : (r : SoFar) (t : ℕ) (n : List ℕ) → length (named r t n) ≡ length r.subs
named_length r t n = length-set r.subs t _

read_sized : (s : Setup) (r : SoFar) (t x : ℕ) (a : Read) → IsSized s r → t < length s.topics → x < length s.clusters
    → IsSized s (read_taken s r t x (seen_at s r.seen t x) a)
read_sized s r t x (read.Entry p e) h topic cluster = seen_sized s r t x (with_entry (seen_at s r.seen t x) p e) r.subs r.told h topic cluster refl refl refl
read_sized s r t x (read.Cursor n ranges) h topic cluster =
    seen_sized s r t x (with_cursor (seen_at s r.seen t x) n (cursor_of ranges)) (named r t n) r.told h topic cluster refl (named_length r t n) refl
read_sized s r t x (read.Brought y ranges) h topic cluster =
    seen_sized s r t x (with_received (seen_at s r.seen t x) y (cursor_of ranges)) r.subs (slice_set r.told (told_place s t x y) true) h topic cluster
    (length-set (seen_at s r.seen t x).received y (cursor_of ranges)) refl (length-set r.told (told_place s t x y) true)
read_sized s r t x (read.Below n i) h topic cluster = said_sized s r (named r t n) (said.Below t x n i) h (topic, cluster) (named_length r t n)
read_sized s r t x (read.Unsure n) h topic cluster = said_sized s r (named r t n) (said.Unsure t x n) h (topic, cluster) (named_length r t n)
read_sized s r t x read.Unread h topic cluster = seen_sized s r t x (unread (seen_at s r.seen t x)) r.subs r.told h topic cluster refl refl refl
read_sized s r t x read.Trimmed h topic cluster = h

pub taken_sized : (s : Setup) (r : SoFar) (l : Line) → IsSized s r → IsLineOf s l → IsSized s (line_taken s r l)
taken_sized s r (line.Reads t x a) h of = read_sized s r t x a h of.0 of.1
taken_sized s r (line.Logs t (logged.Done n g)) h of = said_sized s r (named r t n) (said.Done t n g) h of.0 (named_length r t n)
taken_sized s r (line.Logs t (logged.Receipt g p)) h of = said_sized s r r.subs (said.Receipt t g p) h (of.0, of.1) refl

pub sized_of : (s : Setup) (r : SoFar) → IsSized s r → IsOf s r.seen
sized_of s r h = record { sized = h.topics; said = h.said }
