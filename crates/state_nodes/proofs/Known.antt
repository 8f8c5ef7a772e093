-- What is known of entries, subscriptions and replicators that were read.
use Rattle.std.proofs.Common.{◌≡◌, ℕ, ◌+◌, ◌≤◌, ◌==◌, Bool, true, false, List, [], length, Ok, inl, inr, refl, sym, ap, subst, ◌∙◌, arith}
use Rattle.std.specs.Prelude.{if◌then◌else◌, nat_le, Option, Some, None, ◌&&◌, is_none}
use Rattle.std.proofs.lemmas.Bool.{leb-true, eqb-true, eq-eqb, false≢true}
use Rattle.std.proofs.lemmas.Option.{none-some, same_Some}
use Rattle.state_items.specs.Origins.{origin_of}
use Rattle.state_items.specs.Stored.{IsStored}
use Rattle.geo_base.specs.declared.entry.Entry.{Entry}
use Rattle.geo_base.specs.declared.entry.Ident.{Ident}
use Rattle.geo_base.specs.Broker.{sub_named}
use Rattle.geo_base.specs.Name.{is_name}
use Rattle.geo_base.specs.Replicator.{Replicator, new_replicator}
use Rattle.geo_base.specs.Sizes.{entry_size, most_entry_size}
use Rattle.geo_base.specs.Subscribing.{most_subs}
use Rattle.geo_base.specs.Subscription.{Subscription}
use Rattle.message_meta.specs.Metadata.{IsMetaText, Metadata}
use Rattle.state_items.specs.declared.rule.Rule.TheVariants as rule
use Rattle.state_items.specs.Limits.{most_count}
use Rattle.state_items.specs.Reading.{judge, number_at, number_within, text_at}
use Rattle.state_items.specs.Ranges.{cursor_at}
use Rattle.state_items.specs.Telling.{Then}
use Rattle.state_items.proofs.Known.{came, cursor_known, judged, listed_all, listed_count, many_known, not_both, same_value, told, within_known}
use Rattle.geo_base.specs.Run.{most_events, most_sent_bytes}
use Rattle.state_nodes.specs.declared.counts.Counts.{Counts}
use Rattle.state_nodes.specs.declared.heading.Heading.{Heading}
use Rattle.state_nodes.specs.Counts.{counts_at}
use Rattle.state_nodes.specs.Entries.{IsEntry, IsHeading, IsPayload, IsSized, Says, headed, ident_of, is_next, nothing, something, with_origin}
use Rattle.state_nodes.specs.Fitting.{AreCounts, AreReplicators, AreSubs, IsPlace, IsReplicator, IsSub}
use Rattle.state_nodes.specs.Known.{IsKnownEntry}
use Rattle.state_nodes.specs.Replicators.{place_at, replicator_at, replicators_at}
use Rattle.state_nodes.specs.Subs.{byte_within, most_kind, name_at, seeks_at, sub_at, subs_at}
use Rattle.geo_base.proofs.Bools.{and_first, and_second}

-- ---- entries

record IsKnownHeading (names : List (List ℕ)) (own : ℕ) (before : List Entry) (text : List ℕ) (h : Heading) : Type 0 where
  pub says : IsMetaText text h.meta
  pub origin : origin_of names own h.meta.replicated_from ≡ Some h.origin
  pub next : is_next own before (ident_of h) ≡ true

said_is : (text : List ℕ) (o : Option Metadata) (m : Metadata) → o ≡ Some m → Says text o → IsMetaText text m
said_is text _ m e (something n h) = subst (IsMetaText text) (same_Some n m e) h
said_is text _ m e (nothing h) = absurd (none-some m e)

placed : (names : List (List ℕ)) (own : ℕ) (before : List Entry) (item text : List ℕ) (h : Heading) (m : Metadata) (o : Option ℕ) → origin_of names own m.replicated_from ≡ o → IsMetaText text m
    → with_origin own before item m o ≡ Ok h → IsKnownHeading names own before text h
placed names own before item text h m None e says is = absurd (not_both _ h is)
placed names own before item text h m (Some x) e says is =
    let made : Heading = record { meta = m; origin = x } in
    let a = came (judge (is_next own before (ident_of made)) item rule.Identity) (λ (new : Unit {0}). Ok made) h is in
    subst (IsKnownHeading names own before text) (same_value made h a.next) (record { says = says; origin = e; next = judged _ item rule.Identity a.first a.is })

headed_known : (names : List (List ℕ)) (own : ℕ) (before : List Entry) (item text : List ℕ) (h : Heading) (o : Option Metadata) → Says text o → headed names own before item o ≡ Ok h
    → IsKnownHeading names own before text h
headed_known names own before item text h None says is = absurd (not_both _ h is)
headed_known names own before item text h (Some m) says is =
    placed names own before item text h m (origin_of names own m.replicated_from) refl (said_is text (Some m) m refl says) is

heading_known : (names : List (List ℕ)) (own : ℕ) (before : List Entry) (item text : List ℕ) (h : Heading) → IsHeading names own before item text (Ok h) → IsKnownHeading names own before text h
heading_known names own before item text h k = headed_known names own before item text h k.said k.says (sym k.is)

abbrev ident : ℕ → List ℕ → ℕ → Ident
ident o p s = record { origin = o; producer = p; seq = s }

same_ident : (i : Ident) (o : ℕ) (p : List ℕ) (s : ℕ) → i.origin ≡ o → i.producer ≡ p → i.seq ≡ s → ident o p s ≡ i
same_ident i o p s a b c = ap (λ (x : ℕ). ident x p s) (sym a) ∙ ap (λ (x : List ℕ). ident i.origin x s) (sym b) ∙ ap (λ (x : ℕ). ident i.origin i.producer x) (sym c)

-- what metadata and a payload are
whole_known : (names : List (List ℕ)) (own : ℕ) (before : List Entry) (text : List ℕ) (h : Heading) (item payload : List ℕ) (e : Entry) → IsKnownHeading names own before text h
    → IsStored names h.meta h.origin payload e → nat_le (entry_size names e) most_entry_size ≡ true → IsKnownEntry names own before e
whole_known names own before text h item payload e k s small = record {
  meta = h.meta;
  text = text;
  payload = payload;
  says = k.says;
  stored = record { origin = refl; producer = s.producer; seq = s.seq; publish_time = s.publish_time; key = s.key; listed = s.listed; to = s.to; rest = s.rest; content = s.content };
  origin = k.origin ∙ ap (λ (x : ℕ). Some x) (sym s.origin);
  next = subst (λ (i : Ident). is_next own before i ≡ true) (same_ident e.ident h.origin h.meta.producer h.meta.seq s.origin s.producer s.seq) k.next;
  small = leb-true (entry_size names e) most_entry_size small;
}

sized_known : (names : List (List ℕ)) (own : ℕ) (before : List Entry) (text : List ℕ) (h : Heading) (item payload rest : List ℕ) (x : Entry × List ℕ) → IsKnownHeading names own before text h
    → IsSized names h item payload rest (Ok x) → IsKnownEntry names own before x.0
sized_known names own before text h item payload rest x k z =
    let e = z.entry in
    let a = came (judge (nat_le (entry_size names e) most_entry_size) item rule.Entry) (λ (small : Unit {0}). Ok (e, rest)) x (sym z.is) in
    let small = judged _ item rule.Entry a.first a.is in
    subst (λ (y : Entry × List ℕ). IsKnownEntry names own before y.0) (same_value (e, rest) x a.next) (whole_known names own before text h item payload e k z.stored small)

pub entry_known : (names : List (List ℕ)) (own : ℕ) (before : List Entry) (bytes : List ℕ) (x : Entry × List ℕ) → IsEntry names own before bytes (Ok x) → IsKnownEntry names own before x.0
entry_known names own before bytes x k =
    let a = told (λ r. r ≡ text_at bytes) (λ t r. Then (IsHeading names own before bytes t.0) (λ h q. IsPayload names h t.1 q) r) x k in
    let b = told (IsHeading names own before bytes a.first.0) (λ h q. IsPayload names h a.first.1 q) x a.next in
    let c = told (λ r. r ≡ text_at a.first.1) (λ p r. IsSized names b.first a.first.1 p.0 p.1 r) x b.next in
    sized_known names own before a.first.0 b.first a.first.1 c.first.0 c.first.1 x (heading_known names own before bytes a.first.0 b.first b.is) c.next

-- ---- subscriptions

named_known : (before : List Subscription) (bytes : List ℕ) (x : List ℕ × List ℕ) → name_at before bytes ≡ Ok x → (is_name x.0 && is_none (sub_named before x.0)) ≡ true
unfolding name_at
named_known before bytes x h =
    let a = came (text_at bytes) _ x h in
    let b = came (judge (is_name a.first.0 && is_none (sub_named before a.first.0)) bytes rule.Subscription) _ x a.next in
    subst (λ (y : List ℕ × List ℕ). (is_name y.0 && is_none (sub_named before y.0)) ≡ true) (same_value a.first x b.next) (judged _ bytes rule.Subscription b.first b.is)

seeks_known : (version : ℕ) (bytes : List ℕ) (x : ℕ × List ℕ) → seeks_at version bytes ≡ Ok x → x.0 ≤ most_count
unfolding seeks_at
seeks_known version bytes x h = by (version == 1) h
  where
    by : (b : Bool) → (if b then Ok (0, bytes) else number_within most_count rule.Count bytes) ≡ Ok x → x.0 ≤ most_count
    by true e = subst (λ (y : ℕ × List ℕ). y.0 ≤ most_count) (same_value (0, bytes) x e) (omega arith)
    by false e = within_known most_count rule.Count bytes x e

none_there : (o : Option Subscription) → is_none o ≡ true → o ≡ None
none_there None h = refl
none_there (Some s) h = absurd (false≢true h)

sub_known : (version n : ℕ) (before : List Subscription) (bytes : List ℕ) (x : Subscription × List ℕ) → sub_at version n before bytes ≡ Ok x → IsSub n before x.0
unfolding sub_at
sub_known version n before bytes x h =
    let a = came (name_at before bytes) _ x h in
    let b = came (byte_within most_kind a.first.1) _ x a.next in
    let c = came (byte_within 1 b.first.1) _ x b.next in
    let d = came (cursor_at n c.first.1) _ x c.next in
    let e = came (seeks_at version d.first.1) _ x d.next in
    let named = named_known before bytes a.first a.is in
    let free = is_none (sub_named before a.first.0) in
    subst (λ (y : Subscription × List ℕ). IsSub n before y.0) (same_value _ x e.next) (record {
      name = and_first (is_name a.first.0) free named;
      new = none_there (sub_named before a.first.0) (and_second (is_name a.first.0) free named);
      acked = cursor_known n c.first.1 d.first d.is;
      seeks = seeks_known version d.first.1 e.first e.is;
      at_rest = refl;
    })

pub subs_known : (version n : ℕ) (bytes : List ℕ) (x : List Subscription × List ℕ) → subs_at version n bytes ≡ Ok x → AreSubs n x.0
unfolding subs_at
subs_known version n bytes x h =
    let a = came (number_at bytes) _ x h in
    let b = came (judge (nat_le a.first.0 most_subs) bytes rule.Subscription) _ x a.next in
    let all = many_known (sub_at version n) (IsSub n) (sub_known version n) a.first.0 [] a.first.1 x b.next in
    record {
      few = subst (λ (k : ℕ). k ≤ most_subs) (sym (listed_count (IsSub n) a.first.0 x.0 all)) (leb-true a.first.0 most_subs (judged _ bytes rule.Subscription b.first b.is));
      each = listed_all (IsSub n) a.first.0 x.0 all;
    }

-- ---- replicators

replicator_known : (n : ℕ) (bytes : List ℕ) (x : Replicator × List ℕ) → replicator_at n bytes ≡ Ok x → IsReplicator n x.0
unfolding replicator_at
replicator_known n bytes x h =
    let a = came (number_within most_count rule.Count bytes) _ x h in
    let b = came (cursor_at n a.first.1) _ x a.next in
    subst (λ (y : Replicator × List ℕ). IsReplicator n y.0) (same_value _ x b.next) (record {
      session = within_known most_count rule.Count bytes a.first a.is;
      acked = cursor_known n a.first.1 b.first b.is;
      restarted = refl;
    })

place_known : (n own : ℕ) (before : List Replicator) (bytes : List ℕ) (x : Replicator × List ℕ) → place_at n own before bytes ≡ Ok x → IsPlace n own before x.0
place_known n own before bytes x h = by (length before == own) refl h
  where
    by : (b : Bool) → (length before == own) ≡ b → (if b then Ok (new_replicator, bytes) else replicator_at n bytes) ≡ Ok x → IsPlace n own before x.0
    by true is e = inl (eqb-true (length before) own is, ap (λ (y : Replicator × List ℕ). y.0) (sym (same_value (new_replicator, bytes) x e)))
    by false is e = inr (λ same. false≢true (sym is ∙ eq-eqb (length before) own same), replicator_known n bytes x e)

pub record AllReplicators (n own clusters : ℕ) (ss : List Replicator) : Type 0 where
  pub count : length ss ≡ clusters
  pub each : AreReplicators n own ss

pub replicators_known : (n own clusters : ℕ) (bytes : List ℕ) (x : List Replicator × List ℕ) → replicators_at n own clusters bytes ≡ Ok x → AllReplicators n own clusters x.0
replicators_known n own clusters bytes x h =
    let all = many_known (place_at n own) (IsPlace n own) (place_known n own) clusters [] bytes x h in
    record { count = listed_count (IsPlace n own) clusters x.0 all; each = listed_all (IsPlace n own) clusters x.0 all }

-- ---- counts

pub counts_known : (bytes : List ℕ) (x : Counts × List ℕ) → counts_at bytes ≡ Ok x → AreCounts x.0
unfolding counts_at
counts_known bytes x h =
    let a = came (number_within most_count rule.Count bytes) _ x h in
    let b = came (number_at a.first.1) _ x a.next in
    let idle = nat_le b.first.0 most_count in
    let run = nat_le (a.first.0 + b.first.0) most_events in
    let c = came (judge (idle && run) a.first.1 rule.Count) _ x b.next in
    let d = came (number_within most_count rule.Count b.first.1) _ x c.next in
    let e = came (number_within most_sent_bytes rule.Count d.first.1) _ x d.next in
    let few = judged _ a.first.1 rule.Count c.first c.is in
    subst (λ (y : Counts × List ℕ). AreCounts y.0) (same_value _ x e.next) (record {
      events = within_known most_count rule.Count bytes a.first a.is;
      idle = leb-true b.first.0 most_count (and_first idle run few);
      run = leb-true (a.first.0 + b.first.0) most_events (and_second idle run few);
      rounds = within_known most_count rule.Count b.first.1 d.first d.is;
      sent = within_known most_sent_bytes rule.Count d.first.1 e.first e.is;
    })
