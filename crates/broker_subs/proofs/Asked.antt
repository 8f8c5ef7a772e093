-- What a subscription asks its dispatcher: where that has no consumer, its kind means nothing, and where it has some, it is the subscription's.
use Rattle.std.proofs.Common.{◌≡◌, ℕ, zero, suc, ◌+◌, ◌<◌, ◌==◌, Bool, true, false, List, [], ◌∷◌, length, refl, ap, sym, ◌∙◌, arith}
use Rattle.std.specs.Prelude.{nat_lt, not, ◌&&◌, ◌||◌, if◌then◌else◌, Option, Result, Ok, Err, Some, None, slice_get}
use Rattle.std.specs.List.{list_any}
use Rattle.geo_base.specs.declared.consumer.Consumer.{Consumer}
use Rattle.geo_base.specs.declared.entry.Entry.{Entry}
use Rattle.geo_base.specs.declared.frame.AckKind.{AckKind}
use Rattle.geo_base.specs.declared.frame.AckKind.TheVariants as ack_kind
use Rattle.geo_base.specs.declared.frame.SubKind.{SubKind}
use Rattle.geo_base.specs.declared.frame.SubKind.TheVariants as sub_kind
use Rattle.geo_base.specs.Acknowledging.{allows_cumulative}
use Rattle.geo_base.specs.Dispatcher.{is_due, least_due, least_due_from, pick}
use Rattle.geo_base.specs.Entry.{is_data, key_bytes}
use Rattle.geo_base.specs.Subscribing.{same_kind}
use Rattle.geo_base.specs.Subscription.{Subscription, has_consumer, is_of}
use Rattle.dispatcher.specs.declared.fault.AckFault.{AckFault}
use Rattle.dispatcher.specs.declared.fault.AckFault.TheVariants as ack_fault
use Rattle.dispatcher.specs.declared.offering.Choice.TheVariants as does
use Rattle.dispatcher.specs.Acks.{ack_answer, kind_answer}
use Rattle.dispatcher.specs.Dispatch.{Dispatch, sub_with, turns_away}
use Rattle.dispatcher.specs.Offers.{choice, choice_at, choice_data, choice_entry}

-- ---- who may join

abbrev turned : ℕ → SubKind → SubKind → List Consumer → Bool
turned c asked kind ks = list_any (is_of c) ks || (nat_lt 0 (length ks) && (not (same_kind asked kind) || same_kind asked sub_kind.Exclusive))

turned_alike : (c : ℕ) (asked kind own : SubKind) (ks : List Consumer) → (0 < length ks → kind ≡ own) → turned c asked kind ks ≡ turned c asked own ks
turned_alike c asked kind own [] kinds = refl
turned_alike c asked kind own (k ∷ ks) kinds = ap (λ (s : SubKind). turned c asked s (k ∷ ks)) (kinds (omega arith))

pub same_turning_away : (c : ℕ) (asked : SubKind) (s t : Subscription) → s.consumers ≡ t.consumers → (0 < length s.consumers → s.kind ≡ t.kind) → turns_away c asked s ≡ turns_away c asked t
same_turning_away c asked s t same kinds =
    turned_alike c asked s.kind t.kind s.consumers kinds ∙ ap (λ (ks : List Consumer). turned c asked t.kind ks) same

-- ---- which acknowledgement has an effect

any_some : (p : Consumer → Bool) (ks : List Consumer) → list_any p ks ≡ true → 0 < length ks
any_some p [] h = absurd cc
any_some p (k ∷ ks) h = omega arith

abbrev cumulative_answer : Bool → Result (Unit {0}) AckFault
cumulative_answer t = if t then Ok tt else Err ack_fault.CumulativeNotAllowed

kind_alike : (asked : AckKind) (s t : Subscription) → s.kind ≡ t.kind → kind_answer asked s ≡ kind_answer asked t
kind_alike ack_kind.Individual s t same = refl
kind_alike ack_kind.Cumulative s t same = ap (λ (k : SubKind). cumulative_answer (allows_cumulative k)) same

abbrev answered : Bool → AckKind → Subscription → Result (Unit {0}) AckFault
answered b asked s = if b then kind_answer asked s else Err ack_fault.ConsumerNotFound

answer_alike : (b : Bool) (asked : AckKind) (s t : Subscription) → (b ≡ true → s.kind ≡ t.kind)
    → answered b asked s ≡ answered b asked t
answer_alike true asked s t kinds = kind_alike asked s t (kinds refl)
answer_alike false asked s t kinds = refl

pub same_answer : (c id : ℕ) (asked : AckKind) (s t : Subscription) → s.consumers ≡ t.consumers → (0 < length s.consumers → s.kind ≡ t.kind) → ack_answer c id asked s ≡ ack_answer c id asked t
same_answer c id asked s t same kinds =
    answer_alike (has_consumer c id s) asked s t (λ found. kinds (any_some (λ (k : Consumer). is_of c k && (k.id == id)) s.consumers found))
    ∙ ap (λ (ks : List Consumer). answered (list_any (λ (k : Consumer). is_of c k && (k.id == id)) ks) asked t) same

-- ---- what is offered

picked_none : (kind : SubKind) (key : List ℕ) → pick kind [] key ≡ None
picked_none sub_kind.Exclusive key = refl
picked_none sub_kind.Shared key = refl
picked_none sub_kind.Failover key = refl
picked_none sub_kind.KeyShared key = refl

same_pick : (kind own : SubKind) (ks : List Consumer) (key : List ℕ) → (0 < length ks → kind ≡ own) → pick kind ks key ≡ pick own ks key
same_pick kind own [] key h = rw (picked_none kind key, picked_none own key) refl
same_pick kind own (k ∷ ks) key h = ap (λ (s : SubKind). pick s (k ∷ ks) key) (h (omega arith))

-- the same dispatcher of another kind
abbrev of_kind : SubKind → Dispatch → Dispatch
of_kind own d = record d { kind = own }

least_alike : (d : Dispatch) (own : SubKind) (cursor : List ℕ) (from more : ℕ) → least_due_from (sub_with cursor d) from more ≡ least_due_from (sub_with cursor (of_kind own d)) from more
least_alike d own cursor from zero = refl
least_alike d own cursor from (suc more) = ap (λ (o : Option ℕ). if is_due (sub_with cursor d) from then Some from else o) (least_alike d own cursor (from + 1) more)

entry_alike : (d : Dispatch) (own : SubKind) (i : ℕ) (o : Option Entry) → (0 < length d.consumers → d.kind ≡ own) → choice_entry pick d i o ≡ choice_entry pick (of_kind own d) i o
entry_alike d own i None kinds = refl
entry_alike d own i (Some e) kinds =
    ap (λ (o : Option ℕ). if is_data e.content then choice_data i o else does.Skip i) (same_pick d.kind own d.consumers (key_bytes e.meta.key) kinds)

at_alike : (d : Dispatch) (own : SubKind) (es : List Entry) (o : Option ℕ) → (0 < length d.consumers → d.kind ≡ own) → choice_at pick d es o ≡ choice_at pick (of_kind own d) es o
at_alike d own es None kinds = refl
at_alike d own es (Some i) kinds = entry_alike d own i (slice_get es i) kinds

pub same_choice : (d : Dispatch) (own : SubKind) (cursor : List ℕ) (es : List Entry) → (0 < length d.consumers → d.kind ≡ own) → choice pick d cursor es ≡ choice pick (record d { kind = own }) cursor es
same_choice d own cursor es kinds =
    at_alike d own es (least_due (sub_with cursor d) (length es)) kinds
    ∙ ap (λ (o : Option ℕ). choice_at pick (of_kind own d) es o) (least_alike d own cursor 0 (length es))
