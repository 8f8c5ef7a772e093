-- What a write of the cursor leaves to be forgotten, and that forgetting just that is forgetting all.
use Rattle.std.proofs.Common.{◌≡◌, ℕ, ◌+◌, ◌<◌, ◌==◌, Bool, true, false, List, [], ◌∷◌, length, refl, ap, sym, ◌∙◌, arith}
use Rattle.std.specs.Prelude.{nat_le, not, ◌||◌, if◌then◌else◌}
use Rattle.std.specs.List.{filter}
use Rattle.std.proofs.lemmas.Bool.Decides.{nat_tests}
use Rattle.geo_base.specs.declared.consumer.Consumer.{Consumer}
use Rattle.geo_base.specs.declared.consumer.Unacked.{Unacked}
use Rattle.geo_base.specs.declared.frame.SubKind.{SubKind}
use Rattle.geo_base.specs.declared.frame.SubKind.TheVariants as sub_kind
use Rattle.geo_base.specs.Cursor.{below, has, with_indexes}
use Rattle.geo_base.specs.Dispatcher.{consumer_at, given, skipped_index, with_out}
use Rattle.geo_base.specs.Subscription.{attached, cleared, detached, forgotten, out_with}
use Rattle.cursor_acks.proofs.Sets.{has_up_to, has_with_indexes}
use Rattle.dispatcher.specs.Dispatch.{Dispatch, dispatch_of, sub_with, without_indexes, without_to}
use Rattle.broker_subs.specs.Fresh.{SubHolds, held, is_held, noted}
use Rattle.broker_subs.specs.declared.fresh.Fresh.{Fresh}
use Rattle.broker_subs.specs.declared.fresh.Fresh.TheVariants as fresh
use Rattle.broker_subs.proofs.Held.{all_due, all_out, due_gains, due_left, due_same, is_out, left_due, left_out, or_cases, or_left, or_right, out_gains, out_left, out_same}
use Rattle.geo_base.proofs.Bools.{not_true_false}

told_by : (a b : Bool) → (if a then b else not b) ≡ true → a ≡ b
told_by true true h = refl
told_by true false h = absurd (cc)
told_by false true h = absurd (cc)
told_by false false h = refl

gains : (a : Bool) → (if a then a || false else not (a || false)) ≡ true
gains true = refl
gains false = refl

either_is : (a b c : Bool) → c ≡ a || b → b ≡ false → (if a then c else not c) ≡ true
either_is a b c e n = rw (e, n) (gains a)

pub holds_any : (kind : SubKind) (cursor cursor' : List ℕ) (d : Dispatch) (f : Fresh) → SubHolds kind cursor d f → SubHolds kind cursor' d fresh.Any
holds_any kind cursor cursor' d f h = record { kinds = h.kinds; told = λ i held. refl }

-- some indexes are acknowledged, and told where nothing acknowledged was left
pub holds_each : (kind : SubKind) (cursor : List ℕ) (d : Dispatch) (f : Fresh) (is : List ℕ) → SubHolds kind cursor d f → SubHolds kind (with_indexes cursor is) d (noted f (fresh.Each is))
holds_each kind cursor d fresh.Nothing is h = record {
  kinds = h.kinds;
  told = λ i held. either_is (has is i) (has cursor i) (has (with_indexes cursor is) i) (has_with_indexes cursor is i) (not_true_false (has cursor i) (h.told i held));
}
holds_each kind cursor d (fresh.Each js) is h = holds_any kind cursor (with_indexes cursor is) d (fresh.Each js) h
holds_each kind cursor d (fresh.To k) is h = holds_any kind cursor (with_indexes cursor is) d (fresh.To k) h
holds_each kind cursor d fresh.Any is h = holds_any kind cursor (with_indexes cursor is) d fresh.Any h

-- all up to k are
pub holds_to : (kind : SubKind) (cursor : List ℕ) (d : Dispatch) (f : Fresh) (k : ℕ) → SubHolds kind cursor d f → SubHolds kind (with_indexes cursor (below (k + 1))) d (noted f (fresh.To k))
holds_to kind cursor d fresh.Nothing k h = record {
  kinds = h.kinds;
  told = λ i held. either_is (nat_le i k) (has cursor i) (has (with_indexes cursor (below (k + 1))) i) (has_up_to cursor k i) (not_true_false (has cursor i) (h.told i held));
}
holds_to kind cursor d (fresh.Each js) k h = holds_any kind cursor (with_indexes cursor (below (k + 1))) d (fresh.Each js) h
holds_to kind cursor d (fresh.To j) k h = holds_any kind cursor (with_indexes cursor (below (k + 1))) d (fresh.To j) h
holds_to kind cursor d fresh.Any k h = holds_any kind cursor (with_indexes cursor (below (k + 1))) d fresh.Any h

-- a subscription without consumers takes any kind
pub holds_kind : (kind own : SubKind) (cursor : List ℕ) (d : Dispatch) (f : Fresh) → SubHolds own cursor d f → (0 < length d.consumers → kind ≡ own) → SubHolds kind cursor d f
holds_kind kind own cursor d f h same = record { kinds = λ n. h.kinds n ∙ sym (same n); told = h.told }

pub own_kind : (kind : SubKind) (cursor : List ℕ) (d : Dispatch) (f : Fresh) → SubHolds kind cursor d f → SubHolds d.kind cursor d f
own_kind kind cursor d f h = record { kinds = λ n. refl; told = h.told }

pub holds_restored : (kind : SubKind) (cursor : List ℕ) → SubHolds kind cursor (record { kind = sub_kind.Exclusive; consumers = []; out = []; due = []; read_index = 0 }) fresh.Nothing
holds_restored kind cursor = record { kinds = λ n. absurd (omega arith); told = λ i held. absurd (cc) }

pub holds_cleared : (kind : SubKind) (cursor : List ℕ) (d : Dispatch) → SubHolds kind cursor (dispatch_of (cleared (sub_with [] d))) fresh.Nothing
holds_cleared kind cursor d = record { kinds = λ n. absurd (omega arith); told = λ i held. absurd (cc) }

pub holds_attached : (kind : SubKind) (cursor : List ℕ) (d : Dispatch) (f : Fresh) (k : Consumer) → SubHolds kind cursor d f → SubHolds kind cursor (dispatch_of (attached k (sub_with [] (record d { kind = kind })))) f
holds_attached kind cursor d f k h = record { kinds = λ n. refl; told = h.told }

-- what is out or due again after an index was passed was so before
held_passed : (i j : ℕ) (d : Dispatch) → is_held (dispatch_of (skipped_index i (sub_with [] d))) j ≡ true → is_held d j ≡ true
held_passed i j d h = or_cases (is_out d.out j) _ h (or_left (is_out d.out j) _) (λ e. or_right (is_out d.out j) _ (due_left (λ x. not (x == i)) j d.due e))

pub holds_passed : (kind : SubKind) (cursor : List ℕ) (d : Dispatch) (f : Fresh) (i : ℕ) → SubHolds kind cursor d f → SubHolds kind cursor (dispatch_of (skipped_index i (sub_with [] d))) f
holds_passed kind cursor d f i h = record { kinds = h.kinds; told = λ j held. h.told j (held_passed i j d held) }

-- what is out or due again after an index was given was so before, or is the index
held_given : (i at j : ℕ) (d : Dispatch) (P : Type 0) → is_held (dispatch_of (given i at (sub_with [] d))) j ≡ true → (i ≡ j → P) → (is_held d j ≡ true → P) → P
held_given i at j d P h f g =
    or_cases (is_out (with_out d.out (record { index = i; client = (consumer_at d.consumers at).client })) j) _ h
    (λ e. or_cases (i == j) _ (out_gains j (record { index = i; client = (consumer_at d.consumers at).client }) d.out e) (λ same. f (grind (arith, nat_tests))) (λ out. g (or_left (is_out d.out j) _ out)))
    (λ e. g (or_right (is_out d.out j) _ (due_left (λ x. not (x == i)) j d.due e)))

told_given : (cursor : List ℕ) (i j : ℕ) → i ≡ j → has cursor i ≡ false → not (has cursor j) ≡ true
told_given cursor i j same n = rw (← same, n) refl

given_kinds : (kind : SubKind) (cursor : List ℕ) (d : Dispatch) (f : Fresh) (i at : ℕ) → at < length d.consumers → SubHolds kind cursor d f → 0 < length (given i at (sub_with [] d)).consumers → d.kind ≡ kind
given_kinds kind cursor d f i at within h n = h.kinds (omega (arith, within))

given_nothing : (kind : SubKind) (cursor : List ℕ) (d : Dispatch) (i at : ℕ) (acked : Bool) → has cursor i ≡ acked → at < length d.consumers → SubHolds kind cursor d fresh.Nothing → SubHolds kind cursor (dispatch_of (given i at (sub_with [] d))) (held acked fresh.Nothing)
given_nothing kind cursor d i at true is within h = record { kinds = given_kinds kind cursor d fresh.Nothing i at within h; told = λ j held. refl }
given_nothing kind cursor d i at false is within h = record {
  kinds = given_kinds kind cursor d fresh.Nothing i at within h;
  told = λ j held. held_given i at j d (not (has cursor j) ≡ true) held (λ same. told_given cursor i j same is) (h.told j);
}

given_any : (kind : SubKind) (cursor : List ℕ) (d : Dispatch) (f : Fresh) (i at : ℕ) → at < length d.consumers → SubHolds kind cursor d f → SubHolds kind cursor (dispatch_of (given i at (sub_with [] d))) fresh.Any
given_any kind cursor d f i at within h = record { kinds = given_kinds kind cursor d f i at within h; told = λ j held. refl }

pub holds_given : (kind : SubKind) (cursor : List ℕ) (d : Dispatch) (f : Fresh) (i at : ℕ) → at < length d.consumers → SubHolds kind cursor d f → SubHolds kind cursor (dispatch_of (given i at (sub_with [] d))) (held (has cursor i) f)
holds_given kind cursor d fresh.Nothing i at within h = given_nothing kind cursor d i at (has cursor i) refl within h
holds_given kind cursor d (fresh.Each is) i at within h = given_any kind cursor d (fresh.Each is) i at within h
holds_given kind cursor d (fresh.To k) i at within h = given_any kind cursor d (fresh.To k) i at within h
holds_given kind cursor d fresh.Any i at within h = given_any kind cursor d fresh.Any i at within h

-- what comes to be due again when a client leaves is not acknowledged
told_detached : (c j : ℕ) (cursor : List ℕ) (d : Dispatch) → (is_held d j ≡ true → not (has cursor j) ≡ true) → is_held (dispatch_of (detached c (sub_with cursor d))) j ≡ true → not (has cursor j) ≡ true
told_detached c j cursor d told h =
    let more : List ℕ = filter (λ i. not (has cursor i)) (out_with c d.out) in
    or_cases (is_out (filter (λ (o : Unacked). not (o.client == c)) d.out) j) _ h
    (λ e. told (or_left (is_out d.out j) _ (out_left (λ (o : Unacked). not (o.client == c)) j d.out e)))
    (λ e. or_cases (has more j) _ (due_gains j d.due more e) (λ new. ap not (left_due cursor j (out_with c d.out) new)) (λ old. told (or_right (is_out d.out j) _ old)))

-- some consumers were there, if some stay
some_stay : (p : Consumer → Bool) (ks : List Consumer) → 0 < length (filter p ks) → 0 < length ks
some_stay p [] n = n
some_stay p (k ∷ ks) n = omega arith

detached_any : (kind : SubKind) (cursor : List ℕ) (d : Dispatch) (f : Fresh) (c : ℕ) → SubHolds kind cursor d f → SubHolds kind cursor (dispatch_of (detached c (sub_with cursor d))) fresh.Any
detached_any kind cursor d f c h = record { kinds = λ n. h.kinds (some_stay _ d.consumers n); told = λ j held. refl }

pub holds_detached : (kind : SubKind) (cursor : List ℕ) (d : Dispatch) (f : Fresh) (c : ℕ) → SubHolds kind cursor d f → SubHolds kind cursor (dispatch_of (detached c (sub_with cursor d))) (held false f)
holds_detached kind cursor d fresh.Nothing c h = record {
  kinds = λ n. h.kinds (some_stay _ d.consumers n);
  told = λ j held. told_detached c j cursor d (h.told j) held;
}
holds_detached kind cursor d (fresh.Each is) c h = detached_any kind cursor d (fresh.Each is) c h
holds_detached kind cursor d (fresh.To k) c h = detached_any kind cursor d (fresh.To k) c h
holds_detached kind cursor d fresh.Any c h = detached_any kind cursor d fresh.Any c h

-- forgetting just some indexes forgets what is acknowledged, where a test tells it of all that is out or due again
forgets_by : (cursor : List ℕ) (d : Dispatch) (p : ℕ → Bool) → ((i : ℕ) → is_held d i ≡ true → p i ≡ has cursor i)
    → (record d { out = filter (λ (o : Unacked). not (p o.index)) d.out; due = filter (λ i. not (p i)) d.due }) ≡ dispatch_of (forgotten (sub_with cursor d))
forgets_by cursor d p h =
    let same : (i : ℕ) → is_held d i ≡ true → not (p i) ≡ not (has cursor i) = λ i held. ap not (h i held) in
    let outs = out_same (λ i. not (p i)) (λ i. not (has cursor i)) d.out (λ i e. same i (or_left _ _ e)) in
    let dues = due_same (λ i. not (p i)) (λ i. not (has cursor i)) d.due (λ i e. same i (or_right _ _ e)) in
    ap (λ (os : List Unacked). record d { out = os; due = filter (λ i. not (p i)) d.due }) outs
    ∙ ap (λ (is : List ℕ). record d { out = filter (λ (o : Unacked). not (has cursor o.index)) d.out; due = is }) dues

pub forgets_to : (kind : SubKind) (cursor : List ℕ) (d : Dispatch) (k : ℕ) → SubHolds kind cursor d (fresh.To k) → without_to k d ≡ dispatch_of (forgotten (sub_with cursor d))
forgets_to kind cursor d k h = forgets_by cursor d (λ i. nat_le i k) (λ i held. told_by (nat_le i k) (has cursor i) (h.told i held))

pub forgets_each : (kind : SubKind) (cursor : List ℕ) (d : Dispatch) (is : List ℕ) → SubHolds kind cursor d (fresh.Each is) → without_indexes is d ≡ dispatch_of (forgotten (sub_with cursor d))
forgets_each kind cursor d is h = forgets_by cursor d (has is) (λ i held. told_by (has is i) (has cursor i) (h.told i held))

-- where nothing acknowledged is left, nothing is to be forgotten
pub forgets_nothing : (kind : SubKind) (cursor : List ℕ) (d : Dispatch) → SubHolds kind cursor d fresh.Nothing → d ≡ dispatch_of (forgotten (sub_with cursor d))
forgets_nothing kind cursor d h =
    ap (λ (os : List Unacked). record d { out = os }) (sym (all_out d.out))
    ∙ ap (λ (is : List ℕ). record d { out = filter (λ (o : Unacked). true) d.out; due = is }) (sym (all_due d.due))
    ∙ forgets_by cursor d (λ i. false) (λ i held. sym (not_true_false (has cursor i) (h.told i held)))

-- after that nothing acknowledged is left
pub holds_forgotten : (kind : SubKind) (cursor : List ℕ) (d : Dispatch) (f : Fresh) → SubHolds kind cursor d f → SubHolds kind cursor (dispatch_of (forgotten (sub_with cursor d))) fresh.Nothing
holds_forgotten kind cursor d f h = record {
  kinds = h.kinds;
  told = λ i held. ap not (or_cases _ _ held (left_out cursor i d.out) (left_due cursor i d.due));
}
