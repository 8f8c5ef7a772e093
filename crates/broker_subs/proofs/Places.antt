-- Subscriptions by their places in the table and by their names, which come to the same.
use Rattle.std.proofs.Common.{◌≡◌, ℕ, zero, suc, ◌+◌, ◌<◌, Bool, true, false, List, [], ◌∷◌, ◌++◌, length, get_or, set, map, refl, ap, sym, ◌∙◌, arith, inl, inr, add-one, append-nil}
use Rattle.std.specs.Prelude.{◌≢◌, ◌-◌, if◌then◌else◌, not, None, Some, slice_get, drop, take}
use Rattle.std.specs.List.{AllPairs, filter, find, range_with_len, remove}
use Rattle.std.specs.Str.{bytes_eq}
use Rattle.std.proofs.Math.Seq.{map-set_same}
use Rattle.std.proofs.lemmas.List.{get_or-map, get_or-set_same, length-map, map-append}
use Rattle.std.proofs.lemmas.List.Quantifiers.{all_pairs_push, all_pairs_remove}
use Rattle.std.proofs.lemmas.Grind.{common_steps}
use Rattle.std.proofs.lemmas.Slice.Eq.{bytes_eq-Decides}
use Rattle.geo_base.specs.Broker.{sub_named}
use Rattle.geo_base.specs.Cursor.{below, has, with_indexes}
use Rattle.geo_base.specs.Subscription.{Subscription, cleared, detached, new_subscription, with_acks}
use Rattle.cursor_acks.proofs.Sets.{has_with_indexes, rising_range, rising_with_indexes, same_set}
use Rattle.std.proofs.Math.Bool.{or-false}
use Rattle.geo_base.specs.declared.entry.Entry.{Entry}
use Rattle.broker_subs.specs.Steps.{sub_changed, sub_written}
use Rattle.broker_subs.specs.SubView.{SubView, sub_of, subs_of}
use Rattle.broker_subs.specs.Table.{at_name, sub_view_at, view_name, is_new, names_of, no_sub_view, room_at, room_of, rooms_of, sub_at, with_sub}
use Rattle.broker_subs.specs.declared.changing.SubChange.{SubChange}
use Rattle.broker_subs.specs.declared.changing.SubChange.TheVariants as sub_change
use Rattle.broker_subs.specs.declared.writing.SubWrite.{SubWrite}
use Rattle.broker_subs.specs.declared.writing.SubWrite.TheVariants as sub_write
use Rattle.geo_base.proofs.Bools.{true_or_false}

some_none : (s : Subscription) → Some s ≡ None → ⊥
some_none s e = absurd (cc)

pub other_name : (m n : List ℕ) → m ≢ n → bytes_eq m n ≡ false
other_name m n apart =
    elim (true_or_false (bytes_eq m n)) [
      | inl same ↦ absurd (apart ((bytes_eq-Decides m n).0 same))
      | inr other ↦ other
    ]

same_name : (m n : List ℕ) → m ≡ n → bytes_eq m n ≡ true
same_name m n e = (bytes_eq-Decides m n).1 e

-- names, no two of which are the same
abbrev pub Apart : List (List ℕ) → Type 0
Apart ns = AllPairs (λ (m n : List ℕ). m ≢ n) ns

pub apart_behind : (n : List ℕ) (ns : List (List ℕ)) → Apart (n ∷ ns) → Apart ns
apart_behind n ns apart i j d lt h = apart (suc i) (suc j) d (omega arith) (omega arith)

-- the first name is not the one at a later place
pub apart_first : (b : SubView) (bs : List SubView) (k : ℕ) → Apart (map view_name (b ∷ bs)) → k < length bs → b.sub.name ≢ (sub_view_at bs k).sub.name
apart_first b bs k apart h same =
    let there : get_or (map view_name bs) k [] ≡ view_name (sub_view_at bs k) = get_or-map view_name bs k no_sub_view [] h in
    apart 0 (suc k) [] (omega arith) (omega (arith, h, length-map bs view_name)) (same ∙ sym there)

-- after a name no one else has it
apart_rest : (b : SubView) (bs : List SubView) → Apart (map view_name (b ∷ bs)) → (k : ℕ) → k < length bs → (sub_view_at bs k).sub.name ≢ b.sub.name
apart_rest b bs apart k h same = apart_first b bs k apart h (sym same)

none_changed : (f : Subscription → Subscription) (n : List ℕ) (bs : List SubView) → ((k : ℕ) → k < length bs → (sub_view_at bs k).sub.name ≢ n) → at_name n f (subs_of bs) ≡ subs_of bs
none_changed f n [] other = refl
none_changed f n (b ∷ bs) other =
    let is : bytes_eq b.sub.name n ≡ false = other_name b.sub.name n (other 0 (omega arith)) in
    rw is (ap (λ ss. b.sub ∷ ss) (none_changed f n bs (λ k h. other (suc k) (omega arith))))

-- a change at a place is the change of the subscription of its name
pub set_named : (f : Subscription → Subscription) (bs : List SubView) (k : ℕ) (new : SubView) → Apart (map view_name bs) → k < length bs → new.sub ≡ f (sub_view_at bs k).sub
    → subs_of (set bs k new) ≡ at_name (sub_view_at bs k).sub.name f (subs_of bs)
set_named f [] k new apart h is = absurd (omega arith)
set_named f (b ∷ bs) zero new apart h is =
    let here : bytes_eq b.sub.name b.sub.name ≡ true = same_name b.sub.name b.sub.name refl in
    rw (here, is) (ap (λ ss. f b.sub ∷ ss) (sym (none_changed f b.sub.name bs (apart_rest b bs apart))))
set_named f (b ∷ bs) (suc k) new apart h is =
    let n : List ℕ = (sub_view_at bs k).sub.name in
    let other : bytes_eq b.sub.name n ≡ false = other_name b.sub.name n (apart_first b bs k apart (omega arith)) in
    rw other (ap (λ ss. b.sub ∷ ss) (set_named f bs k new (apart_behind b.sub.name (map view_name bs) apart) (omega arith) is))

none_gone : (n : List ℕ) (bs : List SubView) → ((k : ℕ) → k < length bs → (sub_view_at bs k).sub.name ≢ n) → filter (λ (s : Subscription). not (bytes_eq s.name n)) (subs_of bs) ≡ subs_of bs
none_gone n [] other = refl
none_gone n (b ∷ bs) other =
    let is : bytes_eq b.sub.name n ≡ false = other_name b.sub.name n (other 0 (omega arith)) in
    rw is (ap (λ ss. b.sub ∷ ss) (none_gone n bs (λ k h. other (suc k) (omega arith))))

-- to take out at a place is to take out by name
pub removed_subs : (bs : List SubView) (k : ℕ) → Apart (map view_name bs) → k < length bs
    → subs_of (remove bs k) ≡ filter (λ (s : Subscription). not (bytes_eq s.name (sub_view_at bs k).sub.name)) (subs_of bs)
removed_subs [] k apart h = absurd (omega arith)
removed_subs (b ∷ bs) zero apart h =
    let here : bytes_eq b.sub.name b.sub.name ≡ true = same_name b.sub.name b.sub.name refl in
    rw here (sym (none_gone b.sub.name bs (apart_rest b bs apart)))
removed_subs (b ∷ bs) (suc k) apart h =
    let n : List ℕ = (sub_view_at bs k).sub.name in
    let other : bytes_eq b.sub.name n ≡ false = other_name b.sub.name n (apart_first b bs k apart (omega arith)) in
    rw other (ap (λ ss. b.sub ∷ ss) (removed_subs bs k (apart_behind b.sub.name (map view_name bs) apart) (omega arith)))

pub map_remove : (bs : List SubView) (k : ℕ) → map view_name (remove bs k) ≡ remove (map view_name bs) k
map_remove [] zero = refl
map_remove [] (suc k) = refl
map_remove (b ∷ bs) zero = refl
map_remove (b ∷ bs) (suc k) = ap (λ ns. b.sub.name ∷ ns) (map_remove bs k)

pub names_removed : (bs : List SubView) (k : ℕ) → Apart (map view_name bs) → k < length bs → Apart (map view_name (remove bs k))
names_removed bs k apart h = rw (map_remove bs k) (all_pairs_remove (λ (m n : List ℕ). m ≢ n) (map view_name bs) k (omega (arith, h, length-map bs view_name)) apart)

pub names_kept : (bs : List SubView) (k : ℕ) (new : SubView) → Apart (map view_name bs) → k < length bs → new.sub.name ≡ (sub_view_at bs k).sub.name → Apart (map view_name (set bs k new))
names_kept bs k new apart h same = rw (map-set_same view_name bs k new no_sub_view same) apart

pub same_subs : (bs : List SubView) (k : ℕ) (new : SubView) → new.sub ≡ (sub_view_at bs k).sub → subs_of (set bs k new) ≡ subs_of bs
same_subs bs k new same = map-set_same sub_of bs k new no_sub_view same

-- a name that no subscription has is another one than each
absent_name : (bs : List SubView) (n : List ℕ) → sub_named (subs_of bs) n ≡ None → (k : ℕ) → k < length bs → (sub_view_at bs k).sub.name ≢ n
absent_name [] n none k h same = absurd (omega arith)
absent_name (b ∷ bs) n none zero h same =
    let here : bytes_eq b.sub.name n ≡ true = same_name b.sub.name n same in
    absurd (some_none b.sub (rw here at none))
absent_name (b ∷ bs) n none (suc k) h same =
    elim (true_or_false (bytes_eq b.sub.name n)) [
      | inl here ↦ absurd (some_none b.sub (rw here at none))
      | inr other ↦ absent_name bs n (rw other at none) k (omega arith) same
    ]

pub names_pushed : (bs : List SubView) (b : SubView) → Apart (map view_name bs) → sub_named (subs_of bs) b.sub.name ≡ None → Apart (map view_name (bs ++ b ∷ []))
names_pushed bs b apart none =
    rw (map-append view_name bs (b ∷ []))
    (all_pairs_push (λ (m n : List ℕ). m ≢ n) (map view_name bs) b.sub.name apart
    (λ k d h. let within : k < length bs = omega (arith, h, length-map bs view_name) in
    rw (get_or-map view_name bs k no_sub_view d within) (absent_name bs b.sub.name none k within)))

pub pushed_subs : (bs : List SubView) (b : SubView) → subs_of (bs ++ b ∷ []) ≡ subs_of bs ++ b.sub ∷ []
pushed_subs bs b = map-append sub_of bs (b ∷ [])

pub sub_there : (bs : List SubView) (k : ℕ) → k < length bs → slice_get (subs_of bs) k ≡ Some (sub_view_at bs k).sub
sub_there [] k h = absurd (omega arith)
sub_there (b ∷ bs) zero h = refl
sub_there (b ∷ bs) (suc k) h = sub_there bs k (omega arith)

-- no step names a subscription anew
pub written_name : (es : List Entry) (w : SubWrite) (s : Subscription) → (sub_written es w s).name ≡ s.name
written_name es (sub_write.Acks is) s = refl
written_name es (sub_write.AckTo i) s = refl
written_name es (sub_write.UpdateTo i from runs) s = refl
written_name es (sub_write.Seek i) s = refl
written_name es (sub_write.Alter kind replicated) s = refl

pub changed_name : (c : SubChange) (s : Subscription) → (sub_changed c s).name ≡ s.name
changed_name (sub_change.Attach k) s = refl
changed_name (sub_change.Permit c permits) s = refl
changed_name (sub_change.Skipped i) s = refl
changed_name (sub_change.Given i at) s = refl
changed_name (sub_change.Cache snapshot) s = refl
changed_name sub_change.Acked s = refl
changed_name sub_change.Cleared s = refl

-- a search that has come to a place stops there
pub found_here : (p : Subscription → Bool) (bs : List SubView) (k : ℕ) → k < length bs → p (sub_view_at bs k).sub ≡ true → find p (subs_of (drop k bs)) ≡ slice_get (subs_of bs) k
found_here p [] k h is = absurd (omega arith)
found_here p (b ∷ bs) zero h is = rw is refl
found_here p (b ∷ bs) (suc k) h is = found_here p bs k (omega arith) is

found_behind : (p : Subscription → Bool) (bs : List SubView) (k : ℕ) → k < length bs → p (sub_view_at bs k).sub ≡ false → find p (subs_of (drop k bs)) ≡ find p (subs_of (drop (suc k) bs))
found_behind p [] k h is = absurd (omega arith)
found_behind p (b ∷ bs) zero h is = rw is refl
found_behind p (b ∷ bs) (suc k) h is = found_behind p bs k (omega arith) is

-- or goes on after it
pub found_later : (p : Subscription → Bool) (bs : List SubView) (k : ℕ) → k < length bs → p (sub_view_at bs k).sub ≡ false → find p (subs_of (drop k bs)) ≡ find p (subs_of (drop (k + 1) bs))
found_later p bs k h is = rw add-one (found_behind p bs k h is)

pub mapped_subs : (f : Subscription → Subscription) (bs : List SubView) → subs_of (map (with_sub f) bs) ≡ map f (subs_of bs)
mapped_subs f [] = refl
mapped_subs f (b ∷ bs) = ap (λ ss. f b.sub ∷ ss) (mapped_subs f bs)

pub mapped_rooms : (f : Subscription → Subscription) (bs : List SubView) → rooms_of (map (with_sub f) bs) ≡ rooms_of bs
mapped_rooms f [] = refl
mapped_rooms f (b ∷ bs) = ap (λ rs. room_of b ∷ rs) (mapped_rooms f bs)

pub detached_names : (c : ℕ) (bs : List SubView) → map view_name (map (with_sub (detached c)) bs) ≡ map view_name bs
detached_names c [] = refl
detached_names c (b ∷ bs) = ap (λ ns. b.sub.name ∷ ns) (detached_names c bs)

pub cleared_names : (bs : List SubView) → map view_name (map (with_sub cleared) bs) ≡ map view_name bs
cleared_names [] = refl
cleared_names (b ∷ bs) = ap (λ ns. b.sub.name ∷ ns) (cleared_names bs)

all_below : (n : ℕ) → with_indexes [] (below n) ≡ below n
all_below n =
    let plain : range_with_len 0 n ++ [] ≡ below n = append-nil (below n) in
    same_set 0 (with_indexes [] (below n)) (below n) (rising_with_indexes [] (below n) tt) (rw plain at (rising_range 0 0 n [] (omega arith) tt))
    (λ j. has_with_indexes [] (below n) j ∙ or-false (has (below n) j))

-- acknowledging up to the last entry makes a new subscription one at Latest
pub at_latest : (b : SubView) (len : ℕ) (latest : Bool) → is_new b → 0 < len → latest ≡ true
    → with_acks (below (len - 1 + 1)) b.sub ≡ new_subscription b.sub.name b.sub.kind b.sub.replicated (if latest then below len else [])
at_latest b len latest e some l =
    let all : len - 1 + 1 ≡ len = omega arith in
    let to : with_acks (below len) b.sub ≡ with_acks (below len) (new_subscription b.sub.name b.sub.kind b.sub.replicated []) = ap (with_acks (below len)) e in
    rw (l, all) (to ∙ ap (λ is. new_subscription b.sub.name b.sub.kind b.sub.replicated is) (all_below len))

pub left_whole : (n : ℕ) (xs ys : List SubView) → length xs ≡ n → take n (xs ++ ys) ≡ xs
left_whole n xs ys e = grind (arith, common_steps)

pub sub_at_place : (bs : List SubView) (k : ℕ) → sub_at (subs_of bs) k ≡ (sub_view_at bs k).sub
sub_at_place [] zero = refl
sub_at_place [] (suc k) = refl
sub_at_place (b ∷ bs) zero = refl
sub_at_place (b ∷ bs) (suc k) = sub_at_place bs k

pub room_at_place : (bs : List SubView) (k : ℕ) → room_at (rooms_of bs) k ≡ room_of (sub_view_at bs k)
room_at_place [] zero = refl
room_at_place [] (suc k) = refl
room_at_place (b ∷ bs) zero = refl
room_at_place (b ∷ bs) (suc k) = room_at_place bs k

pub names_are : (bs : List SubView) → names_of (subs_of bs) ≡ map view_name bs
names_are [] = refl
names_are (b ∷ bs) = ap (λ ns. b.sub.name ∷ ns) (names_are bs)

pub name_set : (bs : List SubView) (k : ℕ) (new : SubView) → new.sub.name ≡ (sub_view_at bs k).sub.name → names_of (subs_of (set bs k new)) ≡ names_of (subs_of bs)
name_set bs k new same = names_are (set bs k new) ∙ map-set_same view_name bs k new no_sub_view same ∙ sym (names_are bs)

pub name_pushed : (bs : List SubView) (b : SubView) → names_of (subs_of (bs ++ b ∷ [])) ≡ names_of (subs_of bs) ++ b.sub.name ∷ []
name_pushed bs b = names_are (bs ++ b ∷ []) ∙ map-append view_name bs (b ∷ []) ∙ ap (λ ns. ns ++ b.sub.name ∷ []) (sym (names_are bs))

pub name_removed : (bs : List SubView) (k : ℕ) → names_of (subs_of (remove bs k)) ≡ remove (names_of (subs_of bs)) k
name_removed bs k = names_are (remove bs k) ∙ map_remove bs k ∙ ap (λ ns. remove ns k) (sym (names_are bs))

pub names_left : (c : ℕ) (bs : List SubView) → names_of (subs_of (map (with_sub (detached c)) bs)) ≡ names_of (subs_of bs)
names_left c bs = names_are (map (with_sub (detached c)) bs) ∙ detached_names c bs ∙ sym (names_are bs)

pub names_cleared : (bs : List SubView) → names_of (subs_of (map (with_sub cleared) bs)) ≡ names_of (subs_of bs)
names_cleared bs = names_are (map (with_sub cleared) bs) ∙ cleared_names bs ∙ sym (names_are bs)

-- the room at a place that was changed
pub room_set : (bs : List SubView) (k : ℕ) (new : SubView) → k < length bs → room_at (rooms_of (set bs k new)) k ≡ room_of new
room_set bs k new h = room_at_place (set bs k new) k ∙ ap room_of (get_or-set_same bs k new no_sub_view h)

pub room_pushed : (bs : List SubView) (b : SubView) → room_at (rooms_of (bs ++ b ∷ [])) (length bs) ≡ room_of b
room_pushed [] b = refl
room_pushed (x ∷ bs) b = room_pushed bs b
