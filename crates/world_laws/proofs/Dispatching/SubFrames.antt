-- What events do to the subscriptions of a topic, one subscription at a time: a write or a change finds them by name, so it does
-- the same to all of one name; a creation brings one more, a deletion takes some away.
use Rattle.std.proofs.Common.{◌≡◌, ℕ, zero, suc, Bool, true, false, List, [], ◌∷◌, ◌++◌, length, map, filter, refl, sym, ap, subst, ◌∙◌}
use Rattle.std.specs.Prelude.{Option, Some, None, if◌then◌else◌, find, is_some, not, slice_get}
use Rattle.std.specs.Str.{bytes_eq}
use Rattle.std.proofs.lemmas.Bool.{false≢true}
use Rattle.std.proofs.lemmas.Option.{none-some, same_Some}
use Rattle.std.proofs.lemmas.Slice.Eq.{bytes_eq-Decides}
use Rattle.world_laws.proofs.Types.{Change, SubKind, Write}
use Rattle.world_laws.proofs.Types.change
use Rattle.world_laws.proofs.Types.write
use Rattle.geo_base.specs.Broker.{Broker, changed, sub_named, written}
use Rattle.geo_base.specs.Cache.{cached}
use Rattle.geo_base.specs.Cursor.{below}
use Rattle.geo_base.specs.Dispatcher.{given, skipped_index}
use Rattle.geo_base.specs.Plan.{Plan, all_changed, all_written, done}
use Rattle.geo_base.specs.Subscription.{Subscription, after_acks, attached, cleared, detached, new_subscription, permitted, sought, with_acks}
use Rattle.world_laws.proofs.Replicating.Effects.{Each, each_both, each_map}
use Rattle.world_laws.proofs.Merges.PeerWalk.{each_filter}
use Rattle.world_laws.proofs.Walks.Walk.{on_if}

-- a fact of all subscriptions of a topic
abbrev pub AllSubs : (Subscription → Type 0) → Broker → Type 0
AllSubs F b = Each F b.subs

-- what all of a list have, each has
pub each_at_place : {X : Type 0} (P : X → Type 0) (xs : List X) (k : ℕ) (x : X) → Each P xs → slice_get xs k ≡ Some x → P x
each_at_place P [] k x h at = absurd (none-some x at)
each_at_place P (a ∷ xs) zero x h at = subst P (same_Some _ _ at) h.0
each_at_place P (a ∷ xs) (suc k) x h at = each_at_place P xs k x h.1 at

pub each_and : {X : Type 0} (P Q : X → Type 0) (xs : List X) → Each P xs → Each Q xs → Each (λ x. P x × Q x) xs
each_and P Q [] h k = tt
each_and P Q (x ∷ xs) h k = ((h.0, k.0), each_and P Q xs h.1 k.1)

pub each_to : {X : Type 0} (P Q : X → Type 0) (f : X → X) → ((x : X) → P x → Q (f x)) → (xs : List X) → Each P xs → Each Q (map f xs)
each_to P Q f k [] h = tt
each_to P Q f k (x ∷ xs) h = (k x h.0, each_to P Q f k xs h.1)

pub each_made : {X : Type 0} (Q : X → Type 0) (f : X → X) → ((x : X) → Q (f x)) → (xs : List X) → Each Q (map f xs)
each_made Q f k [] = tt
each_made Q f k (x ∷ xs) = (k x, each_made Q f k xs)

-- what is done to the subscriptions of a name, seen at one of them
abbrev pub at_name : List ℕ → (Subscription → Subscription) → Subscription → Subscription
at_name n f v = if bytes_eq v.name n then f v else v

pub at_name_twice : (n : List ℕ) (f g : Subscription → Subscription) (v : Subscription) → (f v).name ≡ v.name → at_name n g (at_name n f v) ≡ at_name n (λ u. g (f u)) v
at_name_twice n f g v same = by (bytes_eq v.name n) refl
  where
    by : (t : Bool) → bytes_eq v.name n ≡ t → at_name n g (if t then f v else v) ≡ (if t then g (f v) else v)
    by true is = ap (λ (t : Bool). if t then g (f v) else f v) (ap (λ (m : List ℕ). bytes_eq m n) same ∙ is)
    by false is = ap (λ (t : Bool). if t then g v else v) is

-- what a write makes of a subscription that it leaves here
abbrev pub sub_written : Subscription → Write → Subscription
sub_written v (write.Alter n kind replicated) = at_name n (λ s. record s { kind = kind; replicated = replicated }) v
sub_written v (write.Acks n is) = at_name n (with_acks is) v
sub_written v (write.Seek n i) = at_name n (sought i) v
sub_written v w = v

abbrev pub sub_after : Subscription → List Write → Subscription
sub_after v [] = v
sub_after v (w ∷ ws) = sub_after (sub_written v w) ws

-- and what a change does
abbrev pub sub_changed : Subscription → Change → Subscription
sub_changed v (change.Attach n k) = at_name n (attached k) v
sub_changed v (change.Detach c) = detached c v
sub_changed v (change.Permit n c permits) = at_name n (permitted c permits) v
sub_changed v (change.Skipped n i) = at_name n (skipped_index i) v
sub_changed v (change.Given n i at) = at_name n (given i at) v
sub_changed v (change.Cache n c) = at_name n (λ s. record s { cache = cached s.cache c }) v
sub_changed v (change.Acked n) = at_name n after_acks v
sub_changed v (change.Cleared n) = at_name n cleared v
sub_changed v change.Forget = cleared v
sub_changed v c = v

abbrev pub sub_then : Subscription → List Change → Subscription
sub_then v [] = v
sub_then v (c ∷ cs) = sub_then (sub_changed v c) cs

-- a creation is told apart, since it brings a subscription that was not here
abbrev pub CreatesNone : Write → Type 0
CreatesNone (write.Create n kind replicated latest) = ⊥
CreatesNone w = Unit {0}

written_subs : (F G : Subscription → Type 0) (per : ℕ) (b : Broker) (w : Write) → CreatesNone w → ((v : Subscription) → F v → G (sub_written v w)) → AllSubs F b
    → AllSubs G (written per b w)
written_subs F G per b (write.Create n kind replicated latest) none k h = absurd none
written_subs F G per b (write.Alter n kind replicated) none k h = each_to F G (at_name n (λ s. record s { kind = kind; replicated = replicated })) k b.subs h
written_subs F G per b (write.Acks n is) none k h = each_to F G (at_name n (with_acks is)) k b.subs h
written_subs F G per b (write.Seek n i) none k h = each_to F G (at_name n (sought i)) k b.subs h
written_subs F G per b (write.Delete n) none k h = each_filter G (λ (s : Subscription). not (bytes_eq s.name n)) b.subs (each_map F G k b.subs h)
written_subs F G per b (write.Append e) none k h = each_map F G k b.subs h
written_subs F G per b (write.ReplicatorAck y i) none k h = each_map F G k b.subs h
written_subs F G per b (write.SessionNumber y n) none k h = each_map F G k b.subs h
written_subs F G per b write.Ledger none k h = each_map F G k b.subs h

pub all_written_subs : (F G : Subscription → Type 0) (per : ℕ) (b : Broker) (ws : List Write) → Each CreatesNone ws → ((v : Subscription) → F v → G (sub_after v ws)) → AllSubs F b
    → AllSubs G (all_written per b ws)
all_written_subs F G per b [] none k h = each_map F G k b.subs h
all_written_subs F G per b (w ∷ ws) none k h =
    all_written_subs (λ v. G (sub_after v ws)) G per (written per b w) ws none.1 (λ v g. g) (written_subs F (λ v. G (sub_after v ws)) per b w none.0 k h)

changed_subs : (F G : Subscription → Type 0) (b : Broker) (c : Change) → ((v : Subscription) → F v → G (sub_changed v c)) → AllSubs F b → AllSubs G (changed b c)
changed_subs F G b (change.Attach n k') k h = each_to F G (at_name n (attached k')) k b.subs h
changed_subs F G b (change.Detach c) k h = each_to F G (detached c) k b.subs h
changed_subs F G b (change.Permit n c permits) k h = each_to F G (at_name n (permitted c permits)) k b.subs h
changed_subs F G b (change.Skipped n i) k h = each_to F G (at_name n (skipped_index i)) k b.subs h
changed_subs F G b (change.Given n i at) k h = each_to F G (at_name n (given i at)) k b.subs h
changed_subs F G b (change.Cache n c) k h = each_to F G (at_name n (λ s. record s { cache = cached s.cache c })) k b.subs h
changed_subs F G b (change.Acked n) k h = each_to F G (at_name n after_acks) k b.subs h
changed_subs F G b (change.Cleared n) k h = each_to F G (at_name n cleared) k b.subs h
changed_subs F G b change.Forget k h = each_to F G cleared k b.subs h
changed_subs F G b c k h = each_map F G k b.subs h

all_changed_subs : (F G : Subscription → Type 0) (b : Broker) (cs : List Change) → ((v : Subscription) → F v → G (sub_then v cs)) → AllSubs F b → AllSubs G (all_changed b cs)
all_changed_subs F G b [] k h = each_map F G k b.subs h
all_changed_subs F G b (c ∷ cs) k h =
    all_changed_subs (λ v. G (sub_then v cs)) G (changed b c) cs (λ v g. g) (changed_subs F (λ v. G (sub_then v cs)) b c k h)

-- a whole plan that creates none
pub done_subs : (F G : Subscription → Type 0) (per : ℕ) (b : Broker) (p : Plan) → Each CreatesNone p.writes
    → ((v : Subscription) → F v → G (sub_then (sub_after v p.writes) p.changes)) → AllSubs F b → AllSubs G (done per b p)
done_subs F G per b p none k h =
    all_changed_subs (λ v. G (sub_then v p.changes)) G (all_written per b p.writes) p.changes (λ v g. g)
    (all_written_subs F (λ v. G (sub_then v p.changes)) per b p.writes none k h)

-- a creation
pub created_subs : (F : Subscription → Type 0) (per : ℕ) (b : Broker) (n : List ℕ) (kind : SubKind) (replicated latest : Bool) → AllSubs F b
    → F (new_subscription n kind replicated (if latest then below (length b.entries) else [])) → AllSubs F (written per b (write.Create n kind replicated latest))
created_subs F per b n kind replicated latest h new =
    on_if (AllSubs F) (is_some (sub_named b.subs n)) b _ h (each_both F b.subs (new_subscription n kind replicated _ ∷ []) h (new, tt))

-- after a start nothing of memory is left
pub forgotten_subs : (G : Subscription → Type 0) (b : Broker) → ((v : Subscription) → G (cleared v)) → AllSubs G (changed b change.Forget)
forgotten_subs G b k = each_made G cleared k b.subs

-- writes and changes that touch no subscription
abbrev pub Aside : Write → Type 0
Aside (write.Append e) = Unit {0}
Aside (write.ReplicatorAck y i) = Unit {0}
Aside (write.SessionNumber y n) = Unit {0}
Aside write.Ledger = Unit {0}
Aside w = ⊥

pub aside_after : (v : Subscription) (ws : List Write) → Each Aside ws → sub_after v ws ≡ v
aside_after v [] h = refl
aside_after v (write.Append e ∷ ws) h = aside_after v ws h.1
aside_after v (write.ReplicatorAck y i ∷ ws) h = aside_after v ws h.1
aside_after v (write.SessionNumber y n ∷ ws) h = aside_after v ws h.1
aside_after v (write.Ledger ∷ ws) h = aside_after v ws h.1
aside_after v (w ∷ ws) h = absurd h.0

pub aside_creates : (ws : List Write) → Each Aside ws → Each CreatesNone ws
aside_creates [] h = tt
aside_creates (write.Append e ∷ ws) h = (tt, aside_creates ws h.1)
aside_creates (write.ReplicatorAck y i ∷ ws) h = (tt, aside_creates ws h.1)
aside_creates (write.SessionNumber y n ∷ ws) h = (tt, aside_creates ws h.1)
aside_creates (write.Ledger ∷ ws) h = (tt, aside_creates ws h.1)
aside_creates (w ∷ ws) h = absurd h.0

abbrev pub AsideChange : Change → Type 0
AsideChange (change.Receiver x r) = Unit {0}
AsideChange (change.Client c s) = Unit {0}
AsideChange (change.Opening y) = Unit {0}
AsideChange (change.Opened y) = Unit {0}
AsideChange (change.Pend y i) = Unit {0}
AsideChange (change.ReadTo y i) = Unit {0}
AsideChange (change.Unpend y n) = Unit {0}
AsideChange (change.Building u) = Unit {0}
AsideChange c = ⊥

pub aside_then : (v : Subscription) (cs : List Change) → Each AsideChange cs → sub_then v cs ≡ v
aside_then v [] h = refl
aside_then v (change.Receiver x r ∷ cs) h = aside_then v cs h.1
aside_then v (change.Client c s ∷ cs) h = aside_then v cs h.1
aside_then v (change.Opening y ∷ cs) h = aside_then v cs h.1
aside_then v (change.Opened y ∷ cs) h = aside_then v cs h.1
aside_then v (change.Pend y i ∷ cs) h = aside_then v cs h.1
aside_then v (change.ReadTo y i ∷ cs) h = aside_then v cs h.1
aside_then v (change.Unpend y n ∷ cs) h = aside_then v cs h.1
aside_then v (change.Building u ∷ cs) h = aside_then v cs h.1
aside_then v (c ∷ cs) h = absurd h.0

-- a plan that touches none
pub record IsAside (p : Plan) : Type 0 where
  pub writes : Each Aside p.writes
  pub changes : Each AsideChange p.changes

pub aside_subs : (F : Subscription → Type 0) (per : ℕ) (b : Broker) (p : Plan) → IsAside p → AllSubs F b → AllSubs F (done per b p)
aside_subs F per b p a h =
    done_subs F F per b p (aside_creates p.writes a.writes)
    (λ v f. subst F (sym (aside_then (sub_after v p.writes) p.changes a.changes ∙ aside_after v p.writes a.writes)) f) h

-- no two subscriptions have one name
abbrev pub NamesApart : List Subscription → Type 0
NamesApart [] = Unit {0}
NamesApart (v ∷ vs) = Each (λ (u : Subscription). bytes_eq v.name u.name ≡ false) vs × NamesApart vs

differ_mapped : (n : List ℕ) (f : Subscription → Subscription) → ((v : Subscription) → (f v).name ≡ v.name) → (vs : List Subscription)
    → Each (λ (u : Subscription). bytes_eq n u.name ≡ false) vs → Each (λ (u : Subscription). bytes_eq n u.name ≡ false) (map f vs)
differ_mapped n f same vs h =
    let P : Subscription → Type 0 = λ u. bytes_eq n u.name ≡ false in
    each_to P P f (λ v d. ap (bytes_eq n) (same v) ∙ d) vs h

apart_mapped : (f : Subscription → Subscription) → ((v : Subscription) → (f v).name ≡ v.name) → (vs : List Subscription) → NamesApart vs → NamesApart (map f vs)
apart_mapped f same [] h = tt
apart_mapped f same (v ∷ vs) h =
    (subst (λ (n : List ℕ). Each (λ (u : Subscription). bytes_eq n u.name ≡ false) (map f vs)) (sym (same v)) (differ_mapped v.name f same vs h.0), apart_mapped f same vs h.1)

apart_filter : (p : Subscription → Bool) (vs : List Subscription) → NamesApart vs → NamesApart (filter p vs)
apart_filter p [] h = tt
apart_filter p (v ∷ vs) h =
    on_if NamesApart (p v) (v ∷ filter p vs) (filter p vs) (each_filter (λ (u : Subscription). bytes_eq v.name u.name ≡ false) p vs h.0, apart_filter p vs h.1)
    (apart_filter p vs h.1)

apart_push : (vs : List Subscription) (u : Subscription) → sub_named vs u.name ≡ None → NamesApart vs → NamesApart (vs ++ u ∷ [])
apart_push [] u none h = (tt, tt)
apart_push (v ∷ vs) u none h = by (bytes_eq v.name u.name) refl none (λ e. apart_push vs u e h.1)
  where
    by : (t : Bool) → bytes_eq v.name u.name ≡ t → (if t then Some v else sub_named vs u.name) ≡ None
        → (sub_named vs u.name ≡ None → NamesApart (vs ++ u ∷ [])) → NamesApart ((v ∷ vs) ++ u ∷ [])
    by true is e ih = absurd (none-some v (sym e))
    by false is e ih = (each_both (λ (x : Subscription). bytes_eq v.name x.name ≡ false) vs (u ∷ []) h.0 (is, tt), ih e)

pub named_same : (n : List ℕ) (f : Subscription → Subscription) → ((v : Subscription) → (f v).name ≡ v.name) → (v : Subscription) → (at_name n f v).name ≡ v.name
named_same n f same v = on_if (λ (u : Subscription). u.name ≡ v.name) (bytes_eq v.name n) (f v) v (same v) refl

apart_at : (b : Broker) (n : List ℕ) (f : Subscription → Subscription) → ((v : Subscription) → (f v).name ≡ v.name) → NamesApart b.subs → NamesApart (map (at_name n f) b.subs)
apart_at b n f same h = apart_mapped (at_name n f) (named_same n f same) b.subs h

created_apart : (per : ℕ) (b : Broker) (n : List ℕ) (kind : SubKind) (replicated latest : Bool) → NamesApart b.subs
    → NamesApart (written per b (write.Create n kind replicated latest)).subs
created_apart per b n kind replicated latest h = by (sub_named b.subs n) refl
  where
    by : (o : Option Subscription) → sub_named b.subs n ≡ o
        → NamesApart (if is_some o then b else record b { subs = b.subs ++ new_subscription n kind replicated (if latest then below (length b.entries) else []) ∷ [] }).subs
    by (Some v) is = h
    by None is = apart_push b.subs (new_subscription n kind replicated (if latest then below (length b.entries) else [])) is h

written_apart : (per : ℕ) (b : Broker) (w : Write) → NamesApart b.subs → NamesApart (written per b w).subs
written_apart per b (write.Create n kind replicated latest) h = created_apart per b n kind replicated latest h
written_apart per b (write.Alter n kind replicated) h = apart_at b n (λ s. record s { kind = kind; replicated = replicated }) (λ v. refl) h
written_apart per b (write.Acks n is) h = apart_at b n (with_acks is) (λ v. refl) h
written_apart per b (write.Seek n i) h = apart_at b n (sought i) (λ v. refl) h
written_apart per b (write.Delete n) h = apart_filter (λ (s : Subscription). not (bytes_eq s.name n)) b.subs h
written_apart per b w h = h

pub all_written_apart : (per : ℕ) (b : Broker) (ws : List Write) → NamesApart b.subs → NamesApart (all_written per b ws).subs
all_written_apart per b [] h = h
all_written_apart per b (w ∷ ws) h = all_written_apart per (written per b w) ws (written_apart per b w h)

pub changed_apart : (b : Broker) (c : Change) → NamesApart b.subs → NamesApart (changed b c).subs
changed_apart b (change.Attach n k) h = apart_at b n (attached k) (λ v. refl) h
changed_apart b (change.Detach c) h = apart_mapped (detached c) (λ v. refl) b.subs h
changed_apart b (change.Permit n c permits) h = apart_at b n (permitted c permits) (λ v. refl) h
changed_apart b (change.Skipped n i) h = apart_at b n (skipped_index i) (λ v. refl) h
changed_apart b (change.Given n i at) h = apart_at b n (given i at) (λ v. refl) h
changed_apart b (change.Cache n c) h = apart_at b n (λ s. record s { cache = cached s.cache c }) (λ v. refl) h
changed_apart b (change.Acked n) h = apart_at b n after_acks (λ v. refl) h
changed_apart b (change.Cleared n) h = apart_at b n cleared (λ v. refl) h
changed_apart b change.Forget h = apart_mapped cleared (λ v. refl) b.subs h
changed_apart b c h = h

all_changed_apart : (b : Broker) (cs : List Change) → NamesApart b.subs → NamesApart (all_changed b cs).subs
all_changed_apart b [] h = h
all_changed_apart b (c ∷ cs) h = all_changed_apart (changed b c) cs (changed_apart b c h)

-- whatever is written and changed
pub done_apart : (per : ℕ) (b : Broker) (p : Plan) → NamesApart b.subs → NamesApart (done per b p).subs
done_apart per b p h = all_changed_apart (all_written per b p.writes) p.changes (all_written_apart per b p.writes h)

-- what is found has what all have, and passes the test
pub found_is : {X : Type 0} (P : X → Type 0) (p : X → Bool) (xs : List X) (x : X) → find p xs ≡ Some x → Each P xs → P x × (p x ≡ true)
found_is P p [] x e h = absurd (none-some x e)
found_is P p (a ∷ xs) x e h = by (p a) refl e (λ e'. found_is P p xs x e' h.1)
  where
    by : (t : Bool) → p a ≡ t → (if t then Some a else find p xs) ≡ Some x → (find p xs ≡ Some x → P x × (p x ≡ true)) → P x × (p x ≡ true)
    by true is e ih = (subst P (same_Some a x e) h.0, subst (λ y. p y ≡ true) (same_Some a x e) is)
    by false is e ih = ih e

-- the only one of its name
abbrev pub Only : Subscription → Subscription → Type 0
Only v u = bytes_eq u.name v.name ≡ true → u ≡ v

other : (a u : Subscription) → bytes_eq a.name u.name ≡ false → Only a u
other a u d same = absurd (false≢true (sym d ∙ (bytes_eq-Decides a.name u.name).1 (sym ((bytes_eq-Decides u.name a.name).0 same))))

-- so is the subscription that a name finds
pub only_named : (vs : List Subscription) (n : List ℕ) (v : Subscription) → NamesApart vs → sub_named vs n ≡ Some v → Each (Only v) vs
only_named [] n v apart named = tt
only_named (a ∷ vs) n v apart named = by (bytes_eq a.name n) named (λ e. only_named vs n v apart.1 e)
  where
    by : (t : Bool) → (if t then Some a else sub_named vs n) ≡ Some v → (sub_named vs n ≡ Some v → Each (Only v) vs) → Each (Only v) (a ∷ vs)
    by true e ih =
        subst (λ (x : Subscription). Each (Only x) (a ∷ vs)) (same_Some a v e)
        ((λ same. refl), each_map (λ (u : Subscription). bytes_eq a.name u.name ≡ false) (Only a) (other a) vs apart.0)
    by false e ih = (
      (λ same. absurd (false≢true (sym (found_is (λ (u : Subscription). bytes_eq a.name u.name ≡ false) (λ (u : Subscription). bytes_eq u.name n) vs v e apart.0).0 ∙ same))),
      ih e,
    )
