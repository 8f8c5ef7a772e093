-- What writes and changes do to one replicator and to the session of one receiving side, and that they leave how many there are.
use Rattle.std.proofs.Common.{◌≡◌, ℕ, zero, suc, ◌<◌, Bool, true, false, List, [], ◌∷◌, ◌++◌, length, map, refl, sym, ap, subst, ◌∙◌, ◌==◌, arith}
use Rattle.std.specs.Prelude.{Option, None, if◌then◌else◌, slice_set, slice_index_or, is_some, take}
use Rattle.std.proofs.lemmas.Bool.{eqb-true, eq-eqb, false≢true}
use Rattle.std.proofs.lemmas.List.{get_or-set_other, get_or-set_same, length-map, length-set}
use Rattle.world_laws.proofs.Types.{Change, SubKind, Write}
use Rattle.world_laws.proofs.Types.change
use Rattle.world_laws.proofs.Types.replicator_state
use Rattle.world_laws.proofs.Types.write
use Rattle.geo_base.specs.Broker.{Broker, at_replicator, changed, receiver_at, replicator_at, sub_named, written}
use Rattle.geo_base.specs.Cursor.{with_index}
use Rattle.geo_base.specs.Plan.{Plan, all_changed, all_written, done, halted}
use Rattle.geo_base.specs.Replicator.{Replicator, new_replicator, replicator_reset, replicator_restarted, replicator_sent, without_number}
use Rattle.world_laws.proofs.Walks.Walk.{on_if}

-- a fact of each element
abbrev pub Each : {X : Type 0} → (X → Type 0) → List X → Type 0
Each P [] = Unit {0}
Each P (x ∷ xs) = P x × Each P xs

pub each_both : {X : Type 0} (P : X → Type 0) (xs ys : List X) → Each P xs → Each P ys → Each P (xs ++ ys)
each_both P [] ys h k = k
each_both P (x ∷ xs) ys h k = (h.0, each_both P xs ys h.1 k)

pub each_take : {X : Type 0} (P : X → Type 0) (n : ℕ) (xs : List X) → Each P xs → Each P (take n xs)
each_take P zero xs h = tt
each_take P (suc n) [] h = tt
each_take P (suc n) (x ∷ xs) h = (h.0, each_take P n xs h.1)

pub each_map : {X : Type 0} (P Q : X → Type 0) → ((x : X) → P x → Q x) → (xs : List X) → Each P xs → Each Q xs
each_map P Q f [] h = tt
each_map P Q f (x ∷ xs) h = (f x h.0, each_map P Q f xs h.1)

-- what a write does to the replicator to y
abbrev pub replicator_written : ℕ → Replicator → Write → Replicator
replicator_written y s (write.ReplicatorAck z i) = if z == y then record s { cursor = with_index s.cursor i } else s
replicator_written y s (write.SessionNumber z n) = if z == y then record s { session = n } else s
replicator_written y s w = s

abbrev pub replicator_after : ℕ → Replicator → List Write → Replicator
replicator_after y s [] = s
replicator_after y s (w ∷ ws) = replicator_after y (replicator_written y s w) ws

-- and what a change does
abbrev pub replicator_changed : ℕ → Replicator → Change → Replicator
replicator_changed y s (change.Opening z) = if z == y then replicator_reset s else s
replicator_changed y s (change.Opened z) = if z == y then record s { state = replicator_state.Open } else s
replicator_changed y s (change.Pend z i) = if z == y then replicator_sent i s else s
replicator_changed y s (change.ReadTo z i) = if z == y then record s { read_index = i } else s
replicator_changed y s (change.Unpend z n) = if z == y then record s { pending = without_number s.pending n } else s
replicator_changed y s change.Forget = replicator_restarted s
replicator_changed y s c = s

abbrev pub replicator_then : ℕ → Replicator → List Change → Replicator
replicator_then y s [] = s
replicator_then y s (c ∷ cs) = replicator_then y (replicator_changed y s c) cs

-- what a change does to the session from x
abbrev pub session_changed : ℕ → Option ℕ → Change → Option ℕ
session_changed x r (change.Receiver z s) = if z == x then s else r
session_changed x r change.Forget = None
session_changed x r c = r

abbrev pub session_then : ℕ → Option ℕ → List Change → Option ℕ
session_then x r [] = r
session_then x r (c ∷ cs) = session_then x (session_changed x r c) cs

-- a new value at one place of a list, looked at at a place that is there
pub set_at : {X : Type 0} (xs : List X) (z y : ℕ) (v d : X) → y < length xs → slice_index_or (slice_set xs z v) y d ≡ (if z == y then v else slice_index_or xs y d)
set_at xs z y v d lt = by (z == y) refl
  where
    by : (b : Bool) → (z == y) ≡ b → slice_index_or (slice_set xs z v) y d ≡ (if b then v else slice_index_or xs y d)
    by true e =
        let is = eqb-true z y e in
        let P : ℕ → Type 0 = λ n. slice_index_or (slice_set xs n v) y d ≡ v in
        subst P (sym is) (get_or-set_same xs y v d lt)
    by false e = get_or-set_other xs z y v d (λ is. false≢true (sym e ∙ eq-eqb z y (sym is)))

at_replicator_is : (b : Broker) (z y : ℕ) (f : Replicator → Replicator) → y < length b.replicators
    → replicator_at (at_replicator b z f) y ≡ (if z == y then f (replicator_at b y) else replicator_at b y)
at_replicator_is b z y f lt = set_at b.replicators z y (f (replicator_at b z)) new_replicator lt ∙ at_z (z == y) refl
  where
    at_z : (t : Bool) → (z == y) ≡ t → (if t then f (replicator_at b z) else replicator_at b y) ≡ (if t then f (replicator_at b y) else replicator_at b y)
    at_z true e = ap (λ (n : ℕ). f (replicator_at b n)) (eqb-true z y e)
    at_z false e = refl

-- as many replicators and receiving sides
pub record SameSize (b b' : Broker) : Type 0 where
  pub replicators : length b'.replicators ≡ length b.replicators
  pub receivers : length b'.receivers ≡ length b.receivers

same : (b : Broker) → SameSize b b
same b = record { replicators = refl; receivers = refl }

same_replicator : (b : Broker) (z : ℕ) (f : Replicator → Replicator) → SameSize b (at_replicator b z f)
same_replicator b z f = record { replicators = length-set b.replicators z (f (replicator_at b z)); receivers = refl }

same_both : (a b c : Broker) → SameSize a b → SameSize b c → SameSize a c
same_both a b c h k = record { replicators = k.replicators ∙ h.replicators; receivers = k.receivers ∙ h.receivers }

written_size : (per : ℕ) (b : Broker) (w : Write) → SameSize b (written per b w)
written_size per b (write.Create n kind replicated latest) = on_if (SameSize b) (is_some (sub_named b.subs n)) _ _ (same b) (record { replicators = refl; receivers = refl })
written_size per b (write.ReplicatorAck z i) = same_replicator b z (λ s. record s { cursor = with_index s.cursor i })
written_size per b (write.SessionNumber z n) = same_replicator b z (λ s. record s { session = n })
written_size per b (write.Append e) = record { replicators = refl; receivers = refl }
written_size per b (write.Alter n kind replicated) = record { replicators = refl; receivers = refl }
written_size per b (write.Delete n) = record { replicators = refl; receivers = refl }
written_size per b (write.Acks n is) = record { replicators = refl; receivers = refl }
written_size per b (write.Seek n i) = record { replicators = refl; receivers = refl }
written_size per b write.Ledger = record { replicators = refl; receivers = refl }

changed_size : (b : Broker) (c : Change) → SameSize b (changed b c)
changed_size b (change.Receiver x r) = record { replicators = refl; receivers = length-set b.receivers x r }
changed_size b (change.Opening y) = same_replicator b y replicator_reset
changed_size b (change.Opened y) = same_replicator b y (λ s. record s { state = replicator_state.Open })
changed_size b (change.Pend y i) = same_replicator b y (replicator_sent i)
changed_size b (change.ReadTo y i) = same_replicator b y (λ s. record s { read_index = i })
changed_size b (change.Unpend y n) = same_replicator b y (λ s. record s { pending = without_number s.pending n })
changed_size b change.Forget = record { replicators = length-map b.replicators _; receivers = length-map b.receivers _ }
changed_size b c = record { replicators = refl; receivers = refl }

pub all_written_size : (per : ℕ) (b : Broker) (ws : List Write) → SameSize b (all_written per b ws)
all_written_size per b [] = same b
all_written_size per b (w ∷ ws) = same_both b (written per b w) _ (written_size per b w) (all_written_size per (written per b w) ws)

pub all_changed_size : (b : Broker) (cs : List Change) → SameSize b (all_changed b cs)
all_changed_size b [] = same b
all_changed_size b (c ∷ cs) = same_both b (changed b c) _ (changed_size b c) (all_changed_size (changed b c) cs)

pub done_size : (per : ℕ) (b : Broker) (p : Plan) → SameSize b (done per b p)
done_size per b p = same_both b (all_written per b p.writes) _ (all_written_size per b p.writes) (all_changed_size (all_written per b p.writes) p.changes)

pub halted_size : (per : ℕ) (b : Broker) (k : ℕ) (p : Plan) → SameSize b (halted per b k p)
halted_size per b k p =
    let ws = take k p.writes ++ write.Ledger ∷ [] in
    same_both b (all_written per b ws) _ (all_written_size per b ws) (changed_size (all_written per b ws) change.Forget)

-- writes and the replicator to y
create_replicator : (per : ℕ) (b : Broker) (n : List ℕ) (kind : SubKind) (replicated latest : Bool) → (written per b (write.Create n kind replicated latest)).replicators ≡ b.replicators
create_replicator per b n kind replicated latest = on_if (λ (c : Broker). c.replicators ≡ b.replicators) (is_some (sub_named b.subs n)) _ _ refl refl

written_replicator : (per : ℕ) (b : Broker) (y : ℕ) (w : Write) → y < length b.replicators → replicator_at (written per b w) y ≡ replicator_written y (replicator_at b y) w
written_replicator per b y (write.ReplicatorAck z i) lt = at_replicator_is b z y (λ s. record s { cursor = with_index s.cursor i }) lt
written_replicator per b y (write.SessionNumber z n) lt = at_replicator_is b z y (λ s. record s { session = n }) lt
written_replicator per b y (write.Create n kind replicated latest) lt = ap (λ (ss : List Replicator). slice_index_or ss y new_replicator) (create_replicator per b n kind replicated latest)
written_replicator per b y (write.Append e) lt = refl
written_replicator per b y (write.Alter n kind replicated) lt = refl
written_replicator per b y (write.Delete n) lt = refl
written_replicator per b y (write.Acks n is) lt = refl
written_replicator per b y (write.Seek n i) lt = refl
written_replicator per b y write.Ledger lt = refl

pub all_written_replicator : (per : ℕ) (b : Broker) (y : ℕ) (ws : List Write) → y < length b.replicators → replicator_at (all_written per b ws) y ≡ replicator_after y (replicator_at b y) ws
all_written_replicator per b y [] lt = refl
all_written_replicator per b y (w ∷ ws) lt =
    all_written_replicator per (written per b w) y ws (omega (arith, lt, (written_size per b w).replicators)) ∙ ap (λ (s : Replicator). replicator_after y s ws) (written_replicator per b y w lt)

restarted_replicator : (ss : List Replicator) (y : ℕ) → slice_index_or (map replicator_restarted ss) y new_replicator ≡ replicator_restarted (slice_index_or ss y new_replicator)
restarted_replicator [] y = refl
restarted_replicator (s ∷ ss) zero = refl
restarted_replicator (s ∷ ss) (suc y) = restarted_replicator ss y

changed_replicator : (b : Broker) (y : ℕ) (c : Change) → y < length b.replicators → replicator_at (changed b c) y ≡ replicator_changed y (replicator_at b y) c
changed_replicator b y (change.Opening z) lt = at_replicator_is b z y replicator_reset lt
changed_replicator b y (change.Opened z) lt = at_replicator_is b z y (λ s. record s { state = replicator_state.Open }) lt
changed_replicator b y (change.Pend z i) lt = at_replicator_is b z y (replicator_sent i) lt
changed_replicator b y (change.ReadTo z i) lt = at_replicator_is b z y (λ s. record s { read_index = i }) lt
changed_replicator b y (change.Unpend z n) lt = at_replicator_is b z y (λ s. record s { pending = without_number s.pending n }) lt
changed_replicator b y change.Forget lt = restarted_replicator b.replicators y
changed_replicator b y (change.Receiver x r) lt = refl
changed_replicator b y c lt = refl

pub all_changed_replicator : (b : Broker) (y : ℕ) (cs : List Change) → y < length b.replicators → replicator_at (all_changed b cs) y ≡ replicator_then y (replicator_at b y) cs
all_changed_replicator b y [] lt = refl
all_changed_replicator b y (c ∷ cs) lt =
    all_changed_replicator (changed b c) y cs (omega (arith, lt, (changed_size b c).replicators)) ∙ ap (λ (s : Replicator). replicator_then y s cs) (changed_replicator b y c lt)

pub done_replicator : (per : ℕ) (b : Broker) (y : ℕ) (p : Plan) → y < length b.replicators
    → replicator_at (done per b p) y ≡ replicator_then y (replicator_after y (replicator_at b y) p.writes) p.changes
done_replicator per b y p lt =
    all_changed_replicator (all_written per b p.writes) y p.changes (omega (arith, lt, (all_written_size per b p.writes).replicators))
    ∙ ap (λ (s : Replicator). replicator_then y s p.changes) (all_written_replicator per b y p.writes lt)

-- a new ledger leaves the replicator
after_ledger : (y : ℕ) (s : Replicator) (ws : List Write) → replicator_after y s (ws ++ write.Ledger ∷ []) ≡ replicator_after y s ws
after_ledger y s [] = refl
after_ledger y s (w ∷ ws) = after_ledger y (replicator_written y s w) ws

pub halted_replicator : (per : ℕ) (b : Broker) (y k : ℕ) (p : Plan) → y < length b.replicators
    → replicator_at (halted per b k p) y ≡ replicator_restarted (replicator_after y (replicator_at b y) (take k p.writes))
halted_replicator per b y k p lt =
    let ws = take k p.writes ++ write.Ledger ∷ [] in
    changed_replicator (all_written per b ws) y change.Forget (omega (arith, lt, (all_written_size per b ws).replicators))
    ∙ ap replicator_restarted (all_written_replicator per b y ws lt ∙ after_ledger y (replicator_at b y) (take k p.writes))

-- writes and the sessions of the receiving sides
written_receivers : (per : ℕ) (b : Broker) (w : Write) → (written per b w).receivers ≡ b.receivers
written_receivers per b (write.Create n kind replicated latest) = on_if (λ (c : Broker). c.receivers ≡ b.receivers) (is_some (sub_named b.subs n)) _ _ refl refl
written_receivers per b w = refl

pub all_written_receivers : (per : ℕ) (b : Broker) (ws : List Write) → (all_written per b ws).receivers ≡ b.receivers
all_written_receivers per b [] = refl
all_written_receivers per b (w ∷ ws) = all_written_receivers per (written per b w) ws ∙ written_receivers per b w

none_left : (f : Option ℕ → Option ℕ) → ((r : Option ℕ) → f r ≡ None) → (rs : List (Option ℕ)) (x : ℕ) → slice_index_or (map f rs) x None ≡ None
none_left f h [] x = refl
none_left f h (r ∷ rs) zero = h r
none_left f h (r ∷ rs) (suc x) = none_left f h rs x

changed_session : (b : Broker) (x : ℕ) (c : Change) → x < length b.receivers → receiver_at (changed b c) x ≡ session_changed x (receiver_at b x) c
changed_session b x (change.Receiver z s) lt = set_at b.receivers z x s None lt
changed_session b x change.Forget lt = none_left (λ r. None) (λ r. refl) b.receivers x
changed_session b x (change.Opening y) lt = refl
changed_session b x c lt = refl

pub all_changed_session : (b : Broker) (x : ℕ) (cs : List Change) → x < length b.receivers → receiver_at (all_changed b cs) x ≡ session_then x (receiver_at b x) cs
all_changed_session b x [] lt = refl
all_changed_session b x (c ∷ cs) lt =
    all_changed_session (changed b c) x cs (omega (arith, lt, (changed_size b c).receivers)) ∙ ap (λ (r : Option ℕ). session_then x r cs) (changed_session b x c lt)

pub done_session : (per : ℕ) (b : Broker) (x : ℕ) (p : Plan) → x < length b.receivers → receiver_at (done per b p) x ≡ session_then x (receiver_at b x) p.changes
done_session per b x p lt =
    all_changed_session (all_written per b p.writes) x p.changes (omega (arith, lt, (all_written_size per b p.writes).receivers))
    ∙ ap (λ (rs : List (Option ℕ)). session_then x (slice_index_or rs x None) p.changes) (all_written_receivers per b p.writes)

pub halted_session : (per : ℕ) (b : Broker) (x k : ℕ) (p : Plan) → receiver_at (halted per b k p) x ≡ None
halted_session per b x k p = none_left (λ r. None) (λ r. refl) (all_written per b (take k p.writes ++ write.Ledger ∷ [])).receivers x
