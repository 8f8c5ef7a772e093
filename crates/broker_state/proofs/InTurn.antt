-- Steps one after another: what one leaves is what the next one needs.
use Rattle.std.proofs.Common.{◌≡◌, ℕ, zero, suc, ◌<◌, ◌≤◌, List, [], ◌∷◌, length, map, refl, ap, sym, ◌∙◌, arith}
use Rattle.std.specs.Prelude.{Some}
use Rattle.geo_base.specs.declared.change.Change.{Change}
use Rattle.geo_base.specs.declared.entry.Entry.{Entry}
use Rattle.geo_base.specs.Broker.{Broker, changed}
use Rattle.geo_base.specs.Subscription.{Subscription}
use Rattle.broker_subs.specs.Steps.{acks_after, machine_sub_change, machine_sub_write}
use Rattle.broker_subs.specs.Table.{names_of, room_at, sub_at}
use Rattle.broker_subs.specs.declared.writing.SubWrite.{SubWrite}
use Rattle.broker_subs.specs.declared.writing.SubWrite.TheVariants as sub_write
use Rattle.broker_state.specs.Fits.{AllChangesFit, ChangeNamed, ChangePlaceFits, ChangesNamed, IsThere, PlaceFits, WriteFits, WriteNamed}
use Rattle.broker_state.specs.Room.{AcksFit, AllAcksFit, ChangeLeaves, ChangesHaveRoom, Room, WriteLeaves, WritesHaveRoom, acks_left, all_room_left, room_left}
use Rattle.broker_state.specs.Writes.{machine_change, machine_write}
use Rattle.broker_state.specs.declared.change.StateChange.{StateChange}
use Rattle.broker_state.specs.declared.change.StateChange.TheVariants as state_change
use Rattle.broker_state.specs.declared.write.StateWrite.{StateWrite}
use Rattle.broker_state.specs.declared.write.StateWrite.TheVariants as state_write

same_some : (m n : List ℕ) → Some m ≡ Some n → m ≡ n
same_some m n h = cc

many_names : (ss : List Subscription) → length (names_of ss) ≡ length ss
many_names [] = refl
many_names (s ∷ ss) = omega (arith, many_names ss)

-- a name that stands at a place is that of the subscription there
pub there_within : (ss : List Subscription) (k : ℕ) (n : List ℕ) → IsThere (names_of ss) k n → k < length ss
there_within [] zero n h = absurd (cc)
there_within [] (suc k) n h = absurd (cc)
there_within (s ∷ ss) zero n h = omega arith
there_within (s ∷ ss) (suc k) n h = let rest = there_within ss k n h in omega (arith, rest)

pub there_named : (ss : List Subscription) (k : ℕ) (n : List ℕ) → IsThere (names_of ss) k n → (sub_at ss k).name ≡ n
there_named [] zero n h = absurd (cc)
there_named [] (suc k) n h = absurd (cc)
there_named (s ∷ ss) zero n h = same_some s.name n h
there_named (s ∷ ss) (suc k) n h = there_named ss k n h

-- a write that is named has its place
pub placed : (n : List ℕ) (k : ℕ) (ss : List Subscription) (w : StateWrite) → WriteNamed n k (names_of ss) w → PlaceFits k (length ss) w
placed n k ss (state_write.Append e stream) h = tt
placed n k ss (state_write.Create s latest) h = h.0 ∙ many_names ss
placed n k ss state_write.Delete h = there_within ss k n h
placed n k ss (state_write.Sub w) h = there_within ss k n h
placed n k ss (state_write.ReplicatorAck y i) h = tt
placed n k ss (state_write.SessionNumber y session) h = tt
placed n k ss state_write.Ledger h = tt

-- what fits an event that began with these entries fits now
pub fits_now : (es : List Entry) (k : ℕ) (b : Broker) (w : StateWrite) → WriteFits es k b w → WriteFits b.entries k b w
fits_now es k b (state_write.Append e stream) h = h
fits_now es k b (state_write.Create s latest) h = h
fits_now es k b state_write.Delete h = h
fits_now es k b (state_write.Sub w) h = (refl, h.1)
fits_now es k b (state_write.ReplicatorAck y i) h = h
fits_now es k b (state_write.SessionNumber y session) h = h
fits_now es k b state_write.Ledger h = h

-- the name that stands at the place now is the event's
pub same_write : (n : List ℕ) (es : List Entry) (k : ℕ) (b : Broker) (w : StateWrite) → WriteNamed n k (names_of b.subs) w → WriteFits es k b w → machine_write (sub_at b.subs k).name b.entries w ≡ machine_write n es w
same_write n es k b (state_write.Append e stream) h f = refl
same_write n es k b (state_write.Create s latest) h f = refl
same_write n es k b state_write.Delete h f = ap (λ (m : List ℕ). machine_write m es state_write.Delete) (there_named b.subs k n h)
same_write n es k b (state_write.Sub w) h f =
    ap (λ (m : List ℕ). machine_sub_write m b.entries w) (there_named b.subs k n h) ∙ ap (λ (xs : List Entry). machine_sub_write n xs w) (sym f.0)
same_write n es k b (state_write.ReplicatorAck y i) h f = refl
same_write n es k b (state_write.SessionNumber y session) h f = refl
same_write n es k b state_write.Ledger h f = refl

after_more : (a b : ℕ) (w : SubWrite) → a ≤ b → acks_after a w ≤ acks_after b w
after_more a b (sub_write.Acks is) h = omega (arith, h)
after_more a b (sub_write.AckTo i) h = omega (arith, h)
after_more a b (sub_write.UpdateTo i from runs) h = omega arith
after_more a b (sub_write.Seek i) h = omega (arith, h)
after_more a b (sub_write.Alter kind replicated) h = h

left_more : (a b : ℕ) (w : StateWrite) → a ≤ b → acks_left a w ≤ acks_left b w
left_more a b (state_write.Append e stream) h = h
left_more a b (state_write.Create s latest) h = omega arith
left_more a b state_write.Delete h = omega arith
left_more a b (state_write.Sub w) h = after_more a b w h
left_more a b (state_write.ReplicatorAck y i) h = h
left_more a b (state_write.SessionNumber y session) h = h
left_more a b state_write.Ledger h = h

fit_more : (a b : ℕ) (w : StateWrite) → a ≤ b → AcksFit a w → AcksFit b w
fit_more a b (state_write.Append e stream) h f = tt
fit_more a b (state_write.Create s latest) h f = f
fit_more a b state_write.Delete h f = tt
fit_more a b (state_write.Sub w) h f = omega (arith, h, f)
fit_more a b (state_write.ReplicatorAck y i) h f = tt
fit_more a b (state_write.SessionNumber y session) h f = tt
fit_more a b state_write.Ledger h f = tt

-- more room serves too
all_fit_more : (a b : ℕ) (ws : List StateWrite) → a ≤ b → AllAcksFit a ws → AllAcksFit b ws
all_fit_more a b [] h f = tt
all_fit_more a b (w ∷ ws) h f = (fit_more a b w h f.0, all_fit_more (acks_left a w) (acks_left b w) ws (left_more a b w h) f.1)

room_more : (a b : ℕ) (w : StateWrite) → a ≤ b → room_left a w ≤ room_left b w
room_more a b (state_write.Append e stream) h = h
room_more a b (state_write.Create s latest) h = omega arith
room_more a b state_write.Delete h = omega arith
room_more a b (state_write.Sub w) h = h
room_more a b (state_write.ReplicatorAck y i) h = h
room_more a b (state_write.SessionNumber y session) h = h
room_more a b state_write.Ledger h = h

all_room_more : (a b : ℕ) (ws : List StateWrite) → a ≤ b → all_room_left a ws ≤ all_room_left b ws
all_room_more a b [] h = h
all_room_more a b (w ∷ ws) h = all_room_more (room_left a w) (room_left b w) ws (room_more a b w h)

pub room_next : (k : ℕ) (w : StateWrite) (ws : List StateWrite) (old new : Room) → WritesHaveRoom old k (w ∷ ws) → WriteLeaves k w old new → WritesHaveRoom new k ws
room_next k w ws old new h l = record {
  entries = omega (arith, h.entries, l.entries);
  streams = omega (arith, h.streams, l.streams);
  places = omega (arith, h.places, l.places);
  acks = all_fit_more (acks_left (room_at old.subs k).acks w) (room_at new.subs k).acks ws l.acks h.acks.1;
  replicators = omega (arith, h.replicators, l.replicators);
}

pub given_next : (k : ℕ) (w : StateWrite) (ws : List StateWrite) (old new : Room) → WriteLeaves k w old new → all_room_left (room_at old.subs k).room (w ∷ ws) ≤ all_room_left (room_at new.subs k).room ws
given_next k w ws old new l = all_room_more (room_left (room_at old.subs k).room w) (room_at new.subs k).room ws l.room

pub change_placed : (n : List ℕ) (k : ℕ) (ss : List Subscription) (c : StateChange) → ChangeNamed n k (names_of ss) c → ChangePlaceFits k (length ss) c
change_placed n k ss (state_change.Receiver x session) h = tt
change_placed n k ss (state_change.Client c session) h = tt
change_placed n k ss (state_change.Detach c) h = tt
change_placed n k ss (state_change.Sub c) h = there_within ss k n h
change_placed n k ss (state_change.Opening y) h = tt
change_placed n k ss (state_change.Opened y) h = tt
change_placed n k ss (state_change.Pend y i) h = tt
change_placed n k ss (state_change.ReadTo y i) h = tt
change_placed n k ss (state_change.Unpend y number) h = tt
change_placed n k ss (state_change.Building o) h = tt
change_placed n k ss state_change.Forget h = tt

pub same_change : (n : List ℕ) (k : ℕ) (ss : List Subscription) (c : StateChange) → ChangeNamed n k (names_of ss) c → machine_change (sub_at ss k).name c ≡ machine_change n c
same_change n k ss (state_change.Receiver x session) h = refl
same_change n k ss (state_change.Client c session) h = refl
same_change n k ss (state_change.Detach c) h = refl
same_change n k ss (state_change.Sub c) h = ap (λ (m : List ℕ). machine_sub_change m c) (there_named ss k n h)
same_change n k ss (state_change.Opening y) h = refl
same_change n k ss (state_change.Opened y) h = refl
same_change n k ss (state_change.Pend y i) h = refl
same_change n k ss (state_change.ReadTo y i) h = refl
same_change n k ss (state_change.Unpend y number) h = refl
same_change n k ss (state_change.Building o) h = refl
same_change n k ss state_change.Forget h = refl

pub changes_next : (k : ℕ) (c : StateChange) (cs : List StateChange) (old new : Room) → ChangesHaveRoom old k (c ∷ cs) → ChangeLeaves k c old new → ChangesHaveRoom new k cs
changes_next k c cs old new h l = record {
  given = omega (arith, h.given, l.room);
  replicators = omega (arith, h.replicators, l.replicators);
}

renamed_change : (m n : List ℕ) (k : ℕ) (ns : List (List ℕ)) (c : StateChange) → (IsThere ns k n → m ≡ n) → ChangeNamed n k ns c → machine_change m c ≡ machine_change n c
renamed_change m n k ns (state_change.Receiver x session) same h = refl
renamed_change m n k ns (state_change.Client c session) same h = refl
renamed_change m n k ns (state_change.Detach c) same h = refl
renamed_change m n k ns (state_change.Sub c) same h = ap (λ (i : List ℕ). machine_sub_change i c) (same h)
renamed_change m n k ns (state_change.Opening y) same h = refl
renamed_change m n k ns (state_change.Opened y) same h = refl
renamed_change m n k ns (state_change.Pend y i) same h = refl
renamed_change m n k ns (state_change.ReadTo y i) same h = refl
renamed_change m n k ns (state_change.Unpend y number) same h = refl
renamed_change m n k ns (state_change.Building o) same h = refl
renamed_change m n k ns state_change.Forget same h = refl

renamed_there : (m n : List ℕ) (k : ℕ) (ns : List (List ℕ)) (c : StateChange) → (IsThere ns k n → m ≡ n) → ChangeNamed n k ns c → ChangeNamed m k ns c
renamed_there m n k ns (state_change.Receiver x session) same h = tt
renamed_there m n k ns (state_change.Client c session) same h = tt
renamed_there m n k ns (state_change.Detach c) same h = tt
renamed_there m n k ns (state_change.Sub c) same h = rw (same h) h
renamed_there m n k ns (state_change.Opening y) same h = tt
renamed_there m n k ns (state_change.Opened y) same h = tt
renamed_there m n k ns (state_change.Pend y i) same h = tt
renamed_there m n k ns (state_change.ReadTo y i) same h = tt
renamed_there m n k ns (state_change.Unpend y number) same h = tt
renamed_there m n k ns (state_change.Building o) same h = tt
renamed_there m n k ns state_change.Forget same h = tt

-- changes under another name, which is the event's where one of them is of a subscription
pub renamed : (m n : List ℕ) (k : ℕ) (ns : List (List ℕ)) (cs : List StateChange) → (IsThere ns k n → m ≡ n) → ChangesNamed n k ns cs → map (machine_change m) cs ≡ map (machine_change n) cs
renamed m n k ns [] same h = refl
renamed m n k ns (c ∷ cs) same h =
    ap (λ (x : Change). x ∷ map (machine_change m) cs) (renamed_change m n k ns c same h.0)
    ∙ ap (λ (xs : List Change). machine_change n c ∷ xs) (renamed m n k ns cs same h.1)

pub all_there : (m n : List ℕ) (k : ℕ) (ns : List (List ℕ)) (cs : List StateChange) → (IsThere ns k n → m ≡ n) → ChangesNamed n k ns cs → ChangesNamed m k ns cs
all_there m n k ns [] same h = tt
all_there m n k ns (c ∷ cs) same h = (renamed_there m n k ns c same h.0, all_there m n k ns cs same h.1)

pub all_fit : (m n : List ℕ) (k : ℕ) (ns : List (List ℕ)) (b : Broker) (cs : List StateChange) → (IsThere ns k n → m ≡ n) → ChangesNamed n k ns cs → AllChangesFit n k b cs → AllChangesFit m k b cs
all_fit m n k ns b [] same h f = tt
all_fit m n k ns b (c ∷ cs) same h f =
    (f.0, rw (renamed_change m n k ns c same h.0) (all_fit m n k ns (changed b (machine_change n c)) cs same h.1 f.1))
