-- What the events at x do to the facts of its pair with y: the topic grows, the cursor gains what it may, and the replicator's
-- memory changes in its own ways.
use Rattle.std.proofs.Common.{◌≡◌, ℕ, ◌<◌, Bool, true, false, List, [], ◌∷◌, ◌++◌, length, refl, sym, ap, subst, ◌∙◌, ◌==◌, arith, inl, inr, append_assoc}
use Rattle.std.specs.Prelude.{if◌then◌else◌, take}
use Rattle.std.proofs.lemmas.Bool.{eqb-true}
use Rattle.world_laws.proofs.Types.{Change, Entry, Packet, Write}
use Rattle.world_laws.proofs.Types.change
use Rattle.world_laws.proofs.Types.replicator_state
use Rattle.world_laws.proofs.Types.write
use Rattle.geo_base.specs.Broker.{Broker, receiver_at, replicator_at}
use Rattle.geo_base.specs.Cursor.{with_index}
use Rattle.geo_base.specs.Link.{Link}
use Rattle.geo_base.specs.Plan.{Plan, done, halted}
use Rattle.geo_base.specs.Replicator.{Replicator, replicator_restarted}
use Rattle.world_laws.proofs.OnceInOrder.Appends.{after_halt, after_writes, done_entries, halted_entries}
use Rattle.world_laws.proofs.Replicating.Cursors.{has_less, has_more}
use Rattle.world_laws.proofs.Replicating.Effects.{Each, done_replicator, each_take, halted_replicator, replicator_after, replicator_changed, replicator_then, replicator_written}
use Rattle.world_laws.proofs.Replicating.PairFacts.{Carried, Grew, InSession, MayAck, Receiving, carried_grew, same_grows}
use Rattle.world_laws.proofs.Replicating.SessionFacts.{session_forgot, session_grew}

-- the facts of a pair, of the brokers at x and y, the forward link and what was sent on the back link
pub record Facts (x y : ℕ) (a b : Broker) (f : Link) (back : List Packet) : Type 0 where
  pub carried : Carried x y a.entries (replicator_at a y).cursor b.entries f.sent back
  pub session : InSession x y a.entries f.sent (replicator_at a y)
  pub receiving : Receiving (receiver_at b x) b.entries f.sent f.taken

-- those of the sending side, of its two values
pub record Sending (x y : ℕ) (near : List Entry) (s : Replicator) (far : List Entry) (sent back : List Packet) : Type 0 where
  pub carried : Carried x y near s.cursor far sent back
  pub session : InSession x y near sent s

pub sending_of : (x y : ℕ) (a b : Broker) (f : Link) (back : List Packet) → Facts x y a b f back → Sending x y a.entries (replicator_at a y) b.entries f.sent back
sending_of x y a b f back h = record { carried = h.carried; session = h.session }

pub facts_of : (x y : ℕ) (a' b : Broker) (f : Link) (back : List Packet) (near : List Entry) (s : Replicator) → a'.entries ≡ near → replicator_at a' y ≡ s
    → Receiving (receiver_at b x) b.entries f.sent f.taken → Sending x y near s b.entries f.sent back → Facts x y a' b f back
facts_of x y a' b f back near s entries replicator r h =
    let C : List Entry → Replicator → Type 0 = λ es t. Carried x y es t.cursor b.entries f.sent back in
    let I : List Entry → Replicator → Type 0 = λ es t. InSession x y es f.sent t in
    record {
      carried = subst (λ (es : List Entry). C es (replicator_at a' y)) (sym entries) (subst (C near) (sym replicator) h.carried);
      session = subst (λ (es : List Entry). I es (replicator_at a' y)) (sym entries) (subst (I near) (sym replicator) h.session);
      receiving = r;
    }

-- a write that an event may do at x: a cursor that gains what it may, and no new session
abbrev pub OkWrite : ℕ → ℕ → List Entry → List Entry → Write → Type 0
OkWrite x y near far (write.ReplicatorAck z i) = z ≡ y → MayAck x y near far i
OkWrite x y near far (write.SessionNumber z n) = z ≡ y → ⊥
OkWrite x y near far w = Unit {0}

-- what such writes have done to the topic and the replicator
pub record HasWritten (x y : ℕ) (near far : List Entry) (s : Replicator) (near' : List Entry) (s' : Replicator) : Type 0 where
  pub grew : Grew x y near far s.cursor near' s'.cursor
  pub rest : s' ≡ record s { cursor = s'.cursor }

pub none_written : (x y : ℕ) (near far : List Entry) (s : Replicator) → HasWritten x y near far s near s
none_written x y near far s = record {
  grew = record { entries = same_grows near; keeps = λ i h. h; gains = λ i h. inl h };
  rest = refl;
}

append_written : (x y : ℕ) (near far : List Entry) (s : Replicator) (near' : List Entry) (s' : Replicator) (e : Entry) → HasWritten x y near far s near' s'
    → HasWritten x y near far s (near' ++ e ∷ []) s'
append_written x y near far s near' s' e h = record {
  grew = record {
    entries = record {
      more = h.grew.entries.more ++ e ∷ [];
      is = ap (λ (l : List Entry). l ++ e ∷ []) h.grew.entries.is ∙ append_assoc near h.grew.entries.more (e ∷ []);
    };
    keeps = h.grew.keeps;
    gains = h.grew.gains;
  };
  rest = h.rest;
}

ack_written : (x y : ℕ) (near far : List Entry) (s : Replicator) (near' : List Entry) (s' : Replicator) (z i : ℕ) (b : Bool) → (z == y) ≡ b
    → (z ≡ y → MayAck x y near far i) → HasWritten x y near far s near' s'
    → HasWritten x y near far s near' (if b then record s' { cursor = with_index s'.cursor i } else s')
ack_written x y near far s near' s' z i true e may h = record {
  grew = record {
    entries = h.grew.entries;
    keeps = λ j k. has_more s'.cursor i j (h.grew.keeps j k);
    gains = λ j k.
        elim (has_less s'.cursor i j k) [
          | inl is ↦ let P : ℕ → Type 0 = λ n. MayAck x y near far n in inr (subst P is (may (eqb-true z y e)))
          | inr k ↦ h.grew.gains j k
        ];
  };
  rest = ap (λ (t : Replicator). record t { cursor = with_index s'.cursor i }) h.rest;
}
ack_written x y near far s near' s' z i false e may h = h

number_written : (x y : ℕ) (near far : List Entry) (s : Replicator) (near' : List Entry) (s' : Replicator) (z n : ℕ) (b : Bool) → (z == y) ≡ b → (z ≡ y → ⊥)
    → HasWritten x y near far s near' s' → HasWritten x y near far s near' (if b then record s' { session = n } else s')
number_written x y near far s near' s' z n true e other h = absurd (other (eqb-true z y e))
number_written x y near far s near' s' z n false e other h = h

pub all_ok_written : (x y : ℕ) (near far : List Entry) (s : Replicator) (near' : List Entry) (s' : Replicator) (ws : List Write) → Each (OkWrite x y near far) ws
    → HasWritten x y near far s near' s' → HasWritten x y near far s (after_writes near' ws) (replicator_after y s' ws)
all_ok_written x y near far s near' s' [] ok h = h
all_ok_written x y near far s near' s' (write.Append e ∷ ws) ok h =
    all_ok_written x y near far s (near' ++ e ∷ []) s' ws ok.1 (append_written x y near far s near' s' e h)
all_ok_written x y near far s near' s' (write.ReplicatorAck z i ∷ ws) ok h =
    all_ok_written x y near far s near' (replicator_written y s' (write.ReplicatorAck z i)) ws ok.1 (ack_written x y near far s near' s' z i (z == y) refl ok.0 h)
all_ok_written x y near far s near' s' (write.SessionNumber z n ∷ ws) ok h =
    all_ok_written x y near far s near' (replicator_written y s' (write.SessionNumber z n)) ws ok.1 (number_written x y near far s near' s' z n (z == y) refl ok.0 h)
all_ok_written x y near far s near' s' (w ∷ ws) ok h = all_ok_written x y near far s near' s' ws ok.1 h

pub sending_written : (x y : ℕ) (near far : List Entry) (s : Replicator) (near' : List Entry) (s' : Replicator) (sent back : List Packet)
    → HasWritten x y near far s near' s' → Sending x y near s far sent back → Sending x y near' s' far sent back
sending_written x y near far s near' s' sent back h f =
    let P : Replicator → Type 0 = λ t. InSession x y near' sent t in
    record {
      carried = carried_grew x y near far s.cursor near' s'.cursor sent back h.grew f.carried;
      session = subst P (sym h.rest) (session_grew x y near near' sent s s'.cursor h.grew.entries h.grew.keeps f.session);
    }

-- a change that leaves the replicator to y
abbrev pub LeavesReplicator : ℕ → Change → Type 0
LeavesReplicator y (change.Opening z) = z ≡ y → ⊥
LeavesReplicator y (change.Opened z) = z ≡ y → ⊥
LeavesReplicator y (change.Pend z i) = z ≡ y → ⊥
LeavesReplicator y (change.ReadTo z i) = z ≡ y → ⊥
LeavesReplicator y (change.Unpend z n) = z ≡ y → ⊥
LeavesReplicator y change.Forget = ⊥
LeavesReplicator y c = Unit {0}

pub not_it : (z y : ℕ) (s t : Replicator) → (z ≡ y → ⊥) → (if z == y then t else s) ≡ s
not_it z y s t other = by (z == y) refl
  where
    by : (b : Bool) → (z == y) ≡ b → (if b then t else s) ≡ s
    by true e = absurd (other (eqb-true z y e))
    by false e = refl

left_one : (y : ℕ) (s : Replicator) (c : Change) → LeavesReplicator y c → replicator_changed y s c ≡ s
left_one y s (change.Opening z) h = not_it z y s _ h
left_one y s (change.Opened z) h = not_it z y s _ h
left_one y s (change.Pend z i) h = not_it z y s _ h
left_one y s (change.ReadTo z i) h = not_it z y s _ h
left_one y s (change.Unpend z n) h = not_it z y s _ h
left_one y s change.Forget h = absurd h
left_one y s c h = refl

pub left_all : (y : ℕ) (s : Replicator) (cs : List Change) → Each (LeavesReplicator y) cs → replicator_then y s cs ≡ s
left_all y s [] h = refl
left_all y s (c ∷ cs) h = ap (λ (t : Replicator). replicator_then y t cs) (left_one y s c h.0) ∙ left_all y s cs h.1

-- a plan whose changes turn the replicator as they may
pub facts_done : (x y per : ℕ) (a b : Broker) (f : Link) (back : List Packet) (p : Plan) → y < length a.replicators → Each (OkWrite x y a.entries b.entries) p.writes
    → (Sending x y (after_writes a.entries p.writes) (replicator_after y (replicator_at a y) p.writes) b.entries f.sent back
    → Sending x y (after_writes a.entries p.writes) (replicator_then y (replicator_after y (replicator_at a y) p.writes) p.changes) b.entries f.sent back)
    → Facts x y a b f back → Facts x y (done per a p) b f back
facts_done x y per a b f back p lt ok turns h =
    facts_of x y (done per a p) b f back _ _ (done_entries per a p) (done_replicator per a y p lt) h.receiving
    (turns (sending_written x y a.entries b.entries (replicator_at a y) _ _ f.sent back
    (all_ok_written x y a.entries b.entries (replicator_at a y) a.entries (replicator_at a y) p.writes ok (none_written x y a.entries b.entries (replicator_at a y)))
    (sending_of x y a b f back h)))

-- one that leaves the replicator
pub facts_aside : (x y per : ℕ) (a b : Broker) (f : Link) (back : List Packet) (p : Plan) → y < length a.replicators → Each (OkWrite x y a.entries b.entries) p.writes
    → Each (LeavesReplicator y) p.changes → Facts x y a b f back → Facts x y (done per a p) b f back
facts_aside x y per a b f back p lt ok leaves h =
    facts_done x y per a b f back p lt ok
    (λ k. let P : Replicator → Type 0 = λ t. Sending x y (after_writes a.entries p.writes) t b.entries f.sent back in subst P (sym (left_all y _ p.changes leaves)) k) h

-- a stop after some of its writes
pub sending_restarted : (x y : ℕ) (near : List Entry) (s : Replicator) (far : List Entry) (sent back : List Packet) → Sending x y near s far sent back
    → Sending x y near (replicator_restarted s) far sent back
sending_restarted x y near s far sent back h =
    record { carried = h.carried; session = session_forgot x y near sent s s.session replicator_state.Closed (omega arith) (inl refl) h.session }

pub facts_halted : (x y per k : ℕ) (a b : Broker) (f : Link) (back : List Packet) (p : Plan) → y < length a.replicators → Each (OkWrite x y a.entries b.entries) p.writes
    → Facts x y a b f back → Facts x y (halted per a k p) b f back
facts_halted x y per k a b f back p lt ok h =
    let ws = take k p.writes in
    facts_of x y (halted per a k p) b f back _ _ (halted_entries per a k p ∙ after_halt a.entries ws) (halted_replicator per a y k p lt) h.receiving
    (sending_restarted x y (after_writes a.entries ws) (replicator_after y (replicator_at a y) ws) b.entries f.sent back
    (sending_written x y a.entries b.entries (replicator_at a y) _ _ f.sent back
    (all_ok_written x y a.entries b.entries (replicator_at a y) a.entries (replicator_at a y) ws (each_take (OkWrite x y a.entries b.entries) k p.writes ok) (none_written x y a.entries b.entries (replicator_at a y)))
    (sending_of x y a b f back h)))
