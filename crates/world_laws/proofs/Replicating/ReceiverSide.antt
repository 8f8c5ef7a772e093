-- What the events at y do to the facts of its pair with x: what it stores of others changes nothing for x, and a packet that
-- it takes from x goes on with what it has of x.
use Rattle.std.proofs.Common.{◌≡◌, ℕ, zero, suc, ◌<◌, ◌≤◌, Bool, true, false, List, [], ◌∷◌, ◌++◌, length, refl, sym, ap, subst, ◌∙◌, ◌==◌}
use Rattle.std.specs.Prelude.{Option, None, if◌then◌else◌, take}
use Rattle.std.proofs.lemmas.Bool.{eqb-true}
use Rattle.world_laws.proofs.Types.{Change, Entry, Packet, Write}
use Rattle.world_laws.proofs.Types.change
use Rattle.world_laws.proofs.Types.write
use Rattle.geo_base.specs.Broker.{Broker, receiver_at, replicator_at}
use Rattle.geo_base.specs.Link.{Link}
use Rattle.geo_base.specs.Plan.{Plan, done, halted}
use Rattle.world_laws.proofs.OnceInOrder.Appends.{after_halt, after_writes, done_entries, halted_entries}
use Rattle.world_laws.proofs.Replicating.Effects.{Each, done_session, halted_session, session_then}
use Rattle.world_laws.proofs.OnceInOrder.Members.{Stands, stands_left}
use Rattle.world_laws.proofs.Replicating.PairFacts.{Carried, InSession, Receiving, carried_far, none_open}
use Rattle.world_laws.proofs.Replicating.Prefixes.{Begins, is_of, other_begins}
use Rattle.world_laws.proofs.Replicating.ReplicatorSide.{Facts}

-- each append leaves a beginning
abbrev pub Extends : ℕ → ℕ → List Entry → List Entry → List Write → Type 0
Extends x y near far [] = Unit {0}
Extends x y near far (write.Append e ∷ ws) = Begins x y near (far ++ e ∷ []) × Extends x y near (far ++ e ∷ []) ws
Extends x y near far (w ∷ ws) = Extends x y near far ws

pub extends_begins : (x y : ℕ) (near far : List Entry) (ws : List Write) → Extends x y near far ws → Begins x y near far → Begins x y near (after_writes far ws)
extends_begins x y near far [] h b = b
extends_begins x y near far (write.Append e ∷ ws) h b = extends_begins x y near (far ++ e ∷ []) ws h.1 h.0
extends_begins x y near far (w ∷ ws) h b = extends_begins x y near far ws h b

pub extends_take : (x y : ℕ) (near far : List Entry) (k : ℕ) (ws : List Write) → Extends x y near far ws → Extends x y near far (take k ws)
extends_take x y near far zero ws h = tt
extends_take x y near far (suc k) [] h = tt
extends_take x y near far (suc k) (write.Append e ∷ ws) h = (h.0, extends_take x y near (far ++ e ∷ []) k ws h.1)
extends_take x y near far (suc k) (w ∷ ws) h = extends_take x y near far k ws h

pub extends_both : (x y : ℕ) (near far : List Entry) (ws vs : List Write) → Extends x y near far ws → Extends x y near (after_writes far ws) vs
    → Extends x y near far (ws ++ vs)
extends_both x y near far [] vs h k = k
extends_both x y near far (write.Append e ∷ ws) vs h k = (h.0, extends_both x y near (far ++ e ∷ []) ws vs h.1 k)
extends_both x y near far (w ∷ ws) vs h k = extends_both x y near far ws vs h k

-- an append of another cluster's entry
abbrev pub OfOther : ℕ → Write → Type 0
OfOther x (write.Append e) = is_of x e ≡ false
OfOther x w = Unit {0}

pub others_extend : (x y : ℕ) (near far : List Entry) (ws : List Write) → Each (OfOther x) ws → Begins x y near far → Extends x y near far ws
others_extend x y near far [] h b = tt
others_extend x y near far (write.Append e ∷ ws) h b =
    let n = other_begins x y near far e h.0 b in (n, others_extend x y near (far ++ e ∷ []) ws h.1 n)
others_extend x y near far (w ∷ ws) h b = others_extend x y near far ws h.1 b

pub stands_after : (far : List Entry) (ws : List Write) (e : Entry) → Stands far e → Stands (after_writes far ws) e
stands_after far [] e s = s
stands_after far (write.Append f ∷ ws) e s = stands_after (far ++ f ∷ []) ws e (stands_left far (f ∷ []) e s)
stands_after far (w ∷ ws) e s = stands_after far ws e s

-- a change that leaves the session from x
abbrev pub LeavesSession : ℕ → Change → Type 0
LeavesSession x (change.Receiver z r) = z ≡ x → ⊥
LeavesSession x change.Forget = ⊥
LeavesSession x c = Unit {0}

left_session : (x z : ℕ) (r s : Option ℕ) → (z ≡ x → ⊥) → (if z == x then s else r) ≡ r
left_session x z r s other = by (z == x) refl
  where
    by : (b : Bool) → (z == x) ≡ b → (if b then s else r) ≡ r
    by true e = absurd (other (eqb-true z x e))
    by false e = refl

pub left_sessions : (x : ℕ) (r : Option ℕ) (cs : List Change) → Each (LeavesSession x) cs → session_then x r cs ≡ r
left_sessions x r [] h = refl
left_sessions x r (change.Receiver z s ∷ cs) h = ap (λ (t : Option ℕ). session_then x t cs) (left_session x z r s h.0) ∙ left_sessions x r cs h.1
left_sessions x r (change.Forget ∷ cs) h = absurd h.0
left_sessions x r (c ∷ cs) h = left_sessions x r cs h.1

-- the facts with a new broker at y
pub facts_there : (x y : ℕ) (a b b' : Broker) (f f' : Link) (back : List Packet) (far' : List Entry) (r : Option ℕ) → b'.entries ≡ far' → receiver_at b' x ≡ r
    → f'.sent ≡ f.sent → Carried x y a.entries (replicator_at a y).cursor far' f.sent back → Receiving r far' f.sent f'.taken → Facts x y a b f back → Facts x y a b' f' back
facts_there x y a b b' f f' back far' r entries session sent c k h =
    let C : List Entry → List Packet → Type 0 = λ es ps. Carried x y a.entries (replicator_at a y).cursor es ps back in
    let R : Option ℕ → List Entry → List Packet → Type 0 = λ o es ps. Receiving o es ps f'.taken in
    record {
      carried = subst (C b'.entries) (sym sent) (subst (λ (es : List Entry). C es f.sent) (sym entries) c);
      session = subst (λ (ps : List Packet). InSession x y a.entries ps (replicator_at a y)) (sym sent) h.session;
      receiving =
          subst (R (receiver_at b' x) b'.entries) (sym sent)
          (subst (λ (es : List Entry). R (receiver_at b' x) es f.sent) (sym entries) (subst (λ (o : Option ℕ). R o far' f.sent) (sym session) k));
    }

receiving_more : (r : Option ℕ) (far far' : List Entry) (sent : List Packet) (taken : ℕ) → ((e : Entry) → Stands far e → Stands far' e)
    → Receiving r far sent taken → Receiving r far' sent taken
receiving_more r far far' sent taken more h = record { within = h.within; stands = λ m is q k e lt send. more e (h.stands m is q k e lt send) }

-- a plan that stores of others alone and leaves the session from x
pub there_aside : (x y per : ℕ) (a b : Broker) (f : Link) (back : List Packet) (p : Plan) → x < length b.receivers → Each (OfOther x) p.writes
    → Each (LeavesSession x) p.changes → Facts x y a b f back → Facts x y a (done per b p) f back
there_aside x y per a b f back p lt others leaves h =
    let far = after_writes b.entries p.writes in
    let begins = extends_begins x y a.entries b.entries p.writes (others_extend x y a.entries b.entries p.writes others h.carried.begins) h.carried.begins in
    facts_there x y a b (done per b p) f f back far (receiver_at b x) (done_entries per b p)
    (done_session per b x p lt ∙ left_sessions x (receiver_at b x) p.changes leaves) refl
    (carried_far x y a.entries (replicator_at a y).cursor b.entries far f.sent back begins (stands_after b.entries p.writes) h.carried)
    (receiving_more (receiver_at b x) b.entries far f.sent f.taken (stands_after b.entries p.writes) h.receiving) h

-- a stop after some writes of a plan: no session is open
pub there_halted : (x y per k : ℕ) (a b : Broker) (f f' : Link) (back : List Packet) (p : Plan) → Extends x y a.entries b.entries p.writes → f'.sent ≡ f.sent
    → f'.taken ≤ length f.sent → Facts x y a b f back → Facts x y a (halted per b k p) f' back
there_halted x y per k a b f f' back p extends sent within h =
    let ws = take k p.writes in let far = after_writes b.entries ws in
    let begins = extends_begins x y a.entries b.entries ws (extends_take x y a.entries b.entries k p.writes extends) h.carried.begins in
    facts_there x y a b (halted per b k p) f f' back far None (halted_entries per b k p ∙ after_halt b.entries ws) (halted_session per b x k p) sent
    (carried_far x y a.entries (replicator_at a y).cursor b.entries far f.sent back begins (stands_after b.entries ws) h.carried) (none_open far f.sent f'.taken within) h
