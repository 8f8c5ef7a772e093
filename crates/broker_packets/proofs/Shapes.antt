-- Events of a few steps: each is the machine's plan, and a broker can do it.
use Rattle.std.proofs.Common.{◌≡◌, ℕ, ◌<◌, ◌≤◌, Bool, true, false, List, [], ◌∷◌, ◌++◌, length, refl, sym, ◌∙◌, subst, arith}
use Rattle.std.specs.Prelude.{if◌then◌else◌, Option, Some, None, Result, OnOk}
use Rattle.std.proofs.lemmas.Bool.{le-ltb, lt-ltb}
use Rattle.geo_base.specs.declared.change.Change.{Change}
use Rattle.geo_base.specs.declared.change.Change.TheVariants as change
use Rattle.geo_base.specs.declared.frame.Frame.{Frame}
use Rattle.geo_base.specs.declared.frame.Frame.TheVariants as frame
use Rattle.geo_base.specs.declared.packet.Peer.TheVariants as peer
use Rattle.geo_base.specs.declared.session.AttachedProducer.{AttachedProducer}
use Rattle.geo_base.specs.declared.session.Session.{Session}
use Rattle.geo_base.specs.declared.write.Write.{Write}
use Rattle.geo_base.specs.declared.write.Write.TheVariants as write
use Rattle.geo_base.specs.Answers.{answer, refuses, succeeds, unknown_error}
use Rattle.geo_base.specs.Broker.{Broker, Site}
use Rattle.geo_base.specs.Plan.{Plan, idle_plan, plan_of, quiet_plan}
use Rattle.geo_base.specs.Serving.{session_becomes}
use Rattle.geo_base.specs.Subscribing.{serve_unsubscribe}
use Rattle.geo_base.specs.Subscription.{Subscription}
use Rattle.broker_subs.specs.Table.{sub_at}
use Rattle.broker_subs.specs.declared.changing.SubChange.TheVariants as sub_change
use Rattle.broker_state.specs.Fits.{NamedFits}
use Rattle.broker_state.specs.Plan.{PlanView, idle_view, name_in, named_plan, quiet_view}
use Rattle.broker_state.specs.Room.{HasRoom, Room}
use Rattle.broker_state.specs.declared.change.StateChange.{StateChange}
use Rattle.broker_state.specs.declared.change.StateChange.TheVariants as state_change
use Rattle.broker_state.specs.declared.write.StateWrite.TheVariants as state_write
use Rattle.broker_plans.specs.Prepared.{AlsoSends, ArePackets, IsPrepared, unsent}
use Rattle.broker_plans.specs.Storable.{PlanStorable}
use Rattle.broker_plans.proofs.Keeping.{sends_more}
use Rattle.broker_plans.proofs.Places.{name_there, there}
use Rattle.broker_packets.specs.Serving.{connected, connects, open_at}

-- an event about a subscription whose name is known
pub with_name : (h : Site) (b : Broker) (plan : Plan) (p : PlanView) (n : List ℕ) → name_in b.subs p ≡ n → named_plan n b.entries p ≡ unsent plan → ArePackets h.clusters plan.sent p.sent
    → NamedFits h.per_ledger n b p → PlanStorable h plan → IsPrepared h b plan p
with_name h b plan p n is steps sent fits stored = record {
  steps = subst (λ (m : List ℕ). named_plan m b.entries p ≡ unsent plan) (sym is) steps;
  sent = sent;
  fits = subst (λ (m : List ℕ). NamedFits h.per_ledger m b p) (sym is) fits;
  stored = stored;
}

-- a call whose plan is the machine's
pub same_plan : {E : Type 0} (h : Site) (b : Broker) (x y : Plan) (p : PlanView) (r : Result (Unit {0}) E) → x ≡ y → OnOk r (IsPrepared h b x p) → OnOk r (IsPrepared h b y p)
same_plan h b x y p r same is = subst (λ (z : Plan). OnOk r (IsPrepared h b z p)) same is

-- what was prepared after a call that made room is prepared for the state before it, which is the same
pub at_old : (new_h h : Site) (new_b b : Broker) (plan : Broker → Plan) (p : PlanView) → new_h ≡ h → new_b ≡ b → IsPrepared new_h new_b (plan new_b) p → IsPrepared h b (plan b) p
at_old new_h h new_b b plan p site broker is = subst (λ (g : Site). IsPrepared g b (plan b) p) site (subst (λ (x : Broker). IsPrepared new_h x (plan x) p) broker is)

-- a request is refused with a code, or else done
abbrev pub plan_at : Option ℕ → (ℕ → Plan) → Plan → Plan
plan_at None p q = q
plan_at (Some code) p q = p code

pub chosen : (x y : Bool) (u v : ℕ) (p : ℕ → Plan) (q : Plan) → (if x then p u else if y then p v else q) ≡ plan_at (if x then Some u else if y then Some v else None) p q
chosen true y u v p q = refl
chosen false true u v p q = refl
chosen false false u v p q = refl

pub idle : (h : Site) (b : Broker) (p : PlanView) → p ≡ idle_view → IsPrepared h b idle_plan p
idle h b p is =
    rw is (record {
      steps = refl;
      sent = tt;
      fits = record { writes_named = tt; changes_named = tt; writes = tt; changes = tt };
      stored = record { writes = tt; changes = tt };
    })

pub nothing : (h : Site) (b : Broker) (k : ℕ) (p : PlanView) → p ≡ quiet_view k → IsPrepared h b (quiet_plan []) p
nothing h b k p is =
    rw is (record {
      steps = refl;
      sent = tt;
      fits = record { writes_named = tt; changes_named = tt; writes = tt; changes = tt };
      stored = record { writes = tt; changes = tt };
    })

pub client_changes : (h : Site) (b : Broker) (c : ℕ) (o : Option Session) (p : PlanView) → c < length b.sessions
    → p ≡ record (quiet_view 0) { changes = state_change.Client c o ∷ [] } → IsPrepared h b (plan_of [] (change.Client c o ∷ []) []) p
client_changes h b c o p within is =
    rw is (record {
      steps = refl;
      sent = tt;
      fits = record { writes_named = tt; changes_named = (tt, tt); writes = tt; changes = (within, tt) };
      stored = record { writes = tt; changes = tt };
    })

pub session_changes : (h : Site) (b : Broker) (c : ℕ) (o : Option Session) (p : PlanView) → c < length b.sessions
    → p ≡ record (quiet_view 0) { changes = state_change.Detach c ∷ state_change.Client c o ∷ [] } → IsPrepared h b (quiet_plan (session_becomes c o)) p
session_changes h b c o p within is =
    rw is (record {
      steps = refl;
      sent = tt;
      fits = record { writes_named = tt; changes_named = (tt, (tt, tt)); writes = tt; changes = (tt, (within, tt)) };
      stored = record { writes = tt; changes = tt };
    })

pub detaches : (h : Site) (b : Broker) (c : ℕ) (p : PlanView) → p ≡ record (quiet_view 0) { changes = state_change.Detach c ∷ [] } → IsPrepared h b (plan_of [] (change.Detach c ∷ []) []) p
detaches h b c p is =
    rw is (record {
      steps = refl;
      sent = tt;
      fits = record { writes_named = tt; changes_named = (tt, tt); writes = tt; changes = (tt, tt) };
      stored = record { writes = tt; changes = tt };
    })

-- an event that changes one thing
pub change_alone : (k : ℕ) (x : StateChange) (q p : PlanView) → q ≡ quiet_view k → p ≡ record q { changes = q.changes ++ x ∷ [] } → p ≡ record (quiet_view k) { changes = x ∷ [] }
change_alone k x q p begun is = is ∙ rw begun refl

pub permits : (h : Site) (b : Broker) (k c n : ℕ) (p : PlanView) → k < length b.subs
    → p ≡ record (quiet_view k) { changes = state_change.Sub (sub_change.Permit c n) ∷ [] } → IsPrepared h b (quiet_plan (change.Permit (sub_at b.subs k).name c n ∷ [])) p
permits h b k c n p within is =
    rw is
    (with_name h b (quiet_plan (change.Permit (sub_at b.subs k).name c n ∷ [])) (record (quiet_view k) { changes = state_change.Sub (sub_change.Permit c n) ∷ [] }) (sub_at b.subs k).name (rw (there b.subs k within) refl) refl tt
    (record { writes_named = tt; changes_named = (name_there b.subs k within, tt); writes = tt; changes = (tt, tt) })
    (record { writes = tt; changes = tt }))

pub deletes : (h : Site) (b : Broker) (k : ℕ) (p : PlanView) → k < length b.subs
    → p ≡ record (quiet_view k) { writes = state_write.Delete ∷ [] } → IsPrepared h b (plan_of (write.Delete (sub_at b.subs k).name ∷ []) [] []) p
deletes h b k p within is =
    rw is
    (with_name h b (plan_of (write.Delete (sub_at b.subs k).name ∷ []) [] []) (record (quiet_view k) { writes = state_write.Delete ∷ [] }) (sub_at b.subs k).name (rw (there b.subs k within) refl) refl tt
    (record { writes_named = (name_there b.subs k within, tt); changes_named = tt; writes = (tt, tt); changes = tt })
    (record { writes = tt; changes = tt }))

-- ---- an answer after all that an event does

-- in the session that is open in the state before it, which is the same as the state that the code looks at
pub answers_more : (h : Site) (b now : Broker) (c : ℕ) (f : Frame) (ws : List Write) (cs : List Change) (p q : PlanView) → now ≡ b → IsPrepared h b (plan_of ws cs []) p
    → AlsoSends h.clusters (record { to = peer.Client c; session = (open_at now c).number; frame = f }) p q → IsPrepared h b (plan_of ws cs (answer c (open_at b c) f)) q
answers_more h b now c f ws cs p q same is sends =
    sends_more h b ws cs (record { to = peer.Client c; session = (open_at b c).number; frame = f }) p q is
    (subst (λ (x : Broker). AlsoSends h.clusters (record { to = peer.Client c; session = (open_at x c).number; frame = f }) p q) same sends)

-- the session that CONNECT opens has no producer
pub connects_more : (h : Site) (b : Broker) (c number : ℕ) (ps : List AttachedProducer) (p q : PlanView) → ps ≡ [] → IsPrepared h b (quiet_plan (session_becomes c (Some (record { number = number; producers = ps })))) p
    → AlsoSends h.clusters (record { to = peer.Client c; session = number; frame = frame.Connected }) p q → IsPrepared h b (connects c number) q
connects_more h b c number ps p q none is sends =
    sends_more h b [] (session_becomes c (Some (connected number))) (record { to = peer.Client c; session = number; frame = frame.Connected }) p q
    (subst (λ (xs : List AttachedProducer). IsPrepared h b (quiet_plan (session_becomes c (Some (record { number = number; producers = xs })))) p) none is) sends

-- ---- none of them needs room

pub idle_room : (room : Room) (p : PlanView) → p ≡ idle_view → HasRoom room p
idle_room room p is =
    rw is (record { writes = record { entries = omega arith; streams = omega arith; places = omega arith; acks = tt; replicators = omega arith }; given = omega arith; replicators = omega arith })

pub change_room_none : (room : Room) (c : ℕ) (o : Option Session) (p : PlanView) → p ≡ record (quiet_view 0) { changes = state_change.Client c o ∷ [] } → HasRoom room p
change_room_none room c o p is =
    rw is (record { writes = record { entries = omega arith; streams = omega arith; places = omega arith; acks = tt; replicators = omega arith }; given = omega arith; replicators = omega arith })

pub session_room : (room : Room) (c : ℕ) (o : Option Session) (p : PlanView) → p ≡ record (quiet_view 0) { changes = state_change.Detach c ∷ state_change.Client c o ∷ [] } → HasRoom room p
session_room room c o p is =
    rw is (record { writes = record { entries = omega arith; streams = omega arith; places = omega arith; acks = tt; replicators = omega arith }; given = omega arith; replicators = omega arith })

pub detach_room : (room : Room) (c : ℕ) (p : PlanView) → p ≡ record (quiet_view 0) { changes = state_change.Detach c ∷ [] } → HasRoom room p
detach_room room c p is =
    rw is (record { writes = record { entries = omega arith; streams = omega arith; places = omega arith; acks = tt; replicators = omega arith }; given = omega arith; replicators = omega arith })

pub permit_room : (room : Room) (k c n : ℕ) (p : PlanView) → p ≡ record (quiet_view k) { changes = state_change.Sub (sub_change.Permit c n) ∷ [] } → HasRoom room p
permit_room room k c n p is =
    rw is (record { writes = record { entries = omega arith; streams = omega arith; places = omega arith; acks = tt; replicators = omega arith }; given = omega arith; replicators = omega arith })

pub delete_room : (room : Room) (k : ℕ) (p : PlanView) → p ≡ record (quiet_view k) { writes = state_write.Delete ∷ [] } → HasRoom room p
delete_room room k p is =
    rw is (record { writes = record { entries = omega arith; streams = omega arith; places = omega arith; acks = (tt, tt); replicators = omega arith }; given = omega arith; replicators = omega arith })

-- ---- UNSUBSCRIBE of a subscription of one consumer, or of more

pub many_consumers : (c : ℕ) (s : Session) (request : ℕ) (sub : Subscription) → 1 < length sub.consumers → serve_unsubscribe c s request (Some sub) ≡ refuses c s request unknown_error
many_consumers c s request sub more = rw (lt-ltb 1 (length sub.consumers) more) refl

pub one_consumer : (c : ℕ) (s : Session) (request : ℕ) (sub : Subscription) → length sub.consumers ≤ 1 → serve_unsubscribe c s request (Some sub) ≡ plan_of (write.Delete sub.name ∷ []) [] (succeeds c s request)
one_consumer c s request sub few = rw (le-ltb 1 (length sub.consumers) few) refl
