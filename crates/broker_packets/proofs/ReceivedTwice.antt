-- What the back link answers two times in a row has the effect of one answer.
use Rattle.std.proofs.Common.{◌≡◌, ℕ, ◌<◌, ◌==◌, Bool, true, false, [], ◌∷◌, length, refl, ap, sym, ◌∙◌}
use Rattle.std.specs.Prelude.{if◌then◌else◌, Option, Some, None}
use Rattle.std.proofs.lemmas.List.{get_or-set_same, length-set}
use Rattle.geo_base.specs.declared.change.Change.TheVariants as change
use Rattle.geo_base.specs.declared.frame.Frame.{Frame}
use Rattle.geo_base.specs.declared.frame.Frame.TheVariants as frame
use Rattle.geo_base.specs.declared.packet.Packet.{Packet}
use Rattle.geo_base.specs.declared.replicator.ReplicatorState.{ReplicatorState}
use Rattle.geo_base.specs.declared.replicator.ReplicatorState.TheVariants as replicator_state
use Rattle.geo_base.specs.Broker.{Broker, Site, at_replicator, replicator_at}
use Rattle.geo_base.specs.Cursor.{with_index}
use Rattle.geo_base.specs.Forwarding.{opens, receipt_command, receipt_packet, receives}
use Rattle.geo_base.specs.Plan.{Plan, done, quiet_plan, twice}
use Rattle.geo_base.specs.Replicator.{Replicator, new_replicator, pending_index, without_number}
use Rattle.broker_state.specs.Plan.{PlanView}
use Rattle.broker_plans.specs.Prepared.{IsPrepared}
use Rattle.broker_packets.proofs.Again.{twice_is}

-- an answer that a replicator has in a session of the link
abbrev answered : ℕ → ℕ → Frame → Replicator → Plan
answered y session f s = if session == s.session then receipt_command y s f else quiet_plan []

abbrev success : ℕ → Bool → ReplicatorState → Plan
success y current state = if current then opens y state else quiet_plan []

abbrev receipted : ℕ → ℕ → Bool → Option ℕ → Plan
receipted y seq current o = if current then receives y seq o else quiet_plan []

-- the replicator that was changed
changed_replicator : (b : Broker) (y : ℕ) (f : Replicator → Replicator) → y < length b.replicators → replicator_at (at_replicator b y f) y ≡ f (replicator_at b y)
changed_replicator b y f within = get_or-set_same b.replicators y (f (replicator_at b y)) new_replicator within

-- what has no effect has none the second time
nothing_twice : (per : ℕ) (b : Broker) (P : Broker → Plan) (p : Plan) → P b ≡ p → p ≡ quiet_plan [] → twice per b P ≡ p
nothing_twice per b P p first is = twice_is per b P (quiet_plan []) (quiet_plan []) (first ∙ is) (first ∙ is) ∙ sym is

quiet_both : (t : Bool) → (if t then quiet_plan [] else quiet_plan []) ≡ quiet_plan []
quiet_both true = refl
quiet_both false = refl

-- a session that is open is not opened again
success_twice : (per : ℕ) (b : Broker) (y session : ℕ) (P : Broker → Plan) → y < length b.replicators
    → ((now : Broker) → P now ≡ success y (session == (replicator_at now y).session) (replicator_at now y).state)
    → (current : Bool) → (session == (replicator_at b y).session) ≡ current → (state : ReplicatorState) → (replicator_at b y).state ≡ state → twice per b P ≡ success y current state
success_twice per b y session P within acts false now state is =
    nothing_twice per b P _ (acts b ∙ ap (λ (t : Bool). success y t (replicator_at b y).state) now) refl
success_twice per b y session P within acts true now replicator_state.Opening is =
    let first : P b ≡ quiet_plan (change.Opened y ∷ []) = acts b ∙ ap (λ (t : Bool). success y t (replicator_at b y).state) now ∙ ap (λ (v : ReplicatorState). success y true v) is in
    let after : Broker = done per b (quiet_plan (change.Opened y ∷ [])) in
    let second : P after ≡ quiet_plan [] =
    acts after
    ∙ ap (λ (s : Replicator). success y (session == s.session) s.state) (changed_replicator b y (λ s. record s { state = replicator_state.Open }) within)
    ∙ quiet_both (session == (replicator_at b y).session) in
    twice_is per b P _ _ first second
success_twice per b y session P within acts true now replicator_state.Open is =
    nothing_twice per b P _ (acts b ∙ ap (λ (t : Bool). success y t (replicator_at b y).state) now ∙ ap (λ (v : ReplicatorState). success y true v) is) refl
success_twice per b y session P within acts true now replicator_state.Closed is =
    nothing_twice per b P _ (acts b ∙ ap (λ (t : Bool). success y t (replicator_at b y).state) now ∙ ap (λ (v : ReplicatorState). success y true v) is) refl

-- a number whose receipt came is awaited no more
receipt_again : (per : ℕ) (b : Broker) (y session seq : ℕ) (P : Broker → Plan) → y < length b.replicators → pending_index (without_number (replicator_at b y).pending seq) seq ≡ None
    → ((now : Broker) → P now ≡ receipted y seq (session == (replicator_at now y).session) (pending_index (replicator_at now y).pending seq))
    → (current : Bool) → (session == (replicator_at b y).session) ≡ current → (o : Option ℕ) → pending_index (replicator_at b y).pending seq ≡ o → twice per b P ≡ receipted y seq current o
receipt_again per b y session seq P within once acts false now o is =
    nothing_twice per b P _ (acts b ∙ ap (λ (t : Bool). receipted y seq t (pending_index (replicator_at b y).pending seq)) now) refl
receipt_again per b y session seq P within once acts true now None is =
    nothing_twice per b P _ (acts b ∙ ap (λ (t : Bool). receipted y seq t (pending_index (replicator_at b y).pending seq)) now ∙ ap (λ (o : Option ℕ). receipted y seq true o) is) refl
receipt_again per b y session seq P within once acts true now (Some i) is =
    let first : P b ≡ receives y seq (Some i) = acts b ∙ ap (λ (t : Bool). receipted y seq t (pending_index (replicator_at b y).pending seq)) now ∙ ap (λ (o : Option ℕ). receipted y seq true o) is in
    let acknowledged : Broker = at_replicator b y (λ s. record s { cursor = with_index s.cursor i }) in
    let after : Broker = done per b (receives y seq (Some i)) in
    let stays : replicator_at after y ≡ record (replicator_at b y) { cursor = with_index (replicator_at b y).cursor i; pending = without_number (replicator_at b y).pending seq } =
    changed_replicator acknowledged y (λ s. record s { pending = without_number s.pending seq }) (rw (length-set b.replicators y (record (replicator_at b y) { cursor = with_index (replicator_at b y).cursor i })) within)
    ∙ ap (λ (s : Replicator). record s { pending = without_number s.pending seq }) (changed_replicator b y (λ s. record s { cursor = with_index s.cursor i }) within) in
    let second : P after ≡ quiet_plan [] =
    acts after
    ∙ ap (λ (s : Replicator). receipted y seq (session == s.session) (pending_index s.pending seq)) stays
    ∙ ap (λ (o : Option ℕ). receipted y seq (session == (replicator_at b y).session) o) once
    ∙ quiet_both (session == (replicator_at b y).session) in
    twice_is per b P _ _ first second

answer_twice : (per : ℕ) (b : Broker) (y session : ℕ) (f : Frame) (P : Broker → Plan) → y < length b.replicators
    → ((seq : ℕ) → pending_index (without_number (replicator_at b y).pending seq) seq ≡ None)
    → ((now : Broker) → P now ≡ answered y session f (replicator_at now y)) → twice per b P ≡ answered y session f (replicator_at b y)
answer_twice per b y session frame.Connect P within once acts = nothing_twice per b P _ (acts b) (quiet_both (session == (replicator_at b y).session))
answer_twice per b y session frame.Connected P within once acts = nothing_twice per b P _ (acts b) (quiet_both (session == (replicator_at b y).session))
answer_twice per b y session (frame.Subscribe topic sub kind id request consumer earliest replicated) P within once acts = nothing_twice per b P _ (acts b) (quiet_both (session == (replicator_at b y).session))
answer_twice per b y session (frame.Producer topic id request name) P within once acts = nothing_twice per b P _ (acts b) (quiet_both (session == (replicator_at b y).session))
answer_twice per b y session (frame.Send id seq source e) P within once acts = nothing_twice per b P _ (acts b) (quiet_both (session == (replicator_at b y).session))
answer_twice per b y session (frame.SendReceipt id seq position) P within once acts =
    receipt_again per b y session seq P within (once seq) acts (session == (replicator_at b y).session) refl (pending_index (replicator_at b y).pending seq) refl
answer_twice per b y session (frame.SendError id seq code) P within once acts = nothing_twice per b P _ (acts b) (quiet_both (session == (replicator_at b y).session))
answer_twice per b y session (frame.Message id position source e) P within once acts = nothing_twice per b P _ (acts b) (quiet_both (session == (replicator_at b y).session))
answer_twice per b y session (frame.Ack id kind positions) P within once acts = nothing_twice per b P _ (acts b) (quiet_both (session == (replicator_at b y).session))
answer_twice per b y session (frame.Flow id permits) P within once acts = nothing_twice per b P _ (acts b) (quiet_both (session == (replicator_at b y).session))
answer_twice per b y session (frame.Unsubscribe id request) P within once acts = nothing_twice per b P _ (acts b) (quiet_both (session == (replicator_at b y).session))
answer_twice per b y session (frame.Success request) P within once acts = nothing_twice per b P _ (acts b) (quiet_both (session == (replicator_at b y).session))
answer_twice per b y session (frame.Error request code) P within once acts = nothing_twice per b P _ (acts b) (quiet_both (session == (replicator_at b y).session))
answer_twice per b y session (frame.CloseProducer id request) P within once acts = nothing_twice per b P _ (acts b) (quiet_both (session == (replicator_at b y).session))
answer_twice per b y session (frame.CloseConsumer id request) P within once acts = nothing_twice per b P _ (acts b) (quiet_both (session == (replicator_at b y).session))
answer_twice per b y session (frame.ProducerSuccess request name) P within once acts =
    success_twice per b y session P within acts (session == (replicator_at b y).session) refl (replicator_at b y).state refl
answer_twice per b y session frame.Ping P within once acts = nothing_twice per b P _ (acts b) (quiet_both (session == (replicator_at b y).session))
answer_twice per b y session frame.Pong P within once acts = nothing_twice per b P _ (acts b) (quiet_both (session == (replicator_at b y).session))
answer_twice per b y session frame.Unreadable P within once acts = nothing_twice per b P _ (acts b) (quiet_both (session == (replicator_at b y).session))

pub answered_twice : (per : ℕ) (b : Broker) (y : ℕ) (p : Packet) → y < length b.replicators → ((seq : ℕ) → pending_index (without_number (replicator_at b y).pending seq) seq ≡ None)
    → twice per b (λ now. receipt_packet now y p) ≡ receipt_packet b y p
answered_twice per b y p within once = answer_twice per b y p.session p.frame (λ now. receipt_packet now y p) within once (λ now. refl)

-- a prepared event of an answer that counts, for one that comes twice
pub twice_prepared : (h : Site) (b : Broker) (y : ℕ) (p : Packet) (q : PlanView) → y < length b.replicators → ((seq : ℕ) → pending_index (without_number (replicator_at b y).pending seq) seq ≡ None)
    → IsPrepared h b (receipt_packet b y p) q → IsPrepared h b (twice h.per_ledger b (λ now. receipt_packet now y p)) q
twice_prepared h b y p q within once is = rw (answered_twice h.per_ledger b y p within once) is
