-- A packet of a forward link does what its act says, once and two times in a row.
use Rattle.std.proofs.Common.{◌≡◌, ℕ, zero, suc, ◌==◌, nat_lt, Bool, true, false, List, [], ◌∷◌, refl, ap, sym, ◌∙◌, arith}
use Rattle.std.specs.Prelude.{nat_le, not, ◌++◌, ◌&&◌, ◌||◌, if◌then◌else◌, Option, Some, None, slice_set, slice_index_or}
use Rattle.std.proofs.lemmas.Bool.Decides.{nat_tests}
use Rattle.geo_base.specs.declared.entry.Entry.{Entry}
use Rattle.geo_base.specs.declared.entry.Ident.{Ident}
use Rattle.geo_base.specs.declared.frame.Frame.{Frame}
use Rattle.geo_base.specs.declared.frame.Frame.TheVariants as frame
use Rattle.geo_base.specs.declared.packet.Packet.{Packet}
use Rattle.geo_base.specs.declared.write.Write.TheVariants as write
use Rattle.geo_base.specs.Broker.{Broker, Site, receiver_at}
use Rattle.geo_base.specs.Entry.{same_stream}
use Rattle.geo_base.specs.Forwarding.{take_command, take_frame}
use Rattle.geo_base.specs.Plan.{Plan, done, plan_of, quiet_plan, twice}
use Rattle.geo_base.specs.Position.{no_position}
use Rattle.geo_base.specs.Receiver.{is_from, is_open}
use Rattle.geo_base.specs.Sizes.{entry_size, most_entry_size}
use Rattle.geo_base.specs.Topic.{accepts, next_position}
use Rattle.replicator.specs.declared.receiver.Taken.{Taken}
use Rattle.replicator.specs.declared.receiver.Taken.TheVariants as takes
use Rattle.replicator.specs.Events.{is_to_open, is_unreadable, opened_by, plan_of_take}
use Rattle.replicator.specs.Taking.{taken}
use Rattle.replicator.proofs.Events.{take_as_answered}
use Rattle.broker_packets.specs.Acts.{act_of, acted, closing_plan, command_act, opening_act, opening_plan, receipts, receiving_plan, taken_act}
use Rattle.broker_packets.proofs.Again.{twice_is}
use Rattle.broker_packets.specs.declared.act.TakeAct.{TakeAct}
use Rattle.broker_packets.specs.declared.act.TakeAct.TheVariants as act
use Rattle.geo_base.proofs.Bools.{and_no_second}
use Rattle.geo_base.proofs.Lists.{bytes_eq_itself}

-- ---- once

-- plans and acts by the same test
by_test : (f : TakeAct → Plan) (t : Bool) (p q : Plan) (a c : TakeAct) → p ≡ f a → q ≡ f c → (if t then p else q) ≡ f (if t then a else c)
by_test f true p q a c h k = h
by_test f false p q a c h k = k

command_once : (h : Site) (b : Broker) (x session : ℕ) (f : Frame) → take_command h b x session f ≡ acted h b x session false (command_act h x f)
command_once h b x session frame.Connect = refl
command_once h b x session frame.Connected = refl
command_once h b x session (frame.Subscribe topic sub kind id request consumer earliest replicated) = refl
command_once h b x session (frame.Producer topic id request name) = refl
command_once h b x session (frame.Send id seq source e) =
    by_test (acted h b x session false) (is_from x source && nat_le (entry_size h.clusters e) most_entry_size) _ _ (act.Receives seq (record e { ident = record { origin = x; producer = e.ident.producer; seq = e.ident.seq } })) act.Refuses refl refl
command_once h b x session (frame.SendReceipt id seq position) = refl
command_once h b x session (frame.SendError id seq code) = refl
command_once h b x session (frame.Message id position source e) = refl
command_once h b x session (frame.Ack id kind positions) = refl
command_once h b x session (frame.Flow id permits) = refl
command_once h b x session (frame.Unsubscribe id request) = refl
command_once h b x session (frame.Success request) = refl
command_once h b x session (frame.Error request code) = refl
command_once h b x session (frame.CloseProducer id request) = refl
command_once h b x session (frame.CloseConsumer id request) = refl
command_once h b x session (frame.ProducerSuccess request name) = refl
command_once h b x session frame.Ping = refl
command_once h b x session frame.Pong = refl
command_once h b x session frame.Unreadable = refl

opening_once : (h : Site) (b : Broker) (x session : ℕ) (f : Frame) → opened_by h x f ≡ acted h b x session false (opening_act f)
opening_once h b x session frame.Connect = refl
opening_once h b x session frame.Connected = refl
opening_once h b x session (frame.Subscribe topic sub kind id request consumer earliest replicated) = refl
opening_once h b x session (frame.Producer topic id request name) = refl
opening_once h b x session (frame.Send id seq source e) = refl
opening_once h b x session (frame.SendReceipt id seq position) = refl
opening_once h b x session (frame.SendError id seq code) = refl
opening_once h b x session (frame.Message id position source e) = refl
opening_once h b x session (frame.Ack id kind positions) = refl
opening_once h b x session (frame.Flow id permits) = refl
opening_once h b x session (frame.Unsubscribe id request) = refl
opening_once h b x session (frame.Success request) = refl
opening_once h b x session (frame.Error request code) = refl
opening_once h b x session (frame.CloseProducer id request) = refl
opening_once h b x session (frame.CloseConsumer id request) = refl
opening_once h b x session (frame.ProducerSuccess request name) = refl
opening_once h b x session frame.Ping = refl
opening_once h b x session frame.Pong = refl
opening_once h b x session frame.Unreadable = refl

taken_act_once : (h : Site) (b : Broker) (x session : ℕ) (f : Frame) (t : Taken) → plan_of_take h b x session f t ≡ acted h b x session false (taken_act h x f t)
taken_act_once h b x session f takes.Opened = opening_once h b x session f
taken_act_once h b x session f takes.Process = command_once h b x session f
taken_act_once h b x session f takes.Discard = refl

pub taken_once : (h : Site) (b : Broker) (x : ℕ) (p : Packet) → take_frame h b x p p.frame ≡ acted h b x p.session false (act_of h (receiver_at b x) x p.session p.frame)
taken_once h b x p =
    let t = taken (receiver_at b x) p.session (is_to_open h p.session p.frame) in
    take_as_answered h b x p
    ∙ by_test (acted h b x p.session false) (is_unreadable p.frame) _ _ act.Unreadable (taken_act h x p.frame t) refl (taken_act_once h b x p.session p.frame t)

-- ---- two times in a row

same_as_itself : (i : Ident) → same_stream i i ≡ true
same_as_itself i = let same : (i.origin == i.origin) ≡ true = grind (arith, nat_tests) in rw (same, bytes_eq_itself i.producer) refl

pub stored_once : (es : List Entry) (e : Entry) → accepts (es ++ e ∷ []) e.ident ≡ false
stored_once [] e =
    let least : nat_lt e.ident.seq e.ident.seq ≡ false = grind (arith, nat_tests) in
    rw (same_as_itself e.ident, least) refl
stored_once (a ∷ es) e = and_no_second (not (same_stream a.ident e.ident) || nat_lt a.ident.seq e.ident.seq) (accepts (es ++ e ∷ []) e.ident) (stored_once es e)

-- no session is open once it closed
none_open : (rs : List (Option ℕ)) (x : ℕ) → slice_index_or (slice_set rs x None) x None ≡ None
none_open [] x = refl
none_open (r ∷ rs) zero = refl
none_open (r ∷ rs) (suc x) = none_open rs x

-- what a session's packet may do
abbrev IsCommandAct : TakeAct → Type 0
IsCommandAct act.Refuses = Unit {0}
IsCommandAct (act.Receives seq e) = Unit {0}
IsCommandAct a = ⊥

command_on : (t : Bool) (a c : TakeAct) → IsCommandAct a → IsCommandAct c → IsCommandAct (if t then a else c)
command_on true a c h k = h
command_on false a c h k = k

is_command : (h : Site) (x : ℕ) (f : Frame) → IsCommandAct (command_act h x f)
is_command h x frame.Connect = tt
is_command h x frame.Connected = tt
is_command h x (frame.Subscribe topic sub kind id request consumer earliest replicated) = tt
is_command h x (frame.Producer topic id request name) = tt
is_command h x (frame.Send id seq source e) =
    command_on (is_from x source && nat_le (entry_size h.clusters e) most_entry_size) (act.Receives seq (record e { ident = record { origin = x; producer = e.ident.producer; seq = e.ident.seq } })) act.Refuses tt tt
is_command h x (frame.SendReceipt id seq position) = tt
is_command h x (frame.SendError id seq code) = tt
is_command h x (frame.Message id position source e) = tt
is_command h x (frame.Ack id kind positions) = tt
is_command h x (frame.Flow id permits) = tt
is_command h x (frame.Unsubscribe id request) = tt
is_command h x (frame.Success request) = tt
is_command h x (frame.Error request code) = tt
is_command h x (frame.CloseProducer id request) = tt
is_command h x (frame.CloseConsumer id request) = tt
is_command h x (frame.ProducerSuccess request name) = tt
is_command h x frame.Ping = tt
is_command h x frame.Pong = tt
is_command h x frame.Unreadable = tt

-- an entry that came, stored or not
abbrev received : Site → Broker → ℕ → ℕ → Bool → ℕ → Entry → Bool → Plan
received h b x session again seq e new =
    plan_of (if new then write.Append e ∷ [] else []) [] (receipts x session seq again (Some (if new then next_position h.per_ledger b.ledgers else no_position)))

receives_twice : (h : Site) (b : Broker) (x session seq : ℕ) (e : Entry) (P : Broker → Plan)
    → ((now : Broker) → now.receivers ≡ b.receivers → P now ≡ receiving_plan h now x session false seq e)
    → (new : Bool) → accepts b.entries e.ident ≡ new → twice h.per_ledger b P ≡ receiving_plan h b x session true seq e
receives_twice h b x session seq e P acts true is =
    let first : P b ≡ received h b x session false seq e true = acts b refl ∙ ap (λ (t : Bool). received h b x session false seq e t) is in
    let after : Broker = done h.per_ledger b (received h b x session false seq e true) in
    let second : P after ≡ received h after x session false seq e false =
    acts after refl ∙ ap (λ (t : Bool). received h after x session false seq e t) (stored_once b.entries e) in
    twice_is h.per_ledger b P _ _ first second ∙ ap (λ (t : Bool). received h b x session true seq e t) (sym is)
receives_twice h b x session seq e P acts false is =
    let first : P b ≡ received h b x session false seq e false = acts b refl ∙ ap (λ (t : Bool). received h b x session false seq e t) is in
    twice_is h.per_ledger b P _ _ first first ∙ ap (λ (t : Bool). received h b x session true seq e t) (sym is)

-- what an act is in the session that is open, or that is not
abbrev in_session : Site → Broker → ℕ → ℕ → Bool → TakeAct → Bool → Plan
in_session h b x session again a current = acted h b x session again (if current then a else act.Discards)

discards_twice : (h : Site) (b : Broker) (x session : ℕ) (P : Broker → Plan) → P b ≡ quiet_plan [] → twice h.per_ledger b P ≡ quiet_plan []
discards_twice h b x session P first = twice_is h.per_ledger b P _ _ first first

acts_twice : (h : Site) (b : Broker) (x session : ℕ) (P : Broker → Plan) (a : TakeAct) → IsCommandAct a
    → ((now : Broker) → P now ≡ in_session h now x session false a (is_open (receiver_at now x) session))
    → (current : Bool) → is_open (receiver_at b x) session ≡ current → twice h.per_ledger b P ≡ in_session h b x session true a current
acts_twice h b x session P a may acts false is =
    discards_twice h b x session P (acts b ∙ ap (λ (t : Bool). in_session h b x session false a t) is)
acts_twice h b x session P act.Refuses may acts true is =
    let first : P b ≡ closing_plan x false = acts b ∙ ap (λ (t : Bool). in_session h b x session false act.Refuses t) is in
    let after : Broker = done h.per_ledger b (closing_plan x false) in
    let second : P after ≡ quiet_plan [] =
    acts after ∙ ap (λ (r : Option ℕ). in_session h after x session false act.Refuses (is_open r session)) (none_open b.receivers x) in
    twice_is h.per_ledger b P _ _ first second
acts_twice h b x session P (act.Receives seq e) may acts true is =
    receives_twice h b x session seq e P
    (λ now same. acts now ∙ ap (λ (rs : List (Option ℕ)). in_session h now x session false (act.Receives seq e) (is_open (slice_index_or rs x None) session)) same
    ∙ ap (λ (t : Bool). in_session h now x session false (act.Receives seq e) t) is)
    (accepts b.entries e.ident) refl
acts_twice h b x session P act.Unreadable may acts true is = absurd may
acts_twice h b x session P (act.Opens id request) may acts true is = absurd may
acts_twice h b x session P act.Discards may acts true is = absurd may

-- what opens a session opens it again
opens_twice : (h : Site) (b : Broker) (x session : ℕ) (f : Frame) (P : Broker → Plan) → ((now : Broker) → P now ≡ acted h now x session false (opening_act f))
    → twice h.per_ledger b P ≡ acted h b x session true (opening_act f)
opens_twice h b x session (frame.Producer topic id request name) P acts =
    twice_is h.per_ledger b P (opening_plan h x false id request) (opening_plan h x false id request) (acts b) (acts (done h.per_ledger b (opening_plan h x false id request)))
opens_twice h b x session frame.Connect P acts = discards_twice h b x session P (acts b)
opens_twice h b x session frame.Connected P acts = discards_twice h b x session P (acts b)
opens_twice h b x session (frame.Subscribe topic sub kind id request consumer earliest replicated) P acts = discards_twice h b x session P (acts b)
opens_twice h b x session (frame.Send id seq source e) P acts = discards_twice h b x session P (acts b)
opens_twice h b x session (frame.SendReceipt id seq position) P acts = discards_twice h b x session P (acts b)
opens_twice h b x session (frame.SendError id seq code) P acts = discards_twice h b x session P (acts b)
opens_twice h b x session (frame.Message id position source e) P acts = discards_twice h b x session P (acts b)
opens_twice h b x session (frame.Ack id kind positions) P acts = discards_twice h b x session P (acts b)
opens_twice h b x session (frame.Flow id permits) P acts = discards_twice h b x session P (acts b)
opens_twice h b x session (frame.Unsubscribe id request) P acts = discards_twice h b x session P (acts b)
opens_twice h b x session (frame.Success request) P acts = discards_twice h b x session P (acts b)
opens_twice h b x session (frame.Error request code) P acts = discards_twice h b x session P (acts b)
opens_twice h b x session (frame.CloseProducer id request) P acts = discards_twice h b x session P (acts b)
opens_twice h b x session (frame.CloseConsumer id request) P acts = discards_twice h b x session P (acts b)
opens_twice h b x session (frame.ProducerSuccess request name) P acts = discards_twice h b x session P (acts b)
opens_twice h b x session frame.Ping P acts = discards_twice h b x session P (acts b)
opens_twice h b x session frame.Pong P acts = discards_twice h b x session P (acts b)
opens_twice h b x session frame.Unreadable P acts = discards_twice h b x session P (acts b)

-- what comes in the session that is open, or in another one
session_taken : (h : Site) (x : ℕ) (f : Frame) (current : Bool) → taken_act h x f (if current then takes.Process else takes.Discard) ≡ (if current then command_act h x f else act.Discards)
session_taken h x f true = refl
session_taken h x f false = refl

taken_act_twice : (h : Site) (b : Broker) (x session : ℕ) (f : Frame) (P : Broker → Plan) (opening : Bool)
    → ((now : Broker) → P now ≡ acted h now x session false (taken_act h x f (taken (receiver_at now x) session opening)))
    → twice h.per_ledger b P ≡ acted h b x session true (taken_act h x f (taken (receiver_at b x) session opening))
taken_act_twice h b x session f P true acts = opens_twice h b x session f P acts
taken_act_twice h b x session f P false acts =
    acts_twice h b x session P (command_act h x f) (is_command h x f)
    (λ now. acts now ∙ ap (λ (a : TakeAct). acted h now x session false a) (session_taken h x f (is_open (receiver_at now x) session)))
    (is_open (receiver_at b x) session) refl
    ∙ ap (λ (a : TakeAct). acted h b x session true a) (sym (session_taken h x f (is_open (receiver_at b x) session)))

frame_twice : (h : Site) (b : Broker) (x session : ℕ) (f : Frame) (P : Broker → Plan) (unreadable opening : Bool)
    → ((now : Broker) → P now ≡ acted h now x session false (if unreadable then act.Unreadable else taken_act h x f (taken (receiver_at now x) session opening)))
    → twice h.per_ledger b P ≡ acted h b x session true (if unreadable then act.Unreadable else taken_act h x f (taken (receiver_at b x) session opening))
frame_twice h b x session f P true opening acts =
    twice_is h.per_ledger b P (closing_plan x false) (closing_plan x false) (acts b) (acts (done h.per_ledger b (closing_plan x false)))
frame_twice h b x session f P false opening acts = taken_act_twice h b x session f P opening acts

pub taken_twice : (h : Site) (b : Broker) (x : ℕ) (p : Packet)
    → twice h.per_ledger b (λ now. take_frame h now x p p.frame) ≡ acted h b x p.session true (act_of h (receiver_at b x) x p.session p.frame)
taken_twice h b x p =
    frame_twice h b x p.session p.frame (λ now. take_frame h now x p p.frame) (is_unreadable p.frame) (is_to_open h p.session p.frame) (λ now. taken_once h now x p)
