-- What a get leaves: the message that it takes for the sub line in force is handed out then, and what stands before it was.
use Rattle.std.proofs.Common.{◌≡◌, ℕ, ◌+◌, ◌<◌, Bool, true, false, List, [], ◌∷◌, ◌++◌, drop, length, min, refl, sym, ap, subst, ◌∙◌, ◌==◌, arith}
use Rattle.std.specs.Prelude.{Option, Some, None, if◌then◌else◌, take}
use Rattle.std.specs.List.{list_any}
use Rattle.std.specs.Str.{bytes_eq}
use Rattle.std.proofs.lemmas.Bool.{eq-eqb, eqb-true, false≢true}
use Rattle.std.proofs.lemmas.Option.{same_Some, slice_get_within}
use Rattle.std.proofs.lemmas.Slice.Eq.{bytes_eq-Decides}
use Rattle.world_laws.proofs.Types.{Entry, Frame, Held, Ident, Line, Packet, ClusterRef, Position, SubKind}
use Rattle.world_laws.proofs.Types.frame
use Rattle.world_laws.proofs.Types.cluster_ref
use Rattle.geo_base.specs.Broker.{Broker}
use Rattle.geo_base.specs.Client.{Client, id_of}
use Rattle.geo_base.specs.Entry.{same_ident, with_origin}
use Rattle.geo_base.specs.Getting.{answered, get, got_frame, got_message, is_duplicate, is_number, publishes, received, with_error, with_receipt, without_seq}
use Rattle.geo_base.specs.Link.{Link, next_packet, took}
use Rattle.geo_base.specs.Offering.{source_of}
use Rattle.geo_base.specs.Settled.{IsSettled, SettledSoFar}
use Rattle.geo_base.specs.Setup.{Declared}
use Rattle.world_laws.proofs.Replicating.Cursors.{or_left}
use Rattle.world_laws.proofs.Replicating.Effects.{Each, each_both, each_map}
use Rattle.world_laws.proofs.Dispatching.SubFrames.{each_at_place}
use Rattle.world_laws.proofs.Telling.Told.{Includes}
use Rattle.world_laws.proofs.Walks.Walk.{both, on_if, on_test, on_true}
use Rattle.consumer_laws.specs.Handed.{got_by}
use Rattle.consumer_laws.specs.Lines.{IsKindLine, names_line, subs_to}
use Rattle.world_laws.proofs.Clients.ClientLinks.{Packets}
use Rattle.consumer_laws.proofs.Clients.Going.{HoldsWell, MayAck}
use Rattle.consumer_laws.proofs.Worlds.Facts.{DownFact, LinkFact, Passed, TakenFact, passed_grows, taken_grows}
use Rattle.consumer_laws.proofs.Links.Sending.{take_next}
use Rattle.consumer_laws.proofs.Subscriptions.WhatIsOut.{Carried}

-- ---- what a get leaves of the client

pub record GetKeeps (k j : Client) : Type 0 where
  pub cluster : j.cluster ≡ k.cluster
  pub connection : j.connection ≡ k.connection
  pub connected : j.connected ≡ k.connected
  pub done : j.done ≡ k.done
  pub sub : j.sub ≡ k.sub
  pub produce : j.produce ≡ k.produce
  pub flow : j.flow ≡ k.flow
  pub unanswered : (m : ℕ) → Each (λ i. i < m) k.unanswered → Each (λ i. i < m) j.unanswered

keeps_all : (k : Client) → GetKeeps k k
keeps_all k = record { cluster = refl; connection = refl; connected = refl; done = refl; sub = refl; produce = refl; flow = refl; unanswered = λ P h. h }

fewer_seqs : (P : ℕ → Type 0) (d : Declared) (is : List ℕ) (n : ℕ) → Each P is → Each P (without_seq d is n)
fewer_seqs P d [] n h = tt
fewer_seqs P d (i ∷ is) n h = on_if (Each P) (publishes d n i) is (i ∷ without_seq d is n) h.1 (h.0, fewer_seqs P d is n h.1)

-- an answer leaves what is held
record Counted (k j : Client) : Type 0 where
  keeps : GetKeeps k j
  held : j.held ≡ k.held

answered_keeps : (d : Declared) (k : Client) (n : ℕ) (counted : Client) → Counted k counted → Counted k (answered d k n counted)
answered_keeps d k n counted h =
    on_if (Counted k) (list_any (publishes d n) k.unanswered) _ _ (record {
      keeps = record {
        cluster = h.keeps.cluster;
        connection = h.keeps.connection;
        connected = h.keeps.connected;
        done = h.keeps.done;
        sub = h.keeps.sub;
        produce = h.keeps.produce;
        flow = h.keeps.flow;
        unanswered = λ m all. fewer_seqs (λ i. i < m) d k.unanswered n all;
      };
      held = h.held;
    }) (record { keeps = keeps_all k; held = refl })

same_counted : (k : Client) → Counted k k
same_counted k = record { keeps = keeps_all k; held = refl }

receipt_keeps : (k : Client) (t : Bool) → Counted k (with_receipt k t)
receipt_keeps k true = record { keeps = record { cluster = refl; connection = refl; connected = refl; done = refl; sub = refl; produce = refl; flow = refl; unanswered = λ P h. h }; held = refl }
receipt_keeps k false = record { keeps = record { cluster = refl; connection = refl; connected = refl; done = refl; sub = refl; produce = refl; flow = refl; unanswered = λ P h. h }; held = refl }

error_keeps : (k : Client) → Counted k (with_error k)
error_keeps k = record { keeps = record { cluster = refl; connection = refl; connected = refl; done = refl; sub = refl; produce = refl; flow = refl; unanswered = λ P h. h }; held = refl }

-- what is held then, Q being a fact of its position
pub record GetLeaves (k j : Client) (Q : Position → Type 0) : Type 0 where
  pub keeps : GetKeeps k j
  pub held : Each (λ (h : Held). Q h.position) k.held → Each (λ (h : Held). Q h.position) j.held

counted_leaves : (k j : Client) (Q : Position → Type 0) → Counted k j → GetLeaves k j Q
counted_leaves k j Q h = record { keeps = h.keeps; held = λ all. subst (Each (λ (g : Held). Q g.position)) (sym h.held) all }

received_leaves : (k : Client) (id : ℕ) (i : Ident) (p : Position) (Q : Position → Type 0) → (is_number id k.sub ≡ true → Q p) → GetLeaves k (received k id i p) Q
received_leaves k id i p Q new =
    on_test (λ (j : Client). GetLeaves k j Q) (is_number id k.sub) _ _
    (λ current. record {
      keeps = record { cluster = refl; connection = refl; connected = refl; done = refl; sub = refl; produce = refl; flow = refl; unanswered = λ P h. h };
      held = λ all. each_both (λ (g : Held). Q g.position) k.held (record { ident = i; position = p } ∷ []) all (new current, tt);
    })
    (λ other. counted_leaves k k Q (same_counted k))

-- a message for the sub line in force has the fact
abbrev pub NewHas : Client → (Position → Type 0) → Frame → Type 0
NewHas k Q (frame.Message id p source e) = is_number id k.sub ≡ true → Q p
NewHas k Q f = Unit {0}

frame_leaves : (d : Declared) (k : Client) (f : Frame) (Q : Position → Type 0) → NewHas k Q f → GetLeaves k (got_frame d k f) Q
frame_leaves d k (frame.SendReceipt id n p) Q new = counted_leaves k _ Q (answered_keeps d k n (with_receipt k (is_duplicate p)) (receipt_keeps k (is_duplicate p)))
frame_leaves d k (frame.SendError id n code) Q new = counted_leaves k _ Q (answered_keeps d k n (with_error k) (error_keeps k))
frame_leaves d k (frame.Error request code) Q new = counted_leaves k _ Q (error_keeps k)
frame_leaves d k (frame.Message id p None e) Q new = received_leaves k id _ p Q new
frame_leaves d k (frame.Message id p (Some (cluster_ref.Known x)) e) Q new = received_leaves k id _ p Q new
frame_leaves d k (frame.Message id p (Some (cluster_ref.Stranger name)) e) Q new = counted_leaves k k Q (same_counted k)
frame_leaves d k f Q new = counted_leaves k k Q (same_counted k)

-- ---- what a message adds to what was got

number_sub : (id : ℕ) (o : Option ℕ) → is_number id o ≡ true → o ≡ Some id
number_sub id None h = absurd (false≢true h)
number_sub id (Some m) h = ap Some (eqb-true m id h)

record Adds (k j : Client) (i : Ident) : Type 0 where
  is : j.got ≡ k.got ++ i ∷ []

received_adds : (k : Client) (id : ℕ) (i : Ident) (p : Position) → k.sub ≡ Some id → Adds k (received k id i p) i
received_adds k id i p sub =
    subst (λ (j : Client). Adds k j i) (sym (on_true (is_number id k.sub) (record k { held = k.held ++ record { ident = i; position = p } ∷ []; got = k.got ++ i ∷ [] }) k current)) (record { is = refl })
  where
    current : is_number id k.sub ≡ true
    current = subst (λ (o : Option ℕ). is_number id o ≡ true) (sym sub) (eq-eqb id id refl)

message_adds : (k : Client) (id x : ℕ) (p : Position) (e : Entry) → k.cluster ≡ x → k.sub ≡ Some id → Adds k (got_message k id p (source_of x e) e) e.ident
message_adds k id x p e here sub = by (e.ident.origin == x) refl
  where
    by : (t : Bool) → (e.ident.origin == x) ≡ t → Adds k (got_message k id p (if t then None else Some (cluster_ref.Known e.ident.origin)) e) e.ident
    by true own =
        let same : k.cluster ≡ e.ident.origin = here ∙ sym (eqb-true e.ident.origin x own) in
        let ident : (with_origin k.cluster e).ident ≡ e.ident = λ i. record { origin = same i; producer = e.ident.producer; seq = e.ident.seq } in
        subst (λ (i : Ident). Adds k (got_message k id p None e) i) ident (received_adds k id (with_origin k.cluster e).ident p sub)
    by false other = received_adds k id (with_origin e.ident.origin e).ident p sub

drop_got : (xs : List Ident) (i : Ident) → drop (length xs) (xs ++ i ∷ []) ≡ i ∷ []
drop_got [] i = refl
drop_got (x ∷ xs) i = drop_got xs i

ident_itself : (i : Ident) → same_ident i i ≡ true
ident_itself i =
    both _ (i.seq == i.seq) (both (i.origin == i.origin) (bytes_eq i.producer i.producer) (eq-eqb i.origin i.origin refl) ((bytes_eq-Decides i.producer i.producer).1 refl)) (eq-eqb i.seq i.seq refl)

-- so it is told by the get
pub got_is : (d : Declared) (k : Client) (p : Packet) (id x : ℕ) (position : Position) (source : Option ClusterRef) (e : Entry) (n : List ℕ) (kind : SubKind) → p.session ≡ k.connection
    → p.frame ≡ frame.Message id position source e → source ≡ source_of x e → k.cluster ≡ x → k.sub ≡ Some id → IsKindLine d id n kind
    → list_any (same_ident e.ident) (got_by d k (Some p) n) ≡ true
unfolding get
got_is d k p id x position source e n kind current is from here sub line =
    subst (λ (l : List Ident). list_any (same_ident e.ident) l ≡ true) (sym whole) (or_left (same_ident e.ident e.ident) false (ident_itself e.ident))
  where
    subs : subs_to d k.sub n ≡ true
    subs =
        subst (λ (o : Option ℕ). subs_to d o n ≡ true) (sym sub)
        (subst (λ (o : Option Line). names_line n o ≡ true) (sym line.2) ((bytes_eq-Decides n n).1 refl))

    j : Client
    j = if p.session == k.connection then got_frame d k p.frame else k

    adds : Adds k j e.ident
    adds =
        subst (λ (c : Client). Adds k c e.ident) (sym (on_true (p.session == k.connection) (got_frame d k p.frame) k (eq-eqb p.session k.connection current)))
        (subst (λ (f : Frame). Adds k (got_frame d k f) e.ident) (sym is)
        (subst (λ (o : Option ClusterRef). Adds k (got_frame d k (frame.Message id position o e)) e.ident) (sym from) (message_adds k id x position e here sub)))

    whole : got_by d k (Some p) n ≡ e.ident ∷ []
    whole = on_true (subs_to d k.sub n) (drop (length k.got) j.got) [] subs ∙ ap (drop (length k.got)) adds.is ∙ drop_got k.got e.ident

-- ---- the packet that is taken

-- told more, by what the get tells
pub record TellsGet (told more : SettledSoFar) (t : ℕ) (d : Declared) (k : Client) (o : Option Packet) : Type 0 where
  pub includes : Includes told more
  pub got : (n : List ℕ) (e : Entry) → list_any (same_ident e.ident) (got_by d k o n) ≡ true → IsSettled more t n e

-- the message of the packet is handed out
taken_new : (told more : SettledSoFar) (t x : ℕ) (b : Broker) (d : Declared) (k : Client) (before : List Packet) (p : Packet) (f : Frame) → p.frame ≡ f → k.cluster ≡ x
    → TellsGet told more t d k (Some p) → DownFact told t x b d k.done before p.session f → TakenFact more t d k p.session f
taken_new told more t x b d k before p (frame.Message id position source e) is here tells sent =
    λ current sub n kind line. tells.got n e (got_is d k p id x position source e n kind current is sent.from here sub line)
taken_new told more t x b d k before p (frame.SendReceipt id n q) is here tells sent = tt
taken_new told more t x b d k before p (frame.SendError id n code) is here tells sent = tt
taken_new told more t x b d k before p (frame.Error request code) is here tells sent = tt
taken_new told more t x b d k before p f is here tells sent = tt

taken_of : (told : SettledSoFar) (t : ℕ) (d : Declared) (k j : Client) (session : ℕ) (f : Frame) → GetKeeps k j → TakenFact told t d k session f → TakenFact told t d j session f
taken_of told t d k j session (frame.Message id p source e) g h = λ current sub n kind line. h (current ∙ g.connection) (sym g.sub ∙ sub) n kind line
taken_of told t d k j session f g h = tt

-- what came before it on the connection, for the sub line in force, was
pub came_told : (told : SettledSoFar) (t : ℕ) (d : Declared) (k : Client) (before : List Packet) (session id : ℕ) (n : List ℕ) (kind : SubKind) (f : Entry) → session ≡ k.connection → k.sub ≡ Some id
    → IsKindLine d id n kind → Packets (TakenFact told t d k) before → Carried before session id f → IsSettled told t n f
came_told told t d k before session id n kind f current sub line all c =
    let q = c.packet in
    let fact : TakenFact told t d k q.session q.frame = each_at_place (λ (p : Packet). TakenFact told t d k p.session p.frame) before c.place q all c.at in
    subst (TakenFact told t d k q.session) c.brings.is fact (c.brings.in_session ∙ current) sub n kind line

-- so its position may be acknowledged
new_has : (told more : SettledSoFar) (t x : ℕ) (b : Broker) (d : Declared) (k : Client) (before : List Packet) (p : Packet) (f : Frame) → p.frame ≡ f → p.session ≡ k.connection → k.cluster ≡ x
    → TellsGet told more t d k (Some p) → DownFact told t x b d k.done before p.session f → Packets (TakenFact told t d k) before → NewHas k (MayAck more t b d (id_of k.sub)) f
new_has told more t x b d k before p (frame.Message id position source e) is current here tells sent all =
    λ force n kind line0.
    let sub = number_sub id k.sub force in
    let line : IsKindLine d id n kind = subst (λ (o : Option ℕ). IsKindLine d (id_of o) n kind) sub line0 in
    let this : IsSettled more t n e = tells.got n e (got_is d k p id x position source e n kind current is sent.from here sub line) in
    record {
      index = sent.index;
      at = sent.at;
      within = sent.within;
      this = λ f at message. subst (IsSettled more t n) (same_Some e f (sym sent.stands ∙ at)) this;
      before = λ one j f lt at message.
          old n kind line sub f (sent.order n kind line one j f lt at message);
    }
  where
    old : (n : List ℕ) (kind : SubKind) → IsKindLine d id n kind → k.sub ≡ Some id → (f : Entry) → Passed told t n before p.session id f → IsSettled more t n f
    old n kind line sub f (Passed.IsHanded h) = tells.includes t n f h
    old n kind line sub f (Passed.Earlier c) = tells.includes t n f (came_told told t d k before p.session id n kind f current sub line all c)
new_has told more t x b d k before p (frame.SendReceipt id n q) is current here tells sent all = tt
new_has told more t x b d k before p (frame.SendError id n code) is current here tells sent all = tt
new_has told more t x b d k before p (frame.Error request code) is current here tells sent all = tt
new_has told more t x b d k before p f is current here tells sent all = tt

may_more : (told more : SettledSoFar) (t : ℕ) (b : Broker) (d : Declared) (id : ℕ) (p : Position) → Includes told more → MayAck told t b d id p → MayAck more t b d id p
may_more told more t b d id p inc h n kind line =
    let r = h n kind line in
    record {
      index = r.index;
      at = r.at;
      within = r.within;
      this = λ e at message. inc t n e (r.this e at message);
      before = λ one j e lt at message. inc t n e (r.before one j e lt at message);
    }

-- the client, after the get of packet p
pub record GetDone (more : SettledSoFar) (t x : ℕ) (b : Broker) (d : Declared) (k j : Client) (sent : List Packet) (l : Link) : Type 0 where
  pub keeps : GetKeeps k j
  pub link : LinkFact more t x b d j sent (took l)
  pub held : j.connected ≡ true → HoldsWell more t b d (id_of j.sub) j.held

down_more : (told more : SettledSoFar) (t x : ℕ) (b : Broker) (d : Declared) (done done' : ℕ) (before : List Packet) (session : ℕ) (f : Frame) → Includes told more → done' ≡ done
    → DownFact told t x b d done before session f → DownFact more t x b d done' before session f
down_more told more t x b d done done' before session (frame.Message id p source e) inc same h = record {
  below = let lt = h.below in omega (arith, lt, same);
  index = h.index;
  at = h.at;
  stands = h.stands;
  within = h.within;
  from = h.from;
  order = λ n kind line one j f lt at message. passed_grows told more t n before session id f inc (h.order n kind line one j f lt at message);
}
down_more told more t x b d done done' before session f inc same h = tt

pub get_done : (told more : SettledSoFar) (t x : ℕ) (b : Broker) (d : Declared) (k : Client) (sent : List Packet) (l : Link) (p : Packet) → next_packet l ≡ Some p → k.cluster ≡ x
    → TellsGet told more t d k (Some p) → LinkFact told t x b d k sent l → (k.connected ≡ true → HoldsWell told t b d (id_of k.sub) k.held)
    → GetDone more t x b d k (get d k (Some p)).client sent l
unfolding get
get_done told more t x b d k sent l p next here tells link held =
    on_test (λ (j : Client). GetDone more t x b d k j sent l) (p.session == k.connection) (got_frame d k p.frame) k
    (λ is.
    let current = eqb-true p.session k.connection is in
    let g : k.connected ≡ true → GetLeaves k (got_frame d k p.frame) (MayAck more t b d (id_of k.sub)) =
    λ on. frame_leaves d k p.frame (MayAck more t b d (id_of k.sub)) (new_has told more t x b d k (take l.taken l.sent) p p.frame refl current here tells fact (link.taken (sym here) on)) in
    let keeps = (frame_leaves d k p.frame (λ q. Unit {0}) (any_has k p.frame)).keeps in
    record {
      keeps = keeps;
      link = behind (got_frame d k p.frame) keeps;
      held = λ on.
          let on' = sym keeps.connected ∙ on in
          subst (λ (o : Option ℕ). HoldsWell more t b d (id_of o) (got_frame d k p.frame).held) (sym keeps.sub) ((g on').held (more_held (held on')));
    })
    (λ other. record { keeps = keeps_all k; link = behind k (keeps_all k); held = λ on. more_held (held on) })
  where
    fact : DownFact told t x b d k.done (take l.taken l.sent) p.session p.frame
    fact = link.after l.taken p next

    more_held : HoldsWell told t b d (id_of k.sub) k.held → HoldsWell more t b d (id_of k.sub) k.held
    more_held h =
        each_map (λ (g : Held). MayAck told t b d (id_of k.sub) g.position) (λ (g : Held). MayAck more t b d (id_of k.sub) g.position)
        (λ g m. may_more told more t b d (id_of k.sub) g.position tells.includes m) k.held h

    any_has : (c : Client) (f : Frame) → NewHas c (λ q. Unit {0}) f
    any_has c (frame.Message id q source e) = λ force. tt
    any_has c f = tt

    lt : l.taken < length l.sent
    lt = slice_get_within l.sent l.taken p next

    one : min (l.taken + 1) (length l.sent) ≡ l.taken + 1
    one = omega (arith, lt)

    behind : (j : Client) → GetKeeps k j → LinkFact more t x b d j sent (took l)
    behind j keeps = record {
      extends = link.extends;
      after = λ i q at. down_more told more t x b d k.done j.done (take i l.sent) q.session q.frame tells.includes keeps.done (link.after i q at);
      whole = omega (arith, lt);
      taken = λ there on.
          subst (λ (m : ℕ). Packets (TakenFact more t d j) (take m l.sent)) (sym one)
          (subst (Packets (TakenFact more t d j)) (sym (take_next l.taken l.sent p next))
          (each_both (λ (q : Packet). TakenFact more t d j q.session q.frame) (take l.taken l.sent) (p ∷ [])
          (each_map (λ (q : Packet). TakenFact told t d k q.session q.frame) (λ (q : Packet). TakenFact more t d j q.session q.frame)
          (λ q h. taken_of more t d k j q.session q.frame keeps (taken_grows told more t d k q.session q.frame tells.includes h)) (take l.taken l.sent)
          (link.taken (there ∙ keeps.cluster) (sym keeps.connected ∙ on)))
          (taken_of more t d k j p.session p.frame keeps (taken_new told more t x b d k (take l.taken l.sent) p p.frame refl here tells fact), tt)));
    }

pub get_keeps : (d : Declared) (k : Client) (p : Packet) → GetKeeps k (get d k (Some p)).client
unfolding get
get_keeps d k p =
    on_if (GetKeeps k) (p.session == k.connection) (got_frame d k p.frame) k (frame_leaves d k p.frame (λ q. Unit {0}) (has k p.frame)).keeps (keeps_all k)
  where
    has : (c : Client) (f : Frame) → NewHas c (λ q. Unit {0}) f
    has c (frame.Message id q source e) = λ force. tt
    has c f = tt
