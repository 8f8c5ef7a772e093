-- The entries that a node stores and sends, whatever it takes: each has a fact that plain entries have, where the one that the
-- taken packet carries has it. No world is asked, so a node can say so of its own history.
use Rattle.std.proofs.Common.{◌≡◌, ℕ, ◌<◌, true, List, [], ◌∷◌, length, refl, sym, subst, ◌∙◌}
use Rattle.std.specs.Prelude.{Option, Some, None, ◌&&◌, not, nat_lt, ◌==◌}
use Rattle.std.proofs.lemmas.Bool.{ltb-true}
use Rattle.world_laws.proofs.Types.{Entry, Event, Packet, Session, Write}
use Rattle.world_laws.proofs.Types.event
use Rattle.geo_base.specs.Broker.{Broker, Site, session_at}
use Rattle.geo_base.specs.Client.{Client}
use Rattle.geo_base.specs.Forwarding.{closes, receipt, reset, take_packet}
use Rattle.geo_base.specs.NodeState.{BrokerState, ClientState, NodeState, acts}
use Rattle.geo_base.specs.Plan.{Plan, done, idle_plan, quiet_plan}
use Rattle.geo_base.specs.Planned.{broker_plan, has_client, in_range}
use Rattle.geo_base.specs.Scripted.{IsScripted}
use Rattle.geo_base.specs.Seeking.{restart}
use Rattle.geo_base.specs.Serving.{drop_client, drop_session, serve}
use Rattle.geo_base.specs.Setup.{Setup, declared_at, sub_name}
use Rattle.geo_base.specs.World.{site}
use Rattle.world_laws.proofs.TopicOrder.Added.{after_is, appended}
use Rattle.world_laws.proofs.OnceInOrder.Appends.{done_entries}
use Rattle.world_laws.proofs.FrameContents.Carrying.{Stored, Suits}
use Rattle.world_laws.proofs.FrameContents.ClientSends.{gets_with, goes_with, reconnects_with}
use Rattle.world_laws.proofs.Replicating.Effects.{Each, each_both}
use Rattle.world_laws.proofs.Walks.EventWalk.{of_node, of_pair, of_sub, of_target}
use Rattle.world_laws.proofs.Walks.LinkWalk.{fate_answered, fate_taken}
use Rattle.world_laws.proofs.FrameContents.NewEntries.{Brief, Carries, NewEntry, NewWrite, all_appended, answered_new, fated_new, offers_new, reads_new, seeks_new, served_new, snaps_new, taken_new, write_more}
use Rattle.world_laws.proofs.Walks.OfferWalk.{offer_shape, seek_shape, snap_shape}
use Rattle.world_laws.proofs.FrameContents.OwnPlain.{own_plain}
use Rattle.world_laws.proofs.FrameContents.OwnSizes.{names_short}
use Rattle.world_laws.proofs.Walks.ReadWalk.{read_shape}
use Rattle.world_laws.proofs.FrameContents.Sending.{SentOut, Stock, answered_sends, fated_sends, offers_sends, reads_sends, seeks_sends, served_sends, snaps_sends, taken_sends}
use Rattle.world_laws.proofs.Walks.ServeWalk.{frame_served}
use Rattle.world_laws.proofs.Walks.Shapes.{Answered, Taken}
use Rattle.world_laws.proofs.Dispatching.SubFrames.{each_at_place}
use Rattle.world_laws.proofs.Walks.Walk.{left, on_test}
use Rattle.world_laws.proofs.FrameContents.Widths.{WideAt, WidePlan, answered_wide, done_wide, fated_wide, offers_wide, reads_wide, seeks_wide, served_wide, snaps_wide, taken_wide}

-- of a broker: each entry that it stores, and what it makes its markers of
pub record IsStocked (E : Entry → Type 0) (s : Setup) (b : Broker) : Type 0 where
  pub entries : Each (Stored E s.clusters) b.entries
  pub wide : WideAt (length s.clusters) b

-- what the taken packet carries
abbrev pub CarriedIn : Option Packet → Entry → Type 0
CarriedIn p e = (q : Packet) × (p ≡ Some q) × Carries q.frame e

-- what an event of the broker at a site sends, what it appends, and that it keeps what markers are made of
pub record Deals (E : Entry → Type 0) (h : Site) (C : Entry → Type 0) (q : Plan) : Type 0 where
  pub sends : Each (SentOut ⊥ E h.clusters) q.sent
  pub writes : Each (NewWrite ⊥ h C) q.writes
  pub wide : WidePlan (length h.clusters) q

nothing : (E : Entry → Type 0) (h : Site) (C : Entry → Type 0) → Deals E h C idle_plan
nothing E h C = record { sends = tt; writes = tt; wide = record { names = tt; changes = tt } }

stock : (E : Entry → Type 0) (s : Setup) → IsScripted s → (t x : ℕ) (b : Broker) → x < length s.clusters → IsStocked E s b → Stock ⊥ E (site s t x) b
stock E s scripted t x b lt k = record {
  has = λ i e at. (each_at_place (Stored E s.clusters) b.entries i e k.entries at).0;
  fit = λ none. absurd none;
  origins = λ i e at. (each_at_place (Stored E s.clusters) b.entries i e k.entries at).1;
  names = names_short s.clusters scripted.cluster_names.0;
  topic = names_short s.topics scripted.topic_names.0 t;
  own = lt;
}

brief : (E : Entry → Type 0) (s : Setup) → IsScripted s → (t x : ℕ) (b : Broker) → x < length s.clusters → IsStocked E s b → Brief ⊥ (site s t x) b
brief E s scripted t x b lt k = record {
  own = lt;
  names = names_short s.clusters scripted.cluster_names.0;
  wide = k.wide;
  next = λ none. absurd none;
  made = λ none. absurd none;
  asked = λ none. absurd none;
}

carried_more : (h : Site) (q : Packet) (ws : List Write) → Each (NewWrite ⊥ h (Carries q.frame)) ws → Each (NewWrite ⊥ h (CarriedIn (Some q))) ws
carried_more h q [] each = tt
carried_more h q (w ∷ ws) each = (write_more ⊥ h (Carries q.frame) (CarriedIn (Some q)) (λ e c. (q, refl, c)) w each.0, carried_more h q ws each.1)

-- ---- events

serve_deals : (E : Entry → Type 0) (s : Setup) → IsScripted s → (t x c : ℕ) (b : Broker) (p : Option Packet) → x < length s.clusters → IsStocked E s b
    → Deals E (site s t x) (CarriedIn p) (serve (site s t x) b c p)
unfolding serve
serve_deals E s scripted t x c b None lt k = nothing E (site s t x) (CarriedIn None)
serve_deals E s scripted t x c b (Some p) lt k =
    let h = site s t x in let served = frame_served h b c p p.frame refl in
    record {
      sends = served_sends ⊥ E h b c p _ served;
      writes = carried_more h p _ (served_new ⊥ h b c p _ (brief E s scripted t x b lt k) served);
      wide = served_wide (length s.clusters) h b c p _ served;
    }

take_deals : (E : Entry → Type 0) (s : Setup) → IsScripted s → (t x y : ℕ) (f : _) (b : Broker) (p : Option Packet) → x < length s.clusters
    → Deals E (site s t y) (CarriedIn p) (take_packet (site s t y) b x f p)
unfolding take_packet
take_deals E s scripted t x y f b None lt = nothing E (site s t y) (CarriedIn None)
take_deals E s scripted t x y f b (Some p) lt =
    let h = site s t y in let taken = fate_taken h b x p f in let Acts : Broker → Plan → Type 0 = λ c. Taken h c x p in
    record {
      sends = fated_sends (SentOut ⊥ E s.clusters) s.per_ledger b Acts (closes x) _ (λ c q a. taken_sends ⊥ E h c x p q (names_short s.clusters scripted.cluster_names.0) a) tt taken;
      writes = carried_more h p _ (fated_new (NewWrite ⊥ h (Carries p.frame)) s.per_ledger b Acts (closes x) _ (λ c q a. taken_new ⊥ h c x p q lt a) tt taken);
      wide = fated_wide (length s.clusters) s.per_ledger b Acts (closes x) _ (λ c q a. taken_wide (length s.clusters) h c x p q a) (record { names = tt; changes = (tt, tt) }) taken;
    }

receipt_deals : (E : Entry → Type 0) (s : Setup) (t x y : ℕ) (f : _) (b : Broker) (p : Option Packet) → Deals E (site s t x) (CarriedIn p) (receipt (site s t x) b y f p)
unfolding receipt
receipt_deals E s t x y f b None = nothing E (site s t x) (CarriedIn None)
receipt_deals E s t x y f b (Some p) =
    let h = site s t x in let answered = fate_answered h b y p f in let Acts : Broker → Plan → Type 0 = λ c. Answered c y p in
    let N : Write → Type 0 = NewWrite ⊥ h (CarriedIn (Some p)) in
    record {
      sends = fated_sends (SentOut ⊥ E s.clusters) s.per_ledger b Acts (quiet_plan []) _ (λ c q a. answered_sends (SentOut ⊥ E s.clusters) c y p q a) tt answered;
      writes = fated_new N s.per_ledger b Acts (quiet_plan []) _ (λ c q a. answered_new N (λ z i. tt) c y p q a) tt answered;
      wide = fated_wide (length s.clusters) s.per_ledger b Acts (quiet_plan []) _ (λ c q a. answered_wide (length s.clusters) c y p q a) (record { names = tt; changes = tt }) answered;
    }

reset_deals : (E : Entry → Type 0) (s : Setup) (t x y : ℕ) (b : Broker) (C : Entry → Type 0) → Deals E (site s t x) C (reset (site s t x) b y)
unfolding reset
reset_deals E s t x y b C =
    on_test (Deals E (site s t x) C) (nat_lt y (length s.clusters) && not (y == x)) _ _
    (λ remote. record { sends = (record { carried = tt; small = λ none. absurd none }, tt); writes = (tt, tt); wide = record { names = (tt, tt); changes = (tt, tt) } })
    (λ _. nothing E (site s t x) C)

dropped_deals : (E : Entry → Type 0) (h : Site) (C : Entry → Type 0) (c : ℕ) (o : Option Session) → Deals E h C (drop_session c o)
dropped_deals E h C c None = nothing E h C
dropped_deals E h C c (Some v) = record { sends = tt; writes = tt; wide = record { names = tt; changes = (tt, (tt, tt)) } }

-- ---- what an event sends, and the state after it

pub record Dealt (E : Entry → Type 0) (s : Setup) (b : Broker) (q : Plan) : Type 0 where
  pub sends : Each (SentOut ⊥ E s.clusters) q.sent
  pub after : IsStocked E s (done s.per_ledger b q)

new_stored : (E : Entry → Type 0) (s : Setup) (t x : ℕ) (C : Entry → Type 0) → Suits s.clusters E → x < length s.clusters → ((e : Entry) → C e → E e)
    → (e : Entry) → NewEntry ⊥ (site s t x) C e → Stored E s.clusters e
new_stored E s t x C suits lt has e (NewEntry.Carried a z within c fit) = (suits.moved z a (has a c), within)
new_stored E s t x C suits lt has e (NewEntry.Own b m to names own) = (suits.plain e (own_plain ⊥ (site s t x) b m to names lt own), lt)

dealt : (E : Entry → Type 0) (s : Setup) (t x : ℕ) (C : Entry → Type 0) (b : Broker) (q : Plan) → Suits s.clusters E → x < length s.clusters → ((e : Entry) → C e → E e)
    → IsStocked E s b → Deals E (site s t x) C q → Dealt E s b q
dealt E s t x C b q suits lt has k d = record {
  sends = d.sends;
  after = record {
    entries = subst (λ (es : List Entry). Each (Stored E s.clusters) es) (sym (done_entries s.per_ledger b q ∙ after_is b.entries q.writes))
        (each_both (Stored E s.clusters) b.entries (appended q.writes) k.entries
        (all_appended ⊥ (site s t x) C (Stored E s.clusters) (new_stored E s t x C suits lt has) q.writes d.writes));
    wide = done_wide (length s.clusters) s.per_ledger b q d.wide k.wide;
  };
}

idle_dealt : (E : Entry → Type 0) (s : Setup) (b : Broker) → IsStocked E s b → Dealt E s b idle_plan
idle_dealt E s b k = record { sends = tt; after = record { entries = k.entries; wide = k.wide } }

-- the cluster of the broker, and the other one
here : (s : Setup) (t x y : ℕ) → in_range s (event.Reset t x y) ≡ true → x < length s.clusters
here s t x y h = ltb-true _ _ (of_node s t x (of_pair s t x y h))

there : (s : Setup) (t x y : ℕ) → in_range s (event.Reset t x y) ≡ true → y < length s.clusters
there s t x y h = ltb-true _ _ (of_target s t x y h)

broker_dealt : (E : Entry → Type 0) (s : Setup) → IsScripted s → Suits s.clusters E → (b : Broker) (e : Event) (p : Option Packet) → in_range s e ≡ true
    → ((a : Entry) → CarriedIn p a → E a) → IsStocked E s b → Dealt E s b (broker_plan s b e p)
unfolding drop_client restart
broker_dealt E s scripted suits b (event.Serve x c) p within has k =
    let t : ℕ = (declared_at s c).topic in let lt = ltb-true _ _ (left (nat_lt x (length s.clusters)) (has_client s c) within) in
    dealt E s t x (CarriedIn p) b _ suits lt has k (serve_deals E s scripted t x c b p lt k)
broker_dealt E s scripted suits b (event.Drop x c) p within has k =
    let t : ℕ = (declared_at s c).topic in let lt = ltb-true _ _ (left (nat_lt x (length s.clusters)) (has_client s c) within) in
    dealt E s t x (CarriedIn p) b _ suits lt has k (dropped_deals E (site s t x) (CarriedIn p) c (session_at b c))
broker_dealt E s scripted suits b (event.Reset t x y) p within has k = dealt E s t x (CarriedIn p) b _ suits (here s t x y within) has k (reset_deals E s t x y b (CarriedIn p))
broker_dealt E s scripted suits b (event.Read t x y) p within has k =
    let h = site s t x in let lt = here s t x y within in let reads = read_shape h b y in
    dealt E s t x (CarriedIn p) b _ suits lt has k (record {
      sends = reads_sends ⊥ E h b y _ (stock E s scripted t x b lt k) reads;
      writes = reads_new ⊥ h (CarriedIn p) b y _ (there s t x y within) (brief E s scripted t x b lt k) reads;
      wide = reads_wide h b y _ k.wide reads;
    })
broker_dealt E s scripted suits b (event.Take t x y f) p within has k =
    dealt E s t y (CarriedIn p) b _ suits (there s t x y within) has k (take_deals E s scripted t x y f b p (here s t x y within))
broker_dealt E s scripted suits b (event.Receipt t x y f) p within has k = dealt E s t x (CarriedIn p) b _ suits (here s t x y within) has k (receipt_deals E s t x y f b p)
broker_dealt E s scripted suits b (event.Snap t x) p within has k =
    let h = site s t x in let lt = ltb-true _ _ (of_node s t x within) in let snaps = snap_shape h b in
    dealt E s t x (CarriedIn p) b _ suits lt has k (record {
      sends = snaps_sends (SentOut ⊥ E s.clusters) h b _ snaps;
      writes = snaps_new ⊥ h (CarriedIn p) b _ (brief E s scripted t x b lt k) snaps;
      wide = snaps_wide h b _ snaps;
    })
broker_dealt E s scripted suits b (event.Offer t x n) p within has k =
    let h = site s t x in let lt = ltb-true _ _ (of_node s t x (of_sub s t x n within)) in let offers = offer_shape h b (sub_name s t n) in
    dealt E s t x (CarriedIn p) b _ suits lt has k (record {
      sends = offers_sends ⊥ E h b (sub_name s t n) _ (stock E s scripted t x b lt k) offers;
      writes = offers_new ⊥ h (CarriedIn p) b (sub_name s t n) _ (brief E s scripted t x b lt k) offers;
      wide = offers_wide h b (sub_name s t n) _ offers;
    })
broker_dealt E s scripted suits b (event.Seek t x n to) p within has k =
    let h = site s t x in let lt = ltb-true _ _ (of_node s t x (of_sub s t x n within)) in let seeks = seek_shape h b (sub_name s t n) to in
    dealt E s t x (CarriedIn p) b _ suits lt has k (record {
      sends = seeks_sends (SentOut ⊥ E s.clusters) h b (sub_name s t n) to _ seeks;
      writes = seeks_new ⊥ h (CarriedIn p) b (sub_name s t n) to _ (brief E s scripted t x b lt k) seeks;
      wide = seeks_wide (length s.clusters) h b (sub_name s t n) to _ seeks;
    })
broker_dealt E s scripted suits b (event.Restart t x) p within has k =
    dealt E s t x (CarriedIn p) b _ suits (ltb-true _ _ (of_node s t x within)) has k (record { sends = tt; writes = (tt, tt); wide = record { names = (tt, tt); changes = (tt, tt) } })
broker_dealt E s scripted suits b (event.Go c) p within has k = idle_dealt E s b k
broker_dealt E s scripted suits b (event.Get c) p within has k = idle_dealt E s b k
broker_dealt E s scripted suits b (event.Reconnect c) p within has k = idle_dealt E s b k

-- ---- a node

pub data Carrier (E : Entry → Type 0) (s : Setup) : NodeState → Type 0 where
  OfBroker : (b : Broker) → IsStocked E s b → Carrier E s (BrokerState b)
  OfClient : (k : Client) → Carrier E s (ClientState k)

-- what an event of the node sends, and its state after it
pub record Carried (E : Entry → Type 0) (s : Setup) (st : NodeState) (e : Event) (p : Option Packet) : Type 0 where
  pub sends : Each (SentOut ⊥ E s.clusters) (acts s st e p).sent
  pub after : Carrier E s (acts s st e p).state

pub node_carries : (E : Entry → Type 0) (s : Setup) → IsScripted s → Suits s.clusters E → (st : NodeState) (e : Event) (p : Option Packet) → in_range s e ≡ true
    → ((a : Entry) → CarriedIn p a → E a) → Carrier E s st → Carried E s st e p
node_carries E s scripted suits st e p within has (Carrier.OfBroker b k) =
    let d = broker_dealt E s scripted suits b e p within has k in
    record { sends = d.sends; after = Carrier.OfBroker _ d.after }
node_carries E s scripted suits st (event.Go c) p within has (Carrier.OfClient k) =
    record { sends = goes_with ⊥ E s scripted suits.plain c within k p; after = Carrier.OfClient _ }
node_carries E s scripted suits st (event.Reconnect c) p within has (Carrier.OfClient k) =
    record { sends = reconnects_with ⊥ E s scripted suits.plain c within k p; after = Carrier.OfClient _ }
node_carries E s scripted suits st (event.Get c) p within has (Carrier.OfClient k) =
    record { sends = gets_with ⊥ E s c k p; after = Carrier.OfClient _ }
node_carries E s scripted suits st e p within has (Carrier.OfClient k) = record { sends = tt; after = Carrier.OfClient _ }
