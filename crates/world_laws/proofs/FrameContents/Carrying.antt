-- What is in a frame on any link, and what is stored, has each fact that plain entries have and those of the start.
use Rattle.std.proofs.Common.{◌≡◌, ℕ, ◌*◌, ◌<◌, ◌≤◌, Bool, true, false, List, [], ◌∷◌, ◌++◌, length, map, refl, sym, subst, ◌∙◌, arith}
use Rattle.std.specs.Prelude.{Option, Some, None, nat_lt, slice_get, slice_index_or, take}
use Rattle.std.proofs.lemmas.Bool.{ltb-true}
use Rattle.std.proofs.lemmas.Bool.Decides.{nat_tests}
use Rattle.std.proofs.lemmas.List.{get_or-replicate}
use Rattle.std.proofs.lemmas.Option.{none-some}
use Rattle.world_laws.proofs.Types.{Entry, Event, Frame, Out, Packet, Peer, Write}
use Rattle.world_laws.proofs.Types.event
use Rattle.world_laws.proofs.Types.frame
use Rattle.world_laws.proofs.Types.write
use Rattle.geo_base.specs.Broker.{Broker, new_broker, no_broker}
use Rattle.geo_base.specs.Client.{Acted}
use Rattle.geo_base.specs.Entry.{with_origin}
use Rattle.geo_base.specs.Happening.{broker_does, broker_halts, client_does, does_planned, halts_planned, happens, stops}
use Rattle.geo_base.specs.Laws.{IsShort}
use Rattle.geo_base.specs.Link.{Link, discarded, no_link, sent_on, took}
use Rattle.geo_base.specs.Moments.{partly_written}
use Rattle.geo_base.specs.Plan.{all_written, done, halted}
use Rattle.geo_base.specs.Planned.{Planned, has_client, planned}
use Rattle.geo_base.specs.Safe.{IsEntry}
use Rattle.geo_base.specs.Scripted.{IsScripted}
use Rattle.geo_base.specs.Seeking.{restart}
use Rattle.geo_base.specs.Setup.{Setup}
use Rattle.geo_base.specs.World.{Back, Forward, LinkName, Links, ToBroker, ToClient, World, client_at, delivered, from_broker, from_client, link_at, node, opening_world, packet_at, site, stamped, taken_from, topic_at, with_link}
use Rattle.world_laws.specs.Frames.{AllEntries, AllFrames, IsCarrying}
use Rattle.world_laws.specs.Plain.{IsPlainEntry}
use Rattle.world_laws.proofs.TopicOrder.Added.{after_is, appended}
use Rattle.world_laws.proofs.OnceInOrder.Appends.{all_changed_entries, written_entries}
use Rattle.world_laws.proofs.Counters.Bounds.{link_set, table_has}
use Rattle.world_laws.proofs.FrameContents.ClientSends.{gets_with, goes_with, reconnects_with}
use Rattle.world_laws.proofs.Replicating.Effects.{Each, each_both, each_take}
use Rattle.world_laws.proofs.Walks.EventWalk.{HasShape, planned_shape}
use Rattle.world_laws.proofs.ComesOver.FittingRuns.{Fitting, short_brief}
use Rattle.world_laws.proofs.Induction.Frames.{at_map}
use Rattle.world_laws.proofs.Induction.Layers.{Both, Everywhere, both_kept, one_node}
use Rattle.world_laws.proofs.FrameContents.NewEntries.{Brief, Carries, IsFit, NewEntry, NewWrite, TakenEntry, all_appended, shape_new}
use Rattle.world_laws.proofs.FrameContents.OwnPlain.{own_plain}
use Rattle.world_laws.proofs.FrameContents.OwnSizes.{names_short}
use Rattle.world_laws.proofs.Replicating.PairRoles.{shape_within}
use Rattle.world_laws.proofs.Replicating.Pairs.{past_node}
use Rattle.world_laws.proofs.Induction.Runs.{IsKept, IsKeptByEvents, IsKeptOn, event_done, plan_halted}
use Rattle.world_laws.proofs.FrameContents.Sending.{Sent, SentOut, Stock, shape_sends}
use Rattle.world_laws.proofs.Walks.Shapes.{Shape}
use Rattle.world_laws.proofs.Replicating.Sizes.{IsThere, Sized, node_lt, node_there, sized_kept, stopped_at}
use Rattle.world_laws.proofs.Dispatching.SubFrames.{each_at_place}
use Rattle.world_laws.proofs.Walks.Walk.{on_if, on_test}
use Rattle.world_laws.proofs.FrameContents.Widths.{AllWide, wide_kept}

-- LINKS

-- a fact of each packet that was ever sent, on any link
abbrev pub AllSent : (Packet → Type 0) → Links → Type 0
AllSent F ls = (k : LinkName) → Each F (link_at ls k).sent

all_delivered : (F : Frame → Type 0) (to : Peer → LinkName) (stamp : ℕ) (os : List Out) (ls : Links) → Each (λ (o : Out). F o.frame) os → AllSent (λ p. F p.frame) ls
    → AllSent (λ p. F p.frame) (delivered to stamp os ls)
all_delivered F to stamp [] ls h all = all
all_delivered F to stamp (o ∷ os) ls h all =
    let P : Packet → Type 0 = λ p. F p.frame in
    all_delivered F to stamp os (with_link ls (to o.to) (sent_on (link_at ls (to o.to)) (stamped stamp o))) h.1
    (λ k. link_set (λ (l : Link). Each P l.sent) ls (to o.to) k (sent_on (link_at ls (to o.to)) (stamped stamp o))
    (each_both P (link_at ls (to o.to)).sent (stamped stamp o ∷ []) (all (to o.to)) (h.0, tt)) (all k))

all_taken : (P : Packet → Type 0) (o : Option LinkName) (ls : Links) → AllSent P ls → AllSent P (taken_from o ls)
all_taken P None ls all = all
all_taken P (Some j) ls all = λ k. link_set (λ (l : Link). Each P l.sent) ls j k (took (link_at ls j)) (all j) (all k)

discarded_sent : (P : Packet → Type 0) (m : List (List Link)) (i j : ℕ) → Each P (slice_index_or (slice_index_or m i []) j no_link).sent
    → Each P (slice_index_or (slice_index_or (map (λ (ls : List Link). map discarded ls) m) i []) j no_link).sent
discarded_sent P m i j h =
    let Q : Link → Type 0 = λ l. Each P l.sent in
    at_map (λ (r : List Link). Q (slice_index_or r j no_link)) (λ (ls : List Link). map discarded ls) (λ r q. at_map Q discarded (λ l p. p) r j no_link tt q) m i [] tt h

all_stopped : (P : Packet → Type 0) (s : Setup) (w : World) → AllSent P w.links → AllSent P (stops s w).links
unfolding stops
all_stopped P s w all (Forward n y) = discarded_sent P w.links.forward n y (all (Forward n y))
all_stopped P s w all (Back n y) = discarded_sent P w.links.back n y (all (Back n y))
all_stopped P s w all (ToBroker c x) = discarded_sent P w.links.to_broker c x (all (ToBroker c x))
all_stopped P s w all (ToClient c x) = discarded_sent P w.links.to_client c x (all (ToClient c x))

all_opening : (P : Packet → Type 0) (s : Setup) → AllSent P (opening_world s).links
all_opening P s (Forward n y) = table_has (λ (l : Link). Each P l.sent) (length s.topics * length s.clusters) (length s.clusters) n y tt
all_opening P s (Back n y) = table_has (λ (l : Link). Each P l.sent) (length s.topics * length s.clusters) (length s.clusters) n y tt
all_opening P s (ToBroker c x) = table_has (λ (l : Link). Each P l.sent) (length s.clients) (length s.clusters) c x tt
all_opening P s (ToClient c x) = table_has (λ (l : Link). Each P l.sent) (length s.clients) (length s.clusters) c x tt

-- WORLDS

-- a fact of entries that plain ones have, and that does not look at who stored an entry first
pub record Suits (names : List (List ℕ)) (E : Entry → Type 0) : Type 0 where
  pub plain : (e : Entry) → IsPlainEntry names None e → E e
  pub moved : (z : ℕ) (e : Entry) → E e → E (with_origin z e)

pub plain_suits : (names : List (List ℕ)) → Suits names (IsPlainEntry names None)
plain_suits names = record {
  plain = λ e h. h;
  moved = λ z e h. record { listed = h.listed; some = h.some; from = tt; content = h.content; rest = h.rest };
}

-- of an entry that is stored
abbrev pub Stored : (Entry → Type 0) → List (List ℕ) → Entry → Type 0
Stored E names e = E e × (e.ident.origin < length names)

abbrev StoredAt : (Entry → Type 0) → Setup → ℕ → Broker → Type 0
StoredAt E s x b = Each (Stored E s.clusters) b.entries

-- every frame, and every entry; frames are small where B holds
pub record Carrying (B : Type 0) (E : Entry → Type 0) (s : Setup) (w : World) : Type 0 where
  pub links : AllSent (λ p. Sent B E s.clusters p.frame) w.links
  pub entries : Everywhere s (StoredAt E s) w

-- what is known besides, and more of it where B holds: of a run that is short
pub record Beneath (B : Type 0) (s : Setup) (w : World) : Type 0 where
  pub sized : Sized s w
  pub wide : AllWide s w
  pub short : B → IsShort w
  pub fitting : B → Fitting s w

-- what a SEND carries has E
carried_has : (B : Type 0) (E : Entry → Type 0) (names : List (List ℕ)) (f : Frame) (e : Entry) → Sent B E names f → Carries f e → E e
carried_has B E names f e sent (id, seq, source, is) = let h : Sent B E names (frame.Send id seq source e) = subst (Sent B E names) is sent in h.carried.1

taken_has : (B : Type 0) (E : Entry → Type 0) (s : Setup) (w : World) (o : Option LinkName) (q : Packet) (e : Entry) → AllSent (λ p. Sent B E s.clusters p.frame) w.links → packet_at w.links o ≡ Some q
    → Carries q.frame e → E e
taken_has B E s w None q e all at c = absurd (none-some q at)
taken_has B E s w (Some k) q e all at c =
    carried_has B E s.clusters q.frame e (each_at_place (λ (p : Packet). Sent B E s.clusters p.frame) (link_at w.links k).sent (link_at w.links k).taken q (all k) at) c

-- so does what an event appends
new_has : (B : Type 0) (E : Entry → Type 0) (s : Setup) (w : World) (p : Planned) → Suits s.clusters E → AllSent (λ q. Sent B E s.clusters q.frame) w.links → p.cluster < length s.clusters → (e : Entry)
    → NewEntry B (site s p.topic p.cluster) (TakenEntry w p) e → Stored E s.clusters e
new_has B E s w p suits all lt e (NewEntry.Carried a z within (q, at, c) fit) = (suits.moved z a (taken_has B E s w p.takes q a all at c), within)
new_has B E s w p suits all lt e (NewEntry.Own b m to names own) = (suits.plain e (own_plain B (site s p.topic p.cluster) b m to names lt own), lt)

-- an entry stands only in a topic that is there
pub entry_there : (s : Setup) (w : World) (t x i : ℕ) (e : Entry) → length w.brokers ≡ length s.topics * length s.clusters → x < length s.clusters → IsEntry (topic_at s w t x) i e → IsThere s t x
entry_there s w t x i e size small at = by (nat_lt t (length s.topics)) refl
  where
    by : (b : Bool) → nat_lt t (length s.topics) ≡ b → IsThere s t x
    by true is = (ltb-true t (length s.topics) is, small)
    by false is =
        let le : length s.topics ≤ t = grind (arith, nat_tests, is) in
        let P : Broker → Type 0 = λ b. slice_get b.entries i ≡ Some e in
        absurd (none-some e (subst P (past_node s w.brokers t x size le) at))

pub all_entries : (s : Setup) (w : World) (E F : Entry → Type 0) → ((e : Entry) → E e → F e) → length w.brokers ≡ length s.topics * length s.clusters → Everywhere s (λ x b. Each E b.entries) w
    → AllEntries s F w
all_entries s w E F f size all t x i e small at = f e (each_at_place E (topic_at s w t x).entries i e (all t x (entry_there s w t x i e size small at)) at)

-- what the two walks ask of a broker
stock_at : (B : Type 0) (E : Entry → Type 0) (s : Setup) → IsScripted s → (w : World) (t x : ℕ) → Beneath B s w → Carrying B E s w → x < length s.clusters → Stock B E (site s t x) (topic_at s w t x)
stock_at B E s scripted w t x g c small = record {
  has = λ i e at. (stored i e at).0;
  fit = λ b i e at. each_at_place (IsFit s.clusters) (topic_at s w t x).entries i e ((g.fitting b).1 (g.short b) t x (there i e at)) at;
  origins = λ i e at. (stored i e at).1;
  names = names_short s.clusters scripted.cluster_names.0;
  topic = names_short s.topics scripted.topic_names.0 t;
  own = small;
}
  where
    there : (i : ℕ) (e : Entry) → IsEntry (topic_at s w t x) i e → IsThere s t x
    there i e at = entry_there s w t x i e g.sized.brokers small at

    stored : (i : ℕ) (e : Entry) → IsEntry (topic_at s w t x) i e → Stored E s.clusters e
    stored i e at = each_at_place (Stored E s.clusters) (topic_at s w t x).entries i e (c.entries t x (there i e at)) at

brief_at : (B : Type 0) (s : Setup) → IsScripted s → (w : World) (t x : ℕ) → Beneath B s w → IsThere s t x → Brief B (site s t x) (topic_at s w t x)
brief_at B s scripted w t x g there = record {
  own = there.1;
  names = names_short s.clusters scripted.cluster_names.0;
  wide = g.wide t x there;
  next = λ b. (short b).next tt;
  made = λ b. (short b).made tt;
  asked = λ b. (short b).asked tt;
}
  where
    short : B → Brief (Unit {0}) (site s t x) (topic_at s w t x)
    short b = short_brief s scripted w t x (g.short b) (g.fitting b).0 there

-- the entries that an event appends, or a beginning of them
written_has : (B : Type 0) (E : Entry → Type 0) (s : Setup) (w : World) (p : Planned) (ws : List Write) → Suits s.clusters E → Carrying B E s w → IsThere s p.topic p.cluster
    → Each (NewWrite B (site s p.topic p.cluster) (TakenEntry w p)) ws → StoredAt E s p.cluster (all_written s.per_ledger (topic_at s w p.topic p.cluster) ws)
written_has B E s w p ws suits c there new =
    let b = topic_at s w p.topic p.cluster in let P = Stored E s.clusters in
    subst (λ (es : List Entry). Each P es) (sym (written_entries s.per_ledger b ws ∙ after_is b.entries ws))
    (each_both P b.entries (appended ws) (c.entries p.topic p.cluster there)
    (all_appended B (site s p.topic p.cluster) (TakenEntry w p) P (new_has B E s w p suits c.links there.1) ws new))

-- of an event at a topic that is there, what it appends; where its topic is not there, it changes nothing
appends_at : (B : Type 0) (s : Setup) → IsScripted s → (w : World) (p : Planned) → Shape s w p → Beneath B s w → IsThere s p.topic p.cluster
    → Each (NewWrite B (site s p.topic p.cluster) (TakenEntry w p)) p.plan.writes
appends_at B s scripted w p shape g there = shape_new B s w p shape (brief_at B s scripted w p.topic p.cluster g there)

-- what it sends; where the topic is not there it is idle, or has nothing to send
sends_at : (B : Type 0) (E : Entry → Type 0) (s : Setup) → IsScripted s → (w : World) (p : Planned) → Shape s w p → Beneath B s w → Carrying B E s w → Each (SentOut B E s.clusters) p.plan.sent
sends_at B E s scripted w p shape g c = shape_sends B E s w p shape (stock_at B E s scripted w p.topic p.cluster g c (shape_within s w p shape))

carried_does : (B : Type 0) (E : Entry → Type 0) (s : Setup) → IsScripted s → Suits s.clusters E → (w : World) (p : Planned) → Shape s w p → Beneath B s w → Carrying B E s w
    → Carrying B E s (broker_does s w p)
unfolding broker_does
carried_does B E s scripted suits w p shape g c =
    let b = topic_at s w p.topic p.cluster in let F = Sent B E s.clusters in
    on_if (Carrying B E s) p.plan.idle _ _ (record { links = c.links; entries = c.entries }) (record {
      links = all_taken (λ q. F q.frame) p.takes _ (all_delivered F (from_broker s p.topic p.cluster) _ p.plan.sent w.links (sends_at B E s scripted w p shape g c) c.links);
      entries = one_node s (StoredAt E s) w p.topic p.cluster (done s.per_ledger b p.plan) (shape_within s w p shape)
          (λ here. subst (λ (es : List Entry). Each (Stored E s.clusters) es) (sym (all_changed_entries (all_written s.per_ledger b p.plan.writes) p.plan.changes))
          (written_has B E s w p p.plan.writes suits c here (appends_at B s scripted w p shape g here))) c.entries;
    })

carried_halts : (B : Type 0) (E : Entry → Type 0) (s : Setup) → IsScripted s → Suits s.clusters E → (w : World) (k : ℕ) (p : Planned) → Shape s w p → Beneath B s w → Carrying B E s w
    → Carrying B E s (broker_halts s w k p)
unfolding broker_halts
carried_halts B E s scripted suits w k p shape g c =
    let b = topic_at s w p.topic p.cluster in let N = NewWrite B (site s p.topic p.cluster) (TakenEntry w p) in
    record {
      links = all_taken (λ q. Sent B E s.clusters q.frame) p.takes w.links c.links;
      entries = one_node s (StoredAt E s) w p.topic p.cluster (halted s.per_ledger b k p.plan) (shape_within s w p shape)
          (λ here. written_has B E s w p (take k p.plan.writes ++ write.Ledger ∷ []) suits c here
          (each_both N (take k p.plan.writes) (write.Ledger ∷ []) (each_take N k p.plan.writes (appends_at B s scripted w p shape g here)) (tt, tt))) c.entries;
    }

pub carried_written : (B : Type 0) (E : Entry → Type 0) (s : Setup) → IsScripted s → Suits s.clusters E → (w : World) (k : ℕ) (p : Planned) → Shape s w p → Beneath B s w → Carrying B E s w
    → Carrying B E s (partly_written s w k (Some p))
carried_written B E s scripted suits w k p shape g c =
    let b = topic_at s w p.topic p.cluster in let N = NewWrite B (site s p.topic p.cluster) (TakenEntry w p) in
    record {
      links = c.links;
      entries = one_node s (StoredAt E s) w p.topic p.cluster (all_written s.per_ledger b (take k p.plan.writes)) (shape_within s w p shape)
          (λ here. written_has B E s w p (take k p.plan.writes) suits c here (each_take N k p.plan.writes (appends_at B s scripted w p shape g here))) c.entries;
    }

carried_client : (B : Type 0) (E : Entry → Type 0) (s : Setup) (w : World) (c : ℕ) (k : Option LinkName) (a : Acted) → Each (SentOut B E s.clusters) a.sent → Carrying B E s w
    → Carrying B E s (client_does s w c k a)
unfolding client_does
carried_client B E s w c k a sends h =
    let F = Sent B E s.clusters in
    on_if (Carrying B E s) a.idle _ _ (record { links = h.links; entries = h.entries }) (record {
      links = all_delivered F (from_client c) _ a.sent (taken_from k w.links) sends (all_taken (λ q. F q.frame) k w.links h.links);
      entries = h.entries;
    })

carried_planned : (B : Type 0) (E : Entry → Type 0) (s : Setup) → IsScripted s → Suits s.clusters E → (w : World) (o : Option Planned) → HasShape s w o → Beneath B s w → Carrying B E s w
    → Carrying B E s (does_planned s w o)
carried_planned B E s scripted suits w None shape g c = record { links = c.links; entries = c.entries }
carried_planned B E s scripted suits w (Some p) shape g c = carried_does B E s scripted suits w p shape g c

pub halted_planned : (B : Type 0) (E : Entry → Type 0) (s : Setup) → IsScripted s → Suits s.clusters E → (w : World) (k : ℕ) (o : Option Planned) → HasShape s w o → Beneath B s w → Carrying B E s w
    → Carrying B E s (halts_planned s w k o)
halted_planned B E s scripted suits w k None shape g c = record { links = c.links; entries = c.entries }
halted_planned B E s scripted suits w k (Some p) shape g c = carried_halts B E s scripted suits w k p shape g c

pub carried_event : (B : Type 0) (E : Entry → Type 0) (s : Setup) → IsScripted s → Suits s.clusters E → (w : World) (e : Event) → Beneath B s w → Carrying B E s w → Carrying B E s (happens s w e)
unfolding happens
carried_event B E s scripted suits w (event.Go c) g h =
    on_test (Carrying B E s) (has_client s c) _ _ (λ has. carried_client B E s w c None _ (goes_with B E s scripted suits.plain c has (client_at s w c) None) h)
    (λ none. record { links = h.links; entries = h.entries })
carried_event B E s scripted suits w (event.Reconnect c) g h =
    on_test (Carrying B E s) (has_client s c) _ _ (λ has. carried_client B E s w c None _ (reconnects_with B E s scripted suits.plain c has (client_at s w c) None) h)
    (λ none. record { links = h.links; entries = h.entries })
carried_event B E s scripted suits w (event.Get c) g h =
    on_test (Carrying B E s) (has_client s c) _ _ (λ has. carried_client B E s w c (Some (ToClient c (client_at s w c).cluster)) _ (gets_with B E s c (client_at s w c) _) h)
    (λ none. record { links = h.links; entries = h.entries })
carried_event B E s scripted suits w e g h = carried_planned B E s scripted suits w (planned s w e) (planned_shape s w e) g h

pub carried_stops : (B : Type 0) (E : Entry → Type 0) (s : Setup) (w : World) → Sized s w → Carrying B E s w → Carrying B E s (stops s w)
unfolding stops restart
carried_stops B E s w z c = record { links = all_stopped (λ q. Sent B E s.clusters q.frame) s w c.links; entries = stopped_entries }
  where
    stopped_entries : Everywhere s (StoredAt E s) (stops s w)
    stopped_entries t x there =
        subst (StoredAt E s x) (sym (stopped_at w.brokers (λ b. done s.per_ledger b restart) (node s t x) (node_there s w t x z there))) (c.entries t x there)

pub carried_opening : (B : Type 0) (E : Entry → Type 0) (s : Setup) → Carrying B E s (opening_world s)
carried_opening B E s = record {
  links = all_opening (λ q. Sent B E s.clusters q.frame) s;
  entries = λ t x there. let n = length s.clusters in
      subst (StoredAt E s x) (sym (get_or-replicate (length s.topics * n) (node s t x) (new_broker n (length s.clients)) no_broker (node_lt s t x there))) tt;
}

-- where no link was ever used, it is enough that each entry has E
pub carried_unused : (E : Entry → Type 0) (s : Setup) (w : World) → w.links ≡ (opening_world s).links → Everywhere s (StoredAt E s) w → Carrying ⊥ E s w
carried_unused E s w unused entries = record { links = subst (λ (ls : Links). AllSent (λ p. Sent ⊥ E s.clusters p.frame) ls) (sym unused) (all_opening (λ p. Sent ⊥ E s.clusters p.frame) s); entries = entries }

-- IN EVERY RUN

abbrev pub Carried : (Entry → Type 0) → Setup → World → Type 0
Carried E s w = (Sized s w × AllWide s w) × Carrying ⊥ E s w

pub beneath : (s : Setup) (w : World) → Sized s w × AllWide s w → Beneath ⊥ s w
beneath s w h = record { sized = h.0; wide = h.1; short = λ b. absurd b; fitting = λ b. absurd b }

abbrev Formed : Setup → World → Type 0
Formed s = Both (Sized s) (AllWide s)

formed_kept : (s : Setup) → IsKept s (Formed s)
formed_kept s = both_kept s (Sized s) (AllWide s) (sized_kept s) (wide_kept s)

pub carried_on : (E : Entry → Type 0) (s : Setup) → IsScripted s → Suits s.clusters E → IsKeptOn s (Carried E s)
carried_on E s scripted suits =
    let k = formed_kept s in
    record {
      idle = λ w n h. (k.idle w n h.0, record { links = h.1.links; entries = h.1.entries });
      round = λ w n h. (k.round w n h.0, record { links = h.1.links; entries = h.1.entries });
      event = λ w e h. (event_done s (Formed s) k w e h.0, carried_event ⊥ E s scripted suits w e (beneath s w h.0) h.1);
      halts = λ w n e h. (
        plan_halted s (Formed s) k w n (planned s w e) (planned_shape s w e) h.0,
        halted_planned ⊥ E s scripted suits w n (planned s w e) (planned_shape s w e) (beneath s w h.0) h.1,
      );
      stop = λ w h. (k.stop w h.0, carried_stops ⊥ E s w h.0.0 h.1);
    }

pub carried_kept : (E : Entry → Type 0) (s : Setup) → IsScripted s → Suits s.clusters E → IsKeptByEvents s (Carried E s)
carried_kept E s scripted suits =
    let k = carried_on E s scripted suits in
    record { opening = ((formed_kept s).opening, carried_opening ⊥ E s); idle = k.idle; round = k.round; event = k.event; halts = k.halts; stop = k.stop }

-- what the next event of a broker sends there
pub next_sends : (E : Entry → Type 0) (s : Setup) → IsScripted s → (w : World) → Carried E s w → (p : Planned) → Shape s w p → Each (SentOut ⊥ E s.clusters) p.plan.sent
next_sends E s scripted w h p shape = sends_at ⊥ E s scripted w p shape (beneath s w h.0) h.1

pub all_frames : (F : Frame → Type 0) (B : Type 0) (E : Entry → Type 0) (names : List (List ℕ)) (w : World) → ((f : Frame) → Sent B E names f → F f) → AllSent (λ p. Sent B E names p.frame) w.links
    → AllFrames F w
all_frames F B E names w f all k i p at = f p.frame (each_at_place (λ (q : Packet). Sent B E names q.frame) (link_at w.links k).sent i p (all k) at)

pub frames_carry : (E : Entry → Type 0) (s : Setup) (w : World) → Carried E s w → AllFrames (IsCarrying E s.clusters) w
frames_carry E s w h = all_frames (IsCarrying E s.clusters) ⊥ E s.clusters w (λ f g. g.carried) h.1.links

pub entries_have : (E F : Entry → Type 0) (s : Setup) (w : World) → ((e : Entry) → Stored E s.clusters e → F e) → Carried E s w → AllEntries s F w
entries_have E F s w f h = all_entries s w (Stored E s.clusters) F f h.0.0.brokers h.1.entries
