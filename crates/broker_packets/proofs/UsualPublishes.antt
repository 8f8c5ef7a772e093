-- A SEND of the usual form is published as the machine's SEND is.
use Rattle.std.proofs.Common.{◌≡◌, ℕ, ◌≤◌, ◌==◌, true, false, List, [], refl, sym, ◌∙◌, ap, subst}
use Rattle.std.specs.Prelude.{◌&&◌, is_none, nat_le, Option, Some, None}
use Rattle.std.specs.Option.{option_copied, option_map}
use Rattle.std.specs.Str.{bytes_eq}
use Rattle.std.proofs.lemmas.Bool.{eqb-true, false≢true, le-leb}
use Rattle.geo_base.specs.declared.frame.Frame.TheVariants as frame
use Rattle.geo_base.specs.declared.marker.ClusterRef.{ClusterRef}
use Rattle.geo_base.specs.declared.packet.Peer.TheVariants as peer
use Rattle.geo_base.specs.declared.position.Position.{Position}
use Rattle.geo_base.specs.declared.session.Session.{Session}
use Rattle.geo_base.specs.Answers.{answer}
use Rattle.geo_base.specs.Broker.{Broker, Site, session_at}
use Rattle.frame_values.specs.Values.{place_of}
use Rattle.broker_plans.specs.Storable.{IsStorable}
use Rattle.broker_packets.proofs.Producers.{sound_sent, sound_storable}
use Rattle.frame_values.proofs.Entries.{no_rest}
use Rattle.geo_base.specs.Plan.{Plan, plan_of}
use Rattle.geo_base.specs.Producing.{is_sound, name_with, stores}
use Rattle.geo_base.specs.Serving.{serve}
use Rattle.geo_base.specs.Sizes.{entry_size, most_entry_size}
use Rattle.geo_base.specs.Storing.{receipt_position, storing}
use Rattle.broker_plans.specs.declared.usual.Came.{Came}
use Rattle.broker_plans.specs.Prepared.{AlsoSends, IsPrepared}
use Rattle.broker_plans.specs.Usual.{send_viewed}
use Rattle.frame_values.specs.Usual.{entry_viewed, source_viewed}
use Rattle.broker_plans.proofs.Keeping.{sends_more}
use Rattle.broker_state.specs.Plan.{PlanView}
use Rattle.broker_packets.specs.Serving.{is_in, open_at, session_or}
use Rattle.broker_packets.specs.UsualPublishes.{Publishes}
use Rattle.broker_packets.proofs.Sessions.{served_in}
use Rattle.geo_base.proofs.Bools.{and_first, and_of_both, and_second}

none_named : {X Y : Type 0} (o : Option X) (f : Option X → Option Y) (g : Y → ClusterRef) → is_none o ≡ true → f None ≡ None → is_none (option_map g (f o)) ≡ true
none_named {Y = Y} None f g h none = ap (λ (q : Option Y). is_none (option_map g q)) none
none_named (Some x) f g h none = absurd cc

sound_parts : (h : Site) (n : List ℕ) (seq : ℕ) (o : Option ClusterRef) (m : Came) → bytes_eq n m.message.meta.producer.now ≡ true → (seq == m.message.meta.seq) ≡ true → is_none o ≡ true
    → entry_size h.clusters (entry_viewed 0 m.message) ≤ most_entry_size → is_sound h n seq o (entry_viewed 0 m.message) ≡ true
sound_parts h n seq o m name number none small = rw (name, number, none, le-leb (entry_size h.clusters (entry_viewed 0 m.message)) most_entry_size small) refl

pub sound : (h : Site) (m : Came) (n : List ℕ) → (bytes_eq n m.message.meta.producer.now && (m.seq == m.message.meta.seq) && is_none m.message.meta.replicated_from) ≡ true
    → ((names : List (List ℕ)) (x : ℕ) → entry_size names (entry_viewed x m.message) ≤ most_entry_size) → is_sound h n m.seq (source_viewed h.clusters m.message) (entry_viewed 0 m.message) ≡ true
sound h m n agree small =
    let both = and_first (bytes_eq n m.message.meta.producer.now && (m.seq == m.message.meta.seq)) (is_none m.message.meta.replicated_from) agree in
    sound_parts h n m.seq (source_viewed h.clusters m.message) m
    (and_first (bytes_eq n m.message.meta.producer.now) (m.seq == m.message.meta.seq) both) (and_second (bytes_eq n m.message.meta.producer.now) (m.seq == m.message.meta.seq) both)
    (none_named m.message.meta.replicated_from option_copied (place_of h.clusters) (and_second (bytes_eq n m.message.meta.producer.now && (m.seq == m.message.meta.seq)) (is_none m.message.meta.replicated_from) agree) refl)
    (small h.clusters 0)

-- and the other way round
some_named : {X Y : Type 0} (o : Option X) (f : Option X → Option Y) (g : Y → ClusterRef) → ((x : X) → is_none (f (Some x)) ≡ false) → is_none (option_map g (f o)) ≡ true → is_none o ≡ true
some_named None f g some h = refl
some_named {Y = Y} (Some x) f g some h = absurd (false≢true (sym (some x) ∙ map_none (f (Some x)) h))
  where
    map_none : (q : Option Y) → is_none (option_map g q) ≡ true → is_none q ≡ true
    map_none None h = refl
    map_none (Some y) h = absurd cc

pub agreed : (h : Site) (m : Came) (n : List ℕ) → is_sound h n m.seq (source_viewed h.clusters m.message) (entry_viewed 0 m.message) ≡ true
    → (bytes_eq n m.message.meta.producer.now && (m.seq == m.message.meta.seq) && is_none m.message.meta.replicated_from) ≡ true
agreed h m n is =
    let a = bytes_eq n m.message.meta.producer.now in let b = m.seq == m.message.meta.seq in let c = is_none (source_viewed h.clusters m.message) in
    let fits = nat_le (entry_size h.clusters (entry_viewed 0 m.message)) most_entry_size in
    let three = and_first (a && b && c) true (and_first (a && b && c && true) fits is) in
    and_of_both (a && b) (is_none m.message.meta.replicated_from) (and_first (a && b) c three) (some_named m.message.meta.replicated_from option_copied (place_of h.clusters) (λ x. refl) (and_second (a && b) c three))

-- ---- the plan

number_of : (n : ℕ) (o : Option Session) → is_in n o ≡ true → (session_or o).number ≡ n
number_of n None h = absurd cc
number_of n (Some s) h = eqb-true s.number n h

pub published_plan : (h : Site) (b : Broker) (c stamp : ℕ) (m : Came) → Publishes h b c m
    → serve h b c (Some (record { session = m.session; stamp = stamp; frame = send_viewed h.clusters m })) ≡ stores h b c (open_at b c) m.id m.seq (entry_viewed h.own m.message)
unfolding serve
published_plan h b c stamp m is =
    served_in h b c m.session (send_viewed h.clusters m) is.open_now
    ∙ sound_sent h b c (open_at b c) m.id m.seq (source_viewed h.clusters m.message) (entry_viewed 0 m.message) (name_with m.id (open_at b c).producers) is.sound

pub published_more : (h now : Site) (b : Broker) (c stamp own : ℕ) (m : Came) (at : Position) (p q : PlanView) → now ≡ h → own ≡ h.own → Publishes h b c m
    → IsPrepared h b (plan_of (storing b (entry_viewed own m.message)) [] []) p → Some at ≡ receipt_position h.per_ledger b (entry_viewed own m.message)
    → AlsoSends now.clusters (record { to = peer.Client c; session = m.session; frame = frame.SendReceipt m.id m.seq (Some at) }) p q
    → IsPrepared h b (serve h b c (Some (record { session = m.session; stamp = stamp; frame = send_viewed h.clusters m }))) q
published_more h now b c stamp own m at p q same is_own is stored sub_index more =
    subst (λ (plan : Plan). IsPrepared h b plan q) (sym (published_plan h b c stamp m is))
    (subst (λ (x : ℕ). IsPrepared h b (stores h b c (open_at b c) m.id m.seq (entry_viewed x m.message)) q) is_own
    (subst (λ (o : Option Position). IsPrepared h b (plan_of (storing b (entry_viewed own m.message)) [] (answer c (open_at b c) (frame.SendReceipt m.id m.seq o))) q) sub_index
    (sends_more h b (storing b (entry_viewed own m.message)) [] (record { to = peer.Client c; session = (open_at b c).number; frame = frame.SendReceipt m.id m.seq (Some at) }) p q stored
    (subst (λ (n : ℕ). AlsoSends h.clusters (record { to = peer.Client c; session = n; frame = frame.SendReceipt m.id m.seq (Some at) }) p q) (sym (number_of m.session (session_at b c) is.open_now))
    (subst (λ (g : Site). AlsoSends g.clusters (record { to = peer.Client c; session = m.session; frame = frame.SendReceipt m.id m.seq (Some at) }) p q) same more)))))

-- it can be stored
pub own_storable : (h : Site) (b : Broker) (c own : ℕ) (m : Came) → own ≡ h.own → Publishes h b c m → IsStorable h (entry_viewed own m.message)
own_storable h b c own m is_own is =
    subst (λ (x : ℕ). IsStorable h (entry_viewed x m.message)) (sym is_own)
    (sound_storable h m.seq (source_viewed h.clusters m.message) (entry_viewed 0 m.message) (name_with m.id (open_at b c).producers) is.sound (record { rest = no_rest; marker = tt }))
