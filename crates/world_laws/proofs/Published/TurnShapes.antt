-- Whether an event of a broker serves a packet of client c where c is declared, shape by shape; else it leaves c's publishes alone.
use Rattle.std.proofs.Common.{◌≡◌, ◌==◌, ℕ, ◌<◌, true, false, [], length, refl, sym, ap, subst, ◌∙◌, inl, inr, ◌⊎◌}
use Rattle.std.specs.Prelude.{Option, Some, None}
use Rattle.std.specs.Str.{bytes_eq}
use Rattle.std.proofs.lemmas.Bool.{eq-eqb, eqb-true, false≢true, ltb-true}
use Rattle.world_laws.proofs.Types.{Event, Packet}
use Rattle.world_laws.proofs.Types.event
use Rattle.geo_base.specs.Broker.{Broker}
use Rattle.geo_base.specs.Forwarding.{closes}
use Rattle.geo_base.specs.Link.{next_packet}
use Rattle.geo_base.specs.Name.{is_name}
use Rattle.geo_base.specs.Plan.{idle_plan, quiet_plan}
use Rattle.geo_base.specs.Planned.{Planned, in_range, planned}
use Rattle.geo_base.specs.Seeking.{restart}
use Rattle.geo_base.specs.Serving.{serve}
use Rattle.geo_base.specs.Setup.{Setup, declared_at}
use Rattle.geo_base.specs.World.{LinkName, ToBroker, World, client_at, link_at, site, topic_at}
use Rattle.world_laws.proofs.Clients.ClientLinks.{Packets, SentDown}
use Rattle.world_laws.proofs.Merges.LinkTables.{same_link_is}
use Rattle.world_laws.proofs.Published.ClientCells.{takes_it}
use Rattle.world_laws.proofs.Published.OwnMessages.{AllPublish, next_publishes}
use Rattle.world_laws.proofs.Published.TurnAsides.{Aside, answered_aside, fated_aside, offers_aside, reads_aside, seeks_aside, served_aside, snaps_aside, taken_aside}
use Rattle.world_laws.proofs.Published.TurnCore.{Core}
use Rattle.world_laws.proofs.Published.TurnLines.{IsNoError}
use Rattle.world_laws.proofs.Published.TurnServes.{SendServed, serve_is}
use Rattle.world_laws.proofs.TopicOrder.Added.{came_other}
use Rattle.world_laws.proofs.TopicOrder.NoSelf.{NoSelf}
use Rattle.world_laws.proofs.Walks.EventWalk.{of_target}
use Rattle.world_laws.proofs.Walks.Shapes.{Served, Shape}
use Rattle.world_laws.proofs.Walks.Walk.{left, on_if, right}
pub use Rattle.geo_base.proofs.Bools.{and_of_both as and_true}

-- ---- what is known of client c

abbrev pub home_of : Setup → World → ℕ → Broker
home_of s w c = topic_at s w (declared_at s c).topic (declared_at s c).cluster

abbrev pub CoreAt : Setup → ℕ → World → Type 0
CoreAt s c w = Core (declared_at s c) c (home_of s w c) (link_at w.links (ToBroker c (declared_at s c).cluster)) (client_at s w c) (SentDown w.links c (declared_at s c).cluster)

abbrev pub NoErrorsAt : Setup → ℕ → World → Type 0
NoErrorsAt s c w = Packets IsNoError (SentDown w.links c (declared_at s c).cluster)

-- names of clients
pub record NamesApart (s : Setup) (c : ℕ) : Type 0 where
  pub named : is_name (declared_at s c).name ≡ true
  pub apart : (z : ℕ) → (z ≡ c → ⊥) → z < length s.clients → bytes_eq (declared_at s z).name (declared_at s c).name ≡ false

-- ---- whether the event serves c at home

-- it leaves c's publishes alone
pub shape_aside : (s : Setup) (w : World) (c : ℕ) (W : ℕ → Type 0) (p : Planned) → Shape s w p → NoSelf s w → AllPublish s w → NamesApart s c → p.cluster ≡ (declared_at s c).cluster
    → takes_it p.takes (ToBroker c (declared_at s c).cluster) ≡ false → Aside (declared_at s c) c W p.plan
unfolding restart
shape_aside s w c W p (Shape.Idle t x within) none all names here other = record { others = tt; keeps = tt; quiet = tt }
shape_aside s w c W p (Shape.Empty t x k within next) none all names here other = record { others = tt; keeps = tt; quiet = tt }
shape_aside s w c W p (Shape.Serve x z q plan within next served) none all names here other =
    let apart : z ≡ c → ⊥ = λ same. false≢true (sym other ∙ and_true (z == c) (x == (declared_at s c).cluster) (eq-eqb z c same) (eq-eqb x (declared_at s c).cluster here)) in
    served_aside s c z x W _ q plan names.named apart (names.apart z apart) (next_publishes s w z x q all next) served
shape_aside s w c W p (Shape.Drop x z v within at) none all names here other = record { others = tt; keeps = (tt, (tt, tt)); quiet = tt }
shape_aside s w c W p (Shape.Reset t x y within remote) none all names here other = record { others = tt; keeps = (tt, tt); quiet = (tt, tt) }
shape_aside s w c W p (Shape.Read t x y plan within reads) none all names here other = reads_aside (declared_at s c) c W _ _ y plan names.named reads
shape_aside s w c W p (Shape.Take t x y q plan within next taken) none all names here other =
    let small = ltb-true _ _ (of_target s t x y within) in
    fated_aside (declared_at s c) c W s.per_ledger _ _ (closes x) plan (λ b r k. taken_aside (declared_at s c) c W (site s t y) b x q r (λ same. came_other s w t x y q none small next (same ∙ sym here)) k)
    (record { others = tt; keeps = (tt, tt); quiet = tt }) taken
shape_aside s w c W p (Shape.Receipt t x y q plan within next answered) none all names here other =
    fated_aside (declared_at s c) c W s.per_ledger _ _ (quiet_plan []) plan (λ b r k. answered_aside (declared_at s c) c W b y q r k) (record { others = tt; keeps = tt; quiet = tt }) answered
shape_aside s w c W p (Shape.Snap t x plan within snaps) none all names here other = snaps_aside (declared_at s c) c W _ _ plan names.named snaps
shape_aside s w c W p (Shape.Offer t x n plan within offers) none all names here other = offers_aside (declared_at s c) c W _ _ _ plan names.named offers
shape_aside s w c W p (Shape.Seek t x n to plan within seeks) none all names here other = seeks_aside (declared_at s c) c W _ _ _ to plan names.named seeks
shape_aside s w c W p (Shape.Restart t x within) none all names here other = record { others = tt; keeps = (tt, tt); quiet = tt }

-- it serves the next packet of c at home
pub record ServesHome (s : Setup) (w : World) (c : ℕ) (p : Planned) : Type 0 where
  pub packet : Packet
  pub next : next_packet (link_at w.links (ToBroker c (declared_at s c).cluster)) ≡ Some packet
  pub topic : p.topic ≡ (declared_at s c).topic
  pub cluster : p.cluster ≡ (declared_at s c).cluster
  pub served : Served (site s (declared_at s c).topic (declared_at s c).cluster) (home_of s w c) c packet p.plan

-- or it finds no packet there
pub record FindsNone (s : Setup) (w : World) (c : ℕ) (p : Planned) : Type 0 where
  pub next : next_packet (link_at w.links (ToBroker c (declared_at s c).cluster)) ≡ None
  pub plan : p.plan ≡ idle_plan

pub shape_serves : (s : Setup) (w : World) (c : ℕ) (p : Planned) → Shape s w p → takes_it p.takes (ToBroker c (declared_at s c).cluster) ≡ true → FindsNone s w c p ⊎ ServesHome s w c p
unfolding restart
shape_serves s w c p (Shape.Empty t x k within next) it =
    inl (record { next = subst (λ (j : LinkName). next_packet (link_at w.links j) ≡ None) (same_link_is k (ToBroker c (declared_at s c).cluster) it) next; plan = refl })
shape_serves s w c p (Shape.Serve x z q plan within next served) it =
    let d = declared_at s c in
    let same = eqb-true z c (left (z == c) (x == d.cluster) it) in let here = eqb-true x d.cluster (right (z == c) (x == d.cluster) it) in
    let N : ℕ → ℕ → Type 0 = λ i y. next_packet (link_at w.links (ToBroker i y)) ≡ Some q in
    let S : ℕ → ℕ → Type 0 = λ i y. Served (site s (declared_at s i).topic y) (topic_at s w (declared_at s i).topic y) i q plan in
    inr (record {
      packet = q;
      next = subst (N c) here (subst (λ (i : ℕ). N i x) same next);
      topic = ap (λ (i : ℕ). (declared_at s i).topic) same;
      cluster = here;
      served = subst (S c) here (subst (λ (i : ℕ). S i x) same served);
    })
shape_serves s w c p shape it = absurd (false≢true it)

-- what a broker does with the next packet of c at home, by its definition
abbrev pub TurnOf : Setup → World → ℕ → Option Planned → Type 0
TurnOf s w c None = Unit {0}
TurnOf s w c (Some p) = takes_it p.takes (ToBroker c (declared_at s c).cluster) ≡ true → (q : Packet) → next_packet (link_at w.links (ToBroker c (declared_at s c).cluster)) ≡ Some q
    → SendServed (site s (declared_at s c).topic (declared_at s c).cluster) (home_of s w c) c q p.plan

serve_turn : (s : Setup) (w : World) (c z x : ℕ) → takes_it (Some (ToBroker z x)) (ToBroker c (declared_at s c).cluster) ≡ true → (q : Packet) → next_packet (link_at w.links (ToBroker c (declared_at s c).cluster)) ≡ Some q
    → SendServed (site s (declared_at s c).topic (declared_at s c).cluster) (home_of s w c) c q (serve (site s (declared_at s z).topic x) (topic_at s w (declared_at s z).topic x) z (next_packet (link_at w.links (ToBroker z x))))
unfolding serve
serve_turn s w c z x it q next =
    let d = declared_at s c in
    let same = eqb-true z c (left (z == c) (x == d.cluster) it) in let here = eqb-true x d.cluster (right (z == c) (x == d.cluster) it) in
    let P : ℕ → ℕ → Type 0 = λ i y. SendServed (site s d.topic d.cluster) (home_of s w c) c q (serve (site s (declared_at s i).topic y) (topic_at s w (declared_at s i).topic y) i (next_packet (link_at w.links (ToBroker i y)))) in
    let O : Option Packet → Type 0 = λ o. SendServed (site s d.topic d.cluster) (home_of s w c) c q (serve (site s d.topic d.cluster) (home_of s w c) c o) in
    subst (λ (i : ℕ). P i x) (sym same) (subst (P c) (sym here) (subst O (sym next) (serve_is (site s d.topic d.cluster) (home_of s w c) c q)))

pub planned_turn : (s : Setup) (w : World) (c : ℕ) (e : Event) → TurnOf s w c (planned s w e)
unfolding planned
planned_turn s w c (event.Serve x z) = on_if (TurnOf s w c) (in_range s (event.Serve x z)) _ _ (λ it q next. serve_turn s w c z x it q next) tt
planned_turn s w c (event.Go z) = on_if (TurnOf s w c) (in_range s (event.Go z)) _ _ tt tt
planned_turn s w c (event.Get z) = on_if (TurnOf s w c) (in_range s (event.Get z)) _ _ tt tt
planned_turn s w c (event.Reconnect z) = on_if (TurnOf s w c) (in_range s (event.Reconnect z)) _ _ tt tt
planned_turn s w c e = on_if (TurnOf s w c) (in_range s e) _ _ (λ it q next. absurd (false≢true it)) tt
