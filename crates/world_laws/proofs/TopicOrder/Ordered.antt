-- The order between the topics of a world: every event keeps it, since an event lengthens one topic alone.
use Rattle.std.proofs.Common.{◌≡◌, ℕ, zero, suc, ◌*◌, ◌<◌, Bool, true, false, List, [], ◌∷◌, ◌++◌, length, map, refl, sym, ap, subst, ◌∙◌, ◌==◌}
use Rattle.std.specs.Prelude.{Option, Some, None, slice_index_or, slice_set, take}
use Rattle.std.proofs.lemmas.Bool.{eqb-true, eqb-false}
use Rattle.std.proofs.lemmas.List.{append-nil, get_or-set_other, get_or-set_same}
use Rattle.std.proofs.lemmas.Option.{none-some}
use Rattle.world_laws.proofs.Types.{Entry}
use Rattle.world_laws.proofs.Types.write
use Rattle.geo_base.specs.Broker.{Broker, new_broker, no_broker}
use Rattle.geo_base.specs.Client.{Acted}
use Rattle.geo_base.specs.Happening.{broker_does, broker_halts, client_does, stops}
use Rattle.geo_base.specs.Laws.{ArePair}
use Rattle.geo_base.specs.Plan.{all_written, done, halted}
use Rattle.geo_base.specs.Planned.{Planned}
use Rattle.geo_base.specs.Seeking.{restart}
use Rattle.geo_base.specs.Setup.{Setup}
use Rattle.geo_base.specs.World.{LinkName, ToClient, World, broker_at, node, opening_world, topic_at}
use Rattle.geo_base.specs.Moments.{partly_written}
use Rattle.world_laws.proofs.TopicOrder.Added.{after_is, appended}
use Rattle.world_laws.proofs.OnceInOrder.Appends.{done_entries, halted_entries, written_entries}
use Rattle.world_laws.proofs.Induction.Frames.{at_copies}
use Rattle.world_laws.proofs.Induction.Layers.{KeptWith}
use Rattle.geo_base.specs.Safe.{AllOnce}
use Rattle.world_laws.proofs.OnceInOrder.Once.{OnceIn, writes_once}
use Rattle.world_laws.proofs.TopicOrder.Order.{Chain, Follows, chain_c, chain_x, chain_y, follows_far, follows_near}
use Rattle.world_laws.proofs.Replicating.PairWorlds.{apart}
use Rattle.world_laws.proofs.Replicating.Pairs.{Replicates}
use Rattle.world_laws.proofs.Replicating.Prefixes.{Begins}
use Rattle.world_laws.proofs.Walks.Shapes.{Shape}
use Rattle.world_laws.proofs.Replicating.Sizes.{node_there}
use Rattle.world_laws.proofs.Walks.Walk.{on_if}

-- of each pair, and of each three clusters
pub record Ordered (s : Setup) (w : World) : Type 0 where
  pub follows : (t x y : ℕ) → t < length s.topics → ArePair s x y → Follows x y (topic_at s w t x).entries (topic_at s w t y).entries
  pub chain : (t x c y : ℕ) → t < length s.topics → ArePair s x c → ArePair s x y → ArePair s c y
      → Chain x c y (topic_at s w t x).entries (topic_at s w t c).entries (topic_at s w t y).entries

-- one node's topic is lengthened, or none
pub record OneGrows (w w' : World) : Type 0 where
  pub at : ℕ
  pub more : List Entry
  pub here : at < length w.brokers → (broker_at w' at).entries ≡ (broker_at w at).entries ++ more
  pub others : (z : ℕ) → (at ≡ z → ⊥) → (broker_at w' z).entries ≡ (broker_at w z).entries

grown_at : (w w' : World) (g : OneGrows w w') (z : ℕ) → z < length w.brokers → g.at ≡ z → (broker_at w' z).entries ≡ (broker_at w z).entries ++ g.more
grown_at w w' g z lt is =
    let P : ℕ → Type 0 = λ n. n < length w.brokers → (broker_at w' n).entries ≡ (broker_at w n).entries ++ g.more in subst P is g.here lt

two_moved : (P : List Entry → List Entry → Type 0) (a a' b b' : List Entry) → a' ≡ a → b' ≡ b → P a b → P a' b'
two_moved P a a' b b' p q h = subst (P a') (sym q) (subst (λ (l : List Entry). P l b) (sym p) h)

three_moved : (P : List Entry → List Entry → List Entry → Type 0) (a a' b b' c c' : List Entry) → a' ≡ a → b' ≡ b → c' ≡ c → P a b c → P a' b' c'
three_moved P a a' b b' c c' p q r h = subst (P a' b') (sym r) (two_moved (λ a b. P a b c) a a' b b' p q h)

begins_in : (s : Setup) (w : World) (t x y : ℕ) → Replicates s w → t < length s.topics → ArePair s x y → Begins x y (topic_at s w t x).entries (topic_at s w t y).entries
begins_in s w t x y h lt pair = (h.pairs t x y lt pair).carried.begins

back : (s : Setup) (x y : ℕ) → ArePair s x y → ArePair s y x
back s x y pair = (pair.1, pair.0, λ is. pair.2 (sym is))

follows_grows : (s : Setup) (w w' : World) (g : OneGrows w w') (t x y : ℕ) → Replicates s w → AllOnce w' → t < length s.topics → ArePair s x y
    → Follows x y (topic_at s w t x).entries (topic_at s w t y).entries → Follows x y (topic_at s w' t x).entries (topic_at s w' t y).entries
follows_grows s w w' g t x y h once lt pair old = go (g.at == node s t x) (g.at == node s t y) refl refl
  where
    a : List Entry
    a = (topic_at s w t x).entries

    b : List Entry
    b = (topic_at s w t y).entries

    go : (i j : Bool) → (g.at == node s t x) ≡ i → (g.at == node s t y) ≡ j → Follows x y (topic_at s w' t x).entries (topic_at s w' t y).entries
    go true j e f =
        let is = eqb-true _ _ e in
        two_moved (Follows x y) (a ++ g.more) _ b _ (grown_at w w' g (node s t x) (node_there s w t x h.sized (lt, pair.0)) is)
        (g.others (node s t y) (λ other. apart s t x y pair.0 pair.1 pair.2 (sym is ∙ other)))
        (follows_near x y a g.more b (begins_in s w t x y h lt pair) old)
    go false true e f =
        let grown = grown_at w w' g (node s t y) (node_there s w t y h.sized (lt, pair.1)) (eqb-true _ _ f) in
        two_moved (Follows x y) a _ (b ++ g.more) _ (g.others (node s t x) (eqb-false _ _ e)) grown
        (follows_far x y a b g.more (begins_in s w t y x h lt (back s x y pair)) (subst OnceIn grown (once (node s t y))) old)
    go false false e f = two_moved (Follows x y) a _ b _ (g.others (node s t x) (eqb-false _ _ e)) (g.others (node s t y) (eqb-false _ _ f)) old

chain_grows : (s : Setup) (w w' : World) (g : OneGrows w w') (t x c y : ℕ) → Replicates s w → AllOnce w' → t < length s.topics → ArePair s x c → ArePair s x y → ArePair s c y
    → Chain x c y (topic_at s w t x).entries (topic_at s w t c).entries (topic_at s w t y).entries
    → Chain x c y (topic_at s w' t x).entries (topic_at s w' t c).entries (topic_at s w' t y).entries
chain_grows s w w' g t x c y h once lt xc xy cy old = go (g.at == node s t x) (g.at == node s t c) (g.at == node s t y) refl refl refl
  where
    a : List Entry
    a = (topic_at s w t x).entries

    cs : List Entry
    cs = (topic_at s w t c).entries

    b : List Entry
    b = (topic_at s w t y).entries

    else_ : (u v : ℕ) → ArePair s u v → g.at ≡ node s t u → (topic_at s w' t v).entries ≡ (topic_at s w t v).entries
    else_ u v pair is = g.others (node s t v) (λ other. apart s t u v pair.0 pair.1 pair.2 (sym is ∙ other))

    go : (i j k : Bool) → (g.at == node s t x) ≡ i → (g.at == node s t c) ≡ j → (g.at == node s t y) ≡ k
        → Chain x c y (topic_at s w' t x).entries (topic_at s w' t c).entries (topic_at s w' t y).entries
    go true j k d e f =
        let is = eqb-true _ _ d in
        let grown = grown_at w w' g (node s t x) (node_there s w t x h.sized (lt, xc.0)) is in
        three_moved (Chain x c y) (a ++ g.more) _ cs _ b _ grown (else_ x c xc is) (else_ x y xy is)
        (chain_x x c y a g.more cs b (begins_in s w t x c h lt xc) (subst OnceIn grown (once (node s t x))) old)
    go false true k d e f =
        let is = eqb-true _ _ e in
        let grown = grown_at w w' g (node s t c) (node_there s w t c h.sized (lt, xc.1)) is in
        three_moved (Chain x c y) a _ (cs ++ g.more) _ b _ (g.others (node s t x) (eqb-false _ _ d)) grown (else_ c y cy is)
        (chain_c x c y a cs g.more b (begins_in s w t c y h lt cy) old)
    go false false true d e f =
        let grown = grown_at w w' g (node s t y) (node_there s w t y h.sized (lt, xy.1)) (eqb-true _ _ f) in
        three_moved (Chain x c y) a _ cs _ (b ++ g.more) _ (g.others (node s t x) (eqb-false _ _ d)) (g.others (node s t c) (eqb-false _ _ e)) grown
        (chain_y x c y a cs b g.more (begins_in s w t y x h lt (back s x y xy)) (subst OnceIn grown (once (node s t y))) old)
    go false false false d e f =
        three_moved (Chain x c y) a _ cs _ b _ (g.others (node s t x) (eqb-false _ _ d)) (g.others (node s t c) (eqb-false _ _ e)) (g.others (node s t y) (eqb-false _ _ f)) old

ordered_grows : (s : Setup) (w w' : World) → OneGrows w w' → Replicates s w → AllOnce w' → Ordered s w → Ordered s w'
ordered_grows s w w' g h once old = record {
  follows = λ t x y lt pair. follows_grows s w w' g t x y h once lt pair (old.follows t x y lt pair);
  chain = λ t x c y lt xc xy cy. chain_grows s w w' g t x c y h once lt xc xy cy (old.chain t x c y lt xc xy cy);
}

-- which topic an event lengthens
none_grows : (w w' : World) → ((z : ℕ) → (broker_at w' z).entries ≡ (broker_at w z).entries) → OneGrows w w'
none_grows w w' same = record { at = 0; more = []; here = λ lt. same 0 ∙ sym (append-nil (broker_at w 0).entries); others = λ z other. same z }

one_grows : (w w' : World) (n : ℕ) (b : Broker) (more : List Entry) → w'.brokers ≡ slice_set w.brokers n b → b.entries ≡ (broker_at w n).entries ++ more → OneGrows w w'
one_grows w w' n b more is longer = record {
  at = n;
  more = more;
  here = λ lt.
      ap (λ (bs : List Broker). (slice_index_or bs n no_broker).entries) is ∙ ap (λ (c : Broker). c.entries) (get_or-set_same w.brokers n b no_broker lt) ∙ longer;
  others = λ z other.
      ap (λ (bs : List Broker). (slice_index_or bs z no_broker).entries) is
      ∙ ap (λ (c : Broker). c.entries) (get_or-set_other w.brokers n z b no_broker (λ e. other (sym e)));
}

pub does_grows : (s : Setup) (w : World) (p : Planned) → OneGrows w (broker_does s w p)
unfolding broker_does
does_grows s w p =
    let b = topic_at s w p.topic p.cluster in
    on_if (λ (w' : World). OneGrows w w') p.plan.idle _ _ (none_grows w _ (λ z. refl))
    (one_grows w _ (node s p.topic p.cluster) (done s.per_ledger b p.plan) (appended p.plan.writes) refl
    (done_entries s.per_ledger b p.plan ∙ after_is b.entries p.plan.writes))

pub halts_grows : (s : Setup) (w : World) (k : ℕ) (p : Planned) → OneGrows w (broker_halts s w k p)
unfolding broker_halts
halts_grows s w k p =
    let b = topic_at s w p.topic p.cluster in let ws = take k p.plan.writes ++ write.Ledger ∷ [] in
    one_grows w _ (node s p.topic p.cluster) (halted s.per_ledger b k p.plan) (appended ws) refl
    (halted_entries s.per_ledger b k p.plan ∙ after_is b.entries ws)

pub written_grows : (s : Setup) (w : World) (k : ℕ) (p : Planned) → OneGrows w (partly_written s w k (Some p))
written_grows s w k p =
    let b = topic_at s w p.topic p.cluster in let ws = take k p.plan.writes in
    one_grows w (partly_written s w k (Some p)) (node s p.topic p.cluster) (all_written s.per_ledger b ws) (appended ws) refl
    (written_entries s.per_ledger b ws ∙ after_is b.entries ws)

pub client_grows : (s : Setup) (w : World) (c : ℕ) (k : Option LinkName) (a : Acted) → OneGrows w (client_does s w c k a)
unfolding client_does
client_grows s w c k a = on_if (λ (w' : World). OneGrows w w') a.idle _ _ (none_grows w _ (λ z. refl)) (none_grows w _ (λ z. refl))

stopped_entries : (f : Broker → Broker) → ((b : Broker) → (f b).entries ≡ b.entries) → (bs : List Broker) (z : ℕ)
    → (slice_index_or (map f bs) z no_broker).entries ≡ (slice_index_or bs z no_broker).entries
stopped_entries f h [] z = refl
stopped_entries f h (b ∷ bs) zero = h b
stopped_entries f h (b ∷ bs) (suc z) = stopped_entries f h bs z

pub stops_grows : (s : Setup) (w : World) → OneGrows w (stops s w)
unfolding stops restart
stops_grows s w = none_grows w _ (stopped_entries (λ b. done s.per_ledger b restart) (λ b. refl) w.brokers)

-- nothing has happened yet
opening_empty : (s : Setup) (t x : ℕ) → (topic_at s (opening_world s) t x).entries ≡ []
opening_empty s t x =
    at_copies (λ (b : Broker). b.entries ≡ []) (length s.topics * length s.clusters) (node s t x) (new_broker (length s.clusters) (length s.clients)) no_broker refl refl

opening_ordered : (s : Setup) → Ordered s (opening_world s)
opening_ordered s = record {
  follows = λ t x y lt pair.
      two_moved (Follows x y) [] _ [] _ (opening_empty s t x) (opening_empty s t y) (λ k j i e f at_k. absurd (none-some e at_k));
  chain = λ t x c y lt xc xy cy.
      three_moved (Chain x c y) [] _ [] _ [] _ (opening_empty s t x) (opening_empty s t c) (opening_empty s t y) (λ k i m n l g r f at_k. absurd (none-some g at_k));
}

-- with prefix before an event and once after it
pub ordered_kept : (s : Setup) → KeptWith s (Replicates s) (Ordered s)
ordered_kept s = record {
  opening = opening_ordered s;
  idle = λ w n h old. record { follows = old.follows; chain = old.chain };
  round = λ w n h old. record { follows = old.follows; chain = old.chain };
  does = λ w p shape h h' old. ordered_grows s w (broker_does s w p) (does_grows s w p) h h'.once old;
  halts = λ w k p shape h h' old. ordered_grows s w (broker_halts s w k p) (halts_grows s w k p) h h'.once old;
  goes = λ w c a h h' old. ordered_grows s w (client_does s w c None a) (client_grows s w c None a) h h'.once old;
  gets = λ w c x a h h' old. ordered_grows s w (client_does s w c (Some (ToClient c x)) a) (client_grows s w c (Some (ToClient c x)) a) h h'.once old;
  stop = λ w h h' old. ordered_grows s w (stops s w) (stops_grows s w) h h'.once old;
}

-- and after each single durable write
pub ordered_written : (s : Setup) (w : World) (k : ℕ) (p : Planned) → Shape s w p → Replicates s w → Ordered s w → Ordered s (partly_written s w k (Some p))
ordered_written s w k p shape h old =
    ordered_grows s w (partly_written s w k (Some p)) (written_grows s w k p) h (writes_once s w k p shape h.once) old
