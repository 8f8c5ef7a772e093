-- The facts of all pairs hold at every moment of every run, and with them the laws of replication.
use Rattle.std.proofs.Common.{◌≡◌, ℕ, zero, suc, ◌*◌, ◌<◌, ◌≤◌, Bool, true, false, List, [], ◌∷◌, ◌++◌, length, map, refl, sym, ap, subst, ◌∙◌, arith}
use Rattle.std.specs.Prelude.{Option, Some, None, nat_lt, replicate, slice_get, slice_index, slice_index_or}
use Rattle.std.proofs.lemmas.Bool.{false≢true, ltb-true}
use Rattle.std.proofs.lemmas.Bool.Decides.{nat_tests}
use Rattle.std.proofs.lemmas.List.{get_or-replicate, get_or_past, length-set}
use Rattle.std.proofs.Math.Nat.{mul-le-mul_right}
use Rattle.std.proofs.lemmas.Option.{none-some}
use Rattle.world_laws.proofs.Types.{Entry, Packet}
use Rattle.geo_base.specs.Broker.{Broker, new_broker, no_broker, receiver_at, replicator_at}
use Rattle.geo_base.specs.Client.{Acted}
use Rattle.geo_base.specs.Cursor.{has}
use Rattle.geo_base.specs.Entry.{is_outbound}
use Rattle.geo_base.specs.Happening.{all_discarded, client_does, next_stamp, stops}
use Rattle.geo_base.specs.Laws.{ArePair, IsPrefix, IsReceived, LawPrefix, LawReceipt, of_origin, outbound}
use Rattle.geo_base.specs.Link.{Link, discarded, no_link}
use Rattle.geo_base.specs.Plan.{done, idle_plan}
use Rattle.geo_base.specs.Planned.{Planned}
use Rattle.geo_base.specs.Seeking.{restart}
use Rattle.geo_base.specs.Replicator.{Replicator, new_replicator}
use Rattle.geo_base.specs.Setup.{Setup}
use Rattle.geo_base.specs.World.{Back, Forward, Links, ToClient, World, cell, delivered, from_client, link_at, node, opening_world, packet_at, table, taken_from, topic_at}
use Rattle.geo_base.specs.Moments.{partly_written}
use Rattle.world_laws.proofs.Induction.Frames.{at_copies}
use Rattle.world_laws.proofs.Replicating.LinkFrames.{client_back, client_forward}
use Rattle.geo_base.specs.Safe.{AllOnce}
use Rattle.world_laws.proofs.OnceInOrder.Once.{once_kept}
use Rattle.world_laws.proofs.Replicating.PairMoments.{Between, pair_written}
use Rattle.world_laws.proofs.Replicating.PairFacts.{Carried, InSession}
use Rattle.world_laws.proofs.Replicating.PairRoles.{PairIn}
use Rattle.world_laws.proofs.Replicating.PairWorlds.{PairAt, moved, pair_does, pair_halts}
use Rattle.world_laws.proofs.Replicating.ReceiverSide.{there_halted}
use Rattle.world_laws.proofs.Induction.Runs.{IsKept, always}
use Rattle.world_laws.proofs.Replicating.ReplicatorSide.{Facts, facts_halted}
use Rattle.world_laws.proofs.Walks.Shapes.{Shape}
use Rattle.world_laws.proofs.Replicating.Sizes.{Sized, node_lt, node_there, sized_kept, stopped_at}
use Rattle.world_laws.proofs.Walks.Walk.{on_if}

-- what all events keep: the first law, the sizes, and the facts of each pair of each topic
pub record Replicates (s : Setup) (w : World) : Type 0 where
  pub once : AllOnce w
  pub sized : Sized s w
  pub pairs : (t x y : ℕ) → t < length s.topics → ArePair s x y → PairIn s w t x y

-- other links alone
same_pairs : (s : Setup) (w : World) (ls : Links) (t x y : ℕ) → ls.forward ≡ w.links.forward → ls.back ≡ w.links.back → PairIn s w t x y → PairAt s w.brokers ls t x y
same_pairs s w ls t x y forward back h =
    moved x y (topic_at s w t x) _ (topic_at s w t y) _ (link_at w.links (Forward (node s t x) y)) _ (link_at w.links (Back (node s t x) y)).sent _ refl refl
    (ap (λ (m : List (List Link)). cell m (node s t x) y) forward) (ap (λ (m : List (List Link)). (cell m (node s t x) y).sent) back) h

pair_goes : (s : Setup) (w : World) (c : ℕ) (a : Acted) (t x y : ℕ) → PairIn s w t x y → PairIn s (client_does s w c None a) t x y
unfolding client_does
pair_goes s w c a t x y h =
    let stamp = next_stamp (slice_index w.client_clocks c) (packet_at w.links None) in
    on_if (λ (w' : World). PairIn s w' t x y) a.idle _ _ h
    (same_pairs s w (delivered (from_client c) stamp a.sent w.links) t x y (client_forward c stamp a.sent w.links) (client_back c stamp a.sent w.links) h)

pair_gets : (s : Setup) (w : World) (c v : ℕ) (a : Acted) (t x y : ℕ) → PairIn s w t x y → PairIn s (client_does s w c (Some (ToClient c v)) a) t x y
unfolding client_does
pair_gets s w c v a t x y h =
    let stamp = next_stamp (slice_index w.client_clocks c) (packet_at w.links (Some (ToClient c v))) in
    let ls = taken_from (Some (ToClient c v)) w.links in
    on_if (λ (w' : World). PairIn s w' t x y) a.idle _ _ h
    (same_pairs s w (delivered (from_client c) stamp a.sent ls) t x y (client_forward c stamp a.sent ls) (client_back c stamp a.sent ls) h)

-- a stop of everything
discarded_row : (ls : List Link) (y : ℕ) → slice_index_or (map discarded ls) y no_link ≡ discarded (slice_index_or ls y no_link)
discarded_row [] y = refl
discarded_row (l ∷ ls) zero = refl
discarded_row (l ∷ ls) (suc y) = discarded_row ls y

pub discarded_cell : (m : List (List Link)) (i y : ℕ) → cell (all_discarded m) i y ≡ discarded (cell m i y)
discarded_cell [] i y = refl
discarded_cell (r ∷ m) zero y = discarded_row r y
discarded_cell (r ∷ m) (suc i) y = discarded_cell m i y

pair_stops : (s : Setup) (w : World) (t x y : ℕ) → Sized s w → t < length s.topics → ArePair s x y → PairIn s w t x y → PairIn s (stops s w) t x y
unfolding stops restart
pair_stops s w t x y z lt pair h =
    let a = topic_at s w t x in let b = topic_at s w t y in
    let f = link_at w.links (Forward (node s t x) y) in let k = (link_at w.links (Back (node s t x) y)).sent in
    let wide = z.wide t x (lt, pair.0) in
    let first : Facts x y (done s.per_ledger a restart) b f k = facts_halted x y s.per_ledger 0 a b f k idle_plan (omega (arith, wide.replicators, pair.1)) tt h in
    let both : Facts x y (done s.per_ledger a restart) (done s.per_ledger b restart) (discarded f) k =
    there_halted x y s.per_ledger 0 (done s.per_ledger a restart) b f (discarded f) k idle_plan tt refl (omega arith) first in
    moved x y (done s.per_ledger a restart) _ (done s.per_ledger b restart) _ (discarded f) _ k _
    (stopped_at w.brokers (λ b. done s.per_ledger b restart) (node s t x) (node_there s w t x z (lt, pair.0)))
    (stopped_at w.brokers (λ b. done s.per_ledger b restart) (node s t y) (node_there s w t y z (lt, pair.1)))
    (discarded_cell w.links.forward (node s t x) y) (ap (λ (l : Link). l.sent) (discarded_cell w.links.back (node s t x) y)) both

-- nothing has happened yet
empty_facts : (x y : ℕ) (a b : Broker) → a.entries ≡ [] → b.entries ≡ [] → replicator_at a y ≡ new_replicator → receiver_at b x ≡ None → Facts x y a b no_link []
empty_facts x y a b near far replicator session = record {
  carried =
      subst (λ (es : List Entry). Carried x y es (replicator_at a y).cursor b.entries [] []) (sym near)
      (subst (λ (s : Replicator). Carried x y [] s.cursor b.entries [] []) (sym replicator) (subst (λ (es : List Entry). Carried x y [] [] es [] []) (sym far) carried));
  session =
      subst (λ (es : List Entry). InSession x y es [] (replicator_at a y)) (sym near) (subst (λ (s : Replicator). InSession x y [] [] s) (sym replicator) empty);
  receiving = record { within = omega arith; stands = λ m is. absurd (none-some m (sym session ∙ is)) };
}
  where
    carried : Carried x y [] [] [] [] []
    carried = record {
      begins = ([], refl);
      received = λ i e h. absurd (false≢true h);
      within = λ i h. absurd (false≢true h);
      sends = λ q m k e is. absurd (none-some is.packet is.at);
      receipts = λ a m k is. absurd (none-some is.packet is.at);
    }

    empty : InSession x y [] [] new_replicator
    empty = record {
      bounded = λ q p at. absurd (none-some p at);
      numbered = λ live q k e is. absurd (none-some is.packet is.at);
      unique = λ q r m k e f is. absurd (none-some is.packet is.at);
      opened = λ q r m k e is. absurd (none-some is.packet is.at);
      read = λ j e lt. absurd (omega (arith, lt));
      read_within = omega arith;
      pending = λ a d is. absurd (none-some d is);
    }

pub empty_cell : (rows columns i y : ℕ) → cell (table rows columns) i y ≡ no_link
empty_cell rows columns i y =
    at_copies (λ (r : List Link). slice_index_or r y no_link ≡ no_link) rows i (replicate columns no_link) []
    (at_copies (λ (l : Link). l ≡ no_link) columns y no_link no_link refl refl) refl

pair_opening : (s : Setup) (t x y : ℕ) → t < length s.topics → ArePair s x y → PairIn s (opening_world s) t x y
pair_opening s t x y lt pair =
    let n = length s.clusters in let b = new_broker n (length s.clients) in let nodes = length s.topics * n in
    moved x y b _ b _ no_link _ [] _
    (get_or-replicate nodes (node s t x) b no_broker (node_lt s t x (lt, pair.0))) (get_or-replicate nodes (node s t y) b no_broker (node_lt s t y (lt, pair.1)))
    (empty_cell nodes n (node s t x) y) (ap (λ (l : Link). l.sent) (empty_cell nodes n (node s t x) y))
    (empty_facts x y b b refl refl (at_copies (λ (v : Replicator). v ≡ new_replicator) n y new_replicator new_replicator refl refl)
    (at_copies (λ (r : Option ℕ). r ≡ None) n x None None refl refl))

pub replication_kept : (s : Setup) → IsKept s (Replicates s)
replication_kept s = record {
  opening = record { once = (once_kept s).opening; sized = (sized_kept s).opening; pairs = pair_opening s };
  idle = λ w n h. record { once = h.once; sized = (sized_kept s).idle w n h.sized; pairs = h.pairs };
  round = λ w n h. record { once = h.once; sized = (sized_kept s).round w n h.sized; pairs = h.pairs };
  does = λ w p shape h. record {
    once = (once_kept s).does w p shape h.once;
    sized = (sized_kept s).does w p shape h.sized;
    pairs = λ t x y lt pair. pair_does s w p t x y shape h.once h.sized lt pair (h.pairs t x y lt pair);
  };
  halts = λ w k p shape h. record {
    once = (once_kept s).halts w k p shape h.once;
    sized = (sized_kept s).halts w k p shape h.sized;
    pairs = λ t x y lt pair. pair_halts s w k p t x y shape h.once h.sized lt pair (h.pairs t x y lt pair);
  };
  goes = λ w c a h. record {
    once = (once_kept s).goes w c a h.once;
    sized = (sized_kept s).goes w c a h.sized;
    pairs = λ t x y lt pair. pair_goes s w c a t x y (h.pairs t x y lt pair);
  };
  gets = λ w c v a h. record {
    once = (once_kept s).gets w c v a h.once;
    sized = (sized_kept s).gets w c v a h.sized;
    pairs = λ t x y lt pair. pair_gets s w c v a t x y (h.pairs t x y lt pair);
  };
  stop = λ w h. record {
    once = (once_kept s).stop w h.once;
    sized = (sized_kept s).stop w h.sized;
    pairs = λ t x y lt pair. pair_stops s w t x y h.sized lt pair (h.pairs t x y lt pair);
  };
}

-- a topic that is not there has no entries
pub past_node : (s : Setup) (bs : List Broker) (t x : ℕ) → length bs ≡ length s.topics * length s.clusters → length s.topics ≤ t
    → slice_index_or bs (node s t x) no_broker ≡ no_broker
past_node s bs t x size le =
    let m = mul-le-mul_right (length s.clusters) le in get_or_past bs (node s t x) no_broker (omega (arith, size, m))

-- both laws of a world, from what each write keeps
abbrev pub Laws : Setup → World → Type 0
Laws s w = IsPrefix s w × IsReceived s w

laws_of : (s : Setup) (w : World) (f : ℕ → ℕ → ℕ → Link) (back : ℕ → ℕ → ℕ → List Packet) → length w.brokers ≡ length s.topics * length s.clusters
    → ((t x y : ℕ) → t < length s.topics → ArePair s x y → Between x y (topic_at s w t x) (topic_at s w t y) (f t x y) (back t x y)) → Laws s w
laws_of s w f back size h = (prefix, received)
  where
    prefix_at : (t x y : ℕ) → ArePair s x y → (b : Bool) → nat_lt t (length s.topics) ≡ b
        → (rest : List Entry) × (outbound x y (topic_at s w t x).entries ≡ of_origin x (topic_at s w t y).entries ++ rest)
    prefix_at t x y pair true e = (h t x y (ltb-true _ _ e) pair).begins
    prefix_at t x y pair false e =
        let le : length s.topics ≤ t = grind (arith, nat_tests, e) in
        let P : Broker → Broker → Type 0 = λ a b. (rest : List Entry) × (outbound x y a.entries ≡ of_origin x b.entries ++ rest) in
        subst (λ (a : Broker). P a (topic_at s w t y)) (sym (past_node s w.brokers t x size le))
        (subst (P no_broker) (sym (past_node s w.brokers t y size le)) ([], refl))

    prefix : IsPrefix s w
    prefix t x y pair = prefix_at t x y pair (nat_lt t (length s.topics)) refl

    received_at : (t x y i : ℕ) (e : Entry) → ArePair s x y → (b : Bool) → nat_lt t (length s.topics) ≡ b → has (replicator_at (topic_at s w t x) y).cursor i ≡ true
        → slice_get (topic_at s w t x).entries i ≡ Some e → is_outbound x y e ≡ true
        → (k : ℕ) × (slice_get (topic_at s w t y).entries k ≡ Some e)
    received_at t x y i e pair true b acked at out = let r = (h t x y (ltb-true _ _ b) pair).received i e acked at out in (r.place, r.is)
    received_at t x y i e pair false b acked at out =
        let le : length s.topics ≤ t = grind (arith, nat_tests, b) in
        let P : Broker → Type 0 = λ a. slice_get a.entries i ≡ Some e in
        absurd (none-some e (subst P (past_node s w.brokers t x size le) at))

    received : IsReceived s w
    received t x y i e pair = received_at t x y i e pair (nat_lt t (length s.topics)) refl

forward_of : Setup → World → ℕ → ℕ → ℕ → Link
forward_of s w t x y = link_at w.links (Forward (node s t x) y)

back_of : Setup → World → ℕ → ℕ → ℕ → List Packet
back_of s w t x y = (link_at w.links (Back (node s t x) y)).sent

pub replicates_laws : (s : Setup) (w : World) → Replicates s w → Laws s w
unfolding forward_of back_of
replicates_laws s w h = laws_of s w (forward_of s w) (back_of s w) h.sized.brokers (λ t x y lt pair. (h.pairs t x y lt pair).carried)

pub written_laws : (s : Setup) (w : World) (k : ℕ) (p : Planned) → Shape s w p → Replicates s w → Laws s (partly_written s w k (Some p))
unfolding forward_of back_of
written_laws s w k p shape h =
    laws_of s (partly_written s w k (Some p)) (forward_of s w) (back_of s w)
    (length-set w.brokers (node s p.topic p.cluster) _ ∙ h.sized.brokers)
    (λ t x y lt pair. pair_written s w k p t x y shape h.once h.sized lt pair (h.pairs t x y lt pair))

-- at every moment
pub prefix_always : LawPrefix
prefix_always s = always s (Replicates s) (IsPrefix s) (replication_kept s) (λ w h. (replicates_laws s w h).0) (λ w k p shape h. (written_laws s w k p shape h).0)

pub receipt_always : LawReceipt
receipt_always s = always s (Replicates s) (IsReceived s) (replication_kept s) (λ w h. (replicates_laws s w h).1) (λ w k p shape h. (written_laws s w k p shape h).1)
