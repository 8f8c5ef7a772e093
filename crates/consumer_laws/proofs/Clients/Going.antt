-- What client k does on its lines and where it reconnects: what it sends, and what it holds then. B is the topic at each cluster, There
-- the clusters at which it is there.
use Rattle.std.proofs.Common.{◌≡◌, ℕ, zero, suc, ◌+◌, ◌<◌, ◌≤◌, Bool, true, false, List, [], ◌∷◌, ◌++◌, drop, length, map, refl, sym, subst, ◌∙◌, ◌==◌, arith, not, inl, inr, ◌⊎◌}
use Rattle.std.specs.Prelude.{Option, Some, None, ◌&&◌, if◌then◌else◌, is_some, nat_lt, slice_get, take}
use Rattle.std.proofs.lemmas.Bool.{false≢true}
use Rattle.std.proofs.lemmas.Option.{none-some, same_Some}
use Rattle.world_laws.proofs.Types.{Frame, Held, Ident, Line, Out, Peer, Position, SubKind}
use Rattle.world_laws.proofs.Types.frame
use Rattle.world_laws.proofs.Types.line
use Rattle.world_laws.proofs.Types.peer
use Rattle.geo_base.specs.Broker.{Broker}
use Rattle.geo_base.specs.Client.{Acted, Client, command, command_at, commands_at, connected_to, connects, id_of, reconnect, stays}
use Rattle.geo_base.specs.Entry.{same_ident}
use Rattle.geo_base.specs.Going.{acks_all, acks_one, acks_to, ends_sub, first_held, go, go_line, most_acks, most_unanswered, past, without_first}
use Rattle.geo_base.specs.Position.{position_le}
use Rattle.geo_base.specs.Settled.{SettledSoFar}
use Rattle.geo_base.specs.Setup.{Declared, Setup}
use Rattle.world_laws.proofs.Replicating.Effects.{Each, each_both, each_map, each_take}
use Rattle.world_laws.proofs.Merges.PeerWalk.{each_filter}
use Rattle.world_laws.proofs.Walks.Walk.{on_if, on_test}
use Rattle.consumer_laws.specs.Lines.{IsKindLine}
use Rattle.consumer_laws.proofs.Worlds.Facts.{AllDone, Reached, UpFact}

-- the cluster that a client's packet goes to
abbrev pub target : Peer → ℕ
target (peer.Broker x) = x
target (peer.Forward x) = x
target (peer.Back x) = x
target (peer.Client x) = x

-- a position that its client may acknowledge, where the sub line of this index is in force
abbrev pub MayAck : SettledSoFar → ℕ → Broker → Declared → ℕ → Position → Type 0
MayAck told t b d id p = (n : List ℕ) (kind : SubKind) → IsKindLine d id n kind → Reached told t n b kind p

abbrev pub HoldsWell : SettledSoFar → ℕ → Broker → Declared → ℕ → List Held → Type 0
HoldsWell told t b d id hs = Each (λ (h : Held). MayAck told t b d id h.position) hs

abbrev pub SendsWell : SettledSoFar → ℕ → (ℕ → Broker) → (ℕ → Type 0) → Declared → ℕ → Out → Type 0
SendsWell told t B There d done o = (y : ℕ) → There y → target o.to ≡ y → UpFact told t (B y) d done o.session o.frame

-- how the connection and the sub line in force change
pub data Comes (k j : Client) : Type 0 where
  Stays : j.cluster ≡ k.cluster → j.connection ≡ k.connection → j.connected ≡ k.connected → ((id : ℕ) → j.sub ≡ Some id → (k.sub ≡ Some id) ⊎ (k.done ≤ id)) → Comes k j
  Anew : k.connection < j.connection → Comes k j

pub record Leaves (told : SettledSoFar) (t : ℕ) (B : ℕ → Broker) (There : ℕ → Type 0) (d : Declared) (k : Client) (a : Acted) : Type 0 where
  pub later : k.done ≤ a.client.done
  pub sub : (id : ℕ) → a.client.sub ≡ Some id → id < a.client.done
  pub all : AllDone a.client
  pub comes : Comes k a.client
  pub held : a.client.connected ≡ true → There a.client.cluster → HoldsWell told t (B a.client.cluster) d (id_of a.client.sub) a.client.held
  pub sent : Each (SendsWell told t B There d a.client.done) a.sent

-- what is known of it before
pub record Knows (told : SettledSoFar) (t : ℕ) (B : ℕ → Broker) (There : ℕ → Type 0) (d : Declared) (k : Client) : Type 0 where
  pub sub : (id : ℕ) → k.sub ≡ Some id → id < k.done
  pub all : AllDone k
  pub held : There k.cluster → HoldsWell told t (B k.cluster) d (id_of k.sub) k.held

-- ---- lists of held messages

first_held_has : (Q : Position → Type 0) (hs : List Held) (i : Ident) (p : Position) → first_held hs i ≡ Some p → Each (λ (h : Held). Q h.position) hs → Q p
first_held_has Q [] i p at all = absurd (none-some p at)
first_held_has Q (h ∷ hs) i p at all = by (same_ident h.ident i) at (λ e. first_held_has Q hs i p e all.1)
  where
    by : (t : Bool) → (if t then Some h.position else first_held hs i) ≡ Some p → (first_held hs i ≡ Some p → Q p) → Q p
    by true e ih = subst Q (same_Some h.position p e) all.0
    by false e ih = ih e

without_first_has : (P : Held → Type 0) (hs : List Held) (i : Ident) → Each P hs → Each P (without_first hs i)
without_first_has P [] i all = tt
without_first_has P (h ∷ hs) i all = on_if (Each P) (same_ident h.ident i) hs (h ∷ without_first hs i) all.1 (all.0, without_first_has P hs i all.1)

each_dropped : {X : Type 0} (P : X → Type 0) (n : ℕ) (xs : List X) → Each P xs → Each P (drop n xs)
each_dropped P zero xs h = h
each_dropped P (suc n) [] h = tt
each_dropped P (suc n) (x ∷ xs) h = each_dropped P n xs h.1

each_position : (Q : Position → Type 0) (hs : List Held) → Each (λ (h : Held). Q h.position) hs → Each Q (map (λ (g : Held). g.position) hs)
each_position Q [] h = tt
each_position Q (x ∷ hs) h = (h.0, each_position Q hs h.1)

-- ---- commands

command_well : (told : SettledSoFar) (t : ℕ) (B : ℕ → Broker) (There : ℕ → Type 0) (s : Setup) (d : Declared) (k : Client) (i done : ℕ) (o : Option Line) → slice_get d.lines i ≡ o
    → ((n : List ℕ) (kind : SubKind) (earliest replicated : Bool) → o ≡ Some (line.Sub n kind earliest replicated) → i < done)
    → Each (SendsWell told t B There d done) (command s d k i o)
command_well told t B There s d k i done None at lt = tt
command_well told t B There s d k i done (Some line.Produce) at lt = ((λ y there is. tt), tt)
command_well told t B There s d k i done (Some (line.Sub n kind earliest replicated)) at lt =
    ((λ y there is. ((earliest, replicated, at), lt n kind earliest replicated refl)), tt)
command_well told t B There s d k i done (Some (line.Flow permits)) at lt = ((λ y there is. tt), tt)
command_well told t B There s d k i done (Some (line.Pub seq to key text)) at lt = ((λ y there is. tt), tt)
command_well told t B There s d k i done (Some l) at lt = tt

-- a line that is in force and is no sub line
no_sub_well : (told : SettledSoFar) (t : ℕ) (B : ℕ → Broker) (There : ℕ → Type 0) (s : Setup) (d : Declared) (k : Client) (i done : ℕ) → i < done
    → Each (SendsWell told t B There d done) (command_at s d k (Some i))
no_sub_well told t B There s d k i done lt = command_well told t B There s d k i done (slice_get d.lines i) refl (λ n kind earliest replicated is. lt)

at_well : (told : SettledSoFar) (t : ℕ) (B : ℕ → Broker) (There : ℕ → Type 0) (s : Setup) (d : Declared) (k : Client) (done : ℕ) (o : Option ℕ) → ((i : ℕ) → o ≡ Some i → i < done)
    → Each (SendsWell told t B There d done) (command_at s d k o)
at_well told t B There s d k done None lt = tt
at_well told t B There s d k done (Some i) lt = no_sub_well told t B There s d k i done (lt i refl)

all_well : (told : SettledSoFar) (t : ℕ) (B : ℕ → Broker) (There : ℕ → Type 0) (s : Setup) (d : Declared) (k : Client) (done : ℕ) (is : List ℕ) → Each (λ i. i < done) is
    → Each (SendsWell told t B There d done) (commands_at s d k is)
all_well told t B There s d k done [] lt = tt
all_well told t B There s d k done (i ∷ is) lt =
    each_both (SendsWell told t B There d done) (command_at s d k (Some i)) (commands_at s d k is) (no_sub_well told t B There s d k i done lt.0) (all_well told t B There s d k done is lt.1)

-- a new connection
connects_leaves : (told : SettledSoFar) (t : ℕ) (B : ℕ → Broker) (There : ℕ → Type 0) (s : Setup) (d : Declared) (k j : Client) → k.done ≤ j.done → k.connection < j.connection → j.held ≡ []
    → ((id : ℕ) → j.sub ≡ Some id → id < j.done) → AllDone j → Leaves told t B There d k (connects s d j)
connects_leaves told t B There s d k j later newer none sub all =
    let F = SendsWell told t B There d j.done in
    let flow = each_both F (command_at s d j j.flow) (commands_at s d j j.unanswered) (at_well told t B There s d j j.done j.flow all.flow) (all_well told t B There s d j j.done j.unanswered all.unanswered) in
    let subs = each_both F (command_at s d j j.sub) (command_at s d j j.flow ++ commands_at s d j j.unanswered) (at_well told t B There s d j j.done j.sub sub) flow in
    record {
      later = later;
      sub = sub;
      all = all;
      comes = Comes.Anew newer;
      held = λ on there. subst (HoldsWell told t (B j.cluster) d (id_of j.sub)) (sym none) tt;
      sent = (
        (λ y there is. tt),
        each_both F (command_at s d j j.produce) (command_at s d j j.sub ++ (command_at s d j j.flow ++ commands_at s d j j.unanswered)) (at_well told t B There s d j j.done j.produce all.produce) subs,
      );
    }

-- ---- lines

same_sub : (k : Client) → (id : ℕ) → k.sub ≡ Some id → (k.sub ≡ Some id) ⊎ (k.done ≤ id)
same_sub k id h = inl h

stays_leaves : (told : SettledSoFar) (t : ℕ) (B : ℕ → Broker) (There : ℕ → Type 0) (d : Declared) (k : Client) → Knows told t B There d k → Leaves told t B There d k (stays k)
stays_leaves told t B There d k h = record { later = omega arith; sub = h.sub; all = h.all; comes = Comes.Stays refl refl refl (same_sub k); held = λ on. h.held; sent = tt }

done_sub : (k : Client) → ((id : ℕ) → k.sub ≡ Some id → id < k.done) → (id : ℕ) → k.sub ≡ Some id → id < k.done + 1
done_sub k h id is = let lt = h id is in omega (arith, lt)

one_more : (is : List ℕ) (n : ℕ) → Each (λ i. i < n) is → Each (λ i. i < n + 1) is
one_more is n h = each_map (λ i. i < n) (λ i. i < n + 1) (λ i lt. omega (arith, lt)) is h

-- one more line is done, and what is in force stays
done_all : (k : Client) → AllDone k → AllDone (past k)
done_all k h = record {
  produce = λ i is. let lt = h.produce i is in omega (arith, lt);
  flow = λ i is. let lt = h.flow i is in omega (arith, lt);
  unanswered = one_more k.unanswered k.done h.unanswered;
}

acks_one_leaves : (told : SettledSoFar) (t : ℕ) (B : ℕ → Broker) (There : ℕ → Type 0) (d : Declared) (k : Client) (i : Ident) (o : Option Position) → first_held k.held i ≡ o → Knows told t B There d k
    → Leaves told t B There d k (acks_one k i o)
acks_one_leaves told t B There d k i None at h = stays_leaves told t B There d k h
acks_one_leaves told t B There d k i (Some p) at h = record {
  later = omega arith;
  sub = done_sub k h.sub;
  all = record { produce = (done_all k h.all).produce; flow = (done_all k h.all).flow; unanswered = (done_all k h.all).unanswered };
  comes = Comes.Stays refl refl refl (same_sub k);
  held = λ on there. without_first_has (λ (g : Held). MayAck told t (B k.cluster) d (id_of k.sub) g.position) k.held i (h.held there);
  sent = (
    (λ y there is n kind l.
        let here : There k.cluster = subst There (sym is) there in
        let may = first_held_has (MayAck told t (B k.cluster) d (id_of k.sub)) k.held i p at (h.held here) in
        (subst (λ (x : ℕ). Reached told t n (B x) kind p) is (may n kind l), tt)),
    tt,
  );
}

acks_to_leaves : (told : SettledSoFar) (t : ℕ) (B : ℕ → Broker) (There : ℕ → Type 0) (d : Declared) (k : Client) (i : Ident) (o : Option Position) → first_held k.held i ≡ o → Knows told t B There d k
    → Leaves told t B There d k (acks_to k o)
acks_to_leaves told t B There d k i None at h = stays_leaves told t B There d k h
acks_to_leaves told t B There d k i (Some p) at h = record {
  later = omega arith;
  sub = done_sub k h.sub;
  all = record { produce = (done_all k h.all).produce; flow = (done_all k h.all).flow; unanswered = (done_all k h.all).unanswered };
  comes = Comes.Stays refl refl refl (same_sub k);
  held = λ on there. each_filter (λ (g : Held). MayAck told t (B k.cluster) d (id_of k.sub) g.position) (λ (g : Held). not (position_le g.position p)) k.held (h.held there);
  sent = (
    (λ y there is n kind l.
        let here : There k.cluster = subst There (sym is) there in
        let may = first_held_has (MayAck told t (B k.cluster) d (id_of k.sub)) k.held i p at (h.held here) in
        (subst (λ (x : ℕ). Reached told t n (B x) kind p) is (may n kind l), tt)),
    tt,
  );
}

acks_all_leaves : (told : SettledSoFar) (t : ℕ) (B : ℕ → Broker) (There : ℕ → Type 0) (d : Declared) (k : Client) (hs : List Held) → k.held ≡ hs → Knows told t B There d k
    → Leaves told t B There d k (acks_all k hs)
acks_all_leaves told t B There d k [] at h = stays_leaves told t B There d k h
acks_all_leaves told t B There d k (g ∷ gs) at h = record {
  later = omega arith;
  sub = done_sub k h.sub;
  all = record { produce = (done_all k h.all).produce; flow = (done_all k h.all).flow; unanswered = (done_all k h.all).unanswered };
  comes = Comes.Stays refl refl refl (same_sub k);
  held = λ on there. each_dropped P most_acks (g ∷ gs) (all there);
  sent = (
    (λ y there is n kind l.
        let here : There k.cluster = subst There (sym is) there in
        let few = each_take P most_acks (g ∷ gs) (all here) in
        subst (λ (x : ℕ). Each (Reached told t n (B x) kind) (map (λ (f : Held). f.position) (take most_acks (g ∷ gs)))) is
        (each_map (MayAck told t (B k.cluster) d (id_of k.sub)) (Reached told t n (B k.cluster) kind) (λ p may. may n kind l) (map (λ (f : Held). f.position) (take most_acks (g ∷ gs)))
        (each_position (MayAck told t (B k.cluster) d (id_of k.sub)) (take most_acks (g ∷ gs)) few))),
    tt,
  );
}
  where
    P : Held → Type 0
    P f = MayAck told t (B k.cluster) d (id_of k.sub) f.position

    all : There k.cluster → Each P (g ∷ gs)
    all there = subst (Each P) at (h.held there)

-- the sub line ends
ends_leaves : (told : SettledSoFar) (t : ℕ) (B : ℕ → Broker) (There : ℕ → Type 0) (d : Declared) (k : Client) (f : Frame) → ((y : ℕ) (session : ℕ) → UpFact told t (B y) d (k.done + 1) session f)
    → Knows told t B There d k → Leaves told t B There d k (ends_sub k f)
ends_leaves told t B There d k f up h =
    on_if (Leaves told t B There d k) (is_some k.sub) _ _ (record {
      later = omega arith;
      sub = λ id is. absurd (none-some id is);
      all = record { produce = (done_all k h.all).produce; flow = λ i is. absurd (none-some i is); unanswered = (done_all k h.all).unanswered };
      comes = Comes.Stays refl refl refl (λ id is. absurd (none-some id is));
      held = λ on there. tt;
      sent = ((λ y there is. up y k.connection), tt);
    }) (stays_leaves told t B There d k h)

line_leaves : (told : SettledSoFar) (t : ℕ) (B : ℕ → Broker) (There : ℕ → Type 0) (s : Setup) (d : Declared) (k : Client) (l : Option Line) → slice_get d.lines k.done ≡ l → Knows told t B There d k
    → Leaves told t B There d k (go_line s d k l)
line_leaves told t B There s d k None at h = stays_leaves told t B There d k h
line_leaves told t B There s d k (Some line.Produce) at h = record {
  later = omega arith;
  sub = done_sub k h.sub;
  all = record { produce = λ i is. let e = same_Some k.done i is in omega (arith, e); flow = (done_all k h.all).flow; unanswered = (done_all k h.all).unanswered };
  comes = Comes.Stays refl refl refl (same_sub k);
  held = λ on. h.held;
  sent = ((λ y there is. tt), tt);
}
line_leaves told t B There s d k (Some (line.Pub seq to key text)) at h =
    on_if (Leaves told t B There d k) (is_some k.produce && nat_lt (length k.unanswered) most_unanswered) _ _ (record {
      later = omega arith;
      sub = done_sub k h.sub;
      all = record {
        produce = (done_all k h.all).produce;
        flow = (done_all k h.all).flow;
        unanswered = each_both (λ i. i < k.done + 1) k.unanswered (k.done ∷ []) ((done_all k h.all).unanswered) (omega arith, tt);
      };
      comes = Comes.Stays refl refl refl (same_sub k);
      held = λ on. h.held;
      sent = ((λ y there is. tt), tt);
    }) (stays_leaves told t B There d k h)
line_leaves told t B There s d k (Some (line.Sub n kind earliest replicated)) at h = record {
  later = omega arith;
  sub = λ id is. let e = same_Some k.done id is in omega (arith, e);
  all = record { produce = (done_all k h.all).produce; flow = λ i is. absurd (none-some i is); unanswered = (done_all k h.all).unanswered };
  comes = Comes.Stays refl refl refl (λ id is. inr (let e = same_Some k.done id is in omega (arith, e)));
  held = λ on there. tt;
  sent = ((λ y there is. ((earliest, replicated, at), omega arith)), tt);
}
line_leaves told t B There s d k (Some (line.Flow permits)) at h =
    on_if (Leaves told t B There d k) (is_some k.sub) _ _ (record {
      later = omega arith;
      sub = done_sub k h.sub;
      all = record { produce = (done_all k h.all).produce; flow = λ i is. let e = same_Some k.done i is in omega (arith, e); unanswered = (done_all k h.all).unanswered };
      comes = Comes.Stays refl refl refl (same_sub k);
      held = λ on. h.held;
      sent = ((λ y there is. tt), tt);
    }) (stays_leaves told t B There d k h)
line_leaves told t B There s d k (Some (line.Ack i)) at h = acks_one_leaves told t B There d k i (first_held k.held i) refl h
line_leaves told t B There s d k (Some (line.AckTo i)) at h = acks_to_leaves told t B There d k i (first_held k.held i) refl h
line_leaves told t B There s d k (Some line.AckAll) at h = acks_all_leaves told t B There d k k.held refl h
line_leaves told t B There s d k (Some line.Unsub) at h = ends_leaves told t B There d k (frame.Unsubscribe (id_of k.sub) k.done) (λ y session. tt) h
line_leaves told t B There s d k (Some line.Close) at h = ends_leaves told t B There d k (frame.CloseConsumer (id_of k.sub) k.done) (λ y session. tt) h
line_leaves told t B There s d k (Some line.CloseProducer) at h =
    on_if (Leaves told t B There d k) (is_some k.produce && (length k.unanswered == 0)) _ _ (record {
      later = omega arith;
      sub = done_sub k h.sub;
      all = record { produce = λ i is. absurd (none-some i is); flow = (done_all k h.all).flow; unanswered = (done_all k h.all).unanswered };
      comes = Comes.Stays refl refl refl (same_sub k);
      held = λ on. h.held;
      sent = ((λ y there is. tt), tt);
    }) (stays_leaves told t B There d k h)
line_leaves told t B There s d k (Some line.Ping) at h = record {
  later = omega arith;
  sub = done_sub k h.sub;
  all = done_all k h.all;
  comes = Comes.Stays refl refl refl (same_sub k);
  held = λ on. h.held;
  sent = ((λ y there is. tt), tt);
}
line_leaves told t B There s d k (Some (line.Move x)) at h =
    let a = done_all k h.all in
    connects_leaves told t B There s d k (connected_to x (past k)) (omega arith) (omega arith) refl (done_sub k h.sub)
    (record { produce = a.produce; flow = a.flow; unanswered = a.unanswered })

pub go_leaves : (told : SettledSoFar) (t : ℕ) (B : ℕ → Broker) (There : ℕ → Type 0) (s : Setup) (d : Declared) (k : Client) → ((id : ℕ) → k.sub ≡ Some id → id < k.done) → AllDone k
    → (k.connected ≡ true → There k.cluster → HoldsWell told t (B k.cluster) d (id_of k.sub) k.held) → Leaves told t B There d k (go s d k)
unfolding go
go_leaves told t B There s d k sub all held =
    on_test (Leaves told t B There d k) k.connected _ _
    (λ up. line_leaves told t B There s d k (slice_get d.lines k.done) refl (record { sub = sub; all = all; held = held up }))
    (λ off. record { later = omega arith; sub = sub; all = all; comes = Comes.Stays refl refl refl (same_sub k); held = λ on. absurd (false≢true (sym off ∙ on)); sent = tt })

pub reconnect_leaves : (told : SettledSoFar) (t : ℕ) (B : ℕ → Broker) (There : ℕ → Type 0) (s : Setup) (d : Declared) (k : Client) → ((id : ℕ) → k.sub ≡ Some id → id < k.done) → AllDone k
    → Leaves told t B There d k (reconnect s d k)
unfolding reconnect
reconnect_leaves told t B There s d k sub all =
    connects_leaves told t B There s d k (connected_to k.cluster k) (omega arith) (omega arith) refl sub
    (record { produce = all.produce; flow = all.flow; unanswered = all.unanswered })
