-- A producer does not move: each SEND of a client goes to the cluster that it is declared at, and is of one of its pub lines.
use Rattle.std.proofs.Common.{arith, ◌≡◌, ℕ, zero, Bool, true, false, List, [], ◌∷◌, ◌++◌, length, refl, sym, ap, subst, ◌∙◌, ◌==◌}
use Rattle.std.specs.List.{list_any}
use Rattle.std.specs.Prelude.{Option, Some, None, ◌&&◌, not, nat_lt, is_some, slice_get}
use Rattle.std.proofs.lemmas.Bool.{false≢true}
use Rattle.std.proofs.lemmas.List.Folds.{list_any_at}
use Rattle.std.proofs.lemmas.Option.{get_or_from_slice_get, none-some, slice_get_within}
use Rattle.world_laws.proofs.Types.{Frame, Held, Ident, Line, Out, Packet, Peer, Position}
use Rattle.world_laws.proofs.Types.frame
use Rattle.world_laws.proofs.Types.line
use Rattle.world_laws.proofs.Types.peer
use Rattle.world_laws.proofs.Types.cluster_ref
use Rattle.geo_base.specs.Client.{Acted, Client, command, command_at, commands_at, connected_to, connects, id_of, new_client, published, reconnect, stays}
use Rattle.geo_base.specs.Entry.{with_origin}
use Rattle.geo_base.specs.Getting.{answered, get, got_frame, is_duplicate, is_number, publishes, received, seq_of, with_error, with_receipt, without_seq}
use Rattle.geo_base.specs.Going.{acks_all, acks_one, acks_to, ends_sub, first_held, go, go_line, most_unanswered, past}
use Rattle.geo_base.specs.Scripted.{is_move, is_produce, stays_or_is_silent}
use Rattle.geo_base.specs.Setup.{Declared, Setup}
use Rattle.world_laws.specs.Publishing.{IsPublishedBy}
use Rattle.world_laws.proofs.Replicating.Effects.{Each, each_both}
use Rattle.world_laws.proofs.Walks.Walk.{left, on_if, on_test}

-- the line at an index publishes nothing
abbrev pub NoPub : Declared → Option ℕ → Type 0
NoPub d None = Unit {0}
NoPub d (Some i) = seq_of (slice_get d.lines i) ≡ None

-- a client that has no move line is where it was declared; one that has no produce line publishes nothing
pub record IsHome (d : Declared) (k : Client) : Type 0 where
  pub stays : list_any is_move d.lines ≡ false → k.cluster ≡ d.cluster
  pub silent : list_any is_produce d.lines ≡ false → (k.produce ≡ None) × (k.unanswered ≡ [])
  pub produce : NoPub d k.produce
  pub sub : NoPub d k.sub
  pub flow : NoPub d k.flow

-- what it sends
abbrev pub HomeSend : Setup → Declared → Frame → Peer → Type 0
HomeSend s d (frame.Send id seq source e) (peer.Broker x) = (x ≡ d.cluster) × IsPublishedBy s d e
HomeSend s d (frame.Send id seq source e) q = ⊥
HomeSend s d f q = Unit {0}

abbrev pub HomeOut : Setup → Declared → Out → Type 0
HomeOut s d o = HomeSend s d o.frame o.to

pub record ActsHome (s : Setup) (d : Declared) (k : Client) (a : Acted) : Type 0 where
  pub home : IsHome d a.client
  pub sent : Each (HomeOut s d) a.sent
  pub got : a.client.got ≡ k.got

stays_home : (s : Setup) (d : Declared) (k : Client) → IsHome d k → ActsHome s d k (stays k)
stays_home s d k h = record { home = h; sent = tt; got = refl }

any_at : {X : Type 0} (p : X → Bool) (xs : List X) (i : ℕ) (x : X) → slice_get xs i ≡ Some x → p x ≡ true → list_any p xs ≡ true
any_at p xs i x at h = list_any_at p xs i x (slice_get_within xs i x at) (ap p (get_or_from_slice_get xs i x x at) ∙ h)

-- a client that publishes is at home
by_both : (a b : Bool) → not (a && b) ≡ true → a ≡ true → b ≡ false
by_both a b h k = grind (arith, h, k)

pub some_home : (d : Declared) (k : Client) → stays_or_is_silent d.lines ≡ true → IsHome d k → (list_any is_produce d.lines ≡ false → ⊥) → k.cluster ≡ d.cluster
some_home d k ok h talks = h.stays (by_both (list_any is_produce d.lines) (list_any is_move d.lines) ok (by (list_any is_produce d.lines) refl))
  where
    by : (b : Bool) → list_any is_produce d.lines ≡ b → list_any is_produce d.lines ≡ true
    by true e = e
    by false e = absurd (talks e)

-- a pub line's command
pub_home : (s : Setup) (d : Declared) (k : Client) (i seq : ℕ) (l : Line) → k.cluster ≡ d.cluster → slice_get d.lines i ≡ Some l → Each (HomeOut s d) (command s d k i (Some l))
pub_home s d k i seq line.Produce here at = (tt, tt)
pub_home s d k i seq (line.Sub n kind earliest replicated) here at = (tt, tt)
pub_home s d k i seq (line.Flow permits) here at = (tt, tt)
pub_home s d k i seq (line.Pub n to key text) here at =
    ((here, record { at = i; seq = n; to = to; key = key; text = text; says = at; is = ap (λ (x : ℕ). published s d (record k { cluster = x }) n to key text) here }), tt)
pub_home s d k i seq l here at = tt

at_home : (s : Setup) (d : Declared) (k : Client) (i : ℕ) (o : Option Line) → k.cluster ≡ d.cluster → slice_get d.lines i ≡ o → Each (HomeOut s d) (command s d k i o)
at_home s d k i None here at = tt
at_home s d k i (Some l) here at = pub_home s d k i zero l here at

all_home : (s : Setup) (d : Declared) (k : Client) (is : List ℕ) → k.cluster ≡ d.cluster → Each (HomeOut s d) (commands_at s d k is)
all_home s d k [] here = tt
all_home s d k (i ∷ is) here =
    each_both (HomeOut s d) (command_at s d k (Some i)) (commands_at s d k is) (at_home s d k i (slice_get d.lines i) here refl) (all_home s d k is here)

-- a line that publishes nothing
quiet_line : (s : Setup) (d : Declared) (k : Client) (i : ℕ) (o : Option Line) → seq_of o ≡ None → Each (HomeOut s d) (command s d k i o)
quiet_line s d k i None no_pub = tt
quiet_line s d k i (Some line.Produce) no_pub = (tt, tt)
quiet_line s d k i (Some (line.Sub n kind earliest replicated)) no_pub = (tt, tt)
quiet_line s d k i (Some (line.Flow permits)) no_pub = (tt, tt)
quiet_line s d k i (Some (line.Pub n to key text)) no_pub = absurd (none-some n (sym no_pub))
quiet_line s d k i (Some l) no_pub = tt

quiet_at : (s : Setup) (d : Declared) (k : Client) (o : Option ℕ) → NoPub d o → Each (HomeOut s d) (command_at s d k o)
quiet_at s d k None no_pub = tt
quiet_at s d k (Some i) no_pub = quiet_line s d k i (slice_get d.lines i) no_pub

-- what was not answered yet
waiting_home : (s : Setup) (d : Declared) (k : Client) → stays_or_is_silent d.lines ≡ true → IsHome d k → Each (HomeOut s d) (commands_at s d k k.unanswered)
waiting_home s d k ok h = by (list_any is_produce d.lines) refl
  where
    by : (b : Bool) → list_any is_produce d.lines ≡ b → Each (HomeOut s d) (commands_at s d k k.unanswered)
    by true e = all_home s d k k.unanswered (some_home d k ok h (λ none. false≢true (sym none ∙ e)))
    by false e = subst (λ (is : List ℕ). Each (HomeOut s d) (commands_at s d k is)) (sym (h.silent e).1) tt

connects_home : (s : Setup) (d : Declared) (k : Client) → stays_or_is_silent d.lines ≡ true → IsHome d k → Each (HomeOut s d) (connects s d k).sent
connects_home s d k ok h =
    let F = HomeOut s d in
    let flow = each_both F (command_at s d k k.flow) (commands_at s d k k.unanswered) (quiet_at s d k k.flow h.flow) (waiting_home s d k ok h) in
    let sub = each_both F (command_at s d k k.sub) (command_at s d k k.flow ++ commands_at s d k k.unanswered) (quiet_at s d k k.sub h.sub) flow in
    (tt, each_both F (command_at s d k k.produce) (command_at s d k k.sub ++ (command_at s d k k.flow ++ commands_at s d k k.unanswered)) (quiet_at s d k k.produce h.produce) sub)

acks_one_home : (s : Setup) (d : Declared) (k : Client) (i : Ident) (o : Option Position) → IsHome d k → ActsHome s d k (acks_one k i o)
acks_one_home s d k i None h = stays_home s d k h
acks_one_home s d k i (Some p) h = record { home = record { stays = h.stays; silent = h.silent; produce = h.produce; sub = h.sub; flow = h.flow }; sent = (tt, tt); got = refl }

acks_to_home : (s : Setup) (d : Declared) (k : Client) (o : Option Position) → IsHome d k → ActsHome s d k (acks_to k o)
acks_to_home s d k None h = stays_home s d k h
acks_to_home s d k (Some p) h = record { home = record { stays = h.stays; silent = h.silent; produce = h.produce; sub = h.sub; flow = h.flow }; sent = (tt, tt); got = refl }

acks_all_home : (s : Setup) (d : Declared) (k : Client) (gs : List Held) → IsHome d k → ActsHome s d k (acks_all k gs)
acks_all_home s d k [] h = stays_home s d k h
acks_all_home s d k (g ∷ gs) h = record { home = record { stays = h.stays; silent = h.silent; produce = h.produce; sub = h.sub; flow = h.flow }; sent = (tt, tt); got = refl }

-- whose SEND it is none
abbrev IsQuietFrame : Frame → Type 0
IsQuietFrame (frame.Send id seq source e) = ⊥
IsQuietFrame f = Unit {0}

quiet_home : (s : Setup) (d : Declared) (x : ℕ) (f : Frame) → IsQuietFrame f → HomeSend s d f (peer.Broker x)
quiet_home s d x (frame.Send id seq source e) q = absurd q
quiet_home s d x f q = tt

ends_home : (s : Setup) (d : Declared) (k : Client) (f : Frame) → IsQuietFrame f → IsHome d k → ActsHome s d k (ends_sub k f)
ends_home s d k f q h =
    on_if (ActsHome s d k) (is_some k.sub) _ _
    (record { home = record { stays = h.stays; silent = h.silent; produce = h.produce; sub = tt; flow = tt }; sent = (quiet_home s d k.cluster f q, tt); got = refl })
    (stays_home s d k h)

pub some_none : {X : Type 0} (o : Option X) → is_some o ≡ true → o ≡ None → ⊥
some_none o some none = false≢true (sym (ap is_some none) ∙ some)

line_home : (s : Setup) (d : Declared) (k : Client) (l : Option Line) → stays_or_is_silent d.lines ≡ true → slice_get d.lines k.done ≡ l → IsHome d k → ActsHome s d k (go_line s d k l)
line_home s d k None ok at h = stays_home s d k h
line_home s d k (Some line.Produce) ok at h = record {
  home = record {
    stays = h.stays;
    silent = λ none. absurd (false≢true (sym none ∙ any_at is_produce d.lines k.done line.Produce at refl));
    produce = ap seq_of at;
    sub = h.sub;
    flow = h.flow;
  };
  sent = (tt, tt);
  got = refl;
}
line_home s d k (Some (line.Pub seq to key text)) ok at h =
    on_test (ActsHome s d k) (is_some k.produce && nat_lt (length k.unanswered) most_unanswered) _ _
    (λ may.
    let talks : list_any is_produce d.lines ≡ false → ⊥ =
    λ none. some_none k.produce (left (is_some k.produce) (nat_lt (length k.unanswered) most_unanswered) may) (h.silent none).0 in
    record {
      home = record { stays = h.stays; silent = λ none. absurd (talks none); produce = h.produce; sub = h.sub; flow = h.flow };
      sent = pub_home s d k k.done seq (line.Pub seq to key text) (some_home d k ok h talks) at;
      got = refl;
    }) (λ may_not. stays_home s d k h)
line_home s d k (Some (line.Sub n kind earliest replicated)) ok at h =
    record { home = record { stays = h.stays; silent = h.silent; produce = h.produce; sub = ap seq_of at; flow = tt }; sent = (tt, tt); got = refl }
line_home s d k (Some (line.Flow permits)) ok at h =
    on_if (ActsHome s d k) (is_some k.sub) _ _
    (record { home = record { stays = h.stays; silent = h.silent; produce = h.produce; sub = h.sub; flow = ap seq_of at }; sent = (tt, tt); got = refl }) (stays_home s d k h)
line_home s d k (Some (line.Ack i)) ok at h = acks_one_home s d k i (first_held k.held i) h
line_home s d k (Some (line.AckTo i)) ok at h = acks_to_home s d k (first_held k.held i) h
line_home s d k (Some line.AckAll) ok at h = acks_all_home s d k k.held h
line_home s d k (Some line.Unsub) ok at h = ends_home s d k (frame.Unsubscribe (id_of k.sub) k.done) tt h
line_home s d k (Some line.Close) ok at h = ends_home s d k (frame.CloseConsumer (id_of k.sub) k.done) tt h
line_home s d k (Some line.CloseProducer) ok at h =
    on_if (ActsHome s d k) (is_some k.produce && (length k.unanswered == 0)) _ _
    (record {
      home = record { stays = h.stays; silent = λ none. (refl, (h.silent none).1); produce = tt; sub = h.sub; flow = h.flow };
      sent = (tt, tt);
      got = refl;
    }) (stays_home s d k h)
line_home s d k (Some line.Ping) ok at h = record { home = record { stays = h.stays; silent = h.silent; produce = h.produce; sub = h.sub; flow = h.flow }; sent = (tt, tt); got = refl }
line_home s d k (Some (line.Move x)) ok at h =
    let moved : IsHome d (connected_to x (past k)) = record {
      stays = λ none. absurd (false≢true (sym none ∙ any_at is_move d.lines k.done (line.Move x) at refl));
      silent = h.silent;
      produce = h.produce;
      sub = h.sub;
      flow = h.flow;
    } in
    record { home = moved; sent = connects_home s d (connected_to x (past k)) ok moved; got = refl }

pub go_home : (s : Setup) (d : Declared) (k : Client) → stays_or_is_silent d.lines ≡ true → IsHome d k → ActsHome s d k (go s d k)
unfolding go
go_home s d k ok h = on_if (ActsHome s d k) k.connected _ _ (line_home s d k (slice_get d.lines k.done) ok refl h) (stays_home s d k h)

pub reconnect_home : (s : Setup) (d : Declared) (k : Client) → stays_or_is_silent d.lines ≡ true → IsHome d k → ActsHome s d k (reconnect s d k)
unfolding reconnect
reconnect_home s d k ok h =
    let again : IsHome d (connected_to k.cluster k) = record { stays = h.stays; silent = h.silent; produce = h.produce; sub = h.sub; flow = h.flow } in
    record { home = again; sent = connects_home s d (connected_to k.cluster k) ok again; got = refl }

-- ---- what comes

record Follows (k j : Client) : Type 0 where
  cluster : j.cluster ≡ k.cluster
  produce : j.produce ≡ k.produce
  sub : j.sub ≡ k.sub
  flow : j.flow ≡ k.flow
  unanswered : k.unanswered ≡ [] → j.unanswered ≡ []

follows_home : (d : Declared) (k j : Client) → Follows k j → IsHome d k → IsHome d j
follows_home d k j f h = record {
  stays = λ none. f.cluster ∙ h.stays none;
  silent = λ none. let q = h.silent none in (f.produce ∙ q.0, f.unanswered q.1);
  produce = subst (NoPub d) (sym f.produce) h.produce;
  sub = subst (NoPub d) (sym f.sub) h.sub;
  flow = subst (NoPub d) (sym f.flow) h.flow;
}

itself : (k : Client) → Follows k k
itself k = record { cluster = refl; produce = refl; sub = refl; flow = refl; unanswered = λ e. e }

receipt_follows : (k : Client) (b : Bool) → Follows k (with_receipt k b)
receipt_follows k true = record { cluster = refl; produce = refl; sub = refl; flow = refl; unanswered = λ e. e }
receipt_follows k false = record { cluster = refl; produce = refl; sub = refl; flow = refl; unanswered = λ e. e }

answered_follows : (d : Declared) (k : Client) (n : ℕ) (j : Client) → Follows k j → Follows k (answered d k n j)
answered_follows d k n j f =
    on_if (Follows k) (list_any (publishes d n) k.unanswered) _ _
    (record { cluster = f.cluster; produce = f.produce; sub = f.sub; flow = f.flow; unanswered = λ e. ap (λ (is : List ℕ). without_seq d is n) e }) (itself k)

received_follows : (k : Client) (id : ℕ) (i : Ident) (p : Position) → Follows k (received k id i p)
received_follows k id i p =
    on_if (Follows k) (is_number id k.sub) _ _ (record { cluster = refl; produce = refl; sub = refl; flow = refl; unanswered = λ e. e }) (itself k)

frame_follows : (d : Declared) (k : Client) (f : Frame) → Follows k (got_frame d k f)
frame_follows d k (frame.SendReceipt id n p) = answered_follows d k n _ (receipt_follows k (is_duplicate p))
frame_follows d k (frame.SendError id n code) = answered_follows d k n (with_error k) (record { cluster = refl; produce = refl; sub = refl; flow = refl; unanswered = λ e. e })
frame_follows d k (frame.Error request code) = record { cluster = refl; produce = refl; sub = refl; flow = refl; unanswered = λ e. e }
frame_follows d k (frame.Message id p None e) = received_follows k id (with_origin k.cluster e).ident p
frame_follows d k (frame.Message id p (Some (cluster_ref.Known x)) e) = received_follows k id (with_origin x e).ident p
frame_follows d k (frame.Message id p (Some (cluster_ref.Stranger name)) e) = itself k
frame_follows d k f = itself k

pub get_home : (d : Declared) (k : Client) (o : Option Packet) → IsHome d k → IsHome d (get d k o).client
unfolding get
get_home d k None h = h
get_home d k (Some p) h = on_if (IsHome d) (p.session == k.connection) _ _ (follows_home d k _ (frame_follows d k p.frame) h) h

pub none_home : (d : Declared) (k : Client) → IsHome d k → IsHome d (record k { connected = false; held = [] })
none_home d k h = record { stays = h.stays; silent = h.silent; produce = h.produce; sub = h.sub; flow = h.flow }

pub new_home : (d : Declared) → IsHome d (new_client d)
new_home d = record { stays = λ none. refl; silent = λ none. (refl, refl); produce = tt; sub = tt; flow = tt }
