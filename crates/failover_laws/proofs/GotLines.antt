-- What a get adds to what a client got is the message of the packet that it takes.
use Rattle.std.proofs.Common.{◌≡◌, ℕ, ◌+◌, ◌<◌, Bool, true, false, List, [], ◌∷◌, ◌++◌, length, refl, sym, ap, subst, ◌∙◌, ◌==◌, arith, append_assoc}
use Rattle.std.specs.Prelude.{Option, Some, None, if◌then◌else◌, slice_get}
use Rattle.std.proofs.lemmas.Bool.{eqb-true, ltb-true}
use Rattle.std.proofs.lemmas.List.{get_or-set_same}
use Rattle.std.proofs.lemmas.Option.{same_Some}
use Rattle.world_laws.proofs.Types.{Entry, Frame, Ident, Packet, ClusterRef, Position, Step}
use Rattle.world_laws.proofs.Types.event
use Rattle.world_laws.proofs.Types.frame
use Rattle.world_laws.proofs.Types.cluster_ref
use Rattle.geo_base.specs.Broker.{Broker}
use Rattle.geo_base.specs.Client.{Acted, Client, new_client}
use Rattle.geo_base.specs.Entry.{with_origin}
use Rattle.geo_base.specs.Getting.{get, got_frame, is_duplicate, is_number, received, with_error, with_receipt}
use Rattle.geo_base.specs.Happening.{client_acted, client_does, happens, idles}
use Rattle.geo_base.specs.Link.{next_packet}
use Rattle.geo_base.specs.Laws.{begun}
use Rattle.geo_base.specs.Moments.{NotBegun, settling_so_far}
use Rattle.geo_base.specs.Run.{Ran, no_limits, run, run_from}
use Rattle.geo_base.specs.Offering.{source_of}
use Rattle.geo_base.specs.Planned.{has_client}
use Rattle.geo_base.specs.Setup.{Declared, Setup, declared_at}
use Rattle.geo_base.specs.World.{LinkName, ToClient, World, client_at, link_at, opening_world, topic_at}
use Rattle.world_laws.specs.AlikeWorlds.{AreAlike, world_on}
use Rattle.world_laws.specs.Starts.{resumed_world}
use Rattle.world_laws.proofs.Induction.Reaching.{goes_on as reached_on, reached_has}
use Rattle.world_laws.proofs.KeptRuns.ResumedRuns.{run_parts}
use Rattle.world_laws.proofs.Dispatching.SubFrames.{each_at_place}
use Rattle.world_laws.proofs.Walks.Walk.{on_false, on_test, on_true}
use Rattle.world_laws.specs.SubLines.{IsSubLine}
use Rattle.world_laws.proofs.Published.GotMessages.{SameGot, answered_got, receipt_got}
use Rattle.failover_laws.specs.Got.{CameTo, GetsBehind, IsNeverGotAgain, LawGot}
use Rattle.failover_laws.specs.Run.{IsNeverAgain}
use Rattle.failover_laws.specs.Since.{Since}
use Rattle.world_laws.proofs.Clients.ClientLinks.{SentDown}
use Rattle.failover_laws.proofs.Getting.{GetsLate, IsLate, IsLateAbove, IsLateFor, begins_late, gets_late}
use Rattle.world_laws.proofs.Clients.Meeting.{MeetsAll, meets_on, opening_meets, resumed_meets}
use Rattle.failover_laws.proofs.Never.{never_law}
use Rattle.failover_laws.proofs.Running.{run_follows, settling_follows}

-- ---- lists

not_longer : {X : Type 0} (xs : List X) (x : X) → xs ≡ xs ++ x ∷ [] → ⊥
not_longer {X = X} xs x is = let h = ap (λ l. length l) is in let n = longer xs in omega (arith, h, n)
  where
    longer : (ys : List X) → length (ys ++ x ∷ []) ≡ length ys + 1
    longer [] = refl
    longer (y ∷ ys) = let h = longer ys in omega (arith, h)

last_same : {X : Type 0} (xs : List X) (x y : X) → xs ++ x ∷ [] ≡ xs ++ y ∷ [] → x ≡ y
last_same {X = X} xs x y is = same_Some x y (sym (at xs x) ∙ ap (λ l. slice_get l (length xs)) is ∙ at xs y)
  where
    at : (ys : List X) (z : X) → slice_get (ys ++ z ∷ []) (length ys) ≡ Some z
    at [] z = refl
    at (a ∷ ys) z = at ys z

-- ---- the packet of a get

-- a message of this frame, for the sub line in force, is what was got; a message without a source is of the cluster that it came from
abbrev pub source_at : ℕ → Option ClusterRef → Option ℕ
source_at x None = Some x
source_at x (Some (cluster_ref.Known z)) = Some z
source_at x (Some (cluster_ref.Stranger name)) = None

pub record IsGot (k : Client) (f : Frame) (ident : Ident) : Type 0 where
  pub id : ℕ
  pub position : Position
  pub source : Option ClusterRef
  pub entry : Entry
  pub is : f ≡ frame.Message id position source entry
  pub current : is_number id k.sub ≡ true
  pub origin : ℕ
  pub from : source_at k.cluster source ≡ Some origin
  pub same : ident ≡ (with_origin origin entry).ident

-- what adds nothing
none_got : {X : Type 0} (k j : Client) (i : Ident) → SameGot k j → j.got ≡ k.got ++ i ∷ [] → X
none_got k j i h is = absurd (not_longer k.got i (sym h.is ∙ is))

received_got : (k : Client) (id origin : ℕ) (p : Position) (source : Option ClusterRef) (e : Entry) (ident : Ident) → source_at k.cluster source ≡ Some origin
    → (received k id (with_origin origin e).ident p).got ≡ k.got ++ ident ∷ [] → IsGot k (frame.Message id p source e) ident
received_got k id origin p source e ident from is = by (is_number id k.sub) refl is
  where
    i : Ident
    i = (with_origin origin e).ident

    by : (t : Bool) → is_number id k.sub ≡ t
        → (if t then record k { held = k.held ++ record { ident = i; position = p } ∷ []; got = k.got ++ i ∷ [] } else k).got ≡ k.got ++ ident ∷ []
        → IsGot k (frame.Message id p source e) ident
    by true test h =
        record { id = id; position = p; source = source; entry = e; is = refl; current = test; origin = origin; from = from; same = sym (last_same k.got i ident h) }
    by false test h = absurd (not_longer k.got ident h)

frame_got : (d : Declared) (k : Client) (f : Frame) (ident : Ident) → (got_frame d k f).got ≡ k.got ++ ident ∷ [] → IsGot k f ident
frame_got d k (frame.SendReceipt id n p) ident is = none_got k _ ident (answered_got d k n (with_receipt k (is_duplicate p)) (receipt_got k (is_duplicate p))) is
frame_got d k (frame.SendError id n code) ident is = none_got k _ ident (answered_got d k n (with_error k) (record { is = refl })) is
frame_got d k (frame.Error request code) ident is = none_got k (with_error k) ident (record { is = refl }) is
frame_got d k (frame.Message id p None e) ident is = received_got k id k.cluster p None e ident refl is
frame_got d k (frame.Message id p (Some (cluster_ref.Known x)) e) ident is = received_got k id x p (Some (cluster_ref.Known x)) e ident refl is
frame_got d k (frame.Message id p (Some (cluster_ref.Stranger name)) e) ident is = none_got k k ident (record { is = refl }) is
frame_got d k f ident is = none_got k k ident (record { is = refl }) is

-- the next packet of a client's link, in its session
pub record Gets (k : Client) (o : Option Packet) (ident : Ident) : Type 0 where
  pub packet : Packet
  pub next : o ≡ Some packet
  pub session : packet.session ≡ k.connection
  pub got : IsGot k packet.frame ident

packet_got : (d : Declared) (k : Client) (o : Option Packet) (ident : Ident) → (get d k o).client.got ≡ k.got ++ ident ∷ [] → Gets k o ident
unfolding get
packet_got d k None ident is = absurd (not_longer k.got ident is)
packet_got d k (Some p) ident is = by (p.session == k.connection) refl is
  where
    by : (t : Bool) → (p.session == k.connection) ≡ t → (if t then got_frame d k p.frame else k).got ≡ k.got ++ ident ∷ [] → Gets k (Some p) ident
    by true test h = record { packet = p; next = refl; session = eqb-true p.session k.connection test; got = frame_got d k p.frame ident h }
    by false test h = absurd (not_longer k.got ident h)

-- ---- a get in a world

-- what the client is after it
acted_is : (s : Setup) (w : World) (c : ℕ) (l : Option LinkName) (a : Acted) → c < length w.clients
    → client_at s (client_does s w c l a) c ≡ (if a.idle then client_at s w c else a.client)
unfolding client_does
acted_is s w c l a lt =
    on_test (λ (w' : World). client_at s w' c ≡ (if a.idle then client_at s w c else a.client)) a.idle _ _ (λ idle. sym (on_true a.idle (client_at s w c) a.client idle))
    (λ busy. get_or-set_same w.clients c a.client (new_client (declared_at s c)) lt ∙ sym (on_false a.idle (client_at s w c) a.client busy))

got_or_idle : (d : Declared) (k : Client) (o : Option Packet) (ident : Ident) → (if (get d k o).idle then k else (get d k o).client).got ≡ k.got ++ ident ∷ []
    → (get d k o).client.got ≡ k.got ++ ident ∷ []
unfolding get
got_or_idle d k None ident h = h
got_or_idle d k (Some p) ident h = h

abbrev next_of : World → ℕ → ℕ → Option Packet
next_of w c x = next_packet (link_at w.links (ToClient c x))

get_is : (s : Setup) (w : World) (c : ℕ) (ident : Ident) → length w.clients ≡ length s.clients
    → (client_at s (happens s w (event.Get c)) c).got ≡ (client_at s w c).got ++ ident ∷ [] → Gets (client_at s w c) (next_of w c (client_at s w c).cluster) ident
unfolding happens
get_is s w c ident size is = by (has_client s c) refl is
  where
    k : Client
    k = client_at s w c

    o : Option Packet
    o = next_of w c k.cluster

    by : (t : Bool) → has_client s c ≡ t
        → (client_at s (if t then client_does s w c (Some (ToClient c k.cluster)) (client_acted s k (event.Get c) o) else idles w) c).got ≡ k.got ++ ident ∷ []
        → Gets k o ident
    by true has h =
        let lt : c < length w.clients = let small = ltb-true c (length s.clients) has in omega (arith, small, size) in
        packet_got (declared_at s c) k o ident (got_or_idle (declared_at s c) k o ident
        (ap (λ (j : Client). j.got) (sym (acted_is s w c (Some (ToClient c k.cluster)) (get (declared_at s c) k o) lt)) ∙ h))
    by false has h = absurd (not_longer k.got ident h)

-- ---- the law

-- what a message says of where it came from is where it came from
origin_is : (y origin : ℕ) (e : Entry) → source_at y (source_of y e) ≡ Some origin → e.ident.origin ≡ origin
origin_is y origin e is = by (e.ident.origin == y) refl is
  where
    by : (t : Bool) → (e.ident.origin == y) ≡ t → source_at y (if t then None else Some (cluster_ref.Known e.ident.origin)) ≡ Some origin → e.ident.origin ≡ origin
    by true own h = eqb-true e.ident.origin y own ∙ same_Some y origin h
    by false other h = same_Some e.ident.origin origin h

came_meets : (s : Setup) (c : ℕ) (v : World) → CameTo s v → MeetsAll s c v
came_meets s c _ CameTo.Opening = opening_meets s c
came_meets s c _ (CameTo.Going u v came reached) = reached_has s (MeetsAll s c) (meets_on s c) u v (came_meets s c u came) reached
came_meets s c _ (CameTo.GoingOn u came) = resumed_meets s c u (came_meets s c u came)

gets_behind : (s : Setup) → GetsBehind s
gets_behind s v w y c n a j ident came passed since connected subs got = record {
  index = late.index;
  entry = gets.got.entry;
  stands = late.stands;
  is = ap (λ (x : ℕ). (with_origin x gets.got.entry).ident) origin ∙ sym gets.got.same;
  late = late.late;
}
  where
    d : Declared
    d = declared_at s c

    k : Client
    k = client_at s w c

    b : Broker
    b = topic_at s w d.topic y

    g : GetsLate s c y (client_at s v c).connection n a j w
    g =
        gets_late s c y (client_at s v c).connection n a j v w
        (begins_late s c y n a j v (came_meets s c v came) passed) since

    gets : Gets k (next_of w c k.cluster) ident
    gets = get_is s w c ident g.meets.size got

    there : next_of w c y ≡ Some gets.packet
    there = subst (λ (x : ℕ). next_of w c x ≡ Some gets.packet) connected.cluster gets.next

    above : (client_at s v c).connection < gets.packet.session
    above = let newer = connected.newer in let same = gets.session in omega (arith, newer, same)

    in_frame : IsLateFor d n b y a j gets.packet.frame
    in_frame =
        each_at_place (λ (p : Packet). IsLateAbove d n b y a j (client_at s v c).connection p.session p.frame) (SentDown w.links c y) (link_at w.links (ToClient c y)).taken gets.packet
        g.frames there above

    line : IsSubLine d gets.got.id n
    line =
        let current : is_number gets.got.id (Some subs.0) ≡ true = subst (λ (o : Option ℕ). is_number gets.got.id o ≡ true) subs.1 gets.got.current in
        subst (λ (i : ℕ). IsSubLine d i n) (eqb-true subs.0 gets.got.id current) subs.2

    late : IsLate b y a j gets.got.source gets.got.entry
    late = subst (IsLateFor d n b y a j) gets.got.is in_frame line

    origin : gets.got.entry.ident.origin ≡ gets.got.origin
    origin =
        origin_is y gets.got.origin gets.got.entry
        (subst (λ (o : Option ClusterRef). source_at y o ≡ Some gets.got.origin) late.from
        (subst (λ (x : ℕ). source_at x gets.got.source ≡ Some gets.got.origin) connected.cluster gets.got.from))

-- ---- in a run

-- where steps lead to from a world that a run comes to
steps_come : (s : Setup) (v : World) (es : List Step) → CameTo s v → CameTo s (run_from no_limits s (begun v) es).world
steps_come s v es came = CameTo.Going v (run_from no_limits s (begun v) es).world came ((reached_on s v).limited no_limits es)

never_got : (s : Setup) (v : World) → CameTo s v → ((es : List Step) → IsNeverAgain s v es) → (es : List Step) → IsNeverGotAgain s v es
never_got s v came never es before between rest e y a c n told j at ident whole acts leave connected subs got =
    gets_behind s behind.world (world_on s v (before ++ e ∷ between) at) y c n a j ident (steps_come s v (before ++ e ∷ []) came)
    (never es before [] (between ++ rest) e t y a n told j NotBegun whole acts tt).passed follows connected subs got
  where
    t : ℕ
    t = (declared_at s c).topic

    behind : Ran
    behind = run_from no_limits s (begun v) (before ++ e ∷ [])

    all : run_from no_limits s (begun v) (before ++ e ∷ between) ≡ run_from no_limits s behind between
    all =
        ap (run_from no_limits s (begun v)) (sym (append_assoc before (e ∷ []) between)) ∙ run_parts no_limits s (begun v) (before ++ e ∷ []) between

    follows : Since s t y n behind.world (world_on s v (before ++ e ∷ between) at)
    follows =
        subst (λ (r : Ran). Since s t y n behind.world (settling_so_far no_limits s r at).world) (sym all)
        (settling_follows no_limits s t y n behind.world (run_from no_limits s behind between) at (run_follows no_limits s t y n behind between leave))

-- what goes on over links that were never used is told by brokers, clients and counts
resumed_same : (s : Setup) (u v : World) → AreAlike u v → resumed_world s u ≡ resumed_world s v
resumed_same s u v h = λ i. record (opening_world s) {
  brokers = h.brokers i;
  clients = h.clients i;
  events = h.events i;
  idle = h.idle i;
  rounds = h.rounds i;
  frame_bytes = h.frame_bytes i;
}

alike_came : (s : Setup) (v : World) (before : List Step) → AreAlike (run s before) v → resumed_world s v ≡ v → CameTo s v
alike_came s v before alike unused =
    subst (CameTo s) (resumed_same s (run s before) v alike ∙ unused) (CameTo.GoingOn (run s before) (steps_come s (opening_world s) before CameTo.Opening))

pub got_law : LawGot
got_law = record {
  gets = gets_behind;
  script = λ s scripted es. never_got s (opening_world s) CameTo.Opening (never_law.script s scripted) es;
  resumed = λ s scripted v before es alike unused. never_got s v (alike_came s v before alike unused) (λ fs. never_law.resumed s scripted v before fs alike) es;
}
