-- What an event does to the names of a topic's subscriptions: its first durable write may make one or take one away, and no other write of it
-- does. So a subscription that was there stays at its place, and a new one stands after all others.
use Rattle.std.proofs.Common.{◌≡◌, ℕ, zero, suc, Bool, true, false, List, [], ◌∷◌, ◌++◌, length, map, filter, take, not, refl, sym, ap, subst, ◌∙◌, arith}
use Rattle.std.specs.Prelude.{Option, Some, None, if◌then◌else◌, is_some}
use Rattle.std.specs.Str.{bytes_eq}
use Rattle.std.proofs.lemmas.List.{map-append}
use Rattle.std.proofs.lemmas.Slice.Eq.{bytes_eq-Decides}
use Rattle.world_laws.proofs.Types.{Change, Packet, Position, Write}
use Rattle.world_laws.proofs.Types.change
use Rattle.world_laws.proofs.Types.write
use Rattle.geo_base.specs.Broker.{Broker, Site, changed, sub_named, written}
use Rattle.geo_base.specs.Cache.{cached}
use Rattle.geo_base.specs.Cursor.{below}
use Rattle.geo_base.specs.Dispatcher.{given, skipped_index}
use Rattle.geo_base.specs.Plan.{Plan, all_changed, all_written, done}
use Rattle.geo_base.specs.Planned.{Planned}
use Rattle.geo_base.specs.Setup.{Setup}
use Rattle.geo_base.specs.Subscription.{Subscription, after_acks, attached, cleared, detached, new_subscription, permitted, sought, with_acks}
use Rattle.geo_base.specs.World.{World}
use Rattle.world_laws.proofs.Replicating.Effects.{Each, each_both, each_map}
use Rattle.world_laws.proofs.Dispatching.SubFrames.{NamesApart, at_name, each_and, named_same}
use Rattle.world_laws.proofs.Walks.Shapes.{Answered, Fated, Offers, Reads, Seeks, Served, Shape, Snaps, Taken, Updates}
use Rattle.step_laws.proofs.Subs.{Follows}

-- ---- which write names

abbrev pub KeepsNames : Write → Type 0
KeepsNames (write.Create n kind replicated latest) = ⊥
KeepsNames (write.Delete n) = ⊥
KeepsNames w = Unit {0}

-- no write after the first one makes or takes away a name
abbrev pub NamesOnce : List Write → Type 0
NamesOnce [] = Unit {0}
NamesOnce (w ∷ ws) = Each KeepsNames ws

update_keeps : (h : Site) (b : Broker) (v : Subscription) (ws : List Write) → Updates h b v ws → Each KeepsNames ws
update_keeps h b v ws Updates.NoUpdate = tt
update_keeps h b v ws (Updates.Update cut replicated passed) = (tt, tt)

served_once : (h : Site) (b : Broker) (c : ℕ) (p : Packet) (q : Plan) → Served h b c p q → NamesOnce q.writes
served_once h b c p q Served.Ignores = tt
served_once h b c p q Served.Disconnects = tt
served_once h b c p q (Served.Connects s is new) = tt
served_once h b c p q (Served.Answers s f in_session) = tt
served_once h b c p q (Served.ChangesProducers s ps f in_session) = tt
served_once h b c p q (Served.Stores s id seq source e in_session sound new) = tt
served_once h b c p q (Served.Repeats s id seq source e in_session sound old) = tt
served_once h b c p q (Served.Creates s topic n kind id request consumer earliest replicated in_session is may none) = tt
served_once h b c p q (Served.Joins s topic n kind id request consumer earliest replicated v in_session is may some free same) = tt
served_once h b c p q (Served.Alters s topic n kind id request consumer earliest replicated v in_session is may some free other) = tt
served_once h b c p q (Served.Permits s id permits v in_session is some) = tt
served_once h b c p q (Served.Acknowledges s id kind ps v i is ws in_session at some indexes updates) = update_keeps h b _ ws updates
served_once h b c p q (Served.Unsubscribes s id request v in_session is some alone) = tt
served_once h b c p q (Served.ClosesConsumer s id request v in_session is some) = tt

taken_keeps : (h : Site) (b : Broker) (x : ℕ) (p : Packet) (q : Plan) → Taken h b x p q → Each KeepsNames q.writes
taken_keeps h b x p q (Taken.Unreadable is) = tt
taken_keeps h b x p q (Taken.Opens topic id request name is own) = tt
taken_keeps h b x p q (Taken.Discards not_opening closed) = tt
taken_keeps h b x p q (Taken.Refuses not_opening open_ bad) = tt
taken_keeps h b x p q (Taken.Stores id seq source e is open_ may new) = (tt, tt)
taken_keeps h b x p q (Taken.Repeats id seq source e is open_ may old) = tt

answered_keeps : (b : Broker) (y : ℕ) (p : Packet) (q : Plan) → Answered b y p q → Each KeepsNames q.writes
answered_keeps b y p q (Answered.Stale other) = tt
answered_keeps b y p q (Answered.Other same unasked) = tt
answered_keeps b y p q (Answered.Opened request name same is opening) = tt
answered_keeps b y p q (Answered.OpenBefore request name same is open_) = tt
answered_keeps b y p q (Answered.ClosedBefore request name same is closed) = tt
answered_keeps b y p q (Answered.Received id n i position same is awaited) = (tt, tt)
answered_keeps b y p q (Answered.ReceivedBefore id n position same is none) = tt

fated_keeps : (per : ℕ) (b : Broker) (Acts : Broker → Plan → Type 0) (lost : Plan) → ((c : Broker) (q : Plan) → Acts c q → Each KeepsNames q.writes) → Each KeepsNames lost.writes
    → (q : Plan) → Fated per b Acts lost q → Each KeepsNames q.writes
fated_keeps per b Acts lost keeps none q (Fated.Once p acts) = keeps b p acts
fated_keeps per b Acts lost keeps none q Fated.Lost = none
fated_keeps per b Acts lost keeps none q (Fated.Twice p r acts again) = each_both KeepsNames p.writes r.writes (keeps b p acts) (keeps (done per b p) r again)

read_once : (h : Site) (b : Broker) (y : ℕ) (q : Plan) → Reads h b y q → NamesOnce q.writes
read_once h b y q Reads.NothingToRead = tt
read_once h b y q (Reads.Forwards i e next out) = tt
read_once h b y q (Reads.Skips i e next not_out) = tt
read_once h b y q (Reads.Responds i e id source next own is) = (tt, tt)
read_once h b y q (Reads.Counts i e id answer u v next response hears) = tt
read_once h b y q (Reads.AsksAgain i e id answer u v next response hears) = (tt, tt)
read_once h b y q (Reads.Completes i e id answer u v next response hears) = (tt, tt)
read_once h b y q (Reads.CreatesAt i j e n remote next update none) = (tt, (tt, tt))
read_once h b y q (Reads.ActsOnUpdate i j e n remote v ws next update some updates) = each_both KeepsNames ws _ (update_keeps h b _ ws updates) (tt, tt)

offer_once : (h : Site) (b : Broker) (n : List ℕ) (q : Plan) → Offers h b n q → NamesOnce q.writes
offer_once h b n q Offers.NothingToOffer = tt
offer_once h b n q (Offers.Gives v i at e due data_ picked) = tt
offer_once h b n q (Offers.SkipsMarker v i e ws due marker updates) = update_keeps h b _ ws updates
offer_once h b n q (Offers.Caches v i j e c ws due snapshot updates) = update_keeps h b _ ws updates

snap_once : (h : Site) (b : Broker) (q : Plan) → Snaps h b q → NamesOnce q.writes
snap_once h b q Snaps.NothingToAsk = tt
snap_once h b q (Snaps.Asks some none) = tt

seek_once : (h : Site) (b : Broker) (n : List ℕ) (to : Option Position) (q : Plan) → Seeks h b n to q → NamesOnce q.writes
seek_once h b n to q Seeks.NothingToSeek = tt
seek_once h b n to q (Seeks.SeeksTo v i ws some at updates) = update_keeps h b _ ws updates

keeps_once : (ws : List Write) → Each KeepsNames ws → NamesOnce ws
keeps_once [] h = tt
keeps_once (w ∷ ws) h = h.1

-- an event's plan has at most one creation or deletion, as its first write: so none deletes a subscription and creates it again
pub plans_name_once : (s : Setup) (w : World) (p : Planned) → Shape s w p → NamesOnce p.plan.writes
unfolding Rattle.geo_base.specs.Seeking.restart
plans_name_once s w p (Shape.Idle t x within) = tt
plans_name_once s w p (Shape.Empty t x k within none) = tt
plans_name_once s w p (Shape.Serve x c q plan within next served) = served_once _ _ c q plan served
plans_name_once s w p (Shape.Drop x c v within some) = tt
plans_name_once s w p (Shape.Reset t x y within remote) = tt
plans_name_once s w p (Shape.Read t x y plan within reads) = read_once _ _ y plan reads
plans_name_once s w p (Shape.Take t x y q plan within next fated) =
    keeps_once plan.writes (fated_keeps s.per_ledger _ _ _ (λ b r taken. taken_keeps _ b x q r taken) tt plan fated)
plans_name_once s w p (Shape.Receipt t x y q plan within next fated) =
    keeps_once plan.writes (fated_keeps s.per_ledger _ _ _ (λ b r answered. answered_keeps b y q r answered) tt plan fated)
plans_name_once s w p (Shape.Snap t x plan within snaps) = snap_once _ _ plan snaps
plans_name_once s w p (Shape.Offer t x n plan within offers) = offer_once _ _ _ plan offers
plans_name_once s w p (Shape.Seek t x n to plan within seeks) = seek_once _ _ _ to plan seeks
plans_name_once s w p (Shape.Restart t x within) = tt

-- a stop after some of the writes, which opens a ledger
pub stopped_once : (k : ℕ) (ws : List Write) → NamesOnce ws → NamesOnce (take k ws ++ write.Ledger ∷ [])
stopped_once zero ws h = tt
stopped_once (suc k) [] h = tt
stopped_once (suc k) (w ∷ ws) h = each_both KeepsNames (take k ws) (write.Ledger ∷ []) (taken k ws h) (tt, tt)
  where
    taken : (n : ℕ) (vs : List Write) → Each KeepsNames vs → Each KeepsNames (take n vs)
    taken zero vs g = tt
    taken (suc n) [] g = tt
    taken (suc n) (v ∷ vs) g = (g.0, taken n vs g.1)

-- ---- the names after writes and changes

abbrev pub names : List Subscription → List (List ℕ)
names vs = map (λ (v : Subscription). v.name) vs

names_mapped : (f : Subscription → Subscription) → ((v : Subscription) → (f v).name ≡ v.name) → (vs : List Subscription) → names (map f vs) ≡ names vs
names_mapped f same [] = refl
names_mapped f same (v ∷ vs) = ap (λ (n : List ℕ). n ∷ names (map f vs)) (same v) ∙ ap (λ (ns : List (List ℕ)). v.name ∷ ns) (names_mapped f same vs)

names_at : (b : Broker) (n : List ℕ) (f : Subscription → Subscription) → ((v : Subscription) → (f v).name ≡ v.name) → names (map (at_name n f) b.subs) ≡ names b.subs
names_at b n f same = names_mapped (at_name n f) (named_same n f same) b.subs

write_keeps : (per : ℕ) (b : Broker) (w : Write) → KeepsNames w → names (written per b w).subs ≡ names b.subs
write_keeps per b (write.Create n kind replicated latest) h = absurd h
write_keeps per b (write.Delete n) h = absurd h
write_keeps per b (write.Alter n kind replicated) h = names_at b n (λ s. record s { kind = kind; replicated = replicated }) (λ v. refl)
write_keeps per b (write.Acks n is) h = names_at b n (with_acks is) (λ v. refl)
write_keeps per b (write.Seek n i) h = names_at b n (sought i) (λ v. refl)
write_keeps per b w h = refl

writes_keep : (per : ℕ) (b : Broker) (ws : List Write) → Each KeepsNames ws → names (all_written per b ws).subs ≡ names b.subs
writes_keep per b [] h = refl
writes_keep per b (w ∷ ws) h = writes_keep per (written per b w) ws h.1 ∙ write_keeps per b w h.0

change_keeps : (b : Broker) (c : Change) → names (changed b c).subs ≡ names b.subs
change_keeps b (change.Attach n k) = names_at b n (attached k) (λ v. refl)
change_keeps b (change.Detach c) = names_mapped (detached c) (λ v. refl) b.subs
change_keeps b (change.Permit n c permits) = names_at b n (permitted c permits) (λ v. refl)
change_keeps b (change.Skipped n i) = names_at b n (skipped_index i) (λ v. refl)
change_keeps b (change.Given n i at) = names_at b n (given i at) (λ v. refl)
change_keeps b (change.Cache n c) = names_at b n (λ s. record s { cache = cached s.cache c }) (λ v. refl)
change_keeps b (change.Acked n) = names_at b n after_acks (λ v. refl)
change_keeps b (change.Cleared n) = names_at b n cleared (λ v. refl)
change_keeps b change.Forget = names_mapped cleared (λ v. refl) b.subs
change_keeps b c = refl

changes_keep : (b : Broker) (cs : List Change) → names (all_changed b cs).subs ≡ names b.subs
changes_keep b [] = refl
changes_keep b (c ∷ cs) = changes_keep (changed b c) cs ∙ change_keeps b c

-- what becomes of the names of vs: they stay, one stands after them that none of them is, or one goes
pub data Renamed (vs : List Subscription) : List (List ℕ) → Type 0 where
  Kept : (ns : List (List ℕ)) → ns ≡ names vs → Renamed vs ns
  Created : (n : List ℕ) (ns : List (List ℕ)) → sub_named vs n ≡ None → ns ≡ names vs ++ n ∷ [] → Renamed vs ns
  Deleted : (n : List ℕ) (ns : List (List ℕ)) → ns ≡ filter (λ (m : List ℕ). not (bytes_eq m n)) (names vs) → Renamed vs ns

names_filter : (n : List ℕ) (vs : List Subscription)
    → names (filter (λ (v : Subscription). not (bytes_eq v.name n)) vs) ≡ filter (λ (m : List ℕ). not (bytes_eq m n)) (names vs)
names_filter n [] = refl
names_filter n (v ∷ vs) = by (not (bytes_eq v.name n)) (names_filter n vs)
  where
    rest : List Subscription
    rest = filter (λ (v : Subscription). not (bytes_eq v.name n)) vs

    by : (t : Bool) → names rest ≡ filter (λ (m : List ℕ). not (bytes_eq m n)) (names vs)
        → names (if t then v ∷ rest else rest) ≡ (if t then v.name ∷ filter (λ (m : List ℕ). not (bytes_eq m n)) (names vs) else filter (λ (m : List ℕ). not (bytes_eq m n)) (names vs))
    by true ih = ap (λ (ns : List (List ℕ)). v.name ∷ ns) ih
    by false ih = ih

created_names : (per : ℕ) (b : Broker) (n : List ℕ) (kind : _) (replicated latest : Bool) → Renamed b.subs (names (written per b (write.Create n kind replicated latest)).subs)
created_names per b n kind replicated latest = by (sub_named b.subs n) refl
  where
    by : (o : Option Subscription) → sub_named b.subs n ≡ o
        → Renamed b.subs (names (if is_some o then b else record b { subs = b.subs ++ new_subscription n kind replicated (if latest then below (length b.entries) else []) ∷ [] }).subs)
    by (Some v) is = Renamed.Kept _ refl
    by None is = Renamed.Created n _ is (map-append (λ (v : Subscription). v.name) b.subs _)

first_names : (per : ℕ) (b : Broker) (w : Write) → Renamed b.subs (names (written per b w).subs)
first_names per b (write.Create n kind replicated latest) = created_names per b n kind replicated latest
first_names per b (write.Delete n) = Renamed.Deleted n _ (names_filter n b.subs)
first_names per b (write.Alter n kind replicated) = Renamed.Kept _ (write_keeps per b (write.Alter n kind replicated) tt)
first_names per b (write.Acks n is) = Renamed.Kept _ (write_keeps per b (write.Acks n is) tt)
first_names per b (write.Seek n i) = Renamed.Kept _ (write_keeps per b (write.Seek n i) tt)
first_names per b (write.Append e) = Renamed.Kept _ refl
first_names per b (write.ReplicatorAck y i) = Renamed.Kept _ refl
first_names per b (write.SessionNumber y session) = Renamed.Kept _ refl
first_names per b write.Ledger = Renamed.Kept _ refl

pub renamed : (per : ℕ) (b : Broker) (ws : List Write) (cs : List Change) → NamesOnce ws → Renamed b.subs (names (all_changed (all_written per b ws) cs).subs)
renamed per b [] cs h = Renamed.Kept _ (changes_keep b cs)
renamed per b (w ∷ ws) cs h =
    subst (Renamed b.subs) (sym (changes_keep (all_written per (written per b w) ws) cs ∙ writes_keep per (written per b w) ws h)) (first_names per b w)

-- ---- so what is there now follows what was there

abbrev IsFound : List Subscription → Subscription → Type 0
IsFound vs v = sub_named vs v.name ≡ Some v

all_found : (vs : List Subscription) → NamesApart vs → Each (IsFound vs) vs
all_found [] h = tt
all_found (v ∷ vs) h = (
  ap (λ (t : Bool). if t then Some v else sub_named vs v.name) ((bytes_eq-Decides v.name v.name).1 refl),
  each_map (λ (u : Subscription). (bytes_eq v.name u.name ≡ false) × IsFound vs u) (IsFound (v ∷ vs))
      (λ u g. ap (λ (t : Bool). if t then Some v else sub_named vs u.name) g.0 ∙ g.1) vs
      (each_and (λ (u : Subscription). bytes_eq v.name u.name ≡ false) (IsFound vs) vs h.0 (all_found vs h.1)),
)

abbrev first_of : List (List ℕ) → List ℕ
first_of [] = []
first_of (n ∷ ns) = n

abbrev rest_of : List (List ℕ) → List (List ℕ)
rest_of [] = []
rest_of (n ∷ ns) = ns

follows_kept : (vs us xs ys : List Subscription) → names ys ≡ names xs → Each (IsFound vs) xs → Each (IsFound us) ys → Follows vs us xs ys
follows_kept vs us [] [] same f g = Follows.New [] tt
follows_kept vs us [] (u ∷ ys) same f g = absurd (omega (arith, ap length same))
follows_kept vs us (v ∷ xs) [] same f g = absurd (omega (arith, ap length same))
follows_kept vs us (v ∷ xs) (u ∷ ys) same f g = Follows.Same v u xs ys (ap first_of same) f.0 g.0 (follows_kept vs us xs ys (ap rest_of same) f.1 g.1)

follows_created : (vs us xs ys : List Subscription) (n : List ℕ) → sub_named vs n ≡ None → names ys ≡ names xs ++ n ∷ [] → Each (IsFound vs) xs → Each (IsFound us) ys → Follows vs us xs ys
follows_created vs us [] [] n none same f g = absurd (omega (arith, ap length same))
follows_created vs us [] (u ∷ []) n none same f g = Follows.New (u ∷ []) (ap (sub_named vs) (ap first_of same) ∙ none, tt)
follows_created vs us [] (u ∷ x ∷ ys) n none same f g = absurd (omega (arith, ap length same))
follows_created vs us (v ∷ xs) [] n none same f g = absurd (omega (arith, ap length same))
follows_created vs us (v ∷ xs) (u ∷ ys) n none same f g =
    Follows.Same v u xs ys (ap first_of same) f.0 g.0 (follows_created vs us xs ys n none (ap rest_of same) f.1 g.1)

follows_deleted : (vs us xs ys : List Subscription) (n : List ℕ) → sub_named us n ≡ None → names ys ≡ filter (λ (m : List ℕ). not (bytes_eq m n)) (names xs)
    → Each (IsFound vs) xs → Each (IsFound us) ys → Follows vs us xs ys
follows_deleted vs us [] [] n none same f g = Follows.New [] tt
follows_deleted vs us [] (u ∷ ys) n none same f g = absurd (omega (arith, ap length same))
follows_deleted vs us (v ∷ xs) ys n none same f g = by (bytes_eq v.name n) refl ys same g (λ zs e h. follows_deleted vs us xs zs n none e f.1 h)
  where
    rest : List (List ℕ)
    rest = filter (λ (m : List ℕ). not (bytes_eq m n)) (names xs)

    by : (t : Bool) → bytes_eq v.name n ≡ t → (zs : List Subscription) → names zs ≡ (if not t then v.name ∷ rest else rest) → Each (IsFound us) zs
        → ((qs : List Subscription) → names qs ≡ rest → Each (IsFound us) qs → Follows vs us xs qs) → Follows vs us (v ∷ xs) zs
    by true is zs e h ih = Follows.Gone v xs zs f.0 (ap (sub_named us) ((bytes_eq-Decides v.name n).0 is) ∙ none) (ih zs e h)
    by false is [] e h ih = absurd (omega (arith, ap length e))
    by false is (u ∷ zs) e h ih = Follows.Same v u xs zs (ap first_of e) f.0 h.0 (ih zs (ap rest_of e) h.1)

-- a name that is filtered away finds nobody
none_left : (us : List Subscription) (n : List ℕ) (ms : List (List ℕ)) → names us ≡ filter (λ (m : List ℕ). not (bytes_eq m n)) ms → sub_named us n ≡ None
none_left us n [] e = by us e
  where
    by : (ys : List Subscription) → names ys ≡ [] → sub_named ys n ≡ None
    by [] h = refl
    by (u ∷ ys) h = absurd (omega (arith, ap length h))
none_left us n (m ∷ ms) e = by (bytes_eq m n) refl us e (λ zs h. none_left zs n ms h)
  where
    rest : List (List ℕ)
    rest = filter (λ (m : List ℕ). not (bytes_eq m n)) ms

    by : (t : Bool) → bytes_eq m n ≡ t → (zs : List Subscription) → names zs ≡ (if not t then m ∷ rest else rest)
        → ((qs : List Subscription) → names qs ≡ rest → sub_named qs n ≡ None) → sub_named zs n ≡ None
    by true is zs h ih = ih zs h
    by false is [] h ih = refl
    by false is (u ∷ zs) h ih =
        ap (λ (t : Bool). if t then Some u else sub_named zs n) (ap (λ (x : List ℕ). bytes_eq x n) (ap first_of h) ∙ is) ∙ ih zs (ap rest_of h)

pub follows : (vs us : List Subscription) → Renamed vs (names us) → NamesApart vs → NamesApart us → Follows vs us vs us
follows vs us (Renamed.Kept ns same) f g = follows_kept vs us vs us same (all_found vs f) (all_found us g)
follows vs us (Renamed.Created n ns none same) f g = follows_created vs us vs us n none same (all_found vs f) (all_found us g)
follows vs us (Renamed.Deleted n ns same) f g = follows_deleted vs us vs us n (none_left us n (names vs) same) same (all_found vs f) (all_found us g)
