-- What is given is the least due of its subscription, so its cursor lacks it: no event gives what the cursor has.
use Rattle.std.proofs.Common.{◌≡◌, ℕ, ◌≤◌, Bool, true, false, List, [], ◌∷◌, ◌++◌, length, refl, sym, subst, ◌∙◌, ◌==◌, not}
use Rattle.std.specs.Prelude.{Option, Some, None, ◌&&◌, ◌||◌}
use Rattle.std.specs.List.{list_any}
use Rattle.std.specs.Str.{bytes_eq}
use Rattle.std.proofs.lemmas.Bool.{eqb-true, false≢true}
use Rattle.std.proofs.lemmas.Option.{same_Some}
use Rattle.std.proofs.lemmas.Slice.Eq.{bytes_eq-Decides}
use Rattle.world_laws.proofs.Types.{Change, Entry, Packet, Position}
use Rattle.geo_base.specs.Broker.{Broker, Site, sub_named}
use Rattle.geo_base.specs.Cursor.{has}
use Rattle.geo_base.specs.Entry.{is_data, meant_for}
use Rattle.geo_base.specs.Forwarding.{closes}
use Rattle.geo_base.specs.Plan.{Plan, done, quiet_plan}
use Rattle.geo_base.specs.Planned.{Planned, planned}
use Rattle.geo_base.specs.Safe.{IsEntry}
use Rattle.geo_base.specs.Seeking.{restart}
use Rattle.geo_base.specs.Setup.{Setup}
use Rattle.geo_base.specs.Subscription.{Subscription}
use Rattle.geo_base.specs.World.{World, broker_at, site, topic_at}
use Rattle.world_laws.proofs.Walks.EventWalk.{HasShape, planned_shape}
use Rattle.world_laws.proofs.Clients.CalmWalk.{undue}
use Rattle.world_laws.proofs.Dispatching.Remembers.{is_false, least_due_is, or_false, first_false, second_false, unlike}
use Rattle.world_laws.proofs.Walks.Shapes.{Answered, Fated, Offers, Reads, Seeks, Served, Shape, Snaps, Taken}
use Rattle.world_laws.proofs.Walks.Walk.{left, right}
use Rattle.failover_laws.specs.Again.{NotAgain, gives, is_given}
use Rattle.failover_laws.specs.UpdatedTo.{HasUpdatedTo}
use Rattle.failover_laws.specs.Since.{is_at}
use Rattle.failover_laws.proofs.Lasting.{found_name}
pub use Rattle.geo_base.proofs.Bools.{unless_true as passes_meant}

-- subscription n is here, and its cursor lacks index i
abbrev pub IsOpen : Broker → List ℕ → ℕ → Type 0
IsOpen b n i = (v : Subscription) × (sub_named b.subs n ≡ Some v) × (has v.cursor i ≡ false)

none_both : (m : List ℕ) (k : ℕ) (cs ds : List Change) → list_any (is_given m k) cs ≡ false → list_any (is_given m k) ds ≡ false → list_any (is_given m k) (cs ++ ds) ≡ false
none_both m k [] ds h l = l
none_both m k (c ∷ cs) ds h l =
    or_false (is_given m k c) (list_any (is_given m k) (cs ++ ds)) (first_false (is_given m k c) (list_any (is_given m k) cs) h)
    (none_both m k cs ds (second_false (is_given m k c) (list_any (is_given m k) cs) h) l)

pub fated_gives : (m : List ℕ) (k per : ℕ) (b : Broker) (Acts : Broker → Plan → Type 0) (lost : Plan) (q : Plan)
    → ((c : Broker) (p : Plan) → Acts c p → list_any (is_given m k) p.changes ≡ false) → list_any (is_given m k) lost.changes ≡ false → Fated per b Acts lost q
    → list_any (is_given m k) q.changes ≡ false
fated_gives m k per b Acts lost q f l (Fated.Once p a) = f b p a
fated_gives m k per b Acts lost q f l Fated.Lost = l
fated_gives m k per b Acts lost q f l (Fated.Twice p p' a a') = none_both m k p.changes p'.changes (f b p a) (f (done per b p) p' a')

pub served_gives : (m : List ℕ) (k : ℕ) (h : Site) (b : Broker) (c : ℕ) (p : Packet) (q : Plan) → Served h b c p q → list_any (is_given m k) q.changes ≡ false
served_gives m k h b c p q (Served.Stores s id seq source e at sound new) = refl
served_gives m k h b c p q (Served.Acknowledges s id kind ps v i is ws at sent by of after) = refl
served_gives m k h b c p q Served.Ignores = refl
served_gives m k h b c p q Served.Disconnects = refl
served_gives m k h b c p q (Served.Connects s is new) = refl
served_gives m k h b c p q (Served.Answers s f at) = refl
served_gives m k h b c p q (Served.ChangesProducers s ps f at) = refl
served_gives m k h b c p q (Served.Repeats s id seq source e at sound old) = refl
served_gives m k h b c p q (Served.Creates s topic n kind id request consumer earliest replicated at is may named) = refl
served_gives m k h b c p q (Served.Joins s topic n kind id request consumer earliest replicated v at is may named free same) = refl
served_gives m k h b c p q (Served.Alters s topic n kind id request consumer earliest replicated v at is may named free other) = refl
served_gives m k h b c p q (Served.Permits s id permits v at is by) = refl
served_gives m k h b c p q (Served.Unsubscribes s id request v at is by last) = refl
served_gives m k h b c p q (Served.ClosesConsumer s id request v at is by) = refl

pub taken_gives : (m : List ℕ) (k : ℕ) (h : Site) (b : Broker) (x : ℕ) (p : Packet) (q : Plan) → Taken h b x p q → list_any (is_given m k) q.changes ≡ false
taken_gives m k h b x p q (Taken.Stores id seq source e is at may new) = refl
taken_gives m k h b x p q (Taken.Unreadable is) = refl
taken_gives m k h b x p q (Taken.Opens topic id request name is opening) = refl
taken_gives m k h b x p q (Taken.Discards other shut) = refl
taken_gives m k h b x p q (Taken.Refuses other at may) = refl
taken_gives m k h b x p q (Taken.Repeats id seq source e is at may old) = refl

pub answered_gives : (m : List ℕ) (k : ℕ) (b : Broker) (y : ℕ) (p : Packet) (q : Plan) → Answered b y p q → list_any (is_given m k) q.changes ≡ false
answered_gives m k b y p q (Answered.Stale other) = refl
answered_gives m k b y p q (Answered.Other at other) = refl
answered_gives m k b y p q (Answered.Opened request name at is state) = refl
answered_gives m k b y p q (Answered.OpenBefore request name at is state) = refl
answered_gives m k b y p q (Answered.ClosedBefore request name at is state) = refl
answered_gives m k b y p q (Answered.Received id n i position at is pending) = refl
answered_gives m k b y p q (Answered.ReceivedBefore id n position at is pending) = refl

pub reads_gives : (m : List ℕ) (k : ℕ) (h : Site) (b : Broker) (y : ℕ) (q : Plan) → Reads h b y q → list_any (is_given m k) q.changes ≡ false
reads_gives m k h b y q Reads.NothingToRead = refl
reads_gives m k h b y q (Reads.Forwards i e next out) = refl
reads_gives m k h b y q (Reads.Skips i e next other) = refl
reads_gives m k h b y q (Reads.Responds i e id source next of is) = refl
reads_gives m k h b y q (Reads.Counts i e id answer u u' next is heard) = refl
reads_gives m k h b y q (Reads.AsksAgain i e id answer u u' next is heard) = refl
reads_gives m k h b y q (Reads.Completes i e id answer u u' next is heard) = refl
reads_gives m k h b y q (Reads.CreatesAt i j e n remote next is named) = refl
reads_gives m k h b y q (Reads.ActsOnUpdate i j e n remote v ws next is named after) = refl

pub snaps_gives : (m : List ℕ) (k : ℕ) (h : Site) (b : Broker) (q : Plan) → Snaps h b q → list_any (is_given m k) q.changes ≡ false
snaps_gives m k h b q Snaps.NothingToAsk = refl
snaps_gives m k h b q (Snaps.Asks any none) = refl

pub seeks_gives : (m : List ℕ) (k : ℕ) (h : Site) (b : Broker) (n : List ℕ) (to : Option Position) (q : Plan) → Seeks h b n to q → list_any (is_given m k) q.changes ≡ false
seeks_gives m k h b n to q Seeks.NothingToSeek = refl
seeks_gives m k h b n to q (Seeks.SeeksTo v i ws named at after) = refl

pub restart_gives : (m : List ℕ) (k : ℕ) → list_any (is_given m k) restart.changes ≡ false
unfolding restart
restart_gives m k = refl

no_more : (c : Bool) → (c || false) ≡ true → c ≡ true
no_more true h = refl
no_more false h = absurd (false≢true h)

offers_open : (m : List ℕ) (k : ℕ) (h : Site) (b : Broker) (n : List ℕ) (q : Plan) → Offers h b n q → list_any (is_given m k) q.changes ≡ true → IsOpen b m k
offers_open m k h b n q Offers.NothingToOffer g = absurd (false≢true g)
offers_open m k h b n q (Offers.SkipsMarker v i e ws due is after) g = absurd (false≢true g)
offers_open m k h b n q (Offers.Caches v i j e c ws due is after) g = absurd (false≢true g)
offers_open m k h b n q (Offers.Gives v i at e due is picked) g =
    let it = no_more (bytes_eq v.name m && (i == k)) g in
    let name : v.name ≡ m = (bytes_eq-Decides v.name m).0 (left (bytes_eq v.name m) (i == k) it) in
    let index : i ≡ k = eqb-true i k (right (bytes_eq v.name m) (i == k) it) in
    let same : n ≡ m = sym (found_name b.subs n v due.0) ∙ name in
    let least = least_due_is v 0 (length b.entries) i due.1 in
    (v, subst (λ (l : List ℕ). sub_named b.subs l ≡ Some v) same due.0, subst (λ (l : ℕ). has v.cursor l ≡ false) index (undue (has v.cursor i) _ least.due))

gives_open : (m : List ℕ) (k : ℕ) (s : Setup) (w : World) (p : Planned) → Shape s w p → list_any (is_given m k) p.plan.changes ≡ true → IsOpen (topic_at s w p.topic p.cluster) m k
gives_open m k s w p (Shape.Offer t x n plan within offers) g = offers_open m k _ _ _ plan offers g
gives_open m k s w p (Shape.Idle t x within) g = absurd (false≢true g)
gives_open m k s w p (Shape.Empty t x l within next) g = absurd (false≢true g)
gives_open m k s w p (Shape.Serve x c q plan within next served) g = absurd (unlike _ g (served_gives m k _ _ c q plan served))
gives_open m k s w p (Shape.Drop x c v within at) g = absurd (false≢true g)
gives_open m k s w p (Shape.Reset t x y within remote) g = absurd (false≢true g)
gives_open m k s w p (Shape.Read t x y plan within reads) g = absurd (unlike _ g (reads_gives m k _ _ y plan reads))
gives_open m k s w p (Shape.Take t x y q plan within next taken) g =
    absurd (unlike _ g (fated_gives m k s.per_ledger _ (λ b. Taken (site s t y) b x q) (closes x) plan (λ b p taken. taken_gives m k (site s t y) b x q p taken) refl taken))
gives_open m k s w p (Shape.Receipt t x y q plan within next answered) g =
    absurd (unlike _ g (fated_gives m k s.per_ledger _ (λ b. Answered b y q) (quiet_plan []) plan (λ b p answered. answered_gives m k b y q p answered) refl answered))
gives_open m k s w p (Shape.Snap t x plan within snaps) g = absurd (unlike _ g (snaps_gives m k _ _ plan snaps))
gives_open m k s w p (Shape.Seek t x n to plan within seeks) g = absurd (unlike _ g (seeks_gives m k _ _ _ to plan seeks))
gives_open m k s w p (Shape.Restart t x within) g = absurd (unlike _ g (restart_gives m k))

pub planned_open : (m : List ℕ) (k : ℕ) (s : Setup) (w : World) (t y : ℕ) (o : Option Planned) → HasShape s w o → gives s t y m k o ≡ true → IsOpen (topic_at s w t y) m k
planned_open m k s w t y None shape g = absurd (false≢true g)
planned_open m k s w t y (Some p) shape g =
    subst (λ (z : ℕ). IsOpen (broker_at w z) m k) (eqb-true _ _ (left (is_at s t y p) (list_any (is_given m k) p.plan.changes) g))
    (gives_open m k s w p shape (right (is_at s t y p) (list_any (is_given m k) p.plan.changes) g))

-- what a subscription that has passed over j lacks at or below j is not meant for a
pub open_apart : (b : Broker) (n : List ℕ) (a j i : ℕ) (f : Entry) → HasUpdatedTo b n a j → IsOpen b n i → IsEntry b i f → i ≤ j → meant_for a f ≡ false
open_apart b n a j i f h lacks at le =
    is_false (meant_for a f) (λ meant.
    let sub : lacks.0 ≡ h.sub = same_Some _ _ (sym lacks.1 ∙ h.here) in
    let has_it = h.passed i f le at (passes_meant (is_data f.content) (meant_for a f) meant) in
    unlike (has h.sub.cursor i) has_it (subst (λ (v : Subscription). has v.cursor i ≡ false) sub lacks.2))

pub not_again : (s : Setup) (w : World) (t y : ℕ) (n : List ℕ) (a j : ℕ) → HasUpdatedTo (topic_at s w t y) n a j → NotAgain s w t y n a j
not_again s w t y n a j h e i f g at le =
    open_apart (topic_at s w t y) n a j i f h (planned_open n i s w t y (planned s w e) (planned_shape s w e) g) at le
