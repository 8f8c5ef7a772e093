-- What a replicator reads, and what is done with it.
use Rattle.std.proofs.Common.{◌≡◌, ◌≢◌, ℕ, ◌+◌, ◌<◌, ◌≤◌, ◌^◌, Bool, true, false, List, [], ◌∷◌, length, refl, sym, ◌∙◌, ap, subst, arith}
use Rattle.std.specs.Prelude.{◌==◌, nat_lt, not, if◌then◌else◌, Option, Some, None, Result, OnOk, slice_get}
use Rattle.std.proofs.lemmas.Bool.Decides.{nat_tests}
use Rattle.geo_base.specs.declared.change.Change.TheVariants as change
use Rattle.geo_base.specs.declared.entry.Content.{Content}
use Rattle.geo_base.specs.declared.entry.Content.TheVariants as content
use Rattle.geo_base.specs.declared.entry.Entry.{Entry}
use Rattle.geo_base.specs.declared.marker.Marker.{Marker}
use Rattle.geo_base.specs.declared.marker.Marker.TheVariants as marker
use Rattle.geo_base.specs.Broker.{Broker, Site, replicator_at, sub_named}
use Rattle.geo_base.specs.Forwarding.{is_remote}
use Rattle.geo_base.specs.Markers.{read_content, read_marker}
use Rattle.geo_base.specs.Plan.{Plan, idle_plan, unless_found}
use Rattle.geo_base.specs.Reading.{forwards, read}
use Rattle.geo_base.specs.Sizes.{payload_size}
use Rattle.geo_base.specs.Updating.{handled, updated_indexes, update_writes}
use Rattle.replicator.specs.declared.reading.ReadOut.{ReadOut}
use Rattle.replicator.specs.declared.reading.ReadOut.TheVariants as reads
use Rattle.replicator.specs.Events.{plan_of_read}
use Rattle.replicator.specs.Reading.{IsMarked, IsMarkerOf, ReadFits, read_out}
use Rattle.replicator.specs.Sending.{Sending, replicator_with, sending_of}
use Rattle.replicator.proofs.Events.{read_as_answered}
use Rattle.broker_state.specs.Plan.{IsEmptyPlan, PlanView, idle_view}
use Rattle.broker_state.specs.Room.{HasRoom, Room}
use Rattle.broker_plans.specs.Prepared.{IsPrepared}
use Rattle.broker_plans.specs.Storable.{HasText, IsStorable, IsWritable, first_text}
use Rattle.broker_plans.proofs.Packets.{stored_at}
use Rattle.broker_tasks.specs.Reading.{HasMarker, IsRead, IsReadOut, IsReading}
use Rattle.broker_tasks.specs.declared.act.ReadAct.{ReadAct}
use Rattle.broker_tasks.specs.declared.act.ReadAct.TheVariants as act
use Rattle.broker_tasks.proofs.Plans.{idle}
use Rattle.geo_base.proofs.Bools.{both_true}

-- ---- the replicator that reads

reading_of : (h : Site) (b : Broker) (y i : ℕ) → is_remote h y ≡ true → y < length b.replicators → (replicator_at b y).next ≤ i → i + 1 < 2 ^ 64 → IsReading h b y i
reading_of h b y i remote among next fits =
    let is = both_true (nat_lt y (length h.clusters)) (not (y == h.own)) remote in
    record { other = grind (arith, nat_tests, is.1); cluster = grind (arith, nat_tests, is.0); replicator = among; next = next; fits = fits }

read_fits : (h : Site) (b : Broker) (y : ℕ) (out : ReadOut) → is_remote h y ≡ true → y < length b.replicators → ReadFits y (replicator_at b y).next b.entries out → IsReadOut h b y out
read_fits h b y reads.Idle remote among fits = tt
read_fits h b y (reads.Skip i) remote among fits = reading_of h b y i remote among fits.sent fits.fits
read_fits h b y (reads.Mark i) remote among fits = (reading_of h b y i remote among fits.0.sent fits.0.fits, fits.1)
read_fits h b y (reads.Send i number) remote among fits = (reading_of h b y i remote among fits.0.sent fits.0.fits, fits.0.within, fits.1)

-- the replicator that the broker keeps is the one that is asked
pub fits : (h : Site) (b : Broker) (y z : ℕ) (s : Sending) (es : List Entry) (out : ReadOut) → is_remote h y ≡ true → y < length b.replicators → z ≡ y → s ≡ sending_of (replicator_at b y) → es ≡ b.entries → ReadFits z s.next es out
    → IsReadOut h b y out
fits h b y z s es out remote among to same there is =
    read_fits h b y out remote among
    (subst (λ (v : ℕ). ReadFits v (replicator_at b y).next b.entries out) to
    (subst (λ (v : Sending). ReadFits z v.next b.entries out) same (subst (λ (v : List Entry). ReadFits z s.next v out) there is)))

pub as_read : (h : Site) (b : Broker) (y own z : ℕ) (s : Sending) (cursor : List ℕ) (es : List Entry) (out : ReadOut) → is_remote h y ≡ true → own ≡ h.own → z ≡ y → s ≡ sending_of (replicator_at b y)
    → cursor ≡ (replicator_at b y).cursor → es ≡ b.entries → out ≡ read_out own z (replicator_with cursor s) es → read h b y ≡ plan_of_read h b y out
as_read h b y own z s cursor es out remote from to same acked there is =
    read_as_answered h b y remote ∙ ap (λ (o : ReadOut). plan_of_read h b y o) (sym (is ∙ rw (from, to, same, acked, there) refl))

-- ---- what is read, as the plan that it is

pub not_remote : (h : Site) (b : Broker) (y : ℕ) (p : PlanView) → is_remote h y ≡ false → p ≡ idle_view → IsPrepared h b (read h b y) p
unfolding read
not_remote h b y p other is = rw other (idle h b p is)

pub nothing_read : (h : Site) (b : Broker) (y : ℕ) (out : ReadOut) (p : PlanView) → read h b y ≡ plan_of_read h b y out → out ≡ reads.Idle → p ≡ idle_view → IsPrepared h b (read h b y) p
nothing_read h b y out p told none is =
    subst (λ (q : Plan). IsPrepared h b q p) (sym (told ∙ ap (λ (o : ReadOut). plan_of_read h b y o) none)) (idle h b p is)

pub read_prepared : {E : Type 0} (h : Site) (b : Broker) (y : ℕ) (out now : ReadOut) (p : PlanView) (r : Result (Unit {0}) E) → read h b y ≡ plan_of_read h b y out → out ≡ now
    → OnOk r (IsPrepared h b (plan_of_read h b y now) p) → OnOk r (IsPrepared h b (read h b y) p)
read_prepared {E} h b y out now p r told is prepared =
    subst (λ (q : Plan). OnOk r (IsPrepared h b q p)) (sym (told ∙ ap (λ (o : ReadOut). plan_of_read h b y o) is)) prepared

marked : (h : Site) (b : Broker) (y i : ℕ) (o : Option Entry) (m : Marker) → HasMarker o m → unless_found idle_plan o (λ (e : Entry). read_content h b y i e.content) ≡ read_marker h b y i m
marked h b y i None m has = absurd has
marked h b y i (Some e) m has = ap (λ (c : Content). read_content h b y i c) has

pub looked_at : (h : Site) (b : Broker) (room : Room) (y i : ℕ) (m : Marker) (a : ReadAct) (q : PlanView) → HasMarker (slice_get b.entries i) m → IsRead h b room y i (read_marker h b y i m) a q
    → IsRead h b room y i (plan_of_read h b y (reads.Mark i)) a q
looked_at h b room y i m a q has is = subst (λ (p : Plan). IsRead h b room y i p a q) (sym (marked h b y i (slice_get b.entries i) m has)) is

-- an entry that is sent, where room was made before
pub sent_from : (h g : Site) (b c : Broker) (y i number : ℕ) (e : Entry) (q : PlanView) → g ≡ h → c ≡ b → slice_get c.entries i ≡ Some e → IsPrepared g c (forwards g y (replicator_at c y) i e) q
    → IsPrepared h b (plan_of_read h b y (reads.Send i number)) q
sent_from h g b c y i number e q site same at prepared =
    subst (λ (f : Site). IsPrepared f b (plan_of_read f b y (reads.Send i number)) q) site
    (subst (λ (d : Broker). IsPrepared g d (plan_of_read g d y (reads.Send i number)) q) same
    (subst (λ (p : Plan). IsPrepared g c p q) (sym (ap (λ (o : Option Entry). unless_found idle_plan o (λ (e : Entry). forwards g y (replicator_at c y) i e)) at)) prepared))

-- ---- the text of a marker that another cluster stored first is no longer than an entry

text_within : (names : List (List ℕ)) (m : Marker) (payload : List ℕ) → HasText (content.Marked m) payload → length (first_text m) ≤ payload_size names (content.Marked m) payload
text_within names (marker.Request id source) [] h = omega arith
text_within names (marker.Response id answer) [] h = omega arith
text_within names (marker.Snapshot id local remote) [] h = omega arith
text_within names (marker.Update n remote) [] h = omega arith
text_within names m (b ∷ bs) h = h

limit_of_others : (n : ℕ) (t : Bool) → t ≡ false → n ≤ (if t then 5242880 + 1024 else 5242880) → n ≤ 5242880
limit_of_others n true is h = absurd cc
limit_of_others n false is h = h

short_text : (h : Site) (y : ℕ) (e : Entry) (m : Marker) → IsStorable h e → e.ident.origin ≡ y → y ≢ h.own → e.content ≡ content.Marked m → length (first_text m) ≤ 5242880
short_text h y e m is from other marker =
    let apart : (e.ident.origin == h.own) ≡ false = rw from (grind (arith, nat_tests, other)) in
    let has : HasText (content.Marked m) e.payload = subst (λ (c : Content). HasText c e.payload) marker is.read.marker in
    let size = ap (λ (c : Content). payload_size h.clusters c e.payload) marker in
    omega (arith, text_within h.clusters m e.payload has, size, limit_of_others _ (e.ident.origin == h.own) apart is.size)

-- ---- the marker that was read

pub no_entry : (y : ℕ) (o : Option Entry) → IsMarkerOf y o → o ≡ None → ⊥
no_entry y None is none = is
no_entry y (Some e) is none = absurd cc

pub no_message : (y : ℕ) (o : Option Entry) (e : Entry) → IsMarkerOf y o → o ≡ Some e → e.content ≡ content.Data → ⊥
no_message y o e is at message = subst (λ (c : Content). IsMarked c) message (subst (λ (p : Option Entry). IsMarkerOf y p) at is).1

pub no_unread : (y : ℕ) (o : Option Entry) (e : Entry) (k : ℕ) → IsMarkerOf y o → o ≡ Some e → e.content ≡ content.Unread k → ⊥
no_unread y o e k is at unread = subst (λ (c : Content). IsMarked c) unread (subst (λ (p : Option Entry). IsMarkerOf y p) at is).1

pub marker_there : (o : Option Entry) (e : Entry) (m : Marker) → o ≡ Some e → e.content ≡ content.Marked m → HasMarker o m
marker_there o e m at marker = subst (λ (p : Option Entry). HasMarker p m) (sym at) marker

short_at : (h : Site) (b : Broker) (y i : ℕ) (o : Option Entry) (m : Marker) → slice_get b.entries i ≡ o → IsReading h b y i → IsMarkerOf y o → IsWritable h b → HasMarker o m → length (first_text m) ≤ 5242880
short_at h b y i None m at reading is kept has = absurd has
short_at h b y i (Some e) m at reading is kept has = short_text h y e m (stored_at h b.entries i e kept.entries at) is.0 reading.other has

-- its text is no longer than an entry
pub short_marker : (h : Site) (b : Broker) (y i : ℕ) (m : Marker) → IsReading h b y i → IsMarkerOf y (slice_get b.entries i) → IsWritable h b → HasMarker (slice_get b.entries i) m → length (first_text m) ≤ 5242880
short_marker h b y i m reading is kept has = short_at h b y i (slice_get b.entries i) m refl reading is kept has

-- ---- after room was made

-- what was read there is what is read here, where site and broker are the same
there : (h g : Site) (b c : Broker) (room : Room) (y i : ℕ) (a x : ReadAct) (q : PlanView) → g ≡ h → c ≡ b → a ≡ x → IsRead g c room y i (plan_of_read g c y (reads.Mark i)) a q
    → IsRead h b room y i (plan_of_read h b y (reads.Mark i)) x q
there h g b c room y i a x q site same is read =
    subst (λ (v : ReadAct). IsRead h b room y i (plan_of_read h b y (reads.Mark i)) v q) is
    (subst (λ (f : Site). IsRead f b room y i (plan_of_read f b y (reads.Mark i)) a q) site
    (subst (λ (d : Broker). IsRead g d room y i (plan_of_read g d y (reads.Mark i)) a q) same read))

pub ready_from : (h g : Site) (b c : Broker) (room : Room) (y i : ℕ) (a : ReadAct) (q : PlanView) → g ≡ h → c ≡ b → a ≡ act.Ready → IsRead g c room y i (plan_of_read g c y (reads.Mark i)) a q
    → IsPrepared h b (plan_of_read h b y (reads.Mark i)) q
ready_from h g b c room y i a q site same is read = (there h g b c room y i a act.Ready q site same is read).0

pub ready_room : (h : Site) (c : Broker) (room : Room) (y i : ℕ) (a : ReadAct) (q : PlanView) → a ≡ act.Ready → IsRead h c room y i (plan_of_read h c y (reads.Mark i)) a q → HasRoom room q
ready_room h c room y i a q is read = (there h h c c room y i a act.Ready q refl refl is read).1

pub acknowledges_empty : (h : Site) (c : Broker) (room : Room) (y i : ℕ) (a : ReadAct) (n : List ℕ) (j : ℕ) (q : PlanView) → a ≡ act.Acknowledges n j → IsRead h c room y i (plan_of_read h c y (reads.Mark i)) a q → IsEmptyPlan q
acknowledges_empty h c room y i a n j q is read = (there h h c c room y i a (act.Acknowledges n j) q refl refl is read).1

pub acknowledges_within : (h : Site) (c : Broker) (room : Room) (y i : ℕ) (a : ReadAct) (n : List ℕ) (j : ℕ) (q : PlanView) → a ≡ act.Acknowledges n j → IsRead h c room y i (plan_of_read h c y (reads.Mark i)) a q
    → j < length c.entries
acknowledges_within h c room y i a n j q is read = (there h h c c room y i a (act.Acknowledges n j) q refl refl is read).0.within

-- m is the plan before the update was prepared, q after it
pub acknowledges_from : (h g : Site) (b c : Broker) (room : Room) (y i : ℕ) (a : ReadAct) (n : List ℕ) (j : ℕ) (m q : PlanView) → g ≡ h → c ≡ b → a ≡ act.Acknowledges n j
    → IsRead g c room y i (plan_of_read g c y (reads.Mark i)) a m
    → IsPrepared g c (handled y i (update_writes g c n (updated_indexes y 0 (j + 1) c.entries) (sub_named c.subs n)) (change.Acked n ∷ [])) q
    → IsPrepared h b (plan_of_read h b y (reads.Mark i)) q
acknowledges_from h g b c room y i a n j m q site same is read prepared =
    let told = (there g g c c room y i a (act.Acknowledges n j) m refl refl is read).0 in
    subst (λ (f : Site). IsPrepared f b (plan_of_read f b y (reads.Mark i)) q) site
    (subst (λ (d : Broker). IsPrepared g d (plan_of_read g d y (reads.Mark i)) q) same (subst (λ (p : Plan). IsPrepared g c p q) (sym told.plan) prepared))
