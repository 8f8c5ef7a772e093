-- What an event of a broker leaves of client c's publishes, where it serves no packet of c: no entry of c's, no session of c, no receipt to c.
use Rattle.std.proofs.Common.{◌≡◌, ◌==◌, ℕ, zero, suc, ◌<◌, map, Bool, true, false, List, [], ◌∷◌, length, refl, sym, subst, ◌∙◌}
use Rattle.std.specs.Prelude.{Option, Some, None, ◌&&◌, is_some, slice_index_or}
use Rattle.std.specs.Str.{bytes_eq}
use Rattle.std.proofs.lemmas.Bool.{eqb-true, false≢true}
use Rattle.std.proofs.lemmas.Option.{none-some, same_Some}
use Rattle.std.proofs.lemmas.Slice.Eq.{bytes_eq-Decides}
use Rattle.world_laws.proofs.Types.{Change, Entry, Frame, Ident, Out, Packet, Peer, Position, Session, Write}
use Rattle.world_laws.proofs.Types.change
use Rattle.world_laws.proofs.Types.frame
use Rattle.world_laws.proofs.Types.peer
use Rattle.world_laws.proofs.Types.write
use Rattle.geo_base.specs.Broker.{Broker, Site, changed, session_at, sub_named, written}
use Rattle.geo_base.specs.Entry.{marker_producer, same_stream, with_origin}
use Rattle.geo_base.specs.Name.{is_name}
use Rattle.geo_base.specs.Plan.{Plan, all_changed, all_written, done}
use Rattle.geo_base.specs.Setup.{Declared, Setup, declared_at}
use Rattle.geo_base.specs.Subscription.{Subscription}
use Rattle.geo_base.specs.World.{site}
use Rattle.world_laws.specs.Publishing.{ident_of}
use Rattle.world_laws.proofs.Counters.OwnNumbers.{no_name}
use Rattle.world_laws.proofs.Induction.Frames.{at_map, at_set}
use Rattle.world_laws.proofs.Published.InTurn.{IsOther}
use Rattle.world_laws.proofs.Published.OwnMessages.{Publishes, sent_is}
use Rattle.world_laws.proofs.Replicating.Effects.{Each, each_both}
use Rattle.world_laws.proofs.TopicOrder.Added.{appended, appended_both}
use Rattle.world_laws.proofs.Walks.Shapes.{Answered, Fated, IsReply, Offers, Reads, Seeks, Served, Snaps, Taken, Updates}
use Rattle.world_laws.proofs.Walks.Walk.{on_if}

-- ---- sessions of c, whose numbers have W

abbrev pub SessionsIn : ℕ → (ℕ → Type 0) → Broker → Type 0
SessionsIn c W b = (v : Session) → session_at b c ≡ Some v → W v.number

abbrev pub KeepsSession : ℕ → (ℕ → Type 0) → Change → Type 0
KeepsSession c W (change.Client z (Some v)) = z ≡ c → W v.number
KeepsSession c W ch = Unit {0}

changed_in : (c : ℕ) (W : ℕ → Type 0) (b : Broker) (ch : Change) → KeepsSession c W ch → SessionsIn c W b → SessionsIn c W (changed b ch)
changed_in c W b (change.Client z (Some v)) g h =
    at_set (λ (o : Option Session). (u : Session) → o ≡ Some u → W u.number) b.sessions z c (Some v) None (λ same u is. subst (λ (x : Session). W x.number) (same_Some v u is) (g same)) h
changed_in c W b (change.Client z None) g h = at_set (λ (o : Option Session). (u : Session) → o ≡ Some u → W u.number) b.sessions z c None None (λ same u is. absurd (none-some u is)) h
changed_in c W b change.Forget g h = at_map (λ (o : Option Session). (u : Session) → o ≡ Some u → W u.number) (λ s. None) (λ o p u is. absurd (none-some u is)) b.sessions c None (λ u is. absurd (none-some u is)) h
changed_in c W b (change.Receiver x r) g h = h
changed_in c W b ch g h = h

all_changed_in : (c : ℕ) (W : ℕ → Type 0) (b : Broker) (cs : List Change) → Each (KeepsSession c W) cs → SessionsIn c W b → SessionsIn c W (all_changed b cs)
all_changed_in c W b [] g h = h
all_changed_in c W b (x ∷ xs) g h = all_changed_in c W (changed b x) xs g.1 (changed_in c W b x g.0 h)

all_written_in : (c per : ℕ) (W : ℕ → Type 0) (b : Broker) (ws : List Write) → SessionsIn c W b → SessionsIn c W (all_written per b ws)
all_written_in c per W b [] h = h
all_written_in c per W b (w ∷ ws) h = all_written_in c per W (written per b w) ws (one w)
  where
    one : (w : Write) → SessionsIn c W (written per b w)
    one (write.Create n kind replicated latest) = on_if (SessionsIn c W) (is_some (sub_named b.subs n)) _ _ h h
    one w = h

pub done_in : (c per : ℕ) (W : ℕ → Type 0) (b : Broker) (q : Plan) → Each (KeepsSession c W) q.changes → SessionsIn c W b → SessionsIn c W (done per b q)
done_in c per W b q g h = all_changed_in c W (all_written per b q.writes) q.changes g (all_written_in c per W b q.writes h)

-- a stop leaves none
none_at : (W : ℕ → Type 0) (ss : List (Option Session)) (c : ℕ) (v : Session) → slice_index_or (map (λ (s : Option Session). (λ (o : Option Session). o) None) ss) c None ≡ Some v → W v.number
none_at W [] c v is = absurd (none-some v is)
none_at W (s ∷ ss) zero v is = absurd (none-some v is)
none_at W (s ∷ ss) (suc c) v is = none_at W ss c v is

pub forgotten_in : (c : ℕ) (W : ℕ → Type 0) (b : Broker) → SessionsIn c W (changed b change.Forget)
forgotten_in c W b v is = none_at W b.sessions c v is

-- ---- what is left alone

abbrev pub NoReceiptTo : ℕ → Frame → Peer → Type 0
NoReceiptTo c (frame.SendReceipt id q o) (peer.Client z) = z ≡ c → ⊥
NoReceiptTo c f q = Unit {0}

pub record Aside (d : Declared) (c : ℕ) (W : ℕ → Type 0) (q : Plan) : Type 0 where
  pub others : Each (IsOther d) (appended q.writes)
  pub keeps : Each (KeepsSession c W) q.changes
  pub quiet : Each (λ (o : Out). NoReceiptTo c o.frame o.to) q.sent

-- a marker is not named like a client
marker_other : (d : Declared) → is_name d.name ≡ true → (o : Bool) → (o && bytes_eq marker_producer d.name) ≡ false
marker_other d named false = refl
marker_other d named true = by (bytes_eq marker_producer d.name) refl
  where
    by : (b : Bool) → bytes_eq marker_producer d.name ≡ b → b ≡ false
    by false is = refl
    by true is = absurd (false≢true (sym (no_name d.name named) ∙ (bytes_eq-Decides d.name marker_producer).1 (sym ((bytes_eq-Decides marker_producer d.name).0 is))))

-- what another cluster stored first
foreign_other : (d : Declared) (z : ℕ) (e : Entry) → (z ≡ d.cluster → ⊥) → IsOther d (with_origin z e)
foreign_other d z e other = by (z == d.cluster) refl
  where
    by : (b : Bool) → (z == d.cluster) ≡ b → (b && bytes_eq e.ident.producer d.name) ≡ false
    by false is = refl
    by true is = absurd (other (eqb-true z d.cluster is))

pub updates_aside : (d : Declared) (h : Site) (b : Broker) (v : Subscription) (ws : List Write) → is_name d.name ≡ true → Updates h b v ws → Each (IsOther d) (appended ws)
updates_aside d h b v ws named Updates.NoUpdate = tt
updates_aside d h b v ws named (Updates.Update cut replicated passed) = (marker_other d named (h.own == d.cluster), tt)

pub reply_quiet_to : (c z : ℕ) (f : Frame) → IsReply f → NoReceiptTo c f (peer.Client z)
reply_quiet_to c z (frame.ProducerSuccess request n) h = tt
reply_quiet_to c z (frame.Error request code) h = tt
reply_quiet_to c z (frame.Success request) h = tt
reply_quiet_to c z (frame.SendError id seq code) h = tt
reply_quiet_to c z frame.Pong h = tt
reply_quiet_to c z f h = absurd h

-- a packet of another client
pub served_aside : (s : Setup) (c z x : ℕ) (W : ℕ → Type 0) (b : Broker) (p : Packet) (q : Plan) → is_name (declared_at s c).name ≡ true → (z ≡ c → ⊥) → (z < length s.clients → bytes_eq (declared_at s z).name (declared_at s c).name ≡ false)
    → Publishes s z x p.session p.frame → Served (site s (declared_at s z).topic x) b z p q → Aside (declared_at s c) c W q
served_aside s c z x W b p q named other apart pubs Served.Ignores = record { others = tt; keeps = tt; quiet = tt }
served_aside s c z x W b p q named other apart pubs Served.Disconnects = record { others = tt; keeps = (tt, (tt, tt)); quiet = tt }
served_aside s c z x W b p q named other apart pubs (Served.Connects v is new) = record { others = tt; keeps = (tt, ((λ same. absurd (other same)), tt)); quiet = (tt, tt) }
served_aside s c z x W b p q named other apart pubs (Served.Answers v f at) = record { others = tt; keeps = tt; quiet = (reply_quiet_to c z f at.1, tt) }
served_aside s c z x W b p q named other apart pubs (Served.ChangesProducers v ps f at) = record { others = tt; keeps = ((λ same. absurd (other same)), tt); quiet = (reply_quiet_to c z f at.1, tt) }
served_aside s c z x W b p q named other apart pubs (Served.Stores v id seq source e at sound new) =
    let d = declared_at s c in let sent = sent_is s z x id seq p.session source e p.frame (site s (declared_at s z).topic x) sound.1.0 sound.0 sound.1.2 pubs in
    let N : Bool → Type 0 = λ t. (((declared_at s z).cluster == d.cluster) && t) ≡ false in
    let I : Ident → Type 0 = λ i. same_stream i (ident_of d 0) ≡ false in
    record { others = (subst I (sym sent.named) (subst N (sym (apart sent.declared)) (and_no ((declared_at s z).cluster == d.cluster))), tt); keeps = tt; quiet = (other, tt) }
  where
    and_no : (t : Bool) → (t && false) ≡ false
    and_no true = refl
    and_no false = refl
served_aside s c z x W b p q named other apart pubs (Served.Repeats v id seq source e at sound old) = record { others = tt; keeps = tt; quiet = (other, tt) }
served_aside s c z x W b p q named other apart pubs (Served.Creates v topic n kind id request consumer earliest replicated at is may absent) = record { others = tt; keeps = (tt, tt); quiet = (tt, tt) }
served_aside s c z x W b p q named other apart pubs (Served.Joins v topic n kind id request consumer earliest replicated u at is may there free same) = record { others = tt; keeps = (tt, tt); quiet = (tt, tt) }
served_aside s c z x W b p q named other apart pubs (Served.Alters v topic n kind id request consumer earliest replicated u at is may there free kinds) = record { others = tt; keeps = (tt, tt); quiet = (tt, tt) }
served_aside s c z x W b p q named other apart pubs (Served.Permits v id permits u at is by) = record { others = tt; keeps = (tt, tt); quiet = tt }
served_aside s c z x W b p q named other apart pubs (Served.Acknowledges v id kind ps u i is ws at sent by of after) =
    record { others = updates_aside (declared_at s c) (site s (declared_at s z).topic x) b _ ws named after; keeps = (tt, tt); quiet = tt }
served_aside s c z x W b p q named other apart pubs (Served.Unsubscribes v id request u at is by last) = record { others = tt; keeps = tt; quiet = (tt, tt) }
served_aside s c z x W b p q named other apart pubs (Served.ClosesConsumer v id request u at is by) = record { others = tt; keeps = (tt, tt); quiet = (tt, tt) }

-- an event that is no serve
pub taken_aside : (d : Declared) (c : ℕ) (W : ℕ → Type 0) (h : Site) (b : Broker) (z : ℕ) (p : Packet) (q : Plan) → (z ≡ d.cluster → ⊥) → Taken h b z p q → Aside d c W q
taken_aside d c W h b z p q other (Taken.Stores id seq source e is at may new) = record { others = (foreign_other d z e other, tt); keeps = tt; quiet = (tt, tt) }
taken_aside d c W h b z p q other (Taken.Unreadable is) = record { others = tt; keeps = (tt, tt); quiet = tt }
taken_aside d c W h b z p q other (Taken.Opens topic id request name is opening) = record { others = tt; keeps = (tt, tt); quiet = (tt, tt) }
taken_aside d c W h b z p q other (Taken.Discards away shut) = record { others = tt; keeps = tt; quiet = tt }
taken_aside d c W h b z p q other (Taken.Refuses away at may) = record { others = tt; keeps = (tt, tt); quiet = tt }
taken_aside d c W h b z p q other (Taken.Repeats id seq source e is at may old) = record { others = tt; keeps = tt; quiet = (tt, tt) }

pub answered_aside : (d : Declared) (c : ℕ) (W : ℕ → Type 0) (b : Broker) (y : ℕ) (p : Packet) (q : Plan) → Answered b y p q → Aside d c W q
answered_aside d c W b y p q (Answered.Stale other) = record { others = tt; keeps = tt; quiet = tt }
answered_aside d c W b y p q (Answered.Other at other) = record { others = tt; keeps = tt; quiet = tt }
answered_aside d c W b y p q (Answered.Opened request name at is state) = record { others = tt; keeps = (tt, tt); quiet = tt }
answered_aside d c W b y p q (Answered.OpenBefore request name at is state) = record { others = tt; keeps = tt; quiet = tt }
answered_aside d c W b y p q (Answered.ClosedBefore request name at is state) = record { others = tt; keeps = tt; quiet = tt }
answered_aside d c W b y p q (Answered.Received id n i position at is pending) = record { others = tt; keeps = (tt, tt); quiet = tt }
answered_aside d c W b y p q (Answered.ReceivedBefore id n position at is pending) = record { others = tt; keeps = tt; quiet = tt }

pub fated_aside : (d : Declared) (c : ℕ) (W : ℕ → Type 0) (per : ℕ) (b : Broker) (Acts : Broker → Plan → Type 0) (lost q : Plan) → ((u : Broker) (r : Plan) → Acts u r → Aside d c W r) → Aside d c W lost → Fated per b Acts lost q → Aside d c W q
fated_aside d c W per b Acts lost q acts gone (Fated.Once r k) = acts b r k
fated_aside d c W per b Acts lost q acts gone Fated.Lost = gone
fated_aside d c W per b Acts lost q acts gone (Fated.Twice r r' k k') =
    let x = acts b r k in let y = acts _ r' k' in record {
      others = subst (Each (IsOther d)) (sym (appended_both r.writes r'.writes)) (each_both (IsOther d) (appended r.writes) (appended r'.writes) x.others y.others);
      keeps = each_both (KeepsSession c W) r.changes r'.changes x.keeps y.keeps;
      quiet = each_both (λ (o : Out). NoReceiptTo c o.frame o.to) r.sent r'.sent x.quiet y.quiet;
    }

pub reads_aside : (d : Declared) (c : ℕ) (W : ℕ → Type 0) (h : Site) (b : Broker) (y : ℕ) (q : Plan) → is_name d.name ≡ true → Reads h b y q → Aside d c W q
reads_aside d c W h b y q named Reads.NothingToRead = record { others = tt; keeps = tt; quiet = tt }
reads_aside d c W h b y q named (Reads.Forwards i e next out) = record { others = tt; keeps = (tt, tt); quiet = (tt, tt) }
reads_aside d c W h b y q named (Reads.Skips i e next other) = record { others = tt; keeps = (tt, tt); quiet = tt }
reads_aside d c W h b y q named (Reads.Responds i e id source next of is) = record { others = (marker_other d named (h.own == d.cluster), tt); keeps = (tt, tt); quiet = tt }
reads_aside d c W h b y q named (Reads.Counts i e id answer u u' next is heard) = record { others = tt; keeps = (tt, (tt, tt)); quiet = tt }
reads_aside d c W h b y q named (Reads.AsksAgain i e id answer u u' next is heard) = record { others = (marker_other d named (h.own == d.cluster), tt); keeps = (tt, (tt, tt)); quiet = tt }
reads_aside d c W h b y q named (Reads.Completes i e id answer u u' next is heard) = record { others = (marker_other d named (h.own == d.cluster), tt); keeps = (tt, (tt, tt)); quiet = tt }
reads_aside d c W h b y q named (Reads.CreatesAt i j e n remote next is absent) = record { others = tt; keeps = (tt, (tt, tt)); quiet = tt }
reads_aside d c W h b y q named (Reads.ActsOnUpdate i j e n remote v ws next is there after) = record {
  others = subst (Each (IsOther d)) (sym (appended_both ws (write.ReplicatorAck y i ∷ []))) (each_both (IsOther d) (appended ws) [] (updates_aside d h b _ ws named after) tt);
  keeps = (tt, (tt, tt));
  quiet = tt;
}

pub snaps_aside : (d : Declared) (c : ℕ) (W : ℕ → Type 0) (h : Site) (b : Broker) (q : Plan) → is_name d.name ≡ true → Snaps h b q → Aside d c W q
snaps_aside d c W h b q named Snaps.NothingToAsk = record { others = tt; keeps = tt; quiet = tt }
snaps_aside d c W h b q named (Snaps.Asks any none) = record { others = (marker_other d named (h.own == d.cluster), tt); keeps = (tt, tt); quiet = tt }

pub offers_aside : (d : Declared) (c : ℕ) (W : ℕ → Type 0) (h : Site) (b : Broker) (n : List ℕ) (q : Plan) → is_name d.name ≡ true → Offers h b n q → Aside d c W q
offers_aside d c W h b n q named Offers.NothingToOffer = record { others = tt; keeps = tt; quiet = tt }
offers_aside d c W h b n q named (Offers.Gives v i at e due is picked) = record { others = tt; keeps = (tt, tt); quiet = (tt, tt) }
offers_aside d c W h b n q named (Offers.SkipsMarker v i e ws due is after) = record { others = updates_aside d h b _ ws named after; keeps = (tt, (tt, tt)); quiet = tt }
offers_aside d c W h b n q named (Offers.Caches v i j e k ws due is after) = record { others = updates_aside d h b _ ws named after; keeps = (tt, (tt, (tt, tt))); quiet = tt }

pub seeks_aside : (d : Declared) (c : ℕ) (W : ℕ → Type 0) (h : Site) (b : Broker) (n : List ℕ) (to : Option Position) (q : Plan) → is_name d.name ≡ true → Seeks h b n to q → Aside d c W q
seeks_aside d c W h b n to q named Seeks.NothingToSeek = record { others = tt; keeps = tt; quiet = tt }
seeks_aside d c W h b n to q named (Seeks.SeeksTo v i ws there at after) = record { others = updates_aside d h b _ ws named after; keeps = (tt, tt); quiet = tt }
