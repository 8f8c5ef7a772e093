-- A snapshot that stands, and is offered to a subscription that has acknowledged all: what it covers is handed over, whatever came between.
use Rattle.std.proofs.Common.{◌≡◌, ℕ, ◌+◌, ◌<◌, ◌≤◌, true, List, [], ◌∷◌, ◌++◌, length, refl, sym, ap, subst, ◌∙◌, append_assoc, arith, inl, inr, ◌==◌}
use Rattle.std.proofs.lemmas.Bool.{eq-eqb, eqb-true, false≢true}
use Rattle.std.proofs.lemmas.List.{length-append}
use Rattle.std.proofs.lemmas.Option.{slice_get_within}
use Rattle.world_laws.proofs.Types.{Entry, Step, Targets}
use Rattle.world_laws.proofs.Types.step
use Rattle.geo_base.specs.Broker.{Broker}
use Rattle.geo_base.specs.Entry.{goes_to}
use Rattle.geo_base.specs.Laws.{IsShort, begun}
use Rattle.geo_base.specs.Run.{no_limits, run, run_from}
use Rattle.geo_base.specs.Scripted.{IsScripted}
use Rattle.geo_base.specs.Setup.{Setup, sub_name}
use Rattle.geo_base.specs.World.{World, opening_world, site, topic_at}
use Rattle.world_laws.specs.Reached.{ReachedFrom}
use Rattle.world_laws.proofs.Induction.Reaching.{goes_on}
use Rattle.world_laws.proofs.Snapshotting.Asked.{named as names_of}
use Rattle.world_laws.proofs.Snapshotting.Grows.{Grown}
use Rattle.world_laws.proofs.Snapshotting.Hearing.{grown_get}
use Rattle.world_laws.proofs.Snapshotting.SecondRound.{Knows, knows_now}
use Rattle.failover_laws.specs.Covers.{IsAskedSince}
use Rattle.failover_laws.specs.Procedure.{IsOffered, offers}
use Rattle.failover_laws.specs.Run.{AllLeave}
use Rattle.failover_laws.proofs.Acting.LeftRuns.{left_reached}
use Rattle.failover_laws.proofs.Acting.RunOn.{reached_on, run_on_from}
use Rattle.failover_laws.proofs.Acting.SwitchedOver.{switched}
use Rattle.failover_laws.proofs.Covers.Known.{fewer_before, grown_on, reached_then, tracing_at}
use Rattle.failover_laws.proofs.Lasting.{found_name}
use Rattle.failover_laws.proofs.Offering.LowRuns.{low_at, StoredBelow}
use Rattle.failover_laws.proofs.Offering.OffersInRow.{all_offers, AtOffer}
use Rattle.failover_laws.proofs.Offering.OffersLeave.{leave_on, offers_leave}
use Rattle.failover_laws.proofs.Offering.OffersPass.{IsOwnSnapshot, IsTold, places}
use Rattle.failover_laws.proofs.Room.RoomRuns.{room_law}

pub offered : (s : Setup) → IsScripted s → (before after : List Step) → IsOffered s (opening_world s) before after
offered s scripted before after t x y num k u remote lt known pair asked here replicated drained lacks enough short leave =
    switched s scripted before (after ++ offers k t x num) t y x told.index n (places (site s t x) asked.local asked.listed) pair short asked_3
    (record { entry = told.entry; stands = told.stands; origin = eqb-true told.entry.ident.origin x told.of; is = told.is })
    (subst (λ (to : Targets). goes_to y to ≡ true) (sym told.to) refl) behind all_leave
    (λ o path. (room_law s scripted o (reached_then s (opening_world s) v o from_v (left_reached s t y n v o path))).named t y num lt pair.1 known)
  where
    n : List ℕ
    n = sub_name s t num

    v : World
    v = run s before

    w : World
    w = run s (before ++ after)

    small : x < length s.clusters
    small = pair.0

    all_leave : AllLeave no_limits s t y n (begun v) ((after ++ offers k t x num) ++ step.Settle ∷ [])
    all_leave =
        subst (AllLeave no_limits s t y n (begun v)) (sym (append_assoc after (offers k t x num) (step.Settle ∷ [])))
        (leave_on s t y n (begun v) after (offers k t x num ++ step.Settle ∷ []) leave (offers_leave s t y n x num k))

    from_v : ReachedFrom s (opening_world s) v
    from_v = (goes_on s (opening_world s)).limited no_limits before

    from_w : ReachedFrom s (opening_world s) w
    from_w = (goes_on s (opening_world s)).limited no_limits (before ++ after)

    w3 : World
    w3 = run s (before ++ (after ++ offers k t x num))

    offered_is : w3 ≡ (run_from no_limits s (begun w) (offers k t x num)).world
    offered_is = ap (λ (fs : List Step). run s fs) (sym (append_assoc before after (offers k t x num))) ∙ run_on_from s (before ++ after) (offers k t x num)

    v_to_w : ReachedFrom s v w
    v_to_w = reached_on s before after

    w_to_3 : ReachedFrom s w w3
    w_to_3 = subst (ReachedFrom s w) (sym offered_is) ((goes_on s w).limited no_limits (offers k t x num))

    three_to_z : ReachedFrom s w3 (run s (before ++ (after ++ offers k t x num) ++ step.Settle ∷ []))
    three_to_z = reached_on s (before ++ (after ++ offers k t x num)) (step.Settle ∷ [])

    short_w : IsShort w
    short_w =
        let fewer = fewer_before s w w3 w_to_3 in
        let more = fewer_before s w3 (run s (before ++ (after ++ offers k t x num) ++ step.Settle ∷ [])) three_to_z in omega (arith, fewer, more, short)

    knows : Knows s w
    knows = knows_now s w (tracing_at s scripted w from_w).0.0 short_w

    grows : Grown s v w
    grows = grown_on s scripted v w from_v v_to_w

    grows_3 : Grown s w w3
    grows_3 = grown_on s scripted w w3 from_w w_to_3

    bw : Broker
    bw = topic_at s w t x

    b3 : Broker
    b3 = topic_at s w3 t x

    own : (asked.snapshot.entry.ident.origin == x) ≡ true
    own = eq-eqb asked.snapshot.entry.ident.origin x asked.snapshot.origin

    below : StoredBelow bw.ledgers asked.local asked.index
    below = low_at s scripted (names_of s scripted) w from_w short_w t x (lt, small) asked.index asked.snapshot.entry asked.id asked.local asked.listed asked.snapshot.stands own asked.snapshot.is

    snapshot : IsOwnSnapshot (site s t x) asked.index below.0 asked.local asked.listed asked.snapshot.entry
    snapshot = record { of = own; id = asked.id; is = asked.snapshot.is; low = below.2 }

    start : AtOffer s t x num (length bw.entries) asked.index below.0 asked.local asked.listed asked.snapshot.entry 0 w
    start = record {
      reached = from_w;
      state = inl (record {
        offering = record {
          longer = omega arith;
          within = slice_get_within bw.entries asked.index asked.snapshot.entry asked.snapshot.stands;
          stands = asked.snapshot.stands;
          stored = below.1;
          numbered = (knows.answers t x (lt, small)).numbered;
        };
        sub = u;
        here = here;
        state = record {
          name = found_name bw.subs n u here;
          replicated = replicated;
          drained = drained;
          clear = λ i none _. absurd (omega (arith, none));
          lacks = lacks;
        };
      });
    }

    done_offers : AtOffer s t x num (length bw.entries) asked.index below.0 asked.local asked.listed asked.snapshot.entry (0 + k) w3
    done_offers =
        subst (AtOffer s t x num (length bw.entries) asked.index below.0 asked.local asked.listed asked.snapshot.entry (0 + k)) (sym offered_is)
        (all_offers s scripted t x num (length bw.entries) asked.index below.0 asked.local asked.listed asked.snapshot.entry lt small known snapshot k 0 w start)

    told : IsTold (site s t x) b3 (length bw.entries) n (places (site s t x) asked.local asked.listed)
    told =
        elim done_offers.state [
          | inl still ↦ absurd (false≢true (sym still.state.lacks ∙ still.state.clear asked.index (omega (arith, enough)) (omega arith)))
          | inr t ↦ t
        ]

    behind : length (topic_at s v t x).entries ≤ told.index
    behind =
        let g = grows t x (lt, small) in
        let size = ap (λ (l : List Entry). length l) g.is ∙ length-append (topic_at s v t x).entries g.more in let le = told.behind in omega (arith, size, le)

    asked_3 : IsAskedSince s v w3 t x (places (site s t x) asked.local asked.listed)
    asked_3 = record {
      id = asked.id;
      local = asked.local;
      listed = asked.listed;
      index = asked.index;
      snapshot = record {
        entry = asked.snapshot.entry;
        stands = grown_get bw.entries b3.entries bw.ledgers b3.ledgers (grows_3 t x (lt, small)) asked.index asked.snapshot.entry asked.snapshot.stands;
        origin = asked.snapshot.origin;
        is = asked.snapshot.is;
      };
      same = refl;
      request = asked.request;
      asks = record {
        entry = asked.asks.entry;
        stands = grown_get bw.entries b3.entries bw.ledgers b3.ledgers (grows_3 t x (lt, small)) asked.request asked.asks.entry asked.asks.stands;
        origin = asked.asks.origin;
        is = asked.asks.is;
      };
      since = asked.since;
    }
