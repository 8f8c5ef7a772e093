-- Packets after what an event does.
use Rattle.std.proofs.Common.{◌≡◌, ℕ, Bool, true, false, List, [], ◌∷◌, ◌++◌, refl, sym, ◌∙◌, ap, append_assoc, subst}
use Rattle.std.specs.Prelude.{IfSome, Option, Some, None}
use Rattle.geo_base.specs.declared.change.Change.{Change}
use Rattle.geo_base.specs.declared.change.Change.TheVariants as change
use Rattle.geo_base.specs.declared.entry.Entry.{Entry}
use Rattle.geo_base.specs.declared.frame.Frame.{Frame}
use Rattle.geo_base.specs.declared.packet.Out.{Out}
use Rattle.geo_base.specs.declared.packet.WireOut.{WireOut}
use Rattle.geo_base.specs.declared.position.Position.{Position}
use Rattle.geo_base.specs.declared.write.Write.{Write}
use Rattle.geo_base.specs.Broker.{Broker, Site}
use Rattle.geo_base.specs.Plan.{plan_of, quiet_plan}
use Rattle.geo_base.specs.Storing.{receipt_position, storing}
use Rattle.broker_state.specs.Plan.{PlanView}
use Rattle.broker_state.specs.Room.{HasRoom, Room}
use Rattle.broker_plans.specs.Prepared.{AlsoSends, ArePackets, IsPrepared}
use Rattle.broker_packets.specs.Acts.{opening_plan, receipts, receiving_plan, times}
use Rattle.broker_packets.specs.Answers.{AlsoAnswers, IsBrief, out_of, outs_of, receipt_answer, second_out, success_answer}
use Rattle.broker_packets.specs.declared.answers.Answer.{Answer}

-- ---- one packet and two

one : (names : List (List ℕ)) (o : Out) (p q : PlanView) → AlsoSends names o p q → AlsoAnswers names (o ∷ []) p q
one names o p q more = record { packets = more.packet ∷ []; with = more.with; written = (more.written, tt) }

two : (names : List (List ℕ)) (o u : Out) (p q r : PlanView) → AlsoSends names o p q → AlsoSends names u q r → AlsoAnswers names (o ∷ u ∷ []) p r
two names o u p q r first second =
    let both : (p.sent ++ first.packet ∷ []) ++ second.packet ∷ [] ≡ p.sent ++ first.packet ∷ second.packet ∷ [] = rw append_assoc refl in
    record {
      packets = first.packet ∷ second.packet ∷ [];
      with = second.with ∙ ap (λ (b : PlanView). record b { sent = b.sent ++ second.packet ∷ [] }) first.with ∙ ap (λ (os : List WireOut). record p { sent = os }) both;
      written = (first.written, (second.written, tt));
    }

pub answers_once : (names : List (List ℕ)) (a : Answer) (p q : PlanView) → a.second ≡ None → AlsoSends names (out_of a.source a.session a.first) p q → AlsoAnswers names (outs_of a) p q
answers_once names a p q none more =
    subst (λ (o : Option Frame). AlsoAnswers names (out_of a.source a.session a.first ∷ second_out a.source a.session o) p q) (sym none) (one names _ p q more)

pub answers_again : (names : List (List ℕ)) (a : Answer) (f : Frame) (p q r : PlanView) → a.second ≡ Some f → AlsoSends names (out_of a.source a.session a.first) p q
    → AlsoSends names (out_of a.source a.session f) q r → AlsoAnswers names (outs_of a) p r
answers_again names a f p q r some first second =
    subst (λ (o : Option Frame). AlsoAnswers names (out_of a.source a.session a.first ∷ second_out a.source a.session o) p r) (sym some) (two names _ _ p q r first second)

pub second_brief : (names : List (List ℕ)) (o : Option Frame) (f : Frame) → o ≡ Some f → IfSome o (IsBrief names) → IsBrief names f
second_brief names o f some brief = subst (λ (x : Option Frame). IfSome x (IsBrief names)) some brief

-- ---- an event that sent nothing before

none_sent : (names : List (List ℕ)) (ps : List WireOut) → ArePackets names [] ps → ps ≡ []
none_sent names [] all = refl
none_sent names (p ∷ ps) all = absurd all

prepared_answers : (h : Site) (b : Broker) (ws : List Write) (cs : List Change) (os : List Out) (p q : PlanView) → IsPrepared h b (plan_of ws cs []) p → AlsoAnswers h.clusters os p q
    → IsPrepared h b (plan_of ws cs os) q
prepared_answers h b ws cs os p q is more =
    let alone : p.sent ≡ [] = none_sent h.clusters p.sent is.sent in
    rw more.with (record {
      steps = is.steps;
      sent = rw alone more.written;
      fits = record { writes_named = is.fits.writes_named; changes_named = is.fits.changes_named; writes = is.fits.writes; changes = is.fits.changes };
      stored = record { writes = is.stored.writes; changes = is.stored.changes };
    })

pub room_answers : (names : List (List ℕ)) (room : Room) (os : List Out) (p q : PlanView) → HasRoom room p → AlsoAnswers names os p q → HasRoom room q
room_answers names room os p q is more = rw more.with (record { writes = is.writes; given = is.given; replicators = is.replicators })

-- ---- a session opens

pub opening_prepared : (h : Site) (b : Broker) (x : ℕ) (again : Bool) (id request : ℕ) (p q : PlanView) → IsPrepared h b (quiet_plan (times again (change.Receiver x (Some id)))) p
    → AlsoAnswers h.clusters (outs_of (success_answer h x again id request)) p q → IsPrepared h b (opening_plan h x again id request) q
opening_prepared h b x true id request p q is more =
    prepared_answers h b [] (change.Receiver x (Some id) ∷ change.Receiver x (Some id) ∷ []) (outs_of (success_answer h x true id request)) p q is more
opening_prepared h b x false id request p q is more =
    prepared_answers h b [] (change.Receiver x (Some id) ∷ []) (outs_of (success_answer h x false id request)) p q is more

-- ---- an entry came

pub receiving_prepared : (h : Site) (b : Broker) (x session : ℕ) (again : Bool) (seq : ℕ) (e : Entry) (position : Position) (p q : PlanView)
    → IsPrepared h b (plan_of (storing b e) [] []) p → Some position ≡ receipt_position h.per_ledger b e → AlsoAnswers h.clusters (outs_of (receipt_answer x session again seq position)) p q
    → IsPrepared h b (receiving_plan h b x session again seq e) q
receiving_prepared h b x session true seq e position p q is there more =
    subst (λ (o : Option Position). IsPrepared h b (plan_of (storing b e) [] (receipts x session seq true o)) q) there (prepared_answers h b (storing b e) [] (outs_of (receipt_answer x session true seq position)) p q is more)
receiving_prepared h b x session false seq e position p q is there more =
    subst (λ (o : Option Position). IsPrepared h b (plan_of (storing b e) [] (receipts x session seq false o)) q) there (prepared_answers h b (storing b e) [] (outs_of (receipt_answer x session false seq position)) p q is more)
