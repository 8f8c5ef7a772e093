use Rattle.std.proofs.Common.{◌≡◌, ◌<◌, ◌∙◌, ℕ, nat_lt, Bool, false, List, Some, length, ap, subst, sym}
use Rattle.std.specs.Prelude.{◌||◌}
use Rattle.geo_base.specs.Mirror.{index_at}
use Rattle.geo_base.specs.Setup.{Setup}
use Rattle.geo_base.specs.declared.position.Position.{Position}
use Rattle.observation.specs.Findings.{tells_one, tells_upto}
use Rattle.observation.specs.Observed.{Observation, Seen, entries_seen, may_be_later, seen_at, topic_seen}
use Rattle.observe.specs.Dealt.{LogsOf}
use Rattle.observe.specs.Telling.{first_unsettled}
use Rattle.observe.proofs.Telling.{tells_upto_first}
use Rattle.observe.proofs.told.Updates.tells.Goals as goal

tells_here : (s : Setup) (o : Observation) (t a : ℕ) (n : List ℕ) (y : ℕ) (p : Position) (j first : ℕ) → may_be_later s o t y p ≡ false → index_at (topic_seen s o t y) p ≡ Some j → j < length (entries_seen s o t y)
    → first ≡ first_unsettled s o t a n 0 (entries_seen s o t y) → nat_lt j first ≡ tells_one s o t a n y p
tells_here s o t a n y p j first later at lt is =
    tells_upto_first s o t a n j first (entries_seen s o t y) lt is
    ∙ sym (ap (λ (b : Bool). b || tells_upto s o t a n (entries_seen s o t y) (index_at (topic_seen s o t y) p)) later ∙ ap (tells_upto s o t a n (entries_seen s o t y)) at)

pub returns-in_ok-first_unsettled-in-Some-clause-tells : goal.returns-in_ok-first_unsettled-in-Some-clause-tells
returns-in_ok-first_unsettled-in-Some-clause-tells c =
    let q = c.args.self.now in let y = c.args.of in let p = c.args.position.now in let j = c.in-Some.index in
    let seen : c.at.result.now ≡ seen_at q.setup q.observed q.topic y = subst (λ (l : LogsOf). c.at.result.now ≡ seen_at l.setup l.observed l.topic y) c.self.view_is c.at.ensures in
    let later : may_be_later q.setup q.observed q.topic y p ≡ false =
    subst (λ (l : LogsOf). may_be_later l.setup l.observed l.topic y p ≡ false) c.self.view_is (sym c.may_be_later.ensures ∙ c.if-may_be_later.false) in
    let at : index_at (topic_seen q.setup q.observed q.topic y) p ≡ Some j = sym (ap (λ (v : Seen). index_at v.topic p) seen) ∙ (sym c.index_at.ensures.index ∙ c.in-Some.is) in
    let lt : j < length (entries_seen q.setup q.observed q.topic y) = subst (λ (v : Seen). j < length v.topic.entries) seen c.in-Some.ensures.within in
    tells_here q.setup q.observed q.topic c.args.update.origin c.args.update.sub.now y p j _ later at lt c.in_ok-first_unsettled-in-Some.ensures.first
