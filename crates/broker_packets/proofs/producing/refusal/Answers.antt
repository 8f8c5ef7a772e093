use Rattle.std.proofs.Common.{◌≡◌, true, false, refl, sym, ◌∙◌}
use Rattle.std.specs.Str.{bytes_eq}
use Rattle.geo_base.specs.Producing.{may_attach}
use Rattle.broker_packets.proofs.Producers.{last_true, refusal_when, taken_as}
use Rattle.broker_packets.proofs.producing.refusal.Goals as goal

pub returns-then-not-is_allowed-clause-refusal : goal.returns-then-not-is_allowed-clause-refusal
returns-then-not-is_allowed-clause-refusal c =
    let no : c.is_allowed.result ≡ false = cc in
    sym (refusal_when c.args.state.now.site c.args.state.now.broker c.args.client c.args.topic.now c.args.name.now false _ (sym c.is_allowed.ensures ∙ no) refl)

pub returns-then-is_taken-clause-refusal : goal.returns-then-is_taken-clause-refusal
returns-then-is_taken-clause-refusal c =
    let yes : c.is_allowed.result ≡ true = cc in
    sym (refusal_when c.args.state.now.site c.args.state.now.broker c.args.client c.args.topic.now c.args.name.now true true (sym c.is_allowed.ensures ∙ yes)
    (taken_as c.args.client c.as_bytes.result.now c.args.name.now c.sessions.result.now c.args.state.now.broker.sessions c.is_taken.result c.as_bytes.ensures c.sessions.ensures c.is_taken.ensures ∙ c.if-is_taken.true))

pub returns-clause-refusal : goal.returns-clause-refusal
returns-clause-refusal c =
    let yes : c.is_allowed.result ≡ true = cc in
    let free : c.is_taken.result ≡ false = cc in
    sym (refusal_when c.args.state.now.site c.args.state.now.broker c.args.client c.args.topic.now c.args.name.now true false (sym c.is_allowed.ensures ∙ yes)
    (taken_as c.args.client c.as_bytes.result.now c.args.name.now c.sessions.result.now c.args.state.now.broker.sessions c.is_taken.result c.as_bytes.ensures c.sessions.ensures c.is_taken.ensures ∙ free))

pub returns-clause-allowed : goal.returns-clause-allowed
returns-clause-allowed c =
    let yes : c.is_allowed.result ≡ true = cc in
    λ is. last_true (bytes_eq c.args.topic.now c.args.state.now.site.topic) (may_attach c.args.name.now) (sym c.is_allowed.ensures ∙ yes)
