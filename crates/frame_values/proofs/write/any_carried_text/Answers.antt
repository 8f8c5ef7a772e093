use Rattle.std.proofs.Common.{◌≡◌, List, ℕ, subst, sym, ◌∙◌}
use Rattle.std.specs.Prelude.{Option, MatchOption}
use Rattle.frame_values.specs.Texts.{payload_text}
use Rattle.frame_values.proofs.Writing.{carried_answered, carried_refused}
use Rattle.frame_values.proofs.write.any_carried_text.Goals as goal

pub returns-in-None-clause-text : goal.returns-in-None-clause-text
returns-in-None-clause-text c =
    let e = c.args.entry.now in
    let same = payload_text c.args.names.now e.content e.payload in
    let kept : same ≡ e.payload = subst (λ (o : Option (List ℕ)). MatchOption o (same ≡ e.payload) (λ b. same ≡ b)) c.in-None.is c.in_ok-canonical_payload.ensures.text in
    carried_answered c.args.names.now c.args.command.now c.args.source.now e c.known_of-known.result c.rest-rest.result.now c.as_slice.result.now c.write_carrying.result c.known_of-known.ensures c.rest-rest.ensures (c.as_slice.ensures ∙ sym kept)
    c.in_ok-canonical_payload.ensures.right c.write_carrying.ensures.text

pub returns-in-None-clause-fault : goal.returns-in-None-clause-fault
returns-in-None-clause-fault c =
    let e = c.args.entry.now in
    let same = payload_text c.args.names.now e.content e.payload in
    let kept : same ≡ e.payload = subst (λ (o : Option (List ℕ)). MatchOption o (same ≡ e.payload) (λ b. same ≡ b)) c.in-None.is c.in_ok-canonical_payload.ensures.text in
    carried_refused c.args.names.now c.args.command.now c.args.source.now e c.known_of-known.result c.rest-rest.result.now c.as_slice.result.now c.write_carrying.result c.known_of-known.ensures c.rest-rest.ensures (c.as_slice.ensures ∙ sym kept)
    c.write_carrying.ensures.fault

pub returns-in-Some-clause-text : goal.returns-in-Some-clause-text
returns-in-Some-clause-text c =
    let e = c.args.entry.now in
    let same = payload_text c.args.names.now e.content e.payload in
    let written : same ≡ c.in-Some.text = subst (λ (o : Option (List ℕ)). MatchOption o (same ≡ e.payload) (λ b. same ≡ b)) c.in-Some.is c.in_ok-canonical_payload.ensures.text in
    carried_answered c.args.names.now c.args.command.now c.args.source.now e c.known_of-known.result c.rest-rest.result.now c.as_slice-in-Some.result.now c.write_carrying-in-Some.result c.known_of-known.ensures c.rest-rest.ensures (c.as_slice-in-Some.ensures ∙ sym written)
    c.in_ok-canonical_payload.ensures.right c.write_carrying-in-Some.ensures.text

pub returns-in-Some-clause-fault : goal.returns-in-Some-clause-fault
returns-in-Some-clause-fault c =
    let e = c.args.entry.now in
    let same = payload_text c.args.names.now e.content e.payload in
    let written : same ≡ c.in-Some.text = subst (λ (o : Option (List ℕ)). MatchOption o (same ≡ e.payload) (λ b. same ≡ b)) c.in-Some.is c.in_ok-canonical_payload.ensures.text in
    carried_refused c.args.names.now c.args.command.now c.args.source.now e c.known_of-known.result c.rest-rest.result.now c.as_slice-in-Some.result.now c.write_carrying-in-Some.result c.known_of-known.ensures c.rest-rest.ensures (c.as_slice-in-Some.ensures ∙ sym written)
    c.write_carrying-in-Some.ensures.fault
