use Rattle.std.proofs.Common.{◌≡◌, ◌≢◌, ℕ, List, [], ◌==◌, true, false, length, sym, ap, ◌∙◌}
use Rattle.std.proofs.lemmas.Bool.{eqb-true}
use Rattle.std.proofs.lemmas.List.{nil_from_length}
use Rattle.pulsar_frames.proofs.Whole.{more_after, no_frame, no_whole, whole}
use Rattle.pulsar_frames.proofs.read.read_frame.Goals as goal

pub returns-then-is_empty : goal.returns-then-is_empty
returns-then-is_empty c =
    let t = rw c.in-Ok-Some.field-0-is at c.in-Ok-Some.ensures.ok in
    whole c.args.bytes.now c.in-Ok-Some.frame c.in-Ok-Some.rest.now t (nil_from_length c.in-Ok-Some.rest.now (eqb-true (length c.in-Ok-Some.rest.now) 0 (sym c.is_empty.ensures ∙ c.if-is_empty.true)))

pub returns-else-is_empty : goal.returns-else-is_empty
returns-else-is_empty c =
    let t = rw c.in-Ok-Some.field-0-is at c.in-Ok-Some.ensures.ok in
    let some : c.in-Ok-Some.rest.now ≢ [] = λ e. let no : true ≡ false = sym (ap (λ (s : List ℕ). length s == 0) e) ∙ sym c.is_empty.ensures ∙ c.if-is_empty.false in cc in
    more_after c.args.bytes.now c.in-Ok-Some.frame c.in-Ok-Some.rest.now t some

pub returns-in-Ok-None : goal.returns-in-Ok-None
returns-in-Ok-None c = no_whole c.args.bytes.now (rw c.in-Ok-None.field-0-is at c.in-Ok-None.ensures.ok)

pub returns-in_default : goal.returns-in_default
returns-in_default c = no_frame c.args.bytes.now c.in-Err.why c.in_default.not-Memory c.in-Err.ensures.err
