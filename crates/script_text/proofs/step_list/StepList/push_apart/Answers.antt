use Rattle.std.proofs.Common.{◌++◌, [], ◌∷◌, ◌∙◌, List, ap, arith}
use Rattle.geo_base.specs.declared.event.Step.{Step}
use Rattle.script_text.specs.declared.form.Form.{Form}
use Rattle.script_text.specs.declared.form.Form.TheVariants as form
use Rattle.script_text.proofs.Formed.{pushed_apart}
use Rattle.script_text.proofs.step_list.StepList.push_apart.Goals as goal

pub returns-clause-ok : goal.returns-clause-ok
returns-clause-ok c =
    let self = c.self.inside in
    pushed_apart self.apart.items c.push.new.self.items self.forms.items c.push-2.new.self.items c.len-place.result c.args.step c.self.invariant
    (omega (arith, c.len-place.ensures, self.apart.ok.0)) c.in_ok-push.ensures.items
    (c.in-Ok.ensures.items ∙ ap (λ (fs : List Form). fs ++ form.Apart c.len-place.result ∷ []) c.in_ok-reserve.ensures.items)
    ∙ ap (λ (es : List Step). es ++ c.args.step ∷ []) c.self.view_is
