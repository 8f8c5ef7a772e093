-- The forms in which steps are kept, and what each stands for.
use Rattle.std.specs.Prelude.{ℕ, ◌<◌, Bool, true, false, List, slice_index_or, ⊤}
use Rattle.geo_base.specs.declared.event.Event.TheVariants as event
use Rattle.geo_base.specs.declared.event.Step.{Step}
use Rattle.geo_base.specs.declared.event.Step.TheVariants as step
use Rattle.script_text.specs.declared.form.Form.{Form}
use Rattle.script_text.specs.declared.form.Form.TheVariants as form

-- the step of a form, beside the steps that stand apart
abbrev pub step_in : List Step → Form → Step
step_in apart (form.Go c) = step.Plain (event.Go c)
step_in apart (form.Get c) = step.Plain (event.Get c)
step_in apart (form.Reconnect c) = step.Plain (event.Reconnect c)
step_in apart (form.Serve x c) = step.Plain (event.Serve x c)
step_in apart (form.Drop x c) = step.Plain (event.Drop x c)
step_in apart (form.Reset t x y) = step.Plain (event.Reset t x y)
step_in apart (form.Read t x y) = step.Plain (event.Read t x y)
step_in apart (form.Take f t x y) = step.Plain (event.Take t x y f)
step_in apart (form.Receipt f t x y) = step.Plain (event.Receipt t x y f)
step_in apart (form.Snap t x) = step.Plain (event.Snap t x)
step_in apart (form.Offer t x s) = step.Plain (event.Offer t x s)
step_in apart (form.Restart t x) = step.Plain (event.Restart t x)
step_in apart form.Settle = step.Settle
step_in apart form.Stop = step.Stop
step_in apart (form.Apart i) = slice_index_or apart i step.Stop

-- a form that is all of its step
abbrev pub is_short : Form → Bool
is_short (form.Apart i) = false
is_short f = true

-- a form of which the step that stands apart, if there is one, is among n of them
abbrev pub IsAmong : ℕ → Form → Type 0
IsAmong n (form.Apart i) = i < n
IsAmong n f = ⊤
