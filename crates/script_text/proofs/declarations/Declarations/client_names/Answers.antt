use Rattle.std.proofs.Common.{List, ap, map, ◌∙◌}
use Rattle.geo_base.specs.Setup.{Declared, Setup}
use Rattle.script_text.specs.Naming.{member_of}
use Rattle.script_text.proofs.declarations.Declarations.client_names.Goals as goal

pub returns-in-Ok-clause-clients : goal.returns-in-Ok-clause-clients
returns-in-Ok-clause-clients c =
    c.in_ok-clients.ensures ∙ ap (λ (ds : List Declared). map (λ (d : Declared). d.name) ds) (c.clients.ensures ∙ ap (λ (s : Setup). s.clients) c.setup-setup.ensures.setup)

pub returns-in-Ok-clause-members : goal.returns-in-Ok-clause-members
returns-in-Ok-clause-members c =
    c.in-Ok.ensures ∙ ap (λ (ds : List Declared). map member_of ds) (c.clients-2.ensures ∙ ap (λ (s : Setup). s.clients) c.setup-setup.ensures.setup)
