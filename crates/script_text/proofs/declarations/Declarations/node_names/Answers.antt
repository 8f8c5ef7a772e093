use Rattle.std.proofs.Common.{ap, ◌∙◌}
use Rattle.geo_base.specs.Setup.{Setup}
use Rattle.script_text.proofs.declarations.Declarations.node_names.Goals as goal

pub returns-in-Ok-clause-clusters : goal.returns-in-Ok-clause-clusters
returns-in-Ok-clause-clusters c =
    c.in_ok-clusters.ensures ∙ (c.clusters.ensures ∙ ap (λ (s : Setup). s.clusters) c.setup-setup.ensures.setup)

pub returns-in-Ok-clause-topics : goal.returns-in-Ok-clause-topics
returns-in-Ok-clause-topics c =
    c.in-Ok.ensures ∙ (c.topics.ensures ∙ ap (λ (s : Setup). s.topics) c.setup-setup.ensures.setup)
