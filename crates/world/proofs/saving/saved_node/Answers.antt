use Rattle.std.proofs.Common.{ℕ, List, [], ◌∷◌, ◌++◌, ap, ◌∙◌}
use Rattle.world.proofs.SavedNodes.{left, rests_left}
use Rattle.world.proofs.saving.saved_node.Goals as goal

pub returns-in-Ok-clause-node : goal.returns-in-Ok-clause-node
returns-in-Ok-clause-node c =
    left c.args.node.now.broker _ _ _ _ _ _ c.of_durable.result c.in_ok-durable.ensures.broker
    (c.open_ledger-ledger.ensures.entries ∙ c.reserve.ensures.entries) (c.open_ledger-ledger.ensures.ledgers ∙ ap (λ (ls : List ℕ). ls ++ 0 ∷ []) c.reserve.ensures.ledgers) c.of_durable.ensures.broker

pub returns-in-Ok-clause-rests : goal.returns-in-Ok-clause-rests
returns-in-Ok-clause-rests c =
    rests_left c.args.node.now.site _ _ _ _ _ c.of_durable.result c.in_ok-durable.ensures.site.entries
    (c.open_ledger-ledger.ensures.entries ∙ c.reserve.ensures.entries) c.of_durable.ensures.broker
