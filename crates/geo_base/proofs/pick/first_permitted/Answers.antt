use Rattle.std.proofs.Common.{◌∙◌, nat_lt}
use Rattle.std.proofs.lemmas.Iterator.Adapters.{position_from-zero}
use Rattle.geo_base.specs.declared.consumer.Consumer.{Consumer}
use Rattle.geo_base.proofs.Picks.{first_is_position}
use Rattle.geo_base.proofs.pick.first_permitted.Goals as goal

pub returns : goal.returns
returns c =
    c.place_permitted.ensures
    ∙ position_from-zero (λ (k : Consumer). nat_lt 0 k.permits) c.args.consumers.now
    ∙ first_is_position 0 c.args.consumers.now
