use Rattle.std.proofs.Common.{sym, ◌∙◌}
use Rattle.world.specs.ClientSteps.{Rests, Sends}
use Rattle.world.proofs.world.World.client_does.Goals as goal

pub returns-then-is_idle : goal.returns-then-is_idle
returns-then-is_idle c = record {
  done = Rests (sym c.is_idle.ensures ∙ c.if-is_idle.true) c.idles.ensures.ok c.idles.ensures.within c.idles.ensures.large;
  err = c.idles.ensures.err;
}

pub returns : goal.returns
returns c = record {
  done = Sends (sym c.is_idle.ensures ∙ c.if-is_idle.false) c.client_sends.ensures.ok c.client_sends.ensures.within c.client_sends.ensures.large;
  err = c.client_sends.ensures.err;
}
