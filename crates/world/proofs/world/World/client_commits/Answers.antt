use Rattle.std.proofs.Common.{◌≡◌, ℕ, ◌+◌, ◌<◌, List, length, ap, ◌∙◌, subst, sym}
use Rattle.std.specs.Prelude.{slice_set}
use Rattle.std.proofs.lemmas.List.{get_or_default}
use Rattle.client.specs.Changing.{client_after}
use Rattle.geo_base.specs.Client.{Client}
use Rattle.world.specs.ClientSteps.{client_in, no_client}
use Rattle.world.specs.World.{WorldView}
use Rattle.world.proofs.world.World.client_commits.Goals as goal

pub returns : goal.returns
returns c =
    let old = c.args.self.now in let n : ℕ = c.args.client in let stamp : ℕ = c.args.stamp in let change = c.args.prepared.change in
    let clients : c.self.inside.clients.items ≡ old.clients = ap (λ (b : WorldView). b.clients) c.self.view_is in
    let within : n < length c.self.inside.clients.items = subst (λ (ms : List Client). n < length ms) (sym clients) c.requires.client in
    let here : c.index_mut.result.now ≡ client_in old.clients n =
    c.index_mut.ensures.value ∙ get_or_default c.self.inside.clients.items n _ no_client within ∙ ap (λ (ms : List Client). client_in ms n) clients in
    let after : c.commit.new.self ≡ client_after change (client_in old.clients n) = c.commit.ensures ∙ ap (λ (k : Client). client_after change k) here in
    ap (λ (b : WorldView). record b { clients = slice_set b.clients n c.commit.new.self; client_clocks = slice_set b.client_clocks n stamp; events = b.events + 1 }) c.self.view_is
    ∙ ap (λ (k : Client). record old { clients = slice_set old.clients n k; client_clocks = slice_set old.client_clocks n stamp; events = old.events + 1 }) after
