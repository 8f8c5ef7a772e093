-- How many entries there are, topic by topic.
use Rattle.std.proofs.Common.{◌≡◌, ℕ, ◌+◌, ◌<◌, List, ◌∷◌, length, drop, get_or, sym, ap, ◌∙◌}
use Rattle.std.proofs.lemmas.List.{drop_more}
use Rattle.observation.specs.Observed.{Seen}
use Rattle.observe.specs.Topics.{entries_in}

pub one_counted : (vs : List Seen) (i : ℕ) (v : Seen) → i < length vs → v ≡ get_or vs i v
    → entries_in (drop i vs) ≡ length v.topic.entries + entries_in (drop (i + 1) vs)
one_counted vs i v lt is = ap entries_in (drop_more vs i v lt ∙ ap (λ (w : Seen). w ∷ drop (i + 1) vs) (sym is))
