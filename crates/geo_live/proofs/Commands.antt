-- Words are not those of two commands.
use Rattle.std.proofs.Common.{◌≡◌, ℕ, List, [], ◌∷◌, inl, inr, refl, subst, sym, ◌∙◌}
use Rattle.std.proofs.lemmas.Bool.{cases_Bool}
use Rattle.std.proofs.lemmas.Slice.Eq.{bytes_eq-Decides}
use Rattle.std.specs.Prelude.{Some, None, codes}
use Rattle.std.specs.Str.{bytes_eq}
use Rattle.geo_top.specs.declared.top.command.Command.{Command}
use Rattle.geo_top.specs.Commands.{command_of, three_of}
use Rattle.geo_live.specs.declared.words.Live.{Live}
use Rattle.geo_live.specs.Words.{live_of, numbered}

-- three words of another command do not begin with `live`
other_word : (w v n : List ℕ) (c : Command) → three_of w v n ≡ Some c → numbered w v n ≡ None
other_word w v n c is =
    elim (cases_Bool (bytes_eq w (codes "live"))) [
      | inl live ↦
          let none : three_of (codes "live") v n ≡ Some c = subst (λ (x : List ℕ). three_of x v n ≡ Some c) ((bytes_eq-Decides w (codes "live")).0 live) is in
          absurd (cc none)
      | inr other ↦ rw other refl
    ]

pub not_live : (ws : List (List ℕ)) (c : Command) → command_of ws ≡ Some c → live_of ws ≡ None
not_live [] c is = refl
not_live (w ∷ []) c is = refl
not_live (w ∷ n ∷ []) c is = refl
not_live (w ∷ v ∷ n ∷ []) c is = other_word w v n c is
not_live (w ∷ v ∷ n ∷ u ∷ ws) c is = refl

pub not_both : (ws : List (List ℕ)) (c : Command) (asked : Live) → command_of ws ≡ Some c → live_of ws ≡ Some asked → ⊥
not_both ws c asked is live = absurd (cc (sym live ∙ not_live ws c is))
