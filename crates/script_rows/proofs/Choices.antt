-- The words of a choice.
use Rattle.std.proofs.Common.{◌≡◌, ℕ, ◌<◌, cond, Option, Some, None, codes, inl, inr, arith, refl, sym, ◌∙◌, subst}
use Rattle.std.specs.Str.{bytes_eq}
use Rattle.std.proofs.lemmas.Option.{none-some, same_Some}
use Rattle.std.proofs.lemmas.Slice.Eq.{bytes_eq-Decides}
use Rattle.script_rows.specs.NameWords.{Word}
use Rattle.script_rows.specs.declared.column.Menu.{Menu}
use Rattle.script_rows.specs.declared.column.Menu.TheVariants as menu
use Rattle.script_rows.specs.Columns.{choice_of}
use Rattle.script_rows.specs.Written.{choice_word, choices}
use Rattle.script_rows.proofs.Chosen.{chosen}

-- a choice that was read: its number is one of the choice's, and its word the word that was read
pub record IsChosen (m : Menu) (w : Word) (i : ℕ) : Type 0 where
  pub within : i < choices m
  pub same : choice_word m i ≡ w

pick : (m : Menu) (w x : Word) (k i : ℕ) (others : Option ℕ) → k < choices m → choice_word m k ≡ x → cond (bytes_eq w x) (Some k) others ≡ Some i → (others ≡ Some i → IsChosen m w i) → IsChosen m w i
pick m w x k i others within is e later =
    elim (chosen (bytes_eq w x) (Some k) others (Some i) e) [
      | inl a ↦ subst (IsChosen m w) (same_Some k i a.1) (record { within = within; same = is ∙ sym ((bytes_eq-Decides w x).0 a.0) })
      | inr b ↦ later b.1
    ]

pub choice_read : (m : Menu) (w : Word) (i : ℕ) → choice_of m w ≡ Some i → IsChosen m w i
choice_read menu.Version w i e = pick menu.Version w (codes "1") 0 i None (omega arith) refl e (λ none. absurd (none-some i none))
choice_read menu.Start w i e =
    pick menu.Start w (codes "latest") 0 i (cond (bytes_eq w (codes "earliest")) (Some 1) None) (omega arith) refl e (λ f.
    pick menu.Start w (codes "earliest") 1 i None (omega arith) refl f (λ none. absurd (none-some i none)))
choice_read menu.Replication w i e =
    pick menu.Replication w (codes "local") 0 i (cond (bytes_eq w (codes "replicated")) (Some 1) None) (omega arith) refl e (λ f.
    pick menu.Replication w (codes "replicated") 1 i None (omega arith) refl f (λ none. absurd (none-some i none)))
choice_read menu.Fate w i e =
    pick menu.Fate w (codes "good") 0 i (cond (bytes_eq w (codes "lost")) (Some 1) (cond (bytes_eq w (codes "twice")) (Some 2) None)) (omega arith) refl e (λ f.
    pick menu.Fate w (codes "lost") 1 i (cond (bytes_eq w (codes "twice")) (Some 2) None) (omega arith) refl f (λ g.
    pick menu.Fate w (codes "twice") 2 i None (omega arith) refl g (λ none. absurd (none-some i none))))
choice_read menu.SubKind w i e =
    pick menu.SubKind w (codes "exclusive") 0 i (cond (bytes_eq w (codes "shared")) (Some 1) (cond (bytes_eq w (codes "failover")) (Some 2) (cond (bytes_eq w (codes "keyshared")) (Some 3) None))) (omega arith) refl e (λ f.
    pick menu.SubKind w (codes "shared") 1 i (cond (bytes_eq w (codes "failover")) (Some 2) (cond (bytes_eq w (codes "keyshared")) (Some 3) None)) (omega arith) refl f (λ g.
    pick menu.SubKind w (codes "failover") 2 i (cond (bytes_eq w (codes "keyshared")) (Some 3) None) (omega arith) refl g (λ h.
    pick menu.SubKind w (codes "keyshared") 3 i None (omega arith) refl h (λ none. absurd (none-some i none)))))
