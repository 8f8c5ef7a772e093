-- Lines of which the last words are a group that may be empty.
use Rattle.std.proofs.Common.{◌≡◌, ℕ, List, [], ◌∷◌, ◌++◌, refl, sym, ap, append_assoc, ◌∙◌}
use Rattle.std.specs.Prelude.{Option, codes}
use Rattle.geo_base.specs.declared.entry.Entry.{Entry}
use Rattle.geo_base.specs.declared.planned.Cause.{Cause}
use Rattle.geo_base.specs.declared.position.Position.{Position}
use Rattle.geo_base.specs.Report.{shown_content, shown_ident, shown_position, shown_targets, words}
use Rattle.geo_base.specs.TraceItems.{Acks, Appends}
use Rattle.geo_base.specs.TraceText.{ranges_of, shown_by, shown_cause, shown_ranges}
use Rattle.report_lines.specs.Entries.{entry_words}
use Rattle.report_lines.specs.Spaced.{spaced}
use Rattle.report_lines.proofs.Wholes.{words_spaced}
use Rattle.trace_runs.specs.Naming.{Naming, act_line}

spaced_append : (us vs : List (List ℕ)) → spaced (us ++ vs) ≡ spaced us ++ spaced vs
spaced_append [] vs = refl
spaced_append (u ∷ us) vs = ap (λ (t : List ℕ). 32 ∷ (u ++ t)) (spaced_append us vs) ∙ ap (λ (t : List ℕ). 32 ∷ t) (sym (append_assoc u (spaced us) (spaced vs)))

-- words, and some more after them
words_append : (w : List ℕ) (us vs : List (List ℕ)) → words (w ∷ us ++ vs) ≡ words (w ∷ us) ++ spaced vs
words_append w us vs =
    words_spaced w (us ++ vs) ∙ (ap (λ (t : List ℕ). w ++ t) (spaced_append us vs) ∙ (sym (append_assoc w (spaced us) (spaced vs)) ∙ ap (λ (t : List ℕ). t ++ spaced vs) (sym (words_spaced w us))))

-- an append: what stands there, its head, a space, the entry, the snapshot that it tells, the line feed
joined : (old k t x e b sp lf : List ℕ)
    → ((((old ++ (k ++ (sp ++ (t ++ (sp ++ x))))) ++ sp) ++ e) ++ b) ++ lf ≡ old ++ ((k ++ (sp ++ (t ++ (sp ++ (x ++ (sp ++ (e ++ b))))))) ++ lf)
joined old k t x e b sp lf = simp append_assoc

entry_by : (n : Naming) (p : Position) (e : Entry) (o : Option Position) → words (entry_words n.clusters p e ++ shown_by o) ≡ words (entry_words n.clusters p e) ++ spaced (shown_by o)
entry_by n p e o =
    words_append (shown_position p) (shown_ident n.clusters e.ident ++ shown_targets n.clusters e.to ∷ shown_content n.clusters e e.content) (shown_by o)

pub append_whole : (n : Naming) (p : Position) (e : Entry) (o : Option Position) (old head gap entry by all : List ℕ)
    → head ≡ old ++ (codes "append" ++ (32 ∷ (n.topic ++ (32 ∷ n.cluster)))) → gap ≡ head ++ 32 ∷ [] → entry ≡ gap ++ words (entry_words n.clusters p e)
    → by ≡ entry ++ spaced (shown_by o) → all ≡ by ++ 10 ∷ [] → all ≡ old ++ act_line n (Appends p e o)
append_whole n p e o old head gap entry by all e1 e2 e3 e4 e5 =
    rw (e5, e4, e3, e2, e1)
    (joined old (codes "append") n.topic n.cluster (words (entry_words n.clusters p e)) (spaced (shown_by o)) (32 ∷ []) (10 ∷ [])
    ∙ ap (λ (t : List ℕ). old ++ ((codes "append" ++ (32 ∷ (n.topic ++ (32 ∷ (n.cluster ++ (32 ∷ t)))))) ++ 10 ∷ [])) (sym (entry_by n p e o)))

-- acks: what stands there, its head with the subscription, a space, the ranges, why, the line feed
joined_acks : (old k t x n r c sp lf : List ℕ)
    → ((((old ++ (k ++ (sp ++ (t ++ (sp ++ (x ++ (sp ++ n))))))) ++ sp) ++ r) ++ c) ++ lf ≡ old ++ ((k ++ (sp ++ (t ++ (sp ++ (x ++ (sp ++ (n ++ (sp ++ (r ++ c))))))))) ++ lf)
joined_acks old k t x n r c sp lf = simp append_assoc

pub acks_whole : (n : Naming) (s is : List ℕ) (c : Cause) (old head gap ranges why all : List ℕ)
    → head ≡ old ++ (codes "ack" ++ (32 ∷ (n.topic ++ (32 ∷ (n.cluster ++ (32 ∷ s)))))) → gap ≡ head ++ 32 ∷ [] → ranges ≡ gap ++ shown_ranges (ranges_of is)
    → why ≡ ranges ++ spaced (shown_cause c) → all ≡ why ++ 10 ∷ [] → all ≡ old ++ act_line n (Acks s is c)
acks_whole n s is c old head gap ranges why all e1 e2 e3 e4 e5 =
    rw (e5, e4, e3, e2, e1)
    (joined_acks old (codes "ack") n.topic n.cluster s (shown_ranges (ranges_of is)) (spaced (shown_cause c)) (32 ∷ []) (10 ∷ [])
    ∙ ap (λ (t : List ℕ). old ++ ((codes "ack" ++ (32 ∷ (n.topic ++ (32 ∷ (n.cluster ++ (32 ∷ (s ++ (32 ∷ t)))))))) ++ 10 ∷ [])) (sym (words_spaced (shown_ranges (ranges_of is)) (shown_cause c))))
