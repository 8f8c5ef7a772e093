-- What is told of a cluster's messages if it never comes back.
use Rattle.std.proofs.Common.{◌≡◌, ℕ, ◌==◌, Bool, true, false, not, List, ◌++◌, length, sym, ap, ◌∙◌}
use Rattle.std.specs.Prelude.{◌&&◌}
use Rattle.std.specs.List.{list_any, range_with_len}
use Rattle.geo_base.specs.declared.entry.Entry.{Entry}
use Rattle.geo_base.specs.Broker.{Broker}
use Rattle.geo_base.specs.Entry.{goes_to}
use Rattle.geo_base.specs.Report.{with_line_feeds}
use Rattle.geo_base.specs.Setup.{Setup}
use Rattle.geo_base.specs.World.{World, topic_at}
use Rattle.loss_laws.specs.Lost.{is_for_others, is_lacked, is_own_message, stands, stands_elsewhere}
use Rattle.loss_laws.specs.LostLines.{end_lines, named_lines}
use Rattle.world_measures.specs.declared.ends.End.{End}
use Rattle.world_measures.specs.declared.ends.End.TheVariants as end
use Rattle.world_measures.specs.Ends.{end_label, ends_of, is_end, is_of}
use Rattle.world_measures.proofs.Each.{joined}

-- an own message is one of the three, by what is known of it
end_is : (s : Setup) (w : World) (t x : ℕ) (d : End) (i : ℕ) (e : Entry) → is_own_message x e ≡ true
    → is_of d (is_for_others s x e) (stands_elsewhere s w t x e) (is_lacked s w t x e) ≡ is_end s w t x d i e
end_is s w t x end.Lost i e own = ap (λ (o : Bool). (o && is_for_others s x e) && not (stands_elsewhere s w t x e)) (sym own)
end_is s w t x end.Alone i e own = ap (λ (o : Bool). o && not (is_for_others s x e)) (sym own)
end_is s w t x end.Differ i e own = ap (λ (o : Bool). (o && stands_elsewhere s w t x e) && is_lacked s w t x e) (sym own)

pub not_end : (s : Setup) (w : World) (t x : ℕ) (d : End) (i : ℕ) (e : Entry) → is_own_message x e ≡ false → false ≡ is_end s w t x d i e
not_end s w t x end.Lost i e own = ap (λ (o : Bool). (o && is_for_others s x e) && not (stands_elsewhere s w t x e)) (sym own)
not_end s w t x end.Alone i e own = ap (λ (o : Bool). o && not (is_for_others s x e)) (sym own)
not_end s w t x end.Differ i e own = ap (λ (o : Bool). (o && stands_elsewhere s w t x e) && is_lacked s w t x e) (sym own)

abbrev others_in : ℕ → Entry → ℕ → Bool
others_in x e n = list_any (λ y. not (x == y) && goes_to y e.to) (range_with_len 0 n)

abbrev elsewhere_in : Setup → World → ℕ → ℕ → Entry → ℕ → Bool
elsewhere_in s w t x e n = list_any (λ y. not (x == y) && stands (topic_at s w t y).entries e.ident) (range_with_len 0 n)

abbrev lacked_in : Setup → World → ℕ → ℕ → Entry → ℕ → Bool
lacked_in s w t x e n = list_any (λ y. not (x == y) && (goes_to y e.to && not (stands (topic_at s w t y).entries e.ident))) (range_with_len 0 n)

pub end_from : (s : Setup) (w : World) (t x : ℕ) (d : End) (i : ℕ) (e : Entry) (n : ℕ) (a b c r : Bool) → n ≡ length s.clusters → is_own_message x e ≡ true
    → a ≡ others_in x e n → b ≡ elsewhere_in s w t x e n → c ≡ lacked_in s w t x e n → r ≡ is_of d a b c → r ≡ is_end s w t x d i e
end_from s w t x d i e n a b c r many own for elsewhere lacked is =
    is
    ∙ (ap (λ (k : Bool). is_of d k b c) (for ∙ ap (others_in x e) many)
    ∙ (ap (λ (k : Bool). is_of d (is_for_others s x e) k c) (elsewhere ∙ ap (elsewhere_in s w t x e) many)
    ∙ (ap (λ (k : Bool). is_of d (is_for_others s x e) (stands_elsewhere s w t x e) k) (lacked ∙ ap (lacked_in s w t x e) many) ∙ end_is s w t x d i e own)))

-- their lines
abbrev lines_of : Bool → Setup → World → ℕ → ℕ → List (List ℕ) → Broker → End → List (List ℕ)
lines_of names s w t x clusters b d = named_lines names clusters (end_label d) (ends_of s w t x d b.entries)

abbrev all_of : Bool → Setup → World → ℕ → ℕ → List (List ℕ) → Broker → List (List ℕ)
all_of names s w t x clusters b = lines_of names s w t x clusters b end.Lost ++ (lines_of names s w t x clusters b end.Alone ++ lines_of names s w t x clusters b end.Differ)

pub ends_added : (names : Bool) (s : Setup) (w : World) (t x : ℕ) (clusters : List (List ℕ)) (b : Broker) (old one two new : List ℕ) → clusters ≡ s.clusters → b ≡ topic_at s w t x
    → one ≡ old ++ with_line_feeds (lines_of names s w t x clusters b end.Lost) → two ≡ one ++ with_line_feeds (lines_of names s w t x clusters b end.Alone)
    → new ≡ two ++ with_line_feeds (lines_of names s w t x clusters b end.Differ) → new ≡ old ++ with_line_feeds (end_lines names s w t x)
ends_added names s w t x clusters b old one two new same_clusters same first second third =
    joined old one new (lines_of names s w t x clusters b end.Lost) (lines_of names s w t x clusters b end.Alone ++ lines_of names s w t x clusters b end.Differ) first
    (joined one two new (lines_of names s w t x clusters b end.Alone) (lines_of names s w t x clusters b end.Differ) second third)
    ∙ ap (λ (ls : List (List ℕ)). old ++ with_line_feeds ls)
    (ap (λ (ns : List (List ℕ)). all_of names s w t x ns b) same_clusters ∙ ap (all_of names s w t x s.clusters) same)
