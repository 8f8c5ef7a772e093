-- Whether an entry is a snapshot, and what is then found.
use Rattle.std.proofs.Common.{◌≡◌, ◌≢◌, ℕ, ◌==◌, Bool, true, false, List, [], ◌++◌, refl, sym, ap, ◌∙◌}
use Rattle.std.specs.Prelude.{if◌then◌else◌}
use Rattle.std.proofs.lemmas.Bool.{eqb-true}
use Rattle.geo_base.proofs.Sums.{eq_itself}
use Rattle.geo_base.specs.declared.entry.Content.{Content}
use Rattle.geo_base.specs.declared.entry.Content.TheVariants as content
use Rattle.geo_base.specs.declared.entry.Entry.{Entry}
use Rattle.geo_base.specs.declared.marker.ClusterPosition.{ClusterPosition}
use Rattle.geo_base.specs.declared.marker.Marker.TheVariants as marker
use Rattle.geo_base.specs.declared.position.Position.{Position}
use Rattle.geo_base.specs.Setup.{Setup}
use Rattle.observation.specs.declared.finding.Finding.{Finding}
use Rattle.observation.specs.Findings.{cuts_in, cuts_of, unless}
use Rattle.observation.specs.Observed.{Observation}
use Rattle.observe.proofs.Each.{none_found, nothing_found}
use Rattle.observe.specs.Markers.{IsNoSnapshot, IsSnapshot}

pub cut_none : (s : Setup) (o : Observation) (t x i : ℕ) (e : Entry) (c : Content) → IsNoSnapshot c → cuts_of s o t x i e c ≡ []
cut_none s o t x i e (content.Marked (marker.Snapshot id local remote)) h = absurd h
cut_none s o t x i e (content.Marked (marker.Request id source)) h = refl
cut_none s o t x i e (content.Marked (marker.Response id answer)) h = refl
cut_none s o t x i e (content.Marked (marker.Update n remote)) h = refl
cut_none s o t x i e content.Data h = refl
cut_none s o t x i e (content.Unread b) h = refl

read_as : (s : Setup) (o : Observation) (t x i : ℕ) (e : Entry) (c : Content) (local : Position) (remote : List ClusterPosition) → IsSnapshot c local remote
    → cuts_of s o t x i e c ≡ (if e.ident.origin == x then cuts_in s o t x i local remote else [])
read_as s o t x i e c local remote h = ap (cuts_of s o t x i e) h.is

-- one of the cluster, and one of another
pub cut_some : (s : Setup) (o : Observation) (t x i : ℕ) (e : Entry) (c : Content) (local : Position) (remote : List ClusterPosition) → IsSnapshot c local remote → e.ident.origin ≡ x
    → cuts_of s o t x i e c ≡ cuts_in s o t x i local remote
cut_some s o t x i e c local remote h own =
    read_as s o t x i e c local remote h
    ∙ ap (λ (b : Bool). if b then cuts_in s o t x i local remote else []) (ap (λ (y : ℕ). y == x) own ∙ eq_itself x)

pub cut_other : (s : Setup) (o : Observation) (t x i : ℕ) (e : Entry) (c : Content) (local : Position) (remote : List ClusterPosition) → IsSnapshot c local remote → e.ident.origin ≢ x → cuts_of s o t x i e c ≡ []
cut_other s o t x i e c local remote h other =
    read_as s o t x i e c local remote h ∙ ap (λ (b : Bool). if b then cuts_in s o t x i local remote else []) (not_same (e.ident.origin == x) refl)
  where
    not_same : (b : Bool) → (e.ident.origin == x) ≡ b → b ≡ false
    not_same false is = refl
    not_same true is = absurd (other (eqb-true e.ident.origin x is))

-- nothing is found of an entry that is no snapshot of the cluster
pub none_cut : (s : Setup) (o : Observation) (t x i : ℕ) (old : List Finding) (e f : Entry) → e ≡ f → IsNoSnapshot f.content → old ≡ old ++ cuts_of s o t x i e e.content
none_cut s o t x i old e f is h = nothing_found old ∙ ap (λ (gs : List Finding). old ++ gs) (sym (ap (λ (g : Entry). cuts_of s o t x i g g.content) is ∙ cut_none s o t x i f f.content h))

pub other_cut : (s : Setup) (o : Observation) (t x i : ℕ) (old : List Finding) (e f : Entry) (local : Position) (remote : List ClusterPosition) → e ≡ f → IsSnapshot f.content local remote → f.ident.origin ≢ x
    → old ≡ old ++ cuts_of s o t x i e e.content
other_cut s o t x i old e f local remote is h other =
    nothing_found old ∙ ap (λ (gs : List Finding). old ++ gs) (sym (ap (λ (g : Entry). cuts_of s o t x i g g.content) is ∙ cut_other s o t x i f f.content local remote h other))

pub own_cut : (s : Setup) (o : Observation) (t x i : ℕ) (old new : List Finding) (e f : Entry) (local : Position) (remote : List ClusterPosition) → e ≡ f → IsSnapshot f.content local remote → f.ident.origin ≡ x
    → new ≡ old ++ cuts_in s o t x i local remote → new ≡ old ++ cuts_of s o t x i e e.content
own_cut s o t x i old new e f local remote is h own found =
    found ∙ ap (λ (gs : List Finding). old ++ gs) (sym (ap (λ (g : Entry). cuts_of s o t x i g g.content) is ∙ cut_some s o t x i f f.content local remote h own))

-- nothing is found of another cluster that it covers
pub covered_found : (x y : ℕ) (holds : Bool) (f : Finding) (old : List Finding) → x ≢ y → holds ≡ true → old ≡ old ++ (if x == y then [] else unless holds f)
covered_found x y holds f old other is = none_found holds f old is ∙ ap (λ (b : Bool). old ++ (if b then [] else unless holds f)) (sym (not_equal (x == y) refl))
  where
    not_equal : (b : Bool) → (x == y) ≡ b → b ≡ false
    not_equal false same = refl
    not_equal true same = absurd (other (eqb-true x y same))
