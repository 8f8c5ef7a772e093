-- An accepted line of an own snapshot marker cuts: what each position names covers stands at the cluster.
use Rattle.std.proofs.Common.{◌≡◌, ℕ, ◌+◌, Bool, true, false, List, [], ◌∷◌, length, refl, sym, subst, ◌∙◌, ◌==◌, arith, not}
use Rattle.std.specs.Prelude.{◌≢◌, ◌&&◌, ◌||◌, Option, Some, None, slice_get, take}
use Rattle.std.specs.List.{list_all, list_any, range_with_len}
use Rattle.std.proofs.lemmas.Bool.{eqb-true, false≢true}
use Rattle.world_laws.proofs.Types.{ClusterPosition, Content, Entry, Position}
use Rattle.world_laws.proofs.Types.content
use Rattle.world_laws.proofs.Types.marker
use Rattle.geo_base.specs.Cursor.{below}
use Rattle.geo_base.specs.Entry.{is_data, meant_for}
use Rattle.geo_base.specs.Setup.{Setup}
use Rattle.geo_base.specs.Updating.{is_updated, positions_for}
use Rattle.world_laws.proofs.Walks.Walk.{by_test, left, right}
use Rattle.geo_base.specs.Mirror.{Mirror, Mirrors, index_at, mirror_at}
use Rattle.geo_base.specs.Audit.{covers, index_named, is_covered, is_cut, is_named_once, may_snapshot, names_each, position_named, same_entry}
use Rattle.trace_laws.proofs.Kept.{CutTo, IsCutIn, StandsBelow}
use Rattle.trace_laws.proofs.Lists.{all_at, all_below, any_at, in_take, of_take}
use Rattle.trace_laws.proofs.Same.{entries_are}
use Rattle.trace_laws.proofs.Refusals.{not_true, or_true}

-- the one position of a list of one
one_of : (ps : List Position) → (length ps == 1) ≡ true → (p : Position) × (ps ≡ p ∷ [])
one_of [] h = absurd (false≢true h)
one_of (p ∷ []) h = (p, refl)
one_of (p ∷ q ∷ ps) h = let e = eqb-true (length (p ∷ q ∷ ps)) 1 h in absurd (omega (arith, e))

differs : (x y : ℕ) → x ≢ y → (x == y) ≡ false
differs x y other = by_test (x == y) (λ e. absurd (other (eqb-true x y e))) (λ e. e)

covered_below : (x l : ℕ) (m : Mirror) (f : Entry) → is_covered x m l f ≡ true → is_data f.content ≡ true → meant_for x f ≡ true → StandsBelow m l f
covered_below x l m f h message meant =
    let B : Bool → Bool → Type 0 = λ d g. (not (d && g) || list_any (same_entry f) (take (l + 1) m.entries)) ≡ true in
    let any : list_any (same_entry f) (take (l + 1) m.entries) ≡ true = subst (λ (g : Bool). B true g) meant (subst (λ (d : Bool). B d (meant_for x f)) message h) in
    let r = any_at (same_entry f) (take (l + 1) m.entries) any in
    let o = of_take (l + 1) m.entries r.place r.it r.at in
    let same = entries_are f r.it r.passes in
    record { index = r.place; entry = r.it; below = (let lt = o.0 in omega (arith, lt)); at = o.1; ident = sym same.ident; content = sym same.content }

covers_to : (s : Setup) (a : Mirrors) (t x l y : ℕ) (remote : List ClusterPosition) (ps : List Position) → positions_for y remote ≡ ps → (length ps == 1) ≡ true
    → covers x (mirror_at s a t x) (mirror_at s a t y) l (index_named (mirror_at s a t y) (slice_get ps 0)) ≡ true → CutTo s a t x l y remote
covers_to s a t x l y remote ps is one h = by (one_of ps one)
  where
    there : Mirror
    there = mirror_at s a t y

    found : (p : Position) → positions_for y remote ≡ p ∷ [] → (o : Option ℕ) → index_at there p ≡ o → covers x (mirror_at s a t x) there l o ≡ true → CutTo s a t x l y remote
    found p named None at c = absurd (false≢true c)
    found p named (Some j) at c = record {
      position = p;
      names = named;
      index = j;
      stored = at;
      covers = λ k f le stands message meant.
          covered_below x l (mirror_at s a t x) f (all_at (is_covered x (mirror_at s a t x) l) (take (j + 1) there.entries) k f c (in_take (j + 1) there.entries k f (omega (arith, le)) stands))
          message meant;
    }

    by : ((p : Position) × (ps ≡ p ∷ [])) → CutTo s a t x l y remote
    by (p, e) =
        let C : List Position → Type 0 = λ qs. covers x (mirror_at s a t x) there l (index_named there (slice_get qs 0)) ≡ true in
        found p (is ∙ e) (index_at there p) refl (subst C e h)

cut_at : (s : Setup) (a : Mirrors) (t x : ℕ) (local : Position) (remote : List ClusterPosition) (o : Option ℕ) → index_at (mirror_at s a t x) local ≡ o
    → names_each x (length s.clusters) remote ≡ true → is_cut s a t x remote o ≡ true → IsCutIn s a t x local remote
cut_at s a t x local remote None at named cut = absurd (false≢true cut)
cut_at s a t x local remote (Some l) at named cut = record {
  local_index = l;
  local_stored = at;
  each = λ y lt other.
      let n = length s.clusters in
      let apart = differs x y other in
      let all = right (length remote + 1 == n) (list_all (λ z. is_named_once x z remote) (range_with_len 0 n)) named in
      let one = or_true (x == y) (length (positions_for y remote) == 1) (all_below (λ z. is_named_once x z remote) n y all lt) apart in
      let C : ℕ → Bool = λ z. (x == z) || covers x (mirror_at s a t x) (mirror_at s a t z) l (index_named (mirror_at s a t z) (position_named z remote)) in
      let c = or_true (x == y) (covers x (mirror_at s a t x) (mirror_at s a t y) l (index_named (mirror_at s a t y) (position_named y remote))) (all_below C n y cut lt) apart in
      covers_to s a t x l y remote (positions_for y remote) refl one c;
}

pub snapshot_cuts : (s : Setup) (a : Mirrors) (t x : ℕ) (e : Entry) (id : List ℕ) (local : Position) (remote : List ClusterPosition)
    → may_snapshot s a t x e e.content ≡ true → (e.ident.origin == x) ≡ true → e.content ≡ content.Marked (marker.Snapshot id local remote) → IsCutIn s a t x local remote
snapshot_cuts s a t x e id local remote h own is =
    let C : Content → Type 0 = λ c. may_snapshot s a t x e c ≡ true in
    let named = names_each x (length s.clusters) remote in let cut = is_cut s a t x remote (index_at (mirror_at s a t x) local) in
    let both = not_true (e.ident.origin == x) (named && cut) (subst C is h) own in
    cut_at s a t x local remote (index_at (mirror_at s a t x) local) refl (left named cut both) (right named cut both)
