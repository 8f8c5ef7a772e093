-- Bytes are loaded as one answer.
use Rattle.std.proofs.Common.{◌≡◌, ℕ, ◌+◌, ◌*◌, ◌%◌, true, false, List, [], length, take, Ok, Err, refl, sym, ap, subst, ◌∙◌}
use Rattle.std.proofs.lemmas.Bool.{true≢false}
use Rattle.geo_base.specs.Broker.{Broker}
use Rattle.geo_base.specs.Setup.{Setup}
use Rattle.state_items.specs.declared.fault.Broken.{Broken}
use Rattle.state_items.specs.Reading.{Answer, Read, number_at}
use Rattle.state_items.specs.Telling.{Then}
use Rattle.state_items.proofs.Many.{many_one}
use Rattle.state_items.proofs.Telling.{then_one}
use Rattle.state_nodes.proofs.One.{node_one}
use Rattle.state_file.specs.Loading.{IsLoaded, Loaded, bad, broken, is_known, no_size, no_version, unknown, version, whole}
use Rattle.state_file.specs.Reading.{AreNodes, IsBody, IsNodeBehind, head_at, tail_at, version_at}
use Rattle.state_file.specs.State.{SavedState}

nodes_one : (v : ℕ) (s : Setup) (bytes : List ℕ) (a b : Read (List Broker)) → AreNodes v s bytes a → AreNodes v s bytes b → a ≡ b
nodes_one v s bytes a b p q =
    many_one (IsNodeBehind v s) (λ before rest c d i j. node_one v s.per_ledger s.clusters (length before % length s.clusters) rest c d i j) (length s.topics * length s.clusters) [] bytes a b p q

body_one : (v size : ℕ) (body : List ℕ) (a b : Answer SavedState) → IsBody v size body a → IsBody v size body b → a ≡ b
body_one v size body a b p q =
    then_one (λ r. r ≡ head_at body) (λ h r. Then (AreNodes v h.0.0.setup h.1) (λ ns s. s ≡ tail_at size (length body) h.0.0 h.0.1 ns.0 ns.1) r) (λ c d i j. i ∙ sym j)
    (λ h c d i j. then_one (AreNodes v h.0.0.setup h.1) (λ ns s. s ≡ tail_at size (length body) h.0.0 h.0.1 ns.0 ns.1) (nodes_one v h.0.0.setup h.1) (λ ns e f k l. k ∙ sym l) c d i j) a b p q

same_ok : {A : Type 0} (r : Answer A) (x y : A) → r ≡ Ok x → r ≡ Ok y → x ≡ y
same_ok r x y h k = let e : ◌≡◌ {A = Answer _} (Ok x) (Ok y) = sym h ∙ k in cc

same_err : {A : Type 0} (r : Answer A) (d e : Broken) → r ≡ Err d → r ≡ Err e → d ≡ e
same_err r d e h k = let f : ◌≡◌ {A = Answer _} (Err d) (Err e) = sym h ∙ k in cc

not_both : {A : Type 0} (r : Answer A) (e : Broken) (x : A) → r ≡ Err e → r ≡ Ok x → ⊥
not_both r e x h k = let f : ◌≡◌ {A = Answer _} (Err e) (Ok x) = sym h ∙ k in absurd cc

-- what stands in front of a body is read in one way
known_one : (bytes : List ℕ) (v w : ℕ × List ℕ) → version_at bytes ≡ Ok v → version_at bytes ≡ Ok w → is_known v.0 ≡ false → is_known w.0 ≡ true → ⊥
known_one bytes v w h k not_so so = true≢false (sym so ∙ ap (λ (x : ℕ × List ℕ). is_known x.0) (same_ok (version_at bytes) w v k h) ∙ not_so)

size_same : (bytes : List ℕ) (v w : ℕ × List ℕ) → version_at bytes ≡ Ok v → version_at bytes ≡ Ok w → number_at v.1 ≡ number_at w.1
size_same bytes v w h k = ap (λ (x : ℕ × List ℕ). number_at x.1) (same_ok (version_at bytes) v w h k)

body_same : (bytes : List ℕ) (v w n m : ℕ × List ℕ) (a b : Answer SavedState) → version_at bytes ≡ Ok v → version_at bytes ≡ Ok w → number_at v.1 ≡ Ok n → number_at w.1 ≡ Ok m → IsBody v.0 n.0 (take n.0 n.1) a → IsBody w.0 m.0 (take m.0 m.1) b → a ≡ b
body_same bytes v w n m a b h k i j p q =
    let vw : w ≡ v = same_ok (version_at bytes) w v k h in
    let nm : m ≡ n = same_ok (number_at v.1) m n (size_same bytes v w h k ∙ j) i in
    let q' : IsBody v.0 m.0 (take m.0 m.1) b = subst (λ (x : ℕ × List ℕ). IsBody x.0 m.0 (take m.0 m.1) b) vw q in
    let q'' : IsBody v.0 n.0 (take n.0 n.1) b = subst (λ (x : ℕ × List ℕ). IsBody v.0 x.0 (take x.0 x.1) b) nm q' in
    body_one v.0 n.0 (take n.0 n.1) a b p q''

pub loaded_one : (bytes : List ℕ) (a b : Loaded) → IsLoaded bytes a → IsLoaded bytes b → a ≡ b
loaded_one bytes a b (no_version d h is) (no_version e k js) = is ∙ ap (λ (x : Broken). Err (bad (length bytes) x)) (same_err (version_at bytes) d e h k) ∙ sym js
loaded_one bytes a b (no_version d h is) (unknown w k not_so js) = absurd (not_both (version_at bytes) d w h k)
loaded_one bytes a b (no_version d h is) (no_size w e k so s js) = absurd (not_both (version_at bytes) d w h k)
loaded_one bytes a b (no_version d h is) (broken w m e k so s t js) = absurd (not_both (version_at bytes) d w h k)
loaded_one bytes a b (no_version d h is) (whole w m s k so t u js) = absurd (not_both (version_at bytes) d w h k)
loaded_one bytes a b (unknown v h not_so is) (no_version e k js) = absurd (not_both (version_at bytes) e v k h)
loaded_one bytes a b (unknown v h not_so is) (unknown w k not_so' js) = is ∙ ap (λ (x : ℕ × List ℕ). Err (version x.0)) (same_ok (version_at bytes) v w h k) ∙ sym js
loaded_one bytes a b (unknown v h not_so is) (no_size w e k so s js) = absurd (known_one bytes v w h k not_so so)
loaded_one bytes a b (unknown v h not_so is) (broken w m e k so s t js) = absurd (known_one bytes v w h k not_so so)
loaded_one bytes a b (unknown v h not_so is) (whole w m s k so t u js) = absurd (known_one bytes v w h k not_so so)
loaded_one bytes a b (no_size v d h so s is) (no_version e k js) = absurd (not_both (version_at bytes) e v k h)
loaded_one bytes a b (no_size v d h so s is) (unknown w k not_so js) = absurd (known_one bytes w v k h not_so so)
loaded_one bytes a b (no_size v d h so s is) (no_size w e k so' t js) = is ∙ ap (λ (x : Broken). Err (bad (length bytes) x)) (same_err (number_at v.1) d e s (size_same bytes v w h k ∙ t)) ∙ sym js
loaded_one bytes a b (no_size v d h so s is) (broken w m e k so' t u js) = absurd (not_both (number_at v.1) d m s (size_same bytes v w h k ∙ t))
loaded_one bytes a b (no_size v d h so s is) (whole w m x k so' t u js) = absurd (not_both (number_at v.1) d m s (size_same bytes v w h k ∙ t))
loaded_one bytes a b (broken v n d h so s t is) (no_version e k js) = absurd (not_both (version_at bytes) e v k h)
loaded_one bytes a b (broken v n d h so s t is) (unknown w k not_so js) = absurd (known_one bytes w v k h not_so so)
loaded_one bytes a b (broken v n d h so s t is) (no_size w e k so' u js) = absurd (not_both (number_at w.1) e n u (size_same bytes w v k h ∙ s))
loaded_one bytes a b (broken v n d h so s t is) (broken w m e k so' u x js) =
    let same : n ≡ m = same_ok (number_at v.1) n m s (size_same bytes v w h k ∙ u) in
    let faults : ◌≡◌ {A = Answer SavedState} (Err d) (Err e) = body_same bytes v w n m (Err d) (Err e) h k s u t x in
    let fault : d ≡ e = cc in
    is ∙ ap (λ (y : ℕ × List ℕ). Err (bad (20 + length (take y.0 y.1)) d)) same ∙ ap (λ (y : Broken). Err (bad (20 + length (take m.0 m.1)) y)) fault ∙ sym js
loaded_one bytes a b (broken v n d h so s t is) (whole w m x k so' u y js) =
    absurd (not_both (Err d) d x refl (body_same bytes v w n m (Err d) (Ok x) h k s u t y))
loaded_one bytes a b (whole v n x h so s t is) (no_version e k js) = absurd (not_both (version_at bytes) e v k h)
loaded_one bytes a b (whole v n x h so s t is) (unknown w k not_so js) = absurd (known_one bytes w v k h not_so so)
loaded_one bytes a b (whole v n x h so s t is) (no_size w e k so' u js) = absurd (not_both (number_at w.1) e n u (size_same bytes w v k h ∙ s))
loaded_one bytes a b (whole v n x h so s t is) (broken w m e k so' u y js) =
    absurd (not_both (Err e) e x refl (sym (body_same bytes v w n m (Ok x) (Err e) h k s u t y)))
loaded_one bytes a b (whole v n x h so s t is) (whole w m y k so' u z js) =
    let same : n ≡ m = same_ok (number_at v.1) n m s (size_same bytes v w h k ∙ u) in
    let states : ◌≡◌ {A = Answer SavedState} (Ok x) (Ok y) = body_same bytes v w n m (Ok x) (Ok y) h k s u t z in
    let state : x ≡ y = cc in
    is ∙ ap (λ (i : ℕ × List ℕ). Ok (x, 20 + i.0)) same ∙ ap (λ (i : SavedState). Ok (i, 20 + m.0)) state ∙ sym js
