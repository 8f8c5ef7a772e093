-- The values of a repeated ClusterMessageId, one after another.
use Rattle.std.proofs.Common.{◌≡◌, ℕ, ◌+◌, ◌<◌, List, [], ◌∷◌, ◌++◌, Result, Ok, Err, length, get_or, take, sym, ap, subst, ◌∙◌}
use Rattle.std.proofs.lemmas.List.{append-nil}
use Rattle.std.specs.Prelude.{IfOk}
use Rattle.std.specs.List.{AllByRecursion}
use Rattle.std.proofs.lemmas.List.{take_more}
use Rattle.geo_base.specs.declared.memory.Memory.{Memory}
use Rattle.pb_fields.specs.declared.field.Field.{Field}
use Rattle.pb_fields.specs.declared.field.Value.{Value}
use Rattle.pb_fields.specs.declared.field.Value.TheVariants as value
use Rattle.pb_fields.specs.Embedded.{IsMessageWith}
use Rattle.pb_fields.specs.Message.{values}
use Rattle.pb_fields.specs.Text.{IsText}
use Rattle.pb_fields.proofs.LastValues.{values-same, values-other}
use Rattle.pb_fields.proofs.Nested.{IsHeld}
use Rattle.pb_fields.proofs.Parts.{values-append}
use Rattle.marker_codec.specs.declared.marker.ClusterMessageId.{ClusterMessageId}
use Rattle.marker_codec.specs.Kinds.{RightCluster, RightPosition}
use Rattle.marker_codec.specs.Markers.{IsClusterText, HoldsCluster, AreClusters, SaysCluster}
use Rattle.marker_codec.specs.Table.{cluster_rows}

same_content : (a b : List ℕ) → ◌≡◌ {A = Value} (value.Bytes a) (value.Bytes b) → a ≡ b
same_content a b e = cc

pub held_right : (v : Value) (content : List ℕ) → IsHeld (RightCluster 0) v → v ≡ value.Bytes content → RightCluster 0 content
held_right v content h e = subst (λ (c : List ℕ). RightCluster 0 c) (let is = h.is in same_content h.content content (sym is ∙ e)) h.right

-- what the fields of a text say, the text says
pub cluster_is : (content : List ℕ) (fields held : List Field) (r : Result ClusterMessageId Memory) → held ≡ fields → IsText content fields → IsMessageWith RightPosition cluster_rows fields → IfOk r (SaysCluster held) → IfOk r (IsClusterText content)
cluster_is content fields held (Ok c) same is message says = record { fields = fields; text = is; message = message; says = subst (λ (fs : List Field). SaysCluster fs c) same says }
cluster_is content fields held (Err m) same is message says = tt

pub held_cluster : (v : Value) (content : List ℕ) (r : Result ClusterMessageId Memory) → v ≡ value.Bytes content → IfOk r (IsClusterText content) → IfOk r (HoldsCluster v)
held_cluster v content (Ok c) e h = record { content = content; is = e; means = h }
held_cluster v content (Err m) e h = tt

clusters_push : (vs : List Value) (v : Value) (cs : List ClusterMessageId) (c : ClusterMessageId) → AreClusters vs cs → HoldsCluster v c → AreClusters (vs ++ v ∷ []) (cs ++ c ∷ [])
clusters_push [] v [] c h k = (k, tt)
clusters_push [] v (d ∷ ds) c h k = absurd h
clusters_push (w ∷ ws) v [] c h k = absurd h
clusters_push (w ∷ ws) v (d ∷ ds) c h k = (h.0, clusters_push ws v ds c h.1 k)

values_next : (n i : ℕ) (fs : List Field) (f : Field) → i < length fs → f ≡ get_or fs i f → values n (take (i + 1) fs) ≡ values n (take i fs) ++ values n (f ∷ [])
values_next n i fs f lt is =
    ap (λ (xs : List Field). values n xs) (take_more fs i f lt) ∙ values-append n (take i fs) (get_or fs i f ∷ []) ∙ ap (λ (g : Field). values n (take i fs) ++ values n (g ∷ [])) (sym is)

pub clusters_more : (n i : ℕ) (fs : List Field) (f : Field) (cs : List ClusterMessageId) (c : ClusterMessageId) → i < length fs → f ≡ get_or fs i f → f.number ≡ n → AreClusters (values n (take i fs)) cs → HoldsCluster f.value c → AreClusters (values n (take (i + 1) fs)) (cs ++ c ∷ [])
clusters_more n i fs f cs c lt is same h k =
    let e : values n (take (i + 1) fs) ≡ values n (take i fs) ++ f.value ∷ [] = values_next n i fs f lt is ∙ ap (λ (vs : List Value). values n (take i fs) ++ vs) (values-same n f [] same) in
    subst (λ (vs : List Value). AreClusters vs (cs ++ c ∷ [])) (sym e) (clusters_push (values n (take i fs)) f.value cs c h k)

pub clusters_same : (n i : ℕ) (fs : List Field) (f : Field) (cs : List ClusterMessageId) → i < length fs → f ≡ get_or fs i f → (f.number ≡ n → ⊥) → AreClusters (values n (take i fs)) cs → AreClusters (values n (take (i + 1) fs)) cs
clusters_same n i fs f cs lt is other h =
    let e : values n (take (i + 1) fs) ≡ values n (take i fs) = values_next n i fs f lt is ∙ ap (λ (vs : List Value). values n (take i fs) ++ vs) (values-other n f [] other) ∙ append-nil (values n (take i fs)) in
    subst (λ (vs : List Value). AreClusters vs cs) (sym e) h

pub all_held : (P Q : List ℕ → Type 0) (vs : List Value) → ((content : List ℕ) → P content → Q content) → AllByRecursion (IsHeld P) vs → AllByRecursion (IsHeld Q) vs
all_held P Q [] f h = tt
all_held P Q (v ∷ vs) f h = (record { content = h.0.content; is = h.0.is; right = f h.0.content h.0.right }, all_held P Q vs f h.1)
