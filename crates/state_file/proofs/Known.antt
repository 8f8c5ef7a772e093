-- What is known of a state that was loaded.
use Rattle.std.proofs.Common.{◌≡◌, ℕ, ◌+◌, ◌-◌, ◌*◌, ◌%◌, ◌==◌, Bool, true, false, nat_lt, List, [], length, drop, take, Result, Ok, Err, refl, sym, ap, subst, ◌∙◌}
use Rattle.std.specs.Prelude.{Option, Some, None, if◌then◌else◌}
use Rattle.std.specs.Str.{bytes_eq}
use Rattle.std.proofs.lemmas.Option.{none-some, same_Some}
use Rattle.std.proofs.lemmas.Slice.Eq.{bytes_eq-Decides}
use Rattle.geo_base.specs.Broker.{Broker}
use Rattle.geo_base.specs.Client.{Client}
use Rattle.geo_base.specs.Setup.{Setup, declared_at}
use Rattle.script_text.specs.Canonical.{declarations_text}
use Rattle.script_text.specs.Rules.{script_of}
use Rattle.script_text.specs.Script.{Fault, Script}
use Rattle.state_nodes.proofs.ClientKnown.{client_known}
use Rattle.state_file.specs.Known.{IsClientBehind, IsKnownBehind, IsKnownState}
use Rattle.state_file.specs.Loading.{IsLoaded, Loaded, Refusal, broken, no_size, no_version, unknown, whole}
use Rattle.state_file.specs.Reading.{AreNodes, IsBody, IsNodeBehind, canonical, client_behind, declarations_at, head_at, scripted, so_many, tail_at}
use Rattle.state_file.specs.State.{SavedState}
use Rattle.state_items.specs.declared.rule.Rule.TheVariants as rule
use Rattle.state_items.specs.Fitting.{AllFit}
use Rattle.state_items.specs.Reading.{Read, judge, many, number_at}
use Rattle.state_items.specs.Reading.{broken as item_broken}
use Rattle.state_items.specs.Telling.{Then}
use Rattle.state_items.proofs.Known.{all_told, came, listed_all, listed_count, many_known, not_both, same_value, told}
use Rattle.state_nodes.specs.declared.counts.Counts.{Counts}
use Rattle.state_nodes.specs.Counts.{counts_at}
use Rattle.state_nodes.specs.Fitting.{AreCounts}
use Rattle.state_nodes.proofs.Known.{counts_known}
use Rattle.state_nodes.proofs.NodeKnown.{node_known}

-- ---- the declarations

abbrev pub IsDeclared : Script → Type 0
IsDeclared s = script_of (declarations_text s.setup s.chance) ≡ Ok s

canonical_known : (text : List ℕ) (r : Result Script Fault) (s : Script) → script_of text ≡ r → canonical text r ≡ Some s → IsDeclared s
canonical_known text (Err f) s e h = absurd (none-some s h)
canonical_known text (Ok t) s e h = by (bytes_eq (declarations_text t.setup t.chance) text) refl h
  where
    by : (b : Bool) → bytes_eq (declarations_text t.setup t.chance) text ≡ b → (if b then Some t else None) ≡ Some s → IsDeclared s
    by true is k =
        let same : declarations_text t.setup t.chance ≡ text = (bytes_eq-Decides (declarations_text t.setup t.chance) text).0 is in
        subst IsDeclared (same_Some t s k) (ap script_of same ∙ e)
    by false is k = absurd (none-some s k)

scripted_known : (item rest : List ℕ) (o : Option Script) (x : Script × List ℕ) → scripted item rest o ≡ Ok x → o ≡ Some x.0
scripted_known item rest None x h = absurd (not_both _ x h)
scripted_known item rest (Some s) x h = ap (λ (y : Script × List ℕ). Some y.0) (same_value (s, rest) x h)

declared_known : (n : ℕ) (bytes : List ℕ) (x : Script × List ℕ) → so_many n bytes ≡ Ok x → IsDeclared x.0
declared_known n bytes x h = by (nat_lt (length bytes) n) h
  where
    read : Read Script
    read = scripted bytes (drop n bytes) (canonical (take n bytes) (script_of (take n bytes)))

    by : (b : Bool) → (if b then Err (item_broken bytes rule.Whole) else read) ≡ Ok x → IsDeclared x.0
    by true e = absurd (not_both _ x e)
    by false e = canonical_known (take n bytes) (script_of (take n bytes)) x.0 refl (scripted_known bytes (drop n bytes) _ x e)

declarations_known : (bytes : List ℕ) (x : Script × List ℕ) → declarations_at bytes ≡ Ok x → IsDeclared x.0
unfolding declarations_at
declarations_known bytes x h =
    let a = came (number_at bytes) _ x h in
    declared_known a.first.0 a.first.1 x a.next

record IsKnownHead (s : Script) (c : Counts) : Type 0 where
  pub declared : IsDeclared s
  pub counts : AreCounts c

head_known : (bytes : List ℕ) (x : (Script × Counts) × List ℕ) → head_at bytes ≡ Ok x → IsKnownHead x.0.0 x.0.1
unfolding head_at
head_known bytes x h =
    let a = came (declarations_at bytes) _ x h in
    let b = came (counts_at a.first.1) _ x a.next in
    subst (λ (y : (Script × Counts) × List ℕ). IsKnownHead y.0.0 y.0.1) (same_value _ x b.next) (record { declared = declarations_known bytes a.first a.is; counts = counts_known a.first.1 b.first b.is })

-- ---- brokers and clients

node_behind : (version : ℕ) (s : Setup) (before : List Broker) (bytes : List ℕ) (x : Broker × List ℕ) → IsNodeBehind version s before bytes (Ok x) → IsKnownBehind s before x.0
node_behind version s before bytes x h = node_known version s.per_ledger s.clusters (length before % length s.clusters) bytes x h

client_there : (s : Setup) (before : List Client) (bytes : List ℕ) (x : Client × List ℕ) → client_behind s before bytes ≡ Ok x → IsClientBehind s before x.0
client_there s before bytes x h = client_known (length s.clusters) (declared_at s (length before)).lines bytes x h

record AreKnownNodes (s : Setup) (bs : List Broker) : Type 0 where
  pub count : length bs ≡ length s.topics * length s.clusters
  pub each : AllFit (IsKnownBehind s) [] bs

nodes_known : (version : ℕ) (s : Setup) (bytes : List ℕ) (x : List Broker × List ℕ) → AreNodes version s bytes (Ok x) → AreKnownNodes s x.0
nodes_known version s bytes x h =
    let n = length s.topics * length s.clusters in
    let all = all_told (IsNodeBehind version s) (IsKnownBehind s) (node_behind version s) n [] bytes x h in
    record { count = listed_count (IsKnownBehind s) n x.0 all; each = listed_all (IsKnownBehind s) n x.0 all }

tail_known : (size there : ℕ) (script : Script) (counts : Counts) (brokers : List Broker) (bytes : List ℕ) (s : SavedState) → IsKnownHead script counts → AreKnownNodes script.setup brokers
    → tail_at size there script counts brokers bytes ≡ Ok s → IsKnownState s
unfolding tail_at
tail_known size there script counts brokers bytes s head each h =
    let n = length script.setup.clients in
    let a = came (many (client_behind script.setup) n [] bytes) _ s h in
    let b = came (judge ((there - length a.first.1) == size) a.first.1 rule.End) _ s a.next in
    let all = many_known (client_behind script.setup) (IsClientBehind script.setup) (client_there script.setup) n [] bytes a.first a.is in
    subst IsKnownState (same_value _ s b.next) (record {
      declared = head.declared;
      counts = head.counts;
      all_nodes = each.count;
      brokers = each.each;
      all_clients = listed_count (IsClientBehind script.setup) n a.first.0 all;
      clients = listed_all (IsClientBehind script.setup) n a.first.0 all;
    })

body_known : (version size : ℕ) (body : List ℕ) (s : SavedState) → IsBody version size body (Ok s) → IsKnownState s
body_known version size body s h =
    let a = told (λ r. r ≡ head_at body) (λ g r. Then (AreNodes version g.0.0.setup g.1) (λ ns q. q ≡ tail_at size (length body) g.0.0 g.0.1 ns.0 ns.1) r) s h in
    let b = told (AreNodes version a.first.0.0.setup a.first.1) (λ ns q. q ≡ tail_at size (length body) a.first.0.0 a.first.0.1 ns.0 ns.1) s a.next in
    tail_known size (length body) a.first.0.0 a.first.0.1 b.first.0 b.first.1 s (head_known body a.first (sym a.is)) (nodes_known version a.first.0.0.setup a.first.1 b.first b.is) (sym b.next)

-- ---- a file

refused_not : (r : Refusal) (x : SavedState × ℕ) → ◌≡◌ {A = Loaded} (Ok x) (Err r) → ⊥
refused_not r x h = absurd cc

loaded_as : (x y : SavedState × ℕ) → ◌≡◌ {A = Loaded} (Ok x) (Ok y) → y ≡ x
loaded_as x y h = cc

answer_known : (bytes : List ℕ) (answer : Loaded) (x : SavedState × ℕ) → Ok x ≡ answer → IsLoaded bytes answer → IsKnownState x.0
answer_known bytes answer x e (no_version b v is) = absurd (refused_not _ x (e ∙ is))
answer_known bytes answer x e (unknown v is_v other is) = absurd (refused_not _ x (e ∙ is))
answer_known bytes answer x e (no_size v b is_v known n is) = absurd (refused_not _ x (e ∙ is))
answer_known bytes answer x e (broken v n b is_v known is_n body is) = absurd (refused_not _ x (e ∙ is))
answer_known bytes answer x e (whole v n s is_v known is_n body is) =
    subst (λ (y : SavedState × ℕ). IsKnownState y.0) (loaded_as x (s, 20 + n.0) (e ∙ is)) (body_known v.0 n.0 (take n.0 n.1) s body)

pub loaded_known : (bytes : List ℕ) (s : SavedState) (used : ℕ) → IsLoaded bytes (Ok (s, used)) → IsKnownState s
loaded_known bytes s used h = answer_known bytes (Ok (s, used)) (s, used) refl h
