-- The names that the reader keeps stay those that are declared.
use Rattle.std.proofs.Common.{◌≡◌, ℕ, ◌+◌, ◌<◌, ◌==◌, Bool, true, false, ◌&&◌, ◌||◌, List, [], ◌∷◌, ◌++◌, length, map, slice_index_or, Some, None, inl, inr, arith, refl, sym, ap, subst, ◌∙◌}
use Rattle.std.specs.List.{IsDistinct, list_any, slice_set}
use Rattle.std.specs.Str.{bytes_eq}
use Rattle.std.proofs.Math.Bool.{or-false}
use Rattle.std.proofs.Math.Seq.{map-set_same}
use Rattle.std.proofs.lemmas.Bool.{cases_Bool, cases_lt, cond_both, eqb-false, eqb-true}
use Rattle.std.proofs.lemmas.List.{get_or-map, get_or-set_other, get_or-set_same, get_or_append_left, get_or_past, get_or_push, length_push, length-set, map-append, map-set}
use Rattle.std.proofs.lemmas.List.Elements.{All-get_or, All-nil, All-push, All-set, All-weaker}
use Rattle.std.proofs.lemmas.Map.Keys.{IsDistinct-push}
use Rattle.geo_base.specs.declared.client.Line.{Line}
use Rattle.geo_base.specs.declared.client.Line.TheVariants as line
use Rattle.geo_base.specs.Setup.{Declared, Setup, declared_at, nobody, sub_names}
use Rattle.script_rows.specs.NameBytes.{is_among}
use Rattle.script_rows.specs.NameWords.{Word}
use Rattle.script_rows.specs.declared.column.Role.{Role}
use Rattle.script_rows.specs.declared.names.Member.{Member}
use Rattle.script_rows.specs.Names.{Names, in_role, member_at, stranger, subs_of, with_role}
use Rattle.script_rows.specs.Names as rows
use Rattle.script_text.specs.Adding.{new_client, one_more, with_client, with_cluster, with_ledger, with_line, with_topic}
use Rattle.script_text.specs.Drafts.{no_draft, noted_line}
use Rattle.script_text.specs.Naming.{member_of}
use Rattle.script_text.specs.Script.{nothing_declared}
use Rattle.script_text.specs.Subs.{AreKnown, AreNoted, is_named_by, is_sub_of, noted_names, same_name, sub_in}
use Rattle.script_text.proofs.SubNames.{among_again, among_pushed, among_subs, cases_named, name_laws, names_nothing, none_distinct, subs_after, subs_pushed}

abbrev pub IsWithin : Setup → Declared → Type 0
IsWithin s d = d.topic < length s.topics

pub nothing_known : AreKnown nothing_declared.setup no_draft.names
nothing_known = record {
  names = refl;
  subs = record { many = refl; distinct = λ t. none_distinct; same = λ t q. refl };
  within = All-nil (IsWithin nothing_declared.setup);
}

pub ledger_known : (s : Setup) (n : Names) (entries : ℕ) → AreKnown s n → AreKnown (with_ledger s entries) n
ledger_known s n entries k = record {
  names = k.names;
  subs = record { many = k.subs.many; distinct = k.subs.distinct; same = k.subs.same };
  within = k.within;
}

pub cluster_known : (s : Setup) (n : Names) (w : Word) → AreKnown s n → AreKnown (with_cluster s w) (rows.with_cluster n w)
cluster_known s n w k = record {
  names = ap (λ (m : Names). rows.with_cluster m w) k.names;
  subs = record { many = k.subs.many; distinct = k.subs.distinct; same = k.subs.same };
  within = k.within;
}

-- ---- a topic, which has no subscription yet
pushed_at : (ss : List (List Word)) (t : ℕ) → slice_index_or (ss ++ [] ∷ []) t [] ≡ slice_index_or ss t []
pushed_at ss t =
    elim (cases_lt t (length ss)) [
      | inl within ↦ get_or_append_left ss ([] ∷ []) [] t within
      | inr past ↦ elim (cases_lt t (length ss + 1)) [
        | inl last ↦ get_or_push ss [] [] t (omega arith) ∙ sym (get_or_past ss t [] past)
        | inr far ↦ get_or_past (ss ++ [] ∷ []) t [] (omega (arith, length_push ss [])) ∙ sym (get_or_past ss t [] past)
      ]
    ]

topic_noted : (s : Setup) (ss : List (List Word)) (w : Word) → AreNoted s ss → AreNoted (with_topic s w) (ss ++ [] ∷ [])
topic_noted s ss w k = record {
  many = omega (arith, length_push ss [], length_push s.topics w, k.many);
  distinct = λ t. subst (IsDistinct same_name) (sym (pushed_at ss t)) (k.distinct t);
  same = λ t q. ap (λ (names : List Word). is_among names q) (pushed_at ss t) ∙ k.same t q;
}

pub topic_known : (s : Setup) (n : Names) (w : Word) → AreKnown s n → AreKnown (with_topic s w) (rows.with_topic n w)
topic_known s n w k = record {
  names = ap (λ (m : Names). rows.with_topic m w) k.names;
  subs = topic_noted s n.subs w k.subs;
  within = All-weaker (IsWithin s) (IsWithin (with_topic s w)) (λ d is. omega (arith, is, length_push s.topics w)) s.clients k.within;
}

-- ---- a client, which has no line yet
client_named : (s : Setup) (ss : List (List Word)) (w : Word) (t x : ℕ) → rows.with_client (noted_names s ss) w t ≡ noted_names (with_client s (new_client w t x)) ss
client_named s ss w t x =
    let d = new_client w t x in
    ap (λ (us : List Word). record (rows.with_client (noted_names s ss) w t) { clients = us }) (sym (map-append (λ (e : Declared). e.name) s.clients (d ∷ []))) ∙ ap (λ (ms : List Member). record (noted_names (with_client s d) ss) { members = ms }) (sym (map-append member_of s.clients (d ∷ [])))

pub client_known : (s : Setup) (n : Names) (w : Word) (t x : ℕ) → t < length s.topics → AreKnown s n → AreKnown (with_client s (new_client w t x)) (rows.with_client n w t)
client_known s n w t x within k = record {
  names = ap (λ (m : Names). rows.with_client m w t) k.names ∙ client_named s n.subs w t x;
  subs = record {
    many = k.subs.many;
    distinct = k.subs.distinct;
    same = λ u q. k.subs.same u q ∙ sym (subs_pushed s (new_client w t x) u q refl);
  };
  within = All-push (IsWithin s) s.clients (new_client w t x) k.within within;
}

-- ---- a client's line
-- a line that names nothing new
noted_old : (s : Setup) (ss : List (List Word)) (c : ℕ) (l : Line) → c < length s.clients → ((t : ℕ) (q : Word) → list_any (is_named_by t q) s.clients ≡ (list_any (is_named_by t q) s.clients || (((declared_at s c).topic == t) && is_sub_of q l))) → AreNoted s ss → AreNoted (with_line s c l) ss
noted_old s ss c l within nothing k = record {
  many = k.many;
  distinct = k.distinct;
  same = λ t q. k.same t q ∙ (nothing t q ∙ sym (subs_after s c l t q within));
}

noted_other : (s : Setup) (ss : List (List Word)) (c : ℕ) (l : Line) → c < length s.clients → sub_in l ≡ None → AreNoted s ss → AreNoted (with_line s c l) ss
noted_other s ss c l within none k =
    noted_old s ss c l within (λ t q. sym (ap (λ (b : Bool). list_any (is_named_by t q) s.clients || (((declared_at s c).topic == t) && b)) (names_nothing q l none) ∙ (ap (λ (b : Bool). list_any (is_named_by t q) s.clients || b) (cases_named ((declared_at s c).topic == t)) ∙ or-false (list_any (is_named_by t q) s.clients)))) k

-- what a `sub` line names
named_is : (q sub : Word) (l : Line) → sub_in l ≡ Some sub → is_sub_of q l ≡ bytes_eq sub q
named_is q sub l is = rw is refl

again_at : (s : Setup) (u t : ℕ) (sub q : Word) → is_among (sub_names s u) sub ≡ true → list_any (is_named_by t q) s.clients ≡ (list_any (is_named_by t q) s.clients || ((u == t) && bytes_eq sub q))
again_at s u t sub q there =
    elim (cases_Bool (u == t)) [
      | inl here ↦
          let is : u ≡ t = eqb-true u t here in
          let old : is_among (sub_names s t) sub ≡ true = subst (λ (v : ℕ). is_among (sub_names s v) sub ≡ true) is there in
          rw here (sym (among_subs s t q) ∙ (among_again (sub_names s t) sub q old ∙ ap (λ (b : Bool). b || bytes_eq sub q) (among_subs s t q)))
      | inr other ↦ rw other (sym (or-false (list_any (is_named_by t q) s.clients)))
    ]

noted_again : (s : Setup) (ss : List (List Word)) (c : ℕ) (l : Line) (sub : Word) → c < length s.clients → sub_in l ≡ Some sub → is_among (slice_index_or ss (declared_at s c).topic []) sub ≡ true → AreNoted s ss → AreNoted (with_line s c l) ss
noted_again s ss c l sub within is there k =
    let u = (declared_at s c).topic in
    noted_old s ss c l within (λ t q. rw (named_is q sub l is) (again_at s u t sub q (among_subs s u sub ∙ (sym (k.same u sub) ∙ there)))) k

-- the subscriptions with one more of topic u
abbrev pub more_subs : List (List Word) → ℕ → Word → List (List Word)
more_subs ss u sub = slice_set ss u (slice_index_or ss u [] ++ sub ∷ [])

more_here : (ss : List (List Word)) (u t : ℕ) (sub : Word) → u ≡ t → u < length ss → slice_index_or (more_subs ss u sub) t [] ≡ slice_index_or ss t [] ++ sub ∷ []
more_here ss u t sub is within =
    subst (λ (v : ℕ). slice_index_or (more_subs ss u sub) v [] ≡ slice_index_or ss v [] ++ sub ∷ []) is (get_or-set_same ss u (slice_index_or ss u [] ++ sub ∷ []) [] within)

more_there : (ss : List (List Word)) (u t : ℕ) (sub : Word) → (u == t) ≡ false → slice_index_or (more_subs ss u sub) t [] ≡ slice_index_or ss t []
more_there ss u t sub other =
    get_or-set_other ss u t (slice_index_or ss u [] ++ sub ∷ []) [] (λ same. eqb-false u t other (sym same))

distinct_more : (s : Setup) (ss : List (List Word)) (u t : ℕ) (sub : Word) → u < length ss → is_among (slice_index_or ss u []) sub ≡ false → AreNoted s ss → IsDistinct same_name (slice_index_or (more_subs ss u sub) t [])
distinct_more s ss u t sub within new k =
    elim (cases_Bool (u == t)) [
      | inl here ↦
          let is : u ≡ t = eqb-true u t here in
          subst (IsDistinct same_name) (sym (more_here ss u t sub is within)) (IsDistinct-push name_laws (slice_index_or ss t []) sub (k.distinct t) (subst (λ (v : ℕ). is_among (slice_index_or ss v []) sub ≡ false) is new))
      | inr other ↦ subst (IsDistinct same_name) (sym (more_there ss u t sub other)) (k.distinct t)
    ]

among_more : (s : Setup) (ss : List (List Word)) (u t : ℕ) (sub q : Word) → u < length ss → AreNoted s ss → is_among (slice_index_or (more_subs ss u sub) t []) q ≡ (list_any (is_named_by t q) s.clients || ((u == t) && bytes_eq sub q))
among_more s ss u t sub q within k =
    elim (cases_Bool (u == t)) [
      | inl here ↦
          let is : u ≡ t = eqb-true u t here in
          rw here (ap (λ (names : List Word). is_among names q) (more_here ss u t sub is within) ∙ (among_pushed (slice_index_or ss t []) sub q ∙ ap (λ (b : Bool). b || bytes_eq sub q) (k.same t q)))
      | inr other ↦
          rw other (ap (λ (names : List Word). is_among names q) (more_there ss u t sub other) ∙ (k.same t q ∙ sym (or-false (list_any (is_named_by t q) s.clients))))
    ]

noted_more : (s : Setup) (ss : List (List Word)) (c : ℕ) (l : Line) (sub : Word) → c < length s.clients → sub_in l ≡ Some sub → (declared_at s c).topic < length ss → is_among (slice_index_or ss (declared_at s c).topic []) sub ≡ false → AreNoted s ss → AreNoted (with_line s c l) (more_subs ss (declared_at s c).topic sub)
noted_more s ss c l sub within is there new k =
    let u = (declared_at s c).topic in
    record {
      many = length-set ss u (slice_index_or ss u [] ++ sub ∷ []) ∙ k.many;
      distinct = λ t. distinct_more s ss u t sub there new k;
      same = λ t q. among_more s ss u t sub q there k ∙ sym (subs_after s c l t q within ∙ ap (λ (b : Bool). list_any (is_named_by t q) s.clients || ((u == t) && b)) (named_is q sub l is));
    }

-- a line notes at most its subscription
only_subs : (m : Names) (t : ℕ) (l : Line) → noted_line m t l ≡ record m { subs = (noted_line m t l).subs }
only_subs m t (line.Sub sub kind earliest replicated) =
    cond_both (is_among (subs_of m t) sub) m (record m { subs = more_subs m.subs t sub }) (λ (x : Names). x ≡ record m { subs = x.subs }) (λ _. refl) (λ _. refl)
only_subs m t l = refl

subs_noted : (s : Setup) (m : Names) (c : ℕ) (l : Line) → c < length s.clients → (declared_at s c).topic < length m.subs → AreNoted s m.subs → AreNoted (with_line s c l) (noted_line m (declared_at s c).topic l).subs
subs_noted s m c (line.Sub sub kind earliest replicated) within there k =
    let u = (declared_at s c).topic in
    let l = line.Sub sub kind earliest replicated in
    cond_both (is_among (subs_of m u) sub) m (record m { subs = more_subs m.subs u sub }) (λ (x : Names). AreNoted (with_line s c l) x.subs) (λ old. noted_again s m.subs c l sub within refl old k) (λ new. noted_more s m.subs c l sub within refl there new k)
subs_noted s m c line.Produce within there k = noted_other s m.subs c line.Produce within refl k
subs_noted s m c (line.Pub seq to key text) within there k =
    noted_other s m.subs c (line.Pub seq to key text) within refl k
subs_noted s m c (line.Flow permits) within there k = noted_other s m.subs c (line.Flow permits) within refl k
subs_noted s m c (line.Ack i) within there k = noted_other s m.subs c (line.Ack i) within refl k
subs_noted s m c (line.AckTo i) within there k = noted_other s m.subs c (line.AckTo i) within refl k
subs_noted s m c line.AckAll within there k = noted_other s m.subs c line.AckAll within refl k
subs_noted s m c line.Unsub within there k = noted_other s m.subs c line.Unsub within refl k
subs_noted s m c line.Close within there k = noted_other s m.subs c line.Close within refl k
subs_noted s m c line.CloseProducer within there k = noted_other s m.subs c line.CloseProducer within refl k
subs_noted s m c line.Ping within there k = noted_other s m.subs c line.Ping within refl k
subs_noted s m c (line.Move x) within there k = noted_other s m.subs c (line.Move x) within refl k

-- the member that a line makes of a client's
pub member_is : (s : Setup) (ss : List (List Word)) (c : ℕ) → c < length s.clients → member_at (noted_names s ss) c ≡ member_of (declared_at s c)
member_is s ss c within = get_or-map member_of s.clients c nobody (stranger (noted_names s ss)) within

role_named : (s : Setup) (ss xs : List (List Word)) (c : ℕ) (l : Line) (r : Role) → c < length s.clients → in_role (member_of (declared_at s c)) r ≡ member_of (one_more (declared_at s c) l) → record (with_role (noted_names s ss) c r) { subs = xs } ≡ noted_names (with_line s c l) xs
role_named s ss xs c l r within is =
    let d = one_more (declared_at s c) l in
    let names = map-set_same (λ (e : Declared). e.name) s.clients c d nobody refl in
    let members : slice_set (map member_of s.clients) c (in_role (member_at (noted_names s ss) c) r) ≡ map member_of (slice_set s.clients c d) = ap (λ (m : Member). slice_set (map member_of s.clients) c (in_role m r)) (member_is s ss c within) ∙ (ap (λ (m : Member). slice_set (map member_of s.clients) c m) is ∙ sym (map-set member_of s.clients c d)) in
    ap (λ (ms : List Member). record (noted_names s xs) { members = ms }) members ∙ ap (λ (us : List Word). record (noted_names (with_line s c l) xs) { clients = us }) (sym names)

line_named : (s : Setup) (ss : List (List Word)) (c t : ℕ) (l : Line) (r : Role) → c < length s.clients → in_role (member_of (declared_at s c)) r ≡ member_of (one_more (declared_at s c) l) → noted_line (with_role (noted_names s ss) c r) t l ≡ noted_names (with_line s c l) (noted_line (with_role (noted_names s ss) c r) t l).subs
line_named s ss c t l r within is =
    only_subs (with_role (noted_names s ss) c r) t l ∙ role_named s ss (noted_line (with_role (noted_names s ss) c r) t l).subs c l r within is

abbrev pub lined_names : Setup → Names → ℕ → Line → Role → Names
lined_names s n c l r = noted_line (with_role n c r) (declared_at s c).topic l

line_known_at : (s : Setup) (n : Names) (c : ℕ) (l : Line) (r : Role) → c < length s.clients → in_role (member_of (declared_at s c)) r ≡ member_of (one_more (declared_at s c) l) → n ≡ noted_names s n.subs → lined_names s n c l r ≡ noted_names (with_line s c l) (lined_names s n c l r).subs
line_known_at s n c l r within is same =
    subst (λ (m : Names). lined_names s m c l r ≡ noted_names (with_line s c l) (lined_names s m c l r).subs) (sym same) (line_named s n.subs c (declared_at s c).topic l r within is)

pub line_known : (s : Setup) (n : Names) (c : ℕ) (l : Line) (r : Role) → c < length s.clients → in_role (member_of (declared_at s c)) r ≡ member_of (one_more (declared_at s c) l) → AreKnown s n → AreKnown (with_line s c l) (lined_names s n c l r)
line_known s n c l r within is k =
    let topic = All-get_or (IsWithin s) s.clients c nobody within k.within in
    record {
      names = line_known_at s n c l r within is k.names;
      subs = subs_noted s (with_role n c r) c l within (omega (arith, topic, k.subs.many)) k.subs;
      within = All-set (IsWithin s) s.clients c (one_more (declared_at s c) l) topic k.within;
    }
