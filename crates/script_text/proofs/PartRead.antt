-- What the reader knows of a client with some of its lines.
use Rattle.std.proofs.Common.{◌≡◌, ℕ, ◌<◌, ◌≤◌, ◌==◌, Bool, true, false, ◌&&◌, List, [], ◌∷◌, ◌++◌, length, map, inl, inr, arith, refl, sym, ap, ◌∙◌, subst}
use Rattle.std.specs.List.{IsDistinct, list_all, list_any}
use Rattle.std.specs.Str.{bytes_eq}
use Rattle.std.proofs.Math.Seq.{get_or-append_seam}
use Rattle.std.proofs.lemmas.Bool.{and_from, and_parts, both_ways, cases_lt, eq-eqb, not-true, or_cases, or_from, or_left, or_parts, or_right}
use Rattle.std.proofs.lemmas.List.{get_or-map, length-append, length-map, length_push, map-append}
use Rattle.std.proofs.lemmas.List.Folds.{list_any-append}
use Rattle.std.proofs.lemmas.List.FromFn.{length-map-range_with_len}
use Rattle.std.proofs.lemmas.Map.Keys.{IsDistinct-push}
use Rattle.std.proofs.lemmas.Map.Made.{length-le_from_is_member}
use Rattle.geo_base.specs.declared.client.Line.{Line}
use Rattle.geo_base.specs.declared.client.Line.TheVariants as line
use Rattle.geo_base.specs.Scripted.{IsScripted, is_declared, is_line, is_move, is_produce, stays_or_is_silent}
use Rattle.geo_base.specs.Setup.{Declared, Setup, declared_at, nobody, sub_names}
use Rattle.script_rows.specs.NameBytes.{is_among, name_at}
use Rattle.script_rows.specs.NameWords.{Word}
use Rattle.script_rows.specs.Columns.{is_other_role}
use Rattle.script_rows.specs.Names.{member_at}
use Rattle.script_rows.specs.Rows.{role_of}
use Rattle.script_text.specs.Naming.{member_of, names_of}
use Rattle.script_text.specs.Scenario.{has_printable_text}
use Rattle.script_text.specs.Script.{setup_with}
use Rattle.script_text.specs.Subs.{AreNoted, is_named_by, is_sub_of, same_name}
use Rattle.script_text.proofs.DeclaredBack.{IsClientOf, bare, names_in}
use Rattle.script_text.proofs.LineWords.{act_of}
use Rattle.script_text.proofs.Named.{subs_at, subs_past}
use Rattle.script_text.proofs.NoTopic.{none_past}
use Rattle.script_text.proofs.Noting.{member_is}
use Rattle.script_text.proofs.SubNames.{among_pushed, among_subs, name_laws, none_distinct, subs_distinct}

-- ---- the clients, one of them with some of its lines
abbrev pub part : Declared → List Line → Declared
part d ls = record d { lines = ls }

abbrev pub among_others : List Declared → Declared → List Line → List Declared → List Declared
among_others done d ls more = done ++ part d ls ∷ map bare more

abbrev pub setup_at : Setup → List Declared → Setup
setup_at s ds = setup_with s.per_ledger s.clusters s.topics ds

bare_names : (ds : List Declared) → names_in (map bare ds) ≡ names_in ds
bare_names [] = refl
bare_names (d ∷ ds) = ap (λ (us : List Word). d.name ∷ us) (bare_names ds)

pub same_names : (done : List Declared) (d : Declared) (ls : List Line) (more : List Declared) → names_in (among_others done d ls more) ≡ names_in (done ++ d ∷ more)
same_names done d ls more =
    map-append (λ (e : Declared). e.name) done (part d ls ∷ map bare more) ∙ (ap (λ (us : List Word). names_in done ++ d.name ∷ us) (bare_names more) ∙ sym (map-append (λ (e : Declared). e.name) done (d ∷ more)))

-- ---- subscriptions
bare_silent : (t : ℕ) (q : Word) (ds : List Declared) → list_any (is_named_by t q) (map bare ds) ≡ false
bare_silent t q [] = refl
bare_silent t q (d ∷ ds) = or_from (is_named_by t q (bare d)) (list_any (is_named_by t q) (map bare ds)) (no_line (d.topic == t)) (bare_silent t q ds)
  where
    no_line : (b : Bool) → (b && false) ≡ false
    no_line true = refl
    no_line false = refl

-- a client with more lines names what it named
part_named : (t : ℕ) (q : Word) (d : Declared) (before after : List Line) → d.lines ≡ before ++ after → is_named_by t q (part d before) ≡ true → is_named_by t q d ≡ true
part_named t q d before after lines is =
    let parts = and_parts (d.topic == t) (list_any (is_sub_of q) before) is in
    let named : list_any (is_sub_of q) (before ++ after) ≡ true = list_any-append (is_sub_of q) before after ∙ or_left (list_any (is_sub_of q) before) (list_any (is_sub_of q) after) parts.1 in
    and_from (d.topic == t) (list_any (is_sub_of q) d.lines) parts.0 (subst (λ (ls : List Line). list_any (is_sub_of q) ls ≡ true) (sym lines) named)

named_later : (t : ℕ) (q : Word) (done : List Declared) (d : Declared) (more : List Declared) (before after : List Line) → d.lines ≡ before ++ after → list_any (is_named_by t q) (among_others done d before more) ≡ true → list_any (is_named_by t q) (done ++ d ∷ more) ≡ true
named_later t q done d more before after lines is =
    let p = is_named_by t q in
    list_any-append p done (d ∷ more) ∙ elim (or_cases (list_any p done) (list_any p (part d before ∷ map bare more)) (sym (list_any-append p done (part d before ∷ map bare more)) ∙ is)) [
      | inl old ↦ or_left (list_any p done) (list_any p (d ∷ more)) old
      | inr new ↦
          or_right (list_any p done) (list_any p (d ∷ more)) (elim (or_cases (p (part d before)) (list_any p (map bare more)) new) [
            | inl here ↦ or_left (p d) (list_any p more) (part_named t q d before after lines here)
            | inr none ↦ absurd (both_ways (list_any p (map bare more)) (bare_silent t q more) none)
          ])
    ]

-- the line itself names its subscription
named_here : (done : List Declared) (d : Declared) (more : List Declared) (before : List Line) (l : Line) (after : List Line) (sub : Word) → d.lines ≡ before ++ l ∷ after → is_sub_of sub l ≡ true → list_any (is_named_by d.topic sub) (done ++ d ∷ more) ≡ true
named_here done d more before l after sub lines is =
    let p = is_named_by d.topic sub in
    let line_is : list_any (is_sub_of sub) (before ++ l ∷ after) ≡ true = list_any-append (is_sub_of sub) before (l ∷ after) ∙ or_right (list_any (is_sub_of sub) before) (list_any (is_sub_of sub) (l ∷ after)) (or_left (is_sub_of sub l) (list_any (is_sub_of sub) after) is) in
    let here : p d ≡ true = and_from (d.topic == d.topic) (list_any (is_sub_of sub) d.lines) (eq-eqb d.topic d.topic refl) (subst (λ (ls : List Line). list_any (is_sub_of sub) ls ≡ true) (sym lines) line_is) in
    list_any-append p done (d ∷ more) ∙ or_right (list_any p done) (list_any p (d ∷ more)) (or_left (p d) (list_any p more) here)

-- the whole, one client of it, and one line of that client
pub record IsLineOf (s : Setup) (done : List Declared) (d : Declared) (more : List Declared) (before : List Line) (l : Line) (after : List Line) : Type 0 where
  pub scripted : IsScripted s
  pub clients : s.clients ≡ done ++ d ∷ more
  pub lines : d.lines ≡ before ++ l ∷ after
  pub known : IsClientOf s d
  pub line_known : is_line s l ≡ true
  pub printable : has_printable_text l ≡ true

pub room_left : (s : Setup) (done : List Declared) (d : Declared) (more : List Declared) (before : List Line) (l : Line) (after : List Line) (sub : Word) → IsLineOf s done d more before l after → is_sub_of sub l ≡ true → ((q : Word) → bytes_eq sub q ≡ true → sub ≡ q) → is_among (sub_names (setup_at s (among_others done d before more)) d.topic) sub ≡ false → length (sub_names (setup_at s (among_others done d before more)) d.topic) < 32
room_left s done d more before l after sub k is same new =
    let t = setup_at s (among_others done d before more) in
    let u = d.topic in
    let there : (q : Word) → is_among (sub_names t u ++ sub ∷ []) q ≡ true → is_among (sub_names s u) q ≡ true = λ q e.
    among_subs s u q ∙ (ap (λ (ds : List Declared). list_any (is_named_by u q) ds) k.clients ∙ elim (or_cases (is_among (sub_names t u) q) (bytes_eq sub q) (sym (among_pushed (sub_names t u) sub q) ∙ e)) [
      | inl old ↦ named_later u q done d more before (l ∷ after) k.lines (sym (among_subs t u q) ∙ old)
      | inr now ↦ subst (λ (w : Word). list_any (is_named_by u w) (done ++ d ∷ more) ≡ true) (same q now) (named_here done d more before l after sub k.lines is)
    ]) in
    let fewer = length-le_from_is_member name_laws (sub_names t u ++ sub ∷ []) (sub_names s u) (IsDistinct-push name_laws (sub_names t u) sub (subs_distinct t u) new) there in
    let most : length (sub_names s u) ≤ 32 = (k.scripted.of_a_topic u).1 in
    omega (arith, fewer, length_push (sub_names t u) sub, most)

-- ---- what the reader knows of the client
pub here_at : (s : Setup) (done : List Declared) (d : Declared) (ls : List Line) (more : List Declared) → declared_at (setup_at s (among_others done d ls more)) (length done) ≡ part d ls
here_at s done d ls more = get_or-append_seam done (part d ls) (map bare more) nobody

pub within_at : (done : List Declared) (d : Declared) (ls : List Line) (more : List Declared) → length done < length (among_others done d ls more)
within_at done d ls more = omega (arith, length-append done (part d ls ∷ map bare more))

pub doer_name : (s : Setup) (done : List Declared) (d : Declared) (ls : List Line) (more : List Declared) → name_at (names_of (setup_at s (among_others done d ls more))).clients (length done) ≡ d.name
doer_name s done d ls more =
    get_or-map (λ (e : Declared). e.name) (among_others done d ls more) (length done) nobody [] (within_at done d ls more) ∙ ap (λ (e : Declared). e.name) (here_at s done d ls more)

pub doer_member : (s : Setup) (done : List Declared) (d : Declared) (ls : List Line) (more : List Declared) → member_at (names_of (setup_at s (among_others done d ls more))) (length done) ≡ member_of (part d ls)
doer_member s done d ls more =
    let t = setup_at s (among_others done d ls more) in
    member_is t (names_of t).subs (length done) (within_at done d ls more) ∙ ap member_of (here_at s done d ls more)

pub doer_within : (s : Setup) (done : List Declared) (d : Declared) (ls : List Line) (more : List Declared) → length done < length (names_of (setup_at s (among_others done d ls more))).clients
doer_within s done d ls more =
    omega (arith, within_at done d ls more, length-map (among_others done d ls more) (λ (e : Declared). e.name))

-- what a line makes of its client does not go against the lines before it
lines_silent : (before : List Line) (l : Line) (after : List Line) → stays_or_is_silent (before ++ l ∷ after) ≡ true → (is_produce l ≡ true → list_any is_move before ≡ false) × (is_move l ≡ true → list_any is_produce before ≡ false)
lines_silent before l after stays =
    let all = before ++ l ∷ after in
    let has : (p : Line → Bool) → p l ≡ true → list_any p all ≡ true = λ p is. list_any-append p before (l ∷ after) ∙ or_right (list_any p before) (list_any p (l ∷ after)) (or_left (p l) (list_any p after) is) in
    let none : (p : Line → Bool) → list_any p all ≡ false → list_any p before ≡ false = λ p absent. (or_parts (list_any p before) (list_any p (l ∷ after)) (sym (list_any-append p before (l ∷ after)) ∙ absent)).0 in
    let both : (list_any is_produce all && list_any is_move all) ≡ false = not-true (list_any is_produce all && list_any is_move all) stays in
    ((λ is. none is_move (sym (ap (λ (b : Bool). b && list_any is_move all) (has is_produce is)) ∙ both)), (λ is. none is_produce (second_none (list_any is_produce all) (list_any is_move all) (has is_move is) both)))
  where
    second_none : (a b : Bool) → b ≡ true → (a && b) ≡ false → a ≡ false
    second_none true true is absent = cc
    second_none true false is absent = cc
    second_none false b is absent = refl

pub role_ok : (d : Declared) (before : List Line) (l : Line) (after : List Line) → d.lines ≡ before ++ l ∷ after → stays_or_is_silent d.lines ≡ true → is_other_role (member_of (part d before)) (role_of (act_of l)) ≡ false
role_ok d before line.Produce after lines stays =
    (lines_silent before line.Produce after (subst (λ (ls : List Line). stays_or_is_silent ls ≡ true) lines stays)).0 refl
role_ok d before (line.Move x) after lines stays =
    (lines_silent before (line.Move x) after (subst (λ (ls : List Line). stays_or_is_silent ls ≡ true) lines stays)).1 refl
role_ok d before (line.Pub seq to key text) after lines stays = refl
role_ok d before (line.Sub sub k earliest replicated) after lines stays = refl
role_ok d before (line.Flow permits) after lines stays = refl
role_ok d before (line.Ack i) after lines stays = refl
role_ok d before (line.AckTo i) after lines stays = refl
role_ok d before line.AckAll after lines stays = refl
role_ok d before line.Unsub after lines stays = refl
role_ok d before line.Close after lines stays = refl
role_ok d before line.CloseProducer after lines stays = refl
role_ok d before line.Ping after lines stays = refl

-- the subscriptions are noted as they are declared
pub self_noted : (s : Setup) → list_all (is_declared s) s.clients ≡ true → AreNoted s (names_of s).subs
self_noted s known = record {
  many = length-map-range_with_len (sub_names s) 0 (length s.topics);
  distinct = λ t. elim (cases_lt t (length s.topics)) [
    | inl within ↦ subst (IsDistinct same_name) (sym (subs_at s t within)) (subs_distinct s t)
    | inr past ↦ subst (IsDistinct same_name) (sym (subs_past s t past)) none_distinct
  ];
  same = λ t q. elim (cases_lt t (length s.topics)) [
    | inl within ↦ ap (λ (names : List Word). is_among names q) (subs_at s t within) ∙ among_subs s t q
    | inr past ↦
        ap (λ (names : List Word). is_among names q) (subs_past s t past ∙ sym (none_past s t past known)) ∙ among_subs s t q
  ];
}
