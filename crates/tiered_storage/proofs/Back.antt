-- What a ledger's text was written of is read from it.
use Rattle.std.proofs.Common.{◌≡◌, ◌≢◌, inl, inr, ℕ, ◌<◌, ◌^◌, List, ◌++◌, length, Ok, Err, refl, sym, ap, subst, ◌∙◌, append_assoc}
use Rattle.std.specs.Prelude.{Option, Some, None, IfSome, Result, Bool, true, false, []}
use Rattle.geo_base.specs.declared.entry.Entry.{Entry}
use Rattle.geo_base.specs.declared.entry.Targets.{Targets}
use Rattle.geo_base.specs.declared.entry.Targets.TheVariants as targets
use Rattle.state_items.specs.Stored.{IsStored}
use Rattle.state_items.specs.EntryTexts.{metadata_text, source_of}
use Rattle.state_items.proofs.One.{stored_one}
use Rattle.state_items.proofs.Told.{said}
use Rattle.tiered_storage.specs.Readable.{IsReadable}
use Rattle.tiered_storage.specs.Reading.{behind_heading, behind_kind, behind_targets, entry_read, item_at}
use Rattle.tiered_storage.specs.Texts.{item_text, kind_text, targets_text}
use Rattle.message_meta.specs.Metadata.{IsMetaText, Metadata}
use Rattle.pb_fields.specs.declared.message.MessageFault.{MessageFault}
use Rattle.pb_fields.specs.declared.message.MessageFault.TheVariants as fault
use Rattle.pb_fields.specs.Faults.{Answers}
use Rattle.state_items.specs.declared.fault.ItemFault.{ItemFault}
use Rattle.state_items.specs.declared.fault.ItemFault.TheVariants as item_fault
use Rattle.state_items.specs.Reading.{Answer, Fails, word_at}
use Rattle.state_items.specs.Texts.{number, text, word}
use Rattle.state_items.proofs.Again.{number_again, text_again, word_again}
use Rattle.frame_values.specs.Texts.{marker_number, metadata_of, payload_text}

abbrev pub given_entry : Entry → Answer Entry
given_entry e = Ok e

abbrev pub read_as : Metadata → Result Metadata MessageFault
read_as m = Ok m

abbrev pub failed_by : MessageFault → Result Metadata MessageFault
failed_by why = Err why

-- ---- an entry's text, part by part

kind_again : (k : Option ℕ) (more : List ℕ) → IfSome k (λ n. n < 2 ^ 64) → behind_kind (kind_text k ++ more) ≡ Ok more
unfolding behind_kind
kind_again None more h = refl
kind_again (Some n) more h = rw (number_again n more h) refl

targets_again : (t : Targets) (more : List ℕ) → behind_targets (targets_text t ++ more) ≡ Ok more
unfolding behind_targets
targets_again targets.All more = refl
targets_again (targets.Only bits) more = refl

heading_again : (p : List ℕ) (seq : ℕ) (k : Option ℕ) (t : Targets) (more : List ℕ) → length p < 2 ^ 32 → seq < 2 ^ 64 → IfSome k (λ n. n < 2 ^ 64)
    → behind_heading (text p ++ (number seq ++ (kind_text k ++ (targets_text t ++ more)))) ≡ Ok more
unfolding behind_heading
heading_again p seq k t more hp hs hk =
    rw (
      text_again p (number seq ++ (kind_text k ++ (targets_text t ++ more))) hp,
      number_again seq (kind_text k ++ (targets_text t ++ more)) hs,
      kind_again k (targets_text t ++ more) hk,
    ) (targets_again t more)

flat : (o p s k t m y more : List ℕ) → (o ++ (p ++ (s ++ (k ++ (t ++ (m ++ y)))))) ++ more ≡ o ++ (p ++ (s ++ (k ++ (t ++ (m ++ (y ++ more))))))
flat o p s k t m y more =
    append_assoc o (p ++ (s ++ (k ++ (t ++ (m ++ y))))) more
    ∙ ap (λ (x : List ℕ). o ++ x) (append_assoc p (s ++ (k ++ (t ++ (m ++ y)))) more
    ∙ ap (λ (x : List ℕ). p ++ x) (append_assoc s (k ++ (t ++ (m ++ y))) more
    ∙ ap (λ (x : List ℕ). s ++ x) (append_assoc k (t ++ (m ++ y)) more
    ∙ ap (λ (x : List ℕ). k ++ x) (append_assoc t (m ++ y) more
    ∙ ap (λ (x : List ℕ). t ++ x) (append_assoc m y more)))))

abbrev pub parts : List (List ℕ) → ℕ → Entry → ℕ × (List ℕ × List ℕ)
parts names own e = (e.ident.origin, (metadata_text names own e, payload_text names e.content e.payload))

parts_again : (o : ℕ) (p : List ℕ) (seq : ℕ) (k : Option ℕ) (t : Targets) (m y more : List ℕ) → o < 2 ^ 32 → length p < 2 ^ 32 → seq < 2 ^ 64 → IfSome k (λ n. n < 2 ^ 64)
    → length m < 2 ^ 32 → length y < 2 ^ 32
    → item_at (word o ++ (text p ++ (number seq ++ (kind_text k ++ (targets_text t ++ (text m ++ (text y ++ more))))))) ≡ Ok ((o, (m, y)), more)
unfolding item_at
parts_again o p seq k t m y more ho hp hs hk hm hy =
    rw (
      word_again o (text p ++ (number seq ++ (kind_text k ++ (targets_text t ++ (text m ++ (text y ++ more)))))) ho,
      heading_again p seq k t (text m ++ (text y ++ more)) hp hs hk,
      text_again m (text y ++ more) hm,
      text_again y more hy,
    ) refl

pub item_again : (names : List (List ℕ)) (own : ℕ) (e : Entry) (more : List ℕ) → IsReadable names own e → item_at (item_text names own e ++ more) ≡ Ok (parts names own e, more)
item_again names own e more h =
    ap item_at (flat (word e.ident.origin) (text e.ident.producer) (number e.ident.seq) (kind_text (marker_number e.content)) (targets_text e.to)
    (text (metadata_text names own e)) (text (payload_text names e.content e.payload)) more)
    ∙ parts_again e.ident.origin e.ident.producer e.ident.seq (marker_number e.content) e.to (metadata_text names own e) (payload_text names e.content e.payload) more
    h.origin h.producer h.seq h.kind h.short.metadata h.short.payload

-- ---- the entry that the parts are

-- what a reading that stops says of another, where it reads a value
pub fails_alike : {Y Z : Type 0} (f : ItemFault) (x : Answer Y) (y : Y) (z : Answer Z) → x ≡ Ok y → Fails f x → Fails f z
fails_alike item_fault.Memory x y z h k = tt
fails_alike (item_fault.Broken b) x y z h k = absurd (cc)

-- the metadata that an entry's text says
abbrev pub stated : (names : List (List ℕ)) (own : ℕ) (e : Entry) → IsReadable names own e → Metadata
stated names own e h = metadata_of names (source_of own e.ident.origin) e h.texts.metadata.fields

pub stated_in : (names : List (List ℕ)) (own : ℕ) (e : Entry) (bytes : List ℕ) (h : IsReadable names own e) → bytes ≡ metadata_text names own e → IsMetaText bytes (stated names own e h)
stated_in names own e bytes h is = subst (λ (b : List ℕ). IsMetaText b (stated names own e h)) (sym is) (said names own e h.texts h.tellable.told).text

-- what was read as metadata is what the text says
pub meta_is : (m n : Metadata) → Answers fault.Memory (read_as m) (Ok n) → m ≡ n
meta_is m n h = elim h [ inl e ↦ absurd (cc) | inr e ↦ cc ]

pub no_other : (why : MessageFault) (n : Metadata) → Answers fault.Memory (failed_by why) (Ok n) → why ≢ fault.Memory → ⊥
no_other why n h other = elim h [ inl e ↦ other (cc) | inr e ↦ absurd (cc) ]

pub given_meta : (m n : Metadata) → ◌≡◌ {A = Answer Metadata} (Ok n) (Ok m) → m ≡ n
given_meta m n h = cc

pub stored_back : (names : List (List ℕ)) (own : ℕ) (e f : Entry) (m : Metadata) (origin : ℕ) (payload : List ℕ) (h : IsReadable names own e)
    → origin ≡ e.ident.origin → payload ≡ payload_text names e.content e.payload → m ≡ stated names own e h → IsStored names m origin payload f → f ≡ e
stored_back names own e f m origin payload h o p same s =
    let k = said names own e h.texts h.tellable.told in
    let n : Metadata = stated names own e h in
    let first : IsStored names n origin payload f = subst (λ (x : Metadata). IsStored names x origin payload f) same s in
    let second : IsStored names n e.ident.origin payload f = subst (λ (x : ℕ). IsStored names n x payload f) o first in
    let third : IsStored names n e.ident.origin (payload_text names e.content e.payload) f = subst (λ (x : List ℕ). IsStored names n e.ident.origin x f) p second in
    stored_one names n e.ident.origin (payload_text names e.content e.payload) f e third k.stored

-- ---- the parts that were read

pub record ArePartsOf (names : List (List ℕ)) (own : ℕ) (e : Entry) (o : ℕ) (m y : List ℕ) : Type 0 where
  pub origin : o ≡ e.ident.origin
  pub metadata : m ≡ metadata_text names own e
  pub payload : y ≡ payload_text names e.content e.payload

abbrev Parts : Type 0
Parts = (ℕ × (List ℕ × List ℕ)) × List ℕ

abbrev parts_by : ℕ → List ℕ → List ℕ → List ℕ → Parts
parts_by o m y rest = ((o, (m, y)), rest)

abbrev parts_read : Parts → Answer Parts
parts_read p = Ok p

same_parts : (p q : Parts) → parts_read p ≡ parts_read q → q ≡ p
same_parts p q h = cc

pub parts_are : (names : List (List ℕ)) (own : ℕ) (e : Entry) (bytes more : List ℕ) (origin : ℕ) (metadata payload rest : List ℕ) → IsReadable names own e → bytes ≡ item_text names own e ++ more
    → item_at bytes ≡ parts_read (parts_by origin metadata payload rest) → ArePartsOf names own e origin metadata payload × (rest ≡ more)
parts_are names own e bytes more origin metadata payload rest h is read =
    let want : Parts = parts_by e.ident.origin (metadata_text names own e) (payload_text names e.content e.payload) more in
    let got : Parts = parts_by origin metadata payload rest in
    let same : got ≡ want = same_parts want got (sym (item_again names own e more h) ∙ ap item_at (sym is) ∙ read) in (
      record { origin = ap (λ (p : Parts). p.0.0) same; metadata = ap (λ (p : Parts). p.0.1.0) same; payload = ap (λ (p : Parts). p.0.1.1) same },
      ap (λ (p : Parts). p.1) same,
    )

-- an item that is not read is no item
pub no_item : (names : List (List ℕ)) (own : ℕ) (e : Entry) (bytes more : List ℕ) (f : ItemFault) → IsReadable names own e → bytes ≡ item_text names own e ++ more → Fails f (item_at bytes) → Fails f (entry_read e more)
no_item names own e bytes more f h is fails =
    fails_alike f (item_at bytes) (parts names own e, more) (entry_read e more) (ap item_at is ∙ item_again names own e more h) fails

pub pair_is : (e f : Entry) (rest more : List ℕ) → f ≡ e → rest ≡ more → entry_read e more ≡ entry_read f rest
pair_is e f rest more same is = rw (same, is) refl

pub fails_as : (f : ItemFault) (e : Entry) (more : List ℕ) → Fails f (given_entry e) → Fails f (entry_read e more)
fails_as f e more h = fails_alike f (given_entry e) e (entry_read e more) refl h

pub entry_is : (e f : Entry) → given_entry e ≡ given_entry f → f ≡ e
entry_is e f h = cc

-- no bytes are no entry
pub none_is_none : (bytes : List ℕ) (x : (ℕ × (List ℕ × List ℕ)) × List ℕ) → bytes ≡ [] → item_at bytes ≡ Ok x → ◌≡◌ {A = Bool} false true
unfolding item_at word_at
none_is_none bytes x none is = let same : item_at [] ≡ Ok x = ap item_at (sym none) ∙ is in cc
