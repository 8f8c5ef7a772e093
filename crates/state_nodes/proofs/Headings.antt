-- What the metadata of an entry is an answer of.
use Rattle.std.proofs.Common.{◌≡◌, ◌≢◌, ℕ, Bool, true, false, List, Ok, Err, refl, sym, ap, subst, ◌∙◌}
use Rattle.std.specs.Prelude.{Option, Some, None}
use Rattle.geo_base.specs.declared.entry.Entry.{Entry}
use Rattle.state_items.specs.Origins.{origin_of}
use Rattle.message_meta.specs.declared.table.TheConstants.{ROWS}
use Rattle.message_meta.specs.Metadata.{Metadata}
use Rattle.pb_fields.specs.declared.message.MessageFault.{MessageFault}
use Rattle.pb_fields.specs.declared.message.MessageFault.TheVariants as fault
use Rattle.pb_fields.specs.Message.{IsWrongOrMemory, WrongMessage}
use Rattle.pb_fields.proofs.Messages.{message_sound}
use Rattle.state_items.specs.declared.fault.ItemFault.{ItemFault}
use Rattle.state_items.specs.declared.fault.ItemFault.TheVariants as item_fault
use Rattle.state_items.specs.declared.rule.Rule.TheVariants as rule
use Rattle.state_items.specs.Reading.{broken}
use Rattle.state_items.specs.Telling.{TellsFault}
use Rattle.state_nodes.specs.declared.heading.Heading.{Heading}
use Rattle.state_nodes.specs.Entries.{IsHeading, Says, ident_of, is_next, nothing, with_origin}

no_text : (bytes : List ℕ) (e : MessageFault) → WrongMessage ROWS.now bytes e → Says bytes None
no_text bytes e wrong = nothing (λ m h. message_sound ROWS.now bytes h.fields e h.text h.means.message wrong)

pub wrong_nothing : (bytes : List ℕ) (e : MessageFault) → IsWrongOrMemory (WrongMessage ROWS.now bytes) e → e ≢ fault.Memory → Says bytes None
wrong_nothing bytes fault.Memory h ne = absurd (ne refl)
wrong_nothing bytes (fault.Pb x) h ne = no_text bytes (fault.Pb x) h
wrong_nothing bytes (fault.WrongWire n) h ne = no_text bytes (fault.WrongWire n) h
wrong_nothing bytes (fault.NotText n) h ne = no_text bytes (fault.NotText n) h
wrong_nothing bytes (fault.Missing n) h ne = no_text bytes (fault.Missing n) h

pub silent : (names : List (List ℕ)) (own : ℕ) (before : List Entry) (item bytes : List ℕ) (e : ItemFault) → e ≡ item_fault.Broken (broken item rule.Entry) → Says bytes None → TellsFault e (IsHeading names own before item bytes)
silent names own before item bytes e is h = rw is (record { said = None; says = h; is = refl })

pub strange : (names : List (List ℕ)) (own : ℕ) (before : List Entry) (item bytes : List ℕ) (m : Metadata) (e : ItemFault) → e ≡ item_fault.Broken (broken item rule.Entry) → Says bytes (Some m) → origin_of names own m.replicated_from ≡ None → TellsFault e (IsHeading names own before item bytes)
strange names own before item bytes m e is h none = rw is (record { said = Some m; says = h; is = sym (ap (λ (o : Option ℕ). with_origin own before item m o) none) })

refused : (names : List (List ℕ)) (own : ℕ) (before : List Entry) (item bytes : List ℕ) (m : Metadata) (x : ℕ) (b : Bool) → Says bytes (Some m) → origin_of names own m.replicated_from ≡ Some x → is_next own before (ident_of (record { meta = m; origin = x })) ≡ b → b ≡ false → IsHeading names own before item bytes (Err (broken item rule.Identity))
refused names own before item bytes m x b h some is not_so =
    let other : is_next own before (ident_of (record { meta = m; origin = x })) ≡ false = is ∙ not_so in
    let same : with_origin own before item m (Some x) ≡ Err (broken item rule.Identity) = rw other refl in
    record { said = Some m; says = h; is = sym (ap (λ (o : Option ℕ). with_origin own before item m o) some ∙ same) }

accepted : (names : List (List ℕ)) (own : ℕ) (before : List Entry) (item bytes : List ℕ) (h : Heading) → Says bytes (Some h.meta) → origin_of names own h.meta.replicated_from ≡ Some h.origin → is_next own before (ident_of h) ≡ true → IsHeading names own before item bytes (Ok h)
accepted names own before item bytes h says some so =
    let same : with_origin own before item h.meta (Some h.origin) ≡ Ok h = rw so refl in
    record { said = Some h.meta; says = says; is = sym (ap (λ (o : Option ℕ). with_origin own before item h.meta o) some ∙ same) }

pub refuses : (names : List (List ℕ)) (own : ℕ) (before : List Entry) (item bytes : List ℕ) (m : Metadata) (h : Heading) (b : Bool) (e : ItemFault) → Says bytes (Some m) → h.meta ≡ m → origin_of names own m.replicated_from ≡ Some h.origin → b ≡ is_next own before (ident_of h) → b ≡ false → e ≡ item_fault.Broken (broken item rule.Identity) → TellsFault e (IsHeading names own before item bytes)
refuses names own before item bytes m h b e says meta some is not_so told =
    let says' : Says bytes (Some h.meta) = subst (λ (x : Metadata). Says bytes (Some x)) (sym meta) says in
    let some' : origin_of names own h.meta.replicated_from ≡ Some h.origin = ap (λ (x : Metadata). origin_of names own x.replicated_from) meta ∙ some in
    subst (λ (y : ItemFault). TellsFault y (IsHeading names own before item bytes)) (sym told) (refused names own before item bytes h.meta h.origin b says' some' (sym is) not_so)

pub new : (names : List (List ℕ)) (own : ℕ) (before : List Entry) (item bytes : List ℕ) (m : Metadata) (h : Heading) (b : Bool) → Says bytes (Some m) → h.meta ≡ m → origin_of names own m.replicated_from ≡ Some h.origin → b ≡ is_next own before (ident_of h) → b ≡ true → IsHeading names own before item bytes (Ok h)
new names own before item bytes m h b says meta some is so =
    let says' : Says bytes (Some h.meta) = subst (λ (x : Metadata). Says bytes (Some x)) (sym meta) says in
    let some' : origin_of names own h.meta.replicated_from ≡ Some h.origin = ap (λ (x : Metadata). origin_of names own x.replicated_from) meta ∙ some in
    accepted names own before item bytes h says' some' (sym is ∙ so)
