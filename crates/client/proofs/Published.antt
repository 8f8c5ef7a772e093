-- What a client publishes is a message: the names in it and its text are short.
use Rattle.std.proofs.Common.{◌≡◌, ℕ, zero, suc, ◌+◌, ◌*◌, ◌/◌, ◌≤◌, nat_lt, nat_le, true, false, if◌then◌else◌, List, [], ◌∷◌, length, Option, Some, None, arith}
use Rattle.std.specs.List.{list_all}
use Rattle.std.proofs.lemmas.Bool.Decides.{nat_tests}
use Rattle.geo_base.specs.declared.client.Line.TheVariants as line
use Rattle.geo_base.specs.declared.entry.Content.TheVariants as content
use Rattle.geo_base.specs.declared.entry.Targets.{Targets}
use Rattle.geo_base.specs.declared.entry.Targets.TheVariants as targets
use Rattle.geo_base.specs.Client.{target_names}
use Rattle.geo_base.specs.Entry.{goes_to}
use Rattle.geo_base.specs.Message.{is_message}
use Rattle.geo_base.specs.Name.{is_name}
use Rattle.geo_base.specs.Scripted.{is_optional_name}
use Rattle.geo_base.specs.Setup.{Declared, Setup}
use Rattle.geo_base.specs.Sizes.{optional_text, repeated_text, text_field, varint_groups, varint_size}
use Rattle.client.specs.Site.{is_short_line}
use Rattle.geo_base.proofs.Bools.{both_true}

pub key_is_name : (seq : ℕ) (to : Targets) (key : Option (List ℕ)) (text : List ℕ) → is_short_line (line.Pub seq to key text) ≡ true → is_optional_name key ≡ true
key_is_name seq to key text h = grind (arith, nat_tests)

pub text_is_short : (seq : ℕ) (to : Targets) (key : Option (List ℕ)) (text : List ℕ) → is_short_line (line.Pub seq to key text) ≡ true → length text ≤ 1024
text_is_short seq to key text h = grind (arith, nat_tests)

varint_groups_le : (more n : ℕ) → varint_groups more n ≤ more + 1
varint_groups_le zero n = omega arith
varint_groups_le (suc more) n =
    let rest = varint_groups_le more (n / 128) in
    elim (nat_lt n 128) as (λ b. (if b then 1 else 1 + varint_groups more (n / 128)) ≤ suc more + 1) [ true ↦ omega arith | false ↦ omega arith ]

varint_size_le : (n : ℕ) → varint_size n ≤ 10
varint_size_le n = varint_groups_le 9 n

length-name : (n : List ℕ) → is_name n ≡ true → length n ≤ 16
length-name n h = grind (arith, nat_tests)

name_size : (n : List ℕ) → is_name n ≡ true → text_field 7 n ≤ 27
name_size n h = let a = varint_size_le (length n) in let b = length-name n h in omega arith

key_size : (k : Option (List ℕ)) → is_optional_name k ≡ true → optional_text 6 k ≤ 27
key_size None h = omega arith
key_size (Some k) h = let a = varint_size_le (length k) in let b = length-name k h in omega arith

names_size : (x : ℕ) (to : Targets) (ns : List (List ℕ)) → list_all is_name ns ≡ true → repeated_text 7 (target_names x to ns) ≤ length ns * 27
names_size x targets.All ns h = omega arith
names_size x (targets.Only bits) [] h = omega arith
names_size x (targets.Only bits) (n ∷ ns) h =
    let parts = both_true (is_name n) (list_all is_name ns) h in
    let first = name_size n parts.0 in
    let rest = names_size (x + 1) (targets.Only bits) ns parts.1 in
    elim (goes_to x (targets.Only bits)) as (λ b. repeated_text 7 (if b then n ∷ target_names (x + 1) (targets.Only bits) ns else target_names (x + 1) (targets.Only bits) ns) ≤ length (n ∷ ns) * 27)
    [ true ↦ omega arith | false ↦ omega arith ]

small : (prefix producer seq key names text : ℕ) → prefix ≤ 10 → producer ≤ 16 → seq ≤ 10 → key ≤ 27 → names ≤ 216 → text ≤ 1024
    → nat_le ((1 + (prefix + producer)) + ((1 + seq) + (2 + (key + (names + 0)))) + text) 5242880 ≡ true
small prefix producer seq key names text a b c d e f = grind (arith, nat_tests)

pub published_is_message : (s : Setup) (d : Declared) (origin seq : ℕ) (to : Targets) (key : Option (List ℕ)) (text : List ℕ)
    → is_name d.name ≡ true → length s.clusters ≤ 8 → list_all is_name s.clusters ≡ true → is_optional_name key ≡ true → length text ≤ 1024
    → is_message (record { ident = record { origin = origin; producer = d.name; seq = seq }; content = content.Data; to = to; meta = record { publish_time = 0; key = key; names = target_names 0 to s.clusters; rest = [] }; payload = text }) ≡ true
unfolding is_message
published_is_message s d origin seq to key text name few named is_key short =
    let names = names_size 0 to s.clusters named in
    small (varint_size (length d.name)) (length d.name) (varint_size seq) (optional_text 6 key) (repeated_text 7 (target_names 0 to s.clusters)) (length text)
    (varint_size_le (length d.name)) (length-name d.name name) (varint_size_le seq) (key_size key is_key) (omega (arith, names, few)) short
