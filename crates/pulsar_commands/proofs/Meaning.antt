-- Fields say one command at most.
use Rattle.std.proofs.Common.{◌≡◌, ℕ, Bool, false, List, [], ◌∷◌, Option, Some, None, get_or, map, refl, sym, ap, subst, ◌∙◌}
use Rattle.std.specs.Option.{option_map}
use Rattle.std.specs.List.{AllByRecursion, last_or}
use Rattle.geo_base.specs.declared.frame.AckKind.{AckKind}
use Rattle.geo_base.specs.declared.frame.AckKind.TheVariants as ack_kind
use Rattle.geo_base.specs.declared.frame.SubKind.{SubKind}
use Rattle.geo_base.specs.declared.frame.SubKind.TheVariants as sub_kind
use Rattle.geo_base.specs.declared.position.Position.{Position}
use Rattle.pb_fields.specs.declared.field.Field.{Field}
use Rattle.pb_fields.specs.declared.field.Value.{Value}
use Rattle.pb_fields.specs.declared.field.Value.TheVariants as value
use Rattle.pb_fields.specs.Message.{last_value, values}
use Rattle.pb_fields.proofs.Unique.{text_one}
use Rattle.pulsar_commands.specs.declared.command.Command.{Command}
use Rattle.pulsar_commands.specs.declared.command.Command.TheVariants as command
use Rattle.pulsar_commands.specs.declared.kind.Kind.{Kind}
use Rattle.pulsar_commands.specs.declared.kind.Kind.TheVariants as kind
use Rattle.pulsar_commands.specs.Part.{Part, text, optional_text, number, optional_number, number_or, flag, id, optional_id, ids, place, IsIdText, IsId, IsOptionalId, AreIds, IsNumberOr, IsFlag, Told, Says}
use Rattle.pulsar_commands.specs.Parts.{kind_of, sub_number, ack_number, parts}
use Rattle.pulsar_commands.specs.Text.{Tells}

-- ---- one part

same_bytes : (a b : List ℕ) → ◌≡◌ {A = Option Value} (Some (value.Bytes a)) (Some (value.Bytes b)) → a ≡ b
same_bytes a b e = cc

same_varint : (a b : ℕ) → ◌≡◌ {A = Option Value} (Some (value.Varint a)) (Some (value.Varint b)) → a ≡ b
same_varint a b e = cc

same_optional_bytes : (a b : Option (List ℕ)) → option_map value.Bytes a ≡ option_map value.Bytes b → a ≡ b
same_optional_bytes None None e = refl
same_optional_bytes None (Some b) e = absurd cc
same_optional_bytes (Some a) None e = absurd cc
same_optional_bytes (Some a) (Some b) e = ap (λ (x : List ℕ). Some x) (same_bytes a b e)

same_optional_varint : (a b : Option ℕ) → option_map value.Varint a ≡ option_map value.Varint b → a ≡ b
same_optional_varint None None e = refl
same_optional_varint None (Some b) e = absurd cc
same_optional_varint (Some a) None e = absurd cc
same_optional_varint (Some a) (Some b) e = ap (λ (x : ℕ). Some x) (same_varint a b e)

same_number_or : (absent : ℕ) (o : Option Value) (a b : ℕ) → IsNumberOr absent o a → IsNumberOr absent o b → a ≡ b
same_number_or absent None a b h k = h ∙ sym k
same_number_or absent (Some v) a b h k = same_varint a b (ap (λ (x : Value). Some x) (sym h ∙ k))

same_flag : (o : Option Value) (a b : Bool) → IsFlag o a → IsFlag o b → a ≡ b
same_flag None a b h k = h ∙ sym k
same_flag (Some (value.Varint n)) a b h k = h ∙ sym k
same_flag (Some v) a b h k = absurd h

same_position : (p q : Position) → p.ledger ≡ q.ledger → p.entry ≡ q.entry → p ≡ q
same_position p q h k = made p.ledger q.ledger p.entry q.entry h k
  where
    made : (a b c d : ℕ) → a ≡ b → c ≡ d → ◌≡◌ {A = Position} (record { ledger = a; entry = c }) (record { ledger = b; entry = d })
    made a b c d h k = cc

same_id_text : (content : List ℕ) (p q : Position) → IsIdText content p → IsIdText content q → p ≡ q
same_id_text content p q h k =
    let one = text_one h.text k.text in
    same_position p q
    (same_varint _ _ (sym h.ledger ∙ ap (λ (fs : List Field). last_value 1 fs) one ∙ k.ledger))
    (same_varint _ _ (sym h.entry ∙ ap (λ (fs : List Field). last_value 2 fs) one ∙ k.entry))

same_id : (v : Value) (p q : Position) → IsId v p → IsId v q → p ≡ q
same_id (value.Bytes content) p q h k = same_id_text content p q h k
same_id v p q h k = absurd h

same_optional_id : (o : Option Value) (p q : Option Position) → IsOptionalId o p → IsOptionalId o q → p ≡ q
same_optional_id None None None h k = refl
same_optional_id (Some v) (Some p) (Some q) h k = ap (λ (x : Position). Some x) (same_id v p q h k)
same_optional_id None (Some p) q h k = absurd h
same_optional_id None p (Some q) h k = absurd k
same_optional_id (Some v) None q h k = absurd h
same_optional_id (Some v) p None h k = absurd k

same_ids : (vs : List Value) (ps qs : List Position) → AreIds vs ps → AreIds vs qs → ps ≡ qs
same_ids [] [] [] h k = refl
same_ids (v ∷ vs) (p ∷ ps) (q ∷ qs) h k = let head = same_id v p q h.0 k.0 in let tail = same_ids vs ps qs h.1 k.1 in cc
same_ids [] (p ∷ ps) qs h k = absurd h
same_ids [] ps (q ∷ qs) h k = absurd k
same_ids (v ∷ vs) [] qs h k = absurd h
same_ids (v ∷ vs) ps [] h k = absurd k

-- a part without its value
abbrev bare : Part → Part
bare (text n t) = text n []
bare (optional_text n t) = optional_text n None
bare (number n k) = number n 0
bare (optional_number n k) = optional_number n None
bare (number_or n absent k) = number_or n absent 0
bare (flag n b) = flag n false
bare (id n p) = id n (record { ledger = 0; entry = 0 })
bare (optional_id n p) = optional_id n None
bare (ids n ps) = ids n []

told_one : (vs : List Value) (p q : Part) → bare p ≡ bare q → Told vs p → Told vs q → p ≡ q
told_one vs (text n a) (text m b) e h k = let same = same_bytes a b (sym h ∙ k) in cc
told_one vs (optional_text n a) (optional_text m b) e h k = let same = same_optional_bytes a b (sym h ∙ k) in cc
told_one vs (number n a) (number m b) e h k = let same = same_varint a b (sym h ∙ k) in cc
told_one vs (optional_number n a) (optional_number m b) e h k = let same = same_optional_varint a b (sym h ∙ k) in cc
told_one vs (number_or n x a) (number_or m y b) e h k =
    let absent : y ≡ x = cc in
    let same = same_number_or x (last_or None vs) a b h (subst (λ (z : ℕ). IsNumberOr z (last_or None vs) b) absent k) in cc
told_one vs (flag n a) (flag m b) e h k = let same = same_flag (last_or None vs) a b h k in cc
told_one vs (id n a) (id m b) e h k = let same = same_optional_id (last_or None vs) (Some a) (Some b) h k in (let one : a ≡ b = cc in cc)
told_one vs (optional_id n a) (optional_id m b) e h k = let same = same_optional_id (last_or None vs) a b h k in cc
told_one vs (ids n a) (ids m b) e h k = let same = same_ids vs a b h k in cc
told_one vs p q e h k = absurd cc

place_bare : (p : Part) → place (bare p) ≡ place p
place_bare (text n t) = refl
place_bare (optional_text n t) = refl
place_bare (number n k) = refl
place_bare (optional_number n k) = refl
place_bare (number_or n absent k) = refl
place_bare (flag n b) = refl
place_bare (id n p) = refl
place_bare (optional_id n p) = refl
place_bare (ids n ps) = refl

says_one : (fs : List Field) (p q : Part) → bare p ≡ bare q → Says fs p → Says fs q → p ≡ q
says_one fs p q e h k =
    let same : place q ≡ place p = sym (place_bare q) ∙ ap (λ (x : Part). place x) (sym e) ∙ place_bare p in
    told_one (values (place p) fs) p q e h (subst (λ (n : ℕ). Told (values n fs) q) same k)

parts_one : (fs : List Field) (ps qs : List Part) → map bare ps ≡ map bare qs → AllByRecursion (Says fs) ps → AllByRecursion (Says fs) qs → ps ≡ qs
parts_one fs [] [] e h k = refl
parts_one fs [] (q ∷ qs) e h k = absurd cc
parts_one fs (p ∷ ps) [] e h k = absurd cc
parts_one fs (p ∷ ps) (q ∷ qs) e h k =
    let head = says_one fs p q (heads (bare p) (bare q) (map bare ps) (map bare qs) e) h.0 k.0 in
    let tail = parts_one fs ps qs (tails (bare p) (bare q) (map bare ps) (map bare qs) e) h.1 k.1 in
    cc
  where
    heads : (x y : Part) (xs ys : List Part) → x ∷ xs ≡ y ∷ ys → x ≡ y
    heads x y xs ys e = cc

    tails : (x y : Part) (xs ys : List Part) → x ∷ xs ≡ y ∷ ys → xs ≡ ys
    tails x y xs ys e = cc

-- ---- one command

abbrev sub_kinds : List SubKind
sub_kinds = sub_kind.Exclusive ∷ sub_kind.Shared ∷ sub_kind.Failover ∷ sub_kind.KeyShared ∷ []

abbrev sub_from : ℕ → SubKind
sub_from n = get_or sub_kinds n sub_kind.Exclusive

sub_from-is : (k : SubKind) → sub_from (sub_number k) ≡ k
sub_from-is sub_kind.Exclusive = refl
sub_from-is sub_kind.Shared = refl
sub_from-is sub_kind.Failover = refl
sub_from-is sub_kind.KeyShared = refl

abbrev ack_from : ℕ → AckKind
ack_from n = get_or (ack_kind.Individual ∷ ack_kind.Cumulative ∷ []) n ack_kind.Individual

ack_from-is : (k : AckKind) → ack_from (ack_number k) ≡ k
ack_from-is ack_kind.Individual = refl
ack_from-is ack_kind.Cumulative = refl

-- the command of a type with these parts
abbrev from_parts : Kind → List Part → Command
from_parts kind.Connect (text _ a ∷ optional_number _ b ∷ []) = command.Connect a b
from_parts kind.Connected (text _ a ∷ optional_number _ b ∷ []) = command.Connected a b
from_parts kind.Subscribe (text _ a ∷ text _ b ∷ number _ c ∷ number _ d ∷ number _ e ∷ optional_text _ f ∷ flag _ g ∷ flag _ h ∷ []) = command.Subscribe a b (sub_from c) d e f g h
from_parts kind.Producer (text _ a ∷ number _ b ∷ number _ c ∷ optional_text _ d ∷ []) = command.Producer a b c d
from_parts kind.Send (number _ a ∷ number _ b ∷ number_or _ _ c ∷ []) = command.Send a b c
from_parts kind.SendReceipt (number _ a ∷ number _ b ∷ optional_id _ c ∷ []) = command.SendReceipt a b c
from_parts kind.SendError (number _ a ∷ number _ b ∷ number _ c ∷ text _ d ∷ []) = command.SendError a b c d
from_parts kind.Message (number _ a ∷ id _ b ∷ []) = command.Message a b
from_parts kind.Ack (number _ a ∷ number _ b ∷ ids _ c ∷ []) = command.Ack a (ack_from b) c
from_parts kind.Flow (number _ a ∷ number _ b ∷ []) = command.Flow a b
from_parts kind.Unsubscribe (number _ a ∷ number _ b ∷ []) = command.Unsubscribe a b
from_parts kind.Success (number _ a ∷ []) = command.Success a
from_parts kind.Error (number _ a ∷ number _ b ∷ text _ c ∷ []) = command.Error a b c
from_parts kind.CloseProducer (number _ a ∷ number _ b ∷ []) = command.CloseProducer a b
from_parts kind.CloseConsumer (number _ a ∷ number _ b ∷ []) = command.CloseConsumer a b
from_parts kind.ProducerSuccess (number _ a ∷ text _ b ∷ []) = command.ProducerSuccess a b
from_parts kind.Ping ps = command.Ping
from_parts kind.Pong ps = command.Pong
from_parts k ps = command.Ping

from_parts-is : (c : Command) → from_parts (kind_of c) (parts c) ≡ c
from_parts-is (command.Connect a b) = refl
from_parts-is (command.Connected a b) = refl
from_parts-is (command.Subscribe a b c d e f g h) = ap (λ (k : SubKind). command.Subscribe a b k d e f g h) (sub_from-is c)
from_parts-is (command.Producer a b c d) = refl
from_parts-is (command.Send a b c) = refl
from_parts-is (command.SendReceipt a b c) = refl
from_parts-is (command.SendError a b c d) = refl
from_parts-is (command.Message a b) = refl
from_parts-is (command.Ack a b c) = ap (λ (k : AckKind). command.Ack a k c) (ack_from-is b)
from_parts-is (command.Flow a b) = refl
from_parts-is (command.Unsubscribe a b) = refl
from_parts-is (command.Success a) = refl
from_parts-is (command.Error a b c) = refl
from_parts-is (command.CloseProducer a b) = refl
from_parts-is (command.CloseConsumer a b) = refl
from_parts-is (command.ProducerSuccess a b) = refl
from_parts-is command.Ping = refl
from_parts-is command.Pong = refl

-- the bare parts of a type
abbrev some_text : Part
some_text = text 0 []

abbrev some_number : Part
some_number = number 0 0

abbrev sample : Kind → List Part
sample kind.Connect = some_text ∷ optional_number 0 None ∷ []
sample kind.Connected = some_text ∷ optional_number 0 None ∷ []
sample kind.Subscribe = some_text ∷ some_text ∷ some_number ∷ some_number ∷ some_number ∷ optional_text 0 None ∷ flag 0 false ∷ flag 0 false ∷ []
sample kind.Producer = some_text ∷ some_number ∷ some_number ∷ optional_text 0 None ∷ []
sample kind.Send = some_number ∷ some_number ∷ number_or 0 0 0 ∷ []
sample kind.SendReceipt = some_number ∷ some_number ∷ optional_id 0 None ∷ []
sample kind.SendError = some_number ∷ some_number ∷ some_number ∷ some_text ∷ []
sample kind.Message = some_number ∷ id 0 (record { ledger = 0; entry = 0 }) ∷ []
sample kind.Ack = some_number ∷ some_number ∷ ids 0 [] ∷ []
sample kind.Success = some_number ∷ []
sample kind.Error = some_number ∷ some_number ∷ some_text ∷ []
sample kind.ProducerSuccess = some_number ∷ some_text ∷ []
sample kind.Ping = []
sample kind.Pong = []
sample k = some_number ∷ some_number ∷ []

abbrev bare_parts : Kind → List Part
bare_parts k = map bare (parts (from_parts k (sample k)))

bare_parts-is : (c : Command) → map bare (parts c) ≡ bare_parts (kind_of c)
bare_parts-is (command.Connect a b) = refl
bare_parts-is (command.Connected a b) = refl
bare_parts-is (command.Subscribe a b c d e f g h) = refl
bare_parts-is (command.Producer a b c d) = refl
bare_parts-is (command.Send a b c) = refl
bare_parts-is (command.SendReceipt a b c) = refl
bare_parts-is (command.SendError a b c d) = refl
bare_parts-is (command.Message a b) = refl
bare_parts-is (command.Ack a b c) = refl
bare_parts-is (command.Flow a b) = refl
bare_parts-is (command.Unsubscribe a b) = refl
bare_parts-is (command.Success a) = refl
bare_parts-is (command.Error a b c) = refl
bare_parts-is (command.CloseProducer a b) = refl
bare_parts-is (command.CloseConsumer a b) = refl
bare_parts-is (command.ProducerSuccess a b) = refl
bare_parts-is command.Ping = refl
bare_parts-is command.Pong = refl

pub tells_one : (k : Kind) (fs : List Field) (c d : Command) → Tells k fs c → Tells k fs d → c ≡ d
tells_one k fs c d h j =
    let kinds : kind_of c ≡ kind_of d = h.kind ∙ sym j.kind in
    let bares : map bare (parts c) ≡ map bare (parts d) = bare_parts-is c ∙ ap (λ (x : Kind). bare_parts x) kinds ∙ sym (bare_parts-is d) in
    let same : parts c ≡ parts d = parts_one fs (parts c) (parts d) bares h.says j.says in
    sym (from_parts-is c) ∙ ap (λ (x : Kind). from_parts x (parts c)) kinds ∙ ap (λ (ps : List Part). from_parts (kind_of d) ps) same ∙ from_parts-is d
