-- What is told of a trace whose audit accepts it.
use Rattle.std.proofs.Common.{◌≡◌, ℕ, List, [], ◌∷◌, ◌++◌, sym, subst}
use Rattle.std.specs.Prelude.{Ok}
use Rattle.std.specs.List.{AllByRecursion}
use Rattle.audit.specs.AuditOf.{IsAccepted, audit_by, audit_of}
use Rattle.audit.specs.declared.strictness.Strictness.TheVariants as strictness
use Rattle.audit.specs.Strict.{audited_by}
use Rattle.audit.specs.Numbers.{IsActOf as HasActNumbers, IsItemOf as HasNumbers}
use Rattle.audit.proofs.Accepting.{accepted_says}
use Rattle.geo_base.specs.Audit.{audited}
use Rattle.geo_base.specs.Setup.{Setup}
use Rattle.geo_base.specs.TraceItems.{Act, Acks, Appends, Begins, Creates, Deletes, Item, Seeks, Writes}
use Rattle.trace_laws.specs.Audited.{IsActOf, IsItemOf}
use Rattle.trace_laws.proofs.Gaps.{gapless_law}
use Rattle.trace_laws.proofs.Safe.{audited_safe}
use Rattle.geo_top.specs.Audits.{IsAuditedSafe}
use Rattle.geo_top.specs.Wholly.{IsAuditedWhole}

-- the numbers of a line are those of the setup: for the audit and for its law
known_act : (s : Setup) (a : Act) → HasActNumbers s a → IsActOf s a
known_act s (Appends p e by) h = h
known_act s (Creates n latest) h = tt
known_act s (Deletes n) h = tt
known_act s (Acks n is c) h = tt
known_act s (Seeks n i) h = tt

known_item : (s : Setup) (i : Item) → HasNumbers s i → IsItemOf s i
known_item s (Begins n) h = tt
known_item s (Writes t x a) h = (h.0, h.1, known_act s a h.2)

all_known : (s : Setup) (is : List Item) → AllByRecursion (HasNumbers s) is → AllByRecursion (IsItemOf s) is
all_known s [] h = tt
all_known s (i ∷ is) h = (known_item s i h.0, all_known s is h.1)

pub accepted_safe : (s : Setup) (bytes : List ℕ) (events : ℕ) → audit_of s bytes ≡ Ok events → IsAuditedSafe s bytes
accepted_safe s bytes events is =
    let a : IsAccepted strictness.Plain s bytes events = accepted_says strictness.Plain s bytes events is in
    record {
      lines = a.lines;
      items = a.items;
      cut = a.cut;
      read = a.read;
      safe = λ before after whole.
          audited_safe s before after a.mirrors (subst (λ (is : List Item). AllByRecursion (IsItemOf s) is) (sym whole) (all_known s a.items a.known)) (subst (λ (is : List Item). audited s is ≡ Ok a.mirrors) (sym whole) a.accepted);
    }

pub accepted_whole : (s : Setup) (bytes : List ℕ) (events : ℕ) → audit_by strictness.Whole s bytes ≡ Ok events → IsAuditedWhole s bytes
accepted_whole s bytes events is =
    let a : IsAccepted strictness.Whole s bytes events = accepted_says strictness.Whole s bytes events is in
    let known : (before after : List Item) → before ++ after ≡ a.items → AllByRecursion (IsItemOf s) (before ++ after) =
    λ before after whole. subst (λ (is : List Item). AllByRecursion (IsItemOf s) is) (sym whole) (all_known s a.items a.known) in
    record {
      lines = a.lines;
      items = a.items;
      cut = a.cut;
      read = a.read;
      safe = λ before after whole.
          audited_safe s before after a.mirrors (known before after whole) (subst (λ (is : List Item). audited s is ≡ Ok a.mirrors) (sym whole) a.accepted);
      gapless = λ before after whole.
          gapless_law s before after a.mirrors (known before after whole) (subst (λ (is : List Item). audited_by strictness.Whole s is ≡ Ok a.mirrors) (sym whole) a.strictly);
    }
