-- Slots and their indexes, after a message more or fewer.
use Rattle.std.proofs.Common.{◌≡◌, ℕ, ◌+◌, ◌-◌, ◌<◌, ◌≤◌, not, ◌&&◌, ◌||◌, List, [], ◌∷◌, ◌++◌, length, get_or, set, drop, Option, Some, None, sym, ◌∙◌, ap, arith}
use Rattle.std.proofs.lemmas.List.{get_or_default, length-set, length_push}
use Rattle.geo_base.specs.declared.client.Held.{Held}
use Rattle.client.specs.declared.held.index.SlotKey.{SlotKey}
use Rattle.client.specs.SlotIndex.{has, same_key}
use Rattle.client.specs.HeldSlots.{IsIndexed, empty_before, held_in, ident_numbers, key_of, position_numbers}
use Rattle.client.proofs.SlotLists.{emptied_front, front_pushed, front_within, held_in-append, one_fewer}
use Rattle.client.proofs.SlotTails.{emptied_taken, one_indexed, one_passed, pushed_behind}

-- the message that was taken out of a slot stood there
pub stood : (slots : List (Option Held)) (slot : ℕ) (lent taken : Option Held) (h : Held) → slot < length slots → lent ≡ get_or slots slot lent → taken ≡ lent → taken ≡ Some h
    → get_or slots slot None ≡ Some h
stood slots slot lent taken h within was same is = get_or_default slots slot None lent within ∙ (sym was ∙ (sym same ∙ is))

pub one_at_least : (slots : List (Option Held)) (slot count : ℕ) (h : Held) → count ≡ length (held_in slots) → get_or slots slot None ≡ Some h → 1 ≤ count
one_at_least slots slot count h counted is = omega (arith, one_fewer slots slot h is)

pub front_in : (slots : List (Option Held)) (slot front : ℕ) (o : Option Held) → front ≡ empty_before slots → front ≤ length (set slots slot o)
front_in slots slot front o is = omega (arith, front_within slots, length-set slots slot o)

module _ (slots : List (Option Held)) (count front indexed : ℕ) (idents positions idents' positions' : List SlotKey) (i : IsIndexed slots count front indexed idents positions) where
  pub one_more : (after : List (Option Held)) (h : Held) → after ≡ slots ++ Some h ∷ [] → IsIndexed after (count + 1) front indexed idents positions
  one_more after h is = rw is (record {
    count = omega (arith, i.count, ap length (held_in-append slots (Some h ∷ [])), length_push (held_in slots) h);
    front = i.front ∙ sym (front_pushed slots h);
    within = omega (arith, i.within, length_push slots (Some h));
    idents = pushed_behind (λ g. ident_numbers g.ident) slots indexed idents h i.within i.idents;
    positions = pushed_behind (λ g. position_numbers g.position) slots indexed positions h i.within i.positions;
  })

  pub next_indexed : (h : Held) (ident position : SlotKey) → indexed < length slots → Some h ≡ get_or slots indexed None → ident ≡ key_of (ident_numbers h.ident) indexed
      → position ≡ key_of (position_numbers h.position) indexed → ((k : SlotKey) → has idents' k ≡ (same_key ident k || has idents k))
      → ((k : SlotKey) → has positions' k ≡ (same_key position k || has positions k)) → IsIndexed slots count front (indexed + 1) idents' positions'
  next_indexed h ident position within is by_ident by_position in_idents in_positions = record {
    count = i.count;
    front = i.front;
    within = omega (arith, within);
    idents = one_indexed (λ g. ident_numbers g.ident) slots indexed idents idents' h within is i.idents (rw by_ident at in_idents);
    positions = one_indexed (λ g. position_numbers g.position) slots indexed positions positions' h within is i.positions (rw by_position at in_positions);
  }

  pub next_passed : indexed < length slots → None ≡ get_or slots indexed None → IsIndexed slots count front (indexed + 1) idents positions
  next_passed within is = record {
    count = i.count;
    front = i.front;
    within = omega (arith, within);
    idents = one_passed (λ g. ident_numbers g.ident) slots indexed idents within is i.idents;
    positions = one_passed (λ g. position_numbers g.position) slots indexed positions within is i.positions;
  }

  pub one_less : (slot at : ℕ) (o : Option Held) (h : Held) (ident position : SlotKey) → o ≡ None → slot < length slots → get_or slots slot None ≡ Some h
      → at ≡ front + empty_before (drop front (set slots slot o)) → ident ≡ key_of (ident_numbers h.ident) slot → position ≡ key_of (position_numbers h.position) slot
      → ((k : SlotKey) → has idents' k ≡ (not (same_key ident k) && has idents k)) → ((k : SlotKey) → has positions' k ≡ (not (same_key position k) && has positions k))
      → IsIndexed (set slots slot o) (count - 1) at indexed idents' positions'
  one_less slot at o h ident position empty within is next by_ident by_position out_idents out_positions = rw empty (record {
    count = omega (arith, i.count, one_fewer slots slot h is);
    front = emptied_front slots slot front at i.front (rw empty at next);
    within = omega (arith, i.within, length-set slots slot None);
    idents = emptied_taken (λ g. ident_numbers g.ident) slots indexed slot idents idents' h within is i.idents (rw by_ident at out_idents);
    positions = emptied_taken (λ g. position_numbers g.position) slots indexed slot positions positions' h within is i.positions (rw by_position at out_positions);
  })
