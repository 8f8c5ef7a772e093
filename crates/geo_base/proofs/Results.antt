-- Lemmas on answers that several crates use, each named by its statement.
use Rattle.std.proofs.Common.{ap, true, ℕ, ◌≡◌}
use Rattle.std.specs.Prelude.{Err, None, Ok, OnErr, OnOk, Option, Result, Some, is_some, not}

pub some_number : (i j : ℕ) → ◌≡◌ {A = Option ℕ} (Some i) (Some j) → i ≡ j
some_number i j e = cc

pub none_not_some : {k : ℕ} → ◌≡◌ {A = Option ℕ} None (Some k) → ⊥
none_not_some e = cc

pub none_is_not_some : (o : Option ℕ) → o ≡ None → not (is_some o) ≡ true
none_is_not_some o h = ap (λ (o : Option ℕ). not (is_some o)) h

pub on_ok_to : {E : Type 0} (X Y : Type 0) (r : Result (Unit {0}) E) → (X → Y) → OnOk r X → OnOk r Y
on_ok_to {E} X Y (Ok u) f x = f x
on_ok_to {E} X Y (Err e) f x = tt

pub on_ok_always : {E : Type 0} (X : Type 0) (r : Result (Unit {0}) E) → X → OnOk r X
on_ok_always {E} X (Ok u) x = x
on_ok_always {E} X (Err f) x = tt

pub on_err_always : {T E P : Type 0} (r : Result T E) → P → OnErr r P
on_err_always (Ok _) p = tt
on_err_always (Err _) p = p
