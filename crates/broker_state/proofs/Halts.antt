-- A stop between two durable writes, as an event of its own.
use Rattle.std.proofs.Common.{◌≡◌, ℕ, zero, suc, List, [], ◌∷◌, ◌++◌, map, refl, ap, ◌∙◌}
use Rattle.std.specs.Prelude.{take, Option, None, Some, slice_get}
use Rattle.geo_base.specs.declared.change.Change.TheVariants as change
use Rattle.geo_base.specs.declared.entry.Entry.{Entry}
use Rattle.geo_base.specs.declared.write.Write.{Write}
use Rattle.geo_base.specs.declared.write.Write.TheVariants as write
use Rattle.geo_base.specs.Broker.{Broker, changed}
use Rattle.geo_base.specs.Plan.{all_written, done, halted}
use Rattle.geo_base.specs.Subscription.{Subscription}
use Rattle.broker_state.specs.declared.write.StateWrite.{StateWrite}
use Rattle.broker_state.specs.declared.write.StateWrite.TheVariants as state_write
use Rattle.broker_state.specs.Plan.{PlanView, created_name, halted_view, name_or, plan_in}
use Rattle.broker_state.specs.Writes.{machine_write}

-- only the first write tells whom an event creates
created_first : (w : StateWrite) (xs ys : List StateWrite) → created_name (w ∷ xs) ≡ created_name (w ∷ ys)
created_first (state_write.Append e stream) xs ys = refl
created_first (state_write.Create s latest) xs ys = refl
created_first state_write.Delete xs ys = refl
created_first (state_write.Sub w) xs ys = refl
created_first (state_write.ReplicatorAck y i) xs ys = refl
created_first (state_write.SessionNumber y session) xs ys = refl
created_first state_write.Ledger xs ys = refl

pub same_name : (o : Option Subscription) (w : StateWrite) (xs ys : List StateWrite) → name_or o (w ∷ xs) ≡ name_or o (w ∷ ys)
same_name None w xs ys = created_first w xs ys
same_name (Some s) w xs ys = refl

taken : (f : StateWrite → Write) (k : ℕ) (ws more : List StateWrite) → map f (take k ws ++ more) ≡ take k (map f ws) ++ map f more
taken f zero ws more = refl
taken f (suc k) [] more = refl
taken f (suc k) (w ∷ ws) more = ap (λ xs. f w ∷ xs) (taken f k ws more)

-- the first k writes and the ledger, under the name that all writes have
kept : (es : List Entry) (o : Option Subscription) (k : ℕ) (ws : List StateWrite)
    → map (machine_write (name_or o (take k ws ++ state_write.Ledger ∷ [])) es) (take k ws ++ state_write.Ledger ∷ []) ≡ take k (map (machine_write (name_or o ws) es) ws) ++ write.Ledger ∷ []
kept es o zero ws = refl
kept es o (suc k) [] = refl
kept es o (suc k) (w ∷ ws) =
    let n : List ℕ = name_or o (w ∷ ws) in
    let same : name_or o (w ∷ (take k ws ++ state_write.Ledger ∷ [])) ≡ n = same_name o w (take k ws ++ state_write.Ledger ∷ []) ws in
    ap (λ (m : List ℕ). map (machine_write m es) (w ∷ (take k ws ++ state_write.Ledger ∷ []))) same
    ∙ ap (λ xs. machine_write n es w ∷ xs) (taken (machine_write n es) k ws (state_write.Ledger ∷ []))

pub halted_done : (per k : ℕ) (b : Broker) (p : PlanView) → done per b (plan_in b (halted_view k p)) ≡ halted per b k (plan_in b p)
halted_done per k b p = ap (λ (ws : List Write). changed (all_written per b ws) change.Forget) (kept b.entries (slice_get b.subs p.sub) k p.writes)
