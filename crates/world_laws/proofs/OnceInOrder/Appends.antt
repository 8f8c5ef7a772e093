-- What writes do to the entries of a topic: an append adds one entry at the end, and nothing else touches them.
use Rattle.std.proofs.Common.{◌≡◌, ℕ, zero, suc, Bool, true, List, [], ◌∷◌, ◌++◌, refl, ap, ◌∙◌}
use Rattle.std.specs.Prelude.{◌&&◌, take, is_some}
use Rattle.world_laws.proofs.Types.{Change, Entry, SubKind, Write}
use Rattle.world_laws.proofs.Types.change
use Rattle.world_laws.proofs.Types.write
use Rattle.geo_base.specs.Broker.{Broker, changed, sub_named, written}
use Rattle.geo_base.specs.Plan.{Plan, all_changed, all_written, done, halted}
use Rattle.geo_base.specs.Topic.{accepts}
use Rattle.world_laws.proofs.Walks.Walk.{on_if, second_follows}

-- each append of a list of writes is accepted in its turn
abbrev pub fresh : List Entry → List Write → Bool
fresh es [] = true
fresh es (write.Append e ∷ ws) = accepts es e.ident && fresh (es ++ e ∷ []) ws
fresh es (w ∷ ws) = fresh es ws

-- the entries after writes
abbrev pub after_writes : List Entry → List Write → List Entry
after_writes es [] = es
after_writes es (write.Append e ∷ ws) = after_writes (es ++ e ∷ []) ws
after_writes es (w ∷ ws) = after_writes es ws

create_entries : (per : ℕ) (b : Broker) (n : List ℕ) (kind : SubKind) (replicated latest : Bool) → (written per b (write.Create n kind replicated latest)).entries ≡ b.entries
create_entries per b n kind replicated latest = on_if (λ (c : Broker). c.entries ≡ b.entries) (is_some (sub_named b.subs n)) _ _ refl refl

pub written_entries : (per : ℕ) (b : Broker) (ws : List Write) → (all_written per b ws).entries ≡ after_writes b.entries ws
written_entries per b [] = refl
written_entries per b (write.Append e ∷ ws) = written_entries per (written per b (write.Append e)) ws
written_entries per b (write.Create n kind replicated latest ∷ ws) =
    written_entries per (written per b (write.Create n kind replicated latest)) ws ∙ ap (λ es. after_writes es ws) (create_entries per b n kind replicated latest)
written_entries per b (write.Alter n kind replicated ∷ ws) = written_entries per (written per b (write.Alter n kind replicated)) ws
written_entries per b (write.Delete n ∷ ws) = written_entries per (written per b (write.Delete n)) ws
written_entries per b (write.Acks n is ∷ ws) = written_entries per (written per b (write.Acks n is)) ws
written_entries per b (write.Seek n i ∷ ws) = written_entries per (written per b (write.Seek n i)) ws
written_entries per b (write.ReplicatorAck y i ∷ ws) = written_entries per (written per b (write.ReplicatorAck y i)) ws
written_entries per b (write.SessionNumber y n ∷ ws) = written_entries per (written per b (write.SessionNumber y n)) ws
written_entries per b (write.Ledger ∷ ws) = written_entries per (written per b write.Ledger) ws

pub changed_entries : (b : Broker) (c : Change) → (changed b c).entries ≡ b.entries
changed_entries b (change.Receiver x r) = refl
changed_entries b c = refl

pub all_changed_entries : (b : Broker) (cs : List Change) → (all_changed b cs).entries ≡ b.entries
all_changed_entries b [] = refl
all_changed_entries b (c ∷ cs) = all_changed_entries (changed b c) cs ∙ changed_entries b c

pub done_entries : (per : ℕ) (b : Broker) (p : Plan) → (done per b p).entries ≡ after_writes b.entries p.writes
done_entries per b p = all_changed_entries (all_written per b p.writes) p.changes ∙ written_entries per b p.writes

pub halted_entries : (per : ℕ) (b : Broker) (k : ℕ) (p : Plan) → (halted per b k p).entries ≡ after_writes b.entries (take k p.writes ++ write.Ledger ∷ [])
halted_entries per b k p =
    changed_entries (all_written per b (take k p.writes ++ write.Ledger ∷ [])) change.Forget ∙ written_entries per b (take k p.writes ++ write.Ledger ∷ [])

-- a new ledger appends nothing
pub after_halt : (es : List Entry) (ws : List Write) → after_writes es (ws ++ write.Ledger ∷ []) ≡ after_writes es ws
after_halt es [] = refl
after_halt es (write.Append e ∷ ws) = after_halt (es ++ e ∷ []) ws
after_halt es (w ∷ ws) = after_halt es ws

-- two lists of writes in a row
pub fresh_both : (es : List Entry) (ws vs : List Write) → fresh es ws ≡ true → fresh (after_writes es ws) vs ≡ true → fresh es (ws ++ vs) ≡ true
fresh_both es [] vs h k = k
fresh_both es (write.Append e ∷ ws) vs h k =
    second_follows (accepts es e.ident) (fresh (es ++ e ∷ []) ws) (fresh (es ++ e ∷ []) (ws ++ vs)) h (λ g. fresh_both (es ++ e ∷ []) ws vs g k)
fresh_both es (w ∷ ws) vs h k = fresh_both es ws vs h k

-- a beginning of the writes
pub fresh_take : (es : List Entry) (k : ℕ) (ws : List Write) → fresh es ws ≡ true → fresh es (take k ws) ≡ true
fresh_take es zero ws h = refl
fresh_take es (suc k) [] h = refl
fresh_take es (suc k) (write.Append e ∷ ws) h =
    second_follows (accepts es e.ident) (fresh (es ++ e ∷ []) ws) (fresh (es ++ e ∷ []) (take k ws)) h (fresh_take (es ++ e ∷ []) k ws)
fresh_take es (suc k) (w ∷ ws) h = fresh_take es k ws h

-- a beginning of them with a new ledger after it, as a stop leaves them
pub fresh_halt : (es : List Entry) (k : ℕ) (ws : List Write) → fresh es ws ≡ true → fresh es (take k ws ++ write.Ledger ∷ []) ≡ true
fresh_halt es k ws h = fresh_both es (take k ws) (write.Ledger ∷ []) (fresh_take es k ws h) refl
