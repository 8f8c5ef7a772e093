-- What every write and every change keeps of a broker: its ledgers, the order of its cursors, and that names of subscriptions differ.
use Rattle.std.proofs.Common.{ℕ, ◌≤◌, [], ◌∷◌, length, refl, arith}
use Rattle.world_laws.proofs.Types.{Change, Write}
use Rattle.geo_base.specs.Broker.{Broker, changed, new_broker, written}
use Rattle.geo_base.specs.Setup.{Setup}
use Rattle.world_laws.proofs.Dispatching.SubFrames.{NamesApart, all_written_apart, changed_apart}
use Rattle.kept_laws.proofs.Cursors.{HasCursors, changed_cursors, new_cursors, written_cursors}
use Rattle.kept_laws.proofs.Ledgers.{HasLedgers, changed_ledgers, written_ledgers}
use Rattle.kept_laws.proofs.Steady.{IsSteady, always_steady}

pub record IsTidy (per : ℕ) (b : Broker) : Type 0 where
  pub ledgers : HasLedgers per b
  pub cursors : HasCursors b
  pub names : NamesApart b.subs

written_tidy : (per : ℕ) → 1 ≤ per → (b : Broker) (w : Write) → IsTidy per b → IsTidy per (written per b w)
written_tidy per one b w h = record {
  ledgers = written_ledgers per one b w h.ledgers;
  cursors = written_cursors per b w h.cursors;
  names = all_written_apart per b (w ∷ []) h.names;
}

changed_tidy : (per : ℕ) (b : Broker) (c : Change) → IsTidy per b → IsTidy per (changed b c)
changed_tidy per b c h = record { ledgers = changed_ledgers per b c h.ledgers; cursors = changed_cursors b c h.cursors; names = changed_apart b c h.names }

new_tidy : (per clusters clients : ℕ) → IsTidy per (new_broker clusters clients)
new_tidy per clusters clients = record {
  ledgers = record { some = omega arith; whole = refl; each = (omega arith, tt) };
  cursors = new_cursors clusters clients;
  names = tt;
}

pub tidy_steady : (s : Setup) → 1 ≤ s.per_ledger → IsSteady s (λ x b. IsTidy s.per_ledger b)
tidy_steady s one =
    always_steady s (IsTidy s.per_ledger) (new_tidy s.per_ledger (length s.clusters) (length s.clients)) (written_tidy s.per_ledger one) (changed_tidy s.per_ledger)
