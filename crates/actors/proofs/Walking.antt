-- Tries in order.
use Rattle.std.proofs.Common.{◌≡◌, ◌∙◌, ℕ, Bool, true, false, List, [], ◌∷◌, ◌++◌, refl, sym, ap}
use Rattle.std.specs.Prelude.{IfOk, IsErr, IsFalse, IsTrue, OnErr, Option, Result, Ok, Err, is_err}
use Rattle.std.proofs.lemmas.Bool.{false≢true}
use Rattle.actors.specs.declared.role.Link.{Link}
use Rattle.actors.specs.Drawing.{Drawing, after_draw, fate_drawn, restart_drawn}
use Rattle.actors.specs.Tries.{Try, controller_tries, receipt_try, receiver_tries, tried, try_if}
use Rattle.actors.specs.Turns.{Walks}
use Rattle.geo_base.specs.declared.event.Event.{Event}
use Rattle.geo_base.specs.declared.event.Event.TheVariants as event
use Rattle.geo_base.specs.declared.event.Fate.{Fate}
use Rattle.geo_base.specs.declared.memory.Memory.{Memory}
use Rattle.node_log.specs.Acts.{IsActed, IsHeld, SameLog}
use Rattle.node_log.specs.Logs.{NodeLogView}
use Rattle.wire_ends.specs.declared.packet.WirePacket.{WirePacket}
use Rattle.wire_ends.specs.Parcels.{Packed as Parcel}

-- what one event does, as its log tells it
pub one : {E : Type 0} (sent_in taken_in : E → List WirePacket) (shown : E → Option WirePacket) (free looks : E → ℕ) (fits : Parcel → Type 0) (t : Try) (d : Drawing) (b b' : NodeLogView E) (r : Result Bool Memory)
    → IfOk r (λ yes. IsTrue yes → IsActed sent_in taken_in t.event b b') → IfOk r (λ yes. IsFalse yes → IsHeld shown free looks fits t.event b b')
    → IfOk r (λ yes. IsFalse yes → SameLog sent_in taken_in b b') → OnErr r (SameLog sent_in taken_in b b')
    → Walks sent_in taken_in shown free looks fits (t ∷ []) d b b' t.drawing r
one sent_in taken_in shown free looks fits t d b b' (Ok true) acted held same err = Walks.does t [] d b b' (acted refl)
one sent_in taken_in shown free looks fits t d b b' (Ok false) acted held same err =
    Walks.goes_on t [] d b b' b' t.drawing (Ok false) (held refl) (same refl) (Walks.nothing t.drawing b')
one sent_in taken_in shown free looks fits t d b b' (Err e) acted held same err = Walks.wants t [] d b b' e err

ok_false : ◌≡◌ {A = Result Bool Memory} (Ok true) (Ok false) → ⊥
ok_false e = cc

err_true : (e : Memory) → ◌≡◌ {A = Result Bool Memory} (Err e) (Ok true) → ⊥
err_true e h = cc

err_false : (e : Memory) → ◌≡◌ {A = Result Bool Memory} (Err e) (Ok false) → ⊥
err_false e h = cc

two_lists : {X : Type 0} (xs : List X) (y : X) (ys : List X) → (xs ++ y ∷ ys) ≡ [] → ⊥
two_lists [] y ys is = cc
two_lists (x ∷ xs) y ys is = cc

module _ {E : Type 0} {sent_in taken_in : E → List WirePacket} {shown : E → Option WirePacket} {free looks : E → ℕ} {fits : Parcel → Type 0} where
  -- where none of the first tries was done, the next ones are tried
  joined : (ts us : List Try) (d : Drawing) (b mid b' : NodeLogView E) (d1 d2 : Drawing) (q r : Result Bool Memory) → Walks sent_in taken_in shown free looks fits ts d b mid d1 q → q ≡ Ok false
      → Walks sent_in taken_in shown free looks fits us d1 mid b' d2 r → Walks sent_in taken_in shown free looks fits (ts ++ us) d b b' d2 r
  joined _ us _ _ _ b' _ d2 _ r (Walks.nothing d b) is rest = rest
  joined _ us _ _ _ b' _ d2 _ r (Walks.does t ts d b mid h) is rest = absurd (ok_false is)
  joined _ us _ _ _ b' _ d2 _ r (Walks.wants t ts d b mid e h) is rest = absurd (err_false e is)
  joined _ us _ _ _ b' _ d2 _ r (Walks.goes_on t ts d b m mid d1 q held same walk) is rest =
      Walks.goes_on t (ts ++ us) d b m b' d2 r held same (joined ts us t.drawing m mid b' d1 d2 q r walk is rest)

  -- where one was done, none is tried any more
  ended : (ts us : List Try) (d : Drawing) (b b' : NodeLogView E) (d' : Drawing) (r : Result Bool Memory) → Walks sent_in taken_in shown free looks fits ts d b b' d' r → r ≡ Ok true
      → Walks sent_in taken_in shown free looks fits (ts ++ us) d b b' d' (Ok true)
  ended _ us _ _ _ _ _ (Walks.nothing d b) is = absurd (ok_false (sym is))
  ended _ us _ _ _ _ _ (Walks.does t ts d b b' h) is = Walks.does t (ts ++ us) d b b' h
  ended _ us _ _ _ _ _ (Walks.wants t ts d b b' e h) is = absurd (err_true e is)
  ended _ us _ _ _ _ _ (Walks.goes_on t ts d b m b' d' r held same walk) is =
      Walks.goes_on t (ts ++ us) d b m b' d' (Ok true) held same (ended ts us t.drawing m b' d' r walk is)

  -- and none where memory was wanting
  stopped : (ts us : List Try) (d : Drawing) (b b' : NodeLogView E) (d' : Drawing) (r : Result Bool Memory) (e : Memory) → Walks sent_in taken_in shown free looks fits ts d b b' d' r → IsErr r
      → Walks sent_in taken_in shown free looks fits (ts ++ us) d b b' d' (Err e)
  stopped _ us _ _ _ _ _ e (Walks.nothing d b) is = absurd (false≢true is)
  stopped _ us _ _ _ _ _ e (Walks.does t ts d b b' h) is = absurd (false≢true is)
  stopped _ us _ _ _ _ _ e (Walks.wants t ts d b b' f h) is = Walks.wants t (ts ++ us) d b b' e h
  stopped _ us _ _ _ _ _ e (Walks.goes_on t ts d b m b' d' r held same walk) is =
      Walks.goes_on t (ts ++ us) d b m b' d' (Err e) held same (stopped ts us t.drawing m b' d' r e walk is)

  -- the same with what the code knows of a result

  pub was_done : (us : List Try) {ts : List Try} {d : Drawing} {b b' : NodeLogView E} {d' : Drawing} {r : Result Bool Memory} {done : Bool} → Walks sent_in taken_in shown free looks fits ts d b b' d' r
      → r ≡ Ok done → done ≡ true → Walks sent_in taken_in shown free looks fits (ts ++ us) d b b' d' (Ok true)
  was_done us {ts} {d} {b} {b'} {d'} {r} {done} walk is so = ended ts us d b b' d' r walk (is ∙ ap Ok so)

  pub was_held : {ts : List Try} {us : List Try} {d : Drawing} {b mid b' : NodeLogView E} {d1 d2 : Drawing} {q r : Result Bool Memory} {done : Bool} → Walks sent_in taken_in shown free looks fits ts d b mid d1 q
      → q ≡ Ok done → done ≡ false → Walks sent_in taken_in shown free looks fits us d1 mid b' d2 r → Walks sent_in taken_in shown free looks fits (ts ++ us) d b b' d2 r
  was_held {ts} {us} {d} {b} {mid} {b'} {d1} {d2} {q} {r} {done} walk is so rest = joined ts us d b mid b' d1 d2 q r walk (is ∙ ap Ok so) rest

  pub was_wanting : (us : List Try) {ts : List Try} {d : Drawing} {b b' : NodeLogView E} {d' : Drawing} {r : Result Bool Memory} {e : Memory} → Walks sent_in taken_in shown free looks fits ts d b b' d' r → r ≡ Err e
      → (q : Result Bool Memory) → IsErr q → Walks sent_in taken_in shown free looks fits (ts ++ us) d b b' d' q
  was_wanting us walk is (Ok x) err = absurd (false≢true err)
  was_wanting us {ts} {d} {b} {b'} {d'} {r} {e} walk is (Err f) err = stopped ts us d b b' d' r f walk (ap (λ (o : Result Bool Memory). is_err o) is)

  -- where something is tried, what was left of the draws before counts for nothing
  any_start : (ts : List Try) (d d0 : Drawing) (b b' : NodeLogView E) (d' : Drawing) (r : Result Bool Memory) → (ts ≡ [] → ⊥) → Walks sent_in taken_in shown free looks fits ts d b b' d' r
      → Walks sent_in taken_in shown free looks fits ts d0 b b' d' r
  any_start _ _ d0 _ _ _ _ some (Walks.nothing d b) = absurd (some refl)
  any_start _ _ d0 _ _ _ _ some (Walks.does t ts d b b' h) = Walks.does t ts d0 b b' h
  any_start _ _ d0 _ _ _ _ some (Walks.wants t ts d b b' e h) = Walks.wants t ts d0 b b' e h
  any_start _ _ d0 _ _ _ _ some (Walks.goes_on t ts d b m b' d' r held same walk) = Walks.goes_on t ts d0 b m b' d' r held same walk

  -- ---- a controller

  pub control_drawn : (t x : ℕ) {d d1 : Drawing} {here due : Bool} {b b' : NodeLogView E} {r : Result Bool Memory} → here ≡ true → due ≡ restart_drawn d → d1 ≡ after_draw d
      → Walks sent_in taken_in shown free looks fits (try_if due (tried d1 (event.Restart t x)) ++ tried d1 (event.Snap t x) ∷ []) d1 b b' d1 r
      → Walks sent_in taken_in shown free looks fits (controller_tries here d t x) d b b' d1 r
  control_drawn t x {d} {d1} {here} {due} {b} {b'} {r} is value rest walk =
      rw (is, rest) (any_start _ (after_draw d) d b b' (after_draw d) r (two_lists (try_if (restart_drawn d) (tried (after_draw d) (event.Restart t x))) _ []) (rw (value, rest) at walk))

  -- ---- a replicator

  pub session_tried : (due : Bool) {d : Drawing} {l : Link} {e : Event} {b b' : NodeLogView E} {r : Result Bool Memory} → e ≡ event.Reset l.topic l.source l.target
      → Walks sent_in taken_in shown free looks fits (try_if due (tried d e)) d b b' d r → Walks sent_in taken_in shown free looks fits (try_if due (tried d (event.Reset l.topic l.source l.target))) d b b' d r
  session_tried due is walk = rw is at walk

  pub receipt_tried : {d d1 : Drawing} {l : Link} {f : Fate} {e : Event} {b b' : NodeLogView E} {r : Result Bool Memory} → e ≡ event.Receipt l.topic l.source l.target f → f ≡ fate_drawn d → d1 ≡ after_draw d
      → Walks sent_in taken_in shown free looks fits (tried d1 e ∷ []) d b b' d1 r → Walks sent_in taken_in shown free looks fits (receipt_try d l ∷ []) d b b' d1 r
  receipt_tried is value rest walk = rw rest (rw (is, value, rest) at walk)

  pub read_tried : (d : Drawing) {d1 : Drawing} {l : Link} {e : Event} {b b' : NodeLogView E} {r : Result Bool Memory} → e ≡ event.Read l.topic l.source l.target → d1 ≡ after_draw d
      → Walks sent_in taken_in shown free looks fits (tried d1 e ∷ []) d1 b b' d1 r
      → Walks sent_in taken_in shown free looks fits (tried (after_draw d) (event.Read l.topic l.source l.target) ∷ []) d1 b b' d1 r
  read_tried d is rest walk = rw rest (rw (is, rest) at walk)

  -- ---- a receiver

  pub take_tried : {d d1 : Drawing} {l : Link} {f : Fate} {e : Event} {here : Bool} {b b' : NodeLogView E} {r : Result Bool Memory} → here ≡ true → e ≡ event.Take l.topic l.source l.target f → f ≡ fate_drawn d
      → d1 ≡ after_draw d → Walks sent_in taken_in shown free looks fits (tried d1 e ∷ []) d b b' d1 r → Walks sent_in taken_in shown free looks fits (receiver_tries here d l) d b b' d1 r
  take_tried here is value rest walk = rw (here, rest) (rw (is, value, rest) at walk)
