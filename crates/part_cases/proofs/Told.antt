-- Entries of the cluster of number 0 that are what their texts say.
use Rattle.std.proofs.Common.{◌≡◌, ℕ, List, [], ◌∷◌, ◌++◌, refl, subst, sym}
use Rattle.std.specs.Prelude.{IfOk, Option, None, Result, Ok, Err}
use Rattle.geo_base.specs.declared.entry.Content.TheVariants as content
use Rattle.geo_base.specs.declared.entry.Entry.{Entry}
use Rattle.geo_base.specs.declared.entry.Targets.TheVariants as targets
use Rattle.geo_base.specs.declared.marker.Marker.TheVariants as marker
use Rattle.tiered_storage.specs.Readable.{AreTellable, IsTellable}
use Rattle.message_meta.specs.Known.{IsRest}
use Rattle.frame_values.specs.Values.{no_marker}
use Rattle.topic_store.specs.Store.{Store}

abbrev pub message_of : List ℕ → ℕ → Option (List ℕ) → List ℕ → Entry
message_of producer seq key payload = record {
  ident = record { origin = 0; producer = producer; seq = seq };
  content = content.Data;
  to = targets.All;
  meta = record { publish_time = 0; key = key; names = []; rest = [] };
  payload = payload;
}

abbrev pub update_of : List ℕ → ℕ → List ℕ → Entry
update_of producer seq sub = record {
  ident = record { origin = 0; producer = producer; seq = seq };
  content = content.Marked (marker.Update sub []);
  to = targets.All;
  meta = record { publish_time = 0; key = None; names = []; rest = [] };
  payload = [];
}

no_rest : IsRest []
no_rest = record { fields = []; is = refl; writable = tt; unknown = tt }

pub message_tellable : (names : List (List ℕ)) (producer : List ℕ) (seq : ℕ) (key : Option (List ℕ)) (payload : List ℕ) → IsTellable names 0 (message_of producer seq key payload)
message_tellable names producer seq key payload = record { rest = no_rest; told = record { to = refl; from = refl; content = no_marker refl refl refl } }

pub update_tellable : (names : List (List ℕ)) (producer : List ℕ) (seq : ℕ) (sub : List ℕ) → IsTellable names 0 (update_of producer seq sub)
update_tellable names producer seq sub = record { rest = no_rest; told = record { to = refl; from = refl; content = refl } }

-- entries one by one

pub none_told : (xs : List Entry) → xs ≡ [] → (names : List (List ℕ)) → AreTellable names 0 xs
none_told xs none names = subst (λ (ys : List Entry). AreTellable names 0 ys) (sym none) tt

behind : (names : List (List ℕ)) (xs : List Entry) (e : Entry) → AreTellable names 0 xs → IsTellable names 0 e → AreTellable names 0 (xs ++ e ∷ [])
behind names [] e h k = (k, tt)
behind names (x ∷ xs) e h k = (h.0, behind names xs e h.1 k)

pub told_push : (xs new : List Entry) (e : Entry) → new ≡ xs ++ e ∷ [] → ((names : List (List ℕ)) → AreTellable names 0 xs) → ((names : List (List ℕ)) → IsTellable names 0 e) → (names : List (List ℕ)) → AreTellable names 0 new
told_push xs new e is h k names = subst (λ (ys : List Entry). AreTellable names 0 ys) (sym is) (behind names xs e (h names) (k names))

-- those of a store that is made of them
pub store_told : {E : Type 0} (r : Result Store E) (t : Store) → ((names : List (List ℕ)) → AreTellable names 0 t.entries) → IfOk r (λ l. l ≡ t)
    → IfOk r (λ l. (names : List (List ℕ)) → AreTellable names 0 l.entries)
store_told (Ok l) t told is = λ names. subst (λ (u : Store). AreTellable names 0 u.entries) (sym is) (told names)
store_told (Err e) t told is = tt
