-- What a file is loaded as, exit by exit.
use Rattle.std.proofs.Common.{◌≡◌, ℕ, ◌+◌, Bool, true, false, List, length, take, Ok, Err, refl, sym, subst, ◌∙◌}
use Rattle.state_items.specs.declared.fault.Broken.{Broken}
use Rattle.state_items.specs.declared.fault.ItemFault.{ItemFault}
use Rattle.state_items.specs.declared.fault.ItemFault.TheVariants as item_fault
use Rattle.state_items.specs.Reading.{Fails, number_at}
use Rattle.state_items.specs.Telling.{TellsFault}
use Rattle.state_file.specs.declared.fault.StateFault.{StateFault}
use Rattle.state_file.specs.declared.fault.StateFault.TheVariants as fault
use Rattle.state_file.specs.Faults.{IsFaultIn, TellsRefusal}
use Rattle.state_file.specs.Loading.{IsLoaded, Loaded, bad, broken, is_known, no_size, no_version, unknown, whole}
use Rattle.state_file.specs.Reading.{IsBody, version_at}
use Rattle.state_file.specs.State.{SavedState}

told : (Has : Loaded → Type 0) (n : ℕ) (b : Broken) (f : StateFault) → IsFaultIn n (item_fault.Broken b) f → Has (Err (bad n b)) → TellsRefusal f Has
told Has n b f is h = subst (λ (g : StateFault). TellsRefusal g Has) (sym is) h

free : (Has : Loaded → Type 0) (n : ℕ) (f : StateFault) → IsFaultIn n item_fault.Memory f → TellsRefusal f Has
free Has n f is = subst (λ (g : StateFault). TellsRefusal g Has) (sym is) tt

pub has_no_version : (bytes : List ℕ) (e : ItemFault) (f : StateFault) → Fails e (version_at bytes) → IsFaultIn (length bytes) e f → TellsRefusal f (IsLoaded bytes)
has_no_version bytes item_fault.Memory f h is = free (IsLoaded bytes) (length bytes) f is
has_no_version bytes (item_fault.Broken b) f h is = told (IsLoaded bytes) (length bytes) b f is (no_version b h refl)

pub has_unknown : (bytes : List ℕ) (v : ℕ) (rest : List ℕ) (known : Bool) → version_at bytes ≡ Ok (v, rest) → known ≡ is_known v → known ≡ false → TellsRefusal (fault.Version v) (IsLoaded bytes)
has_unknown bytes v rest known h is not_so = unknown (v, rest) h (sym is ∙ not_so) refl

pub has_no_size : (bytes : List ℕ) (v : ℕ) (rest : List ℕ) (known : Bool) (e : ItemFault) (f : StateFault) → version_at bytes ≡ Ok (v, rest) → known ≡ is_known v → known ≡ true → Fails e (number_at rest) → IsFaultIn (length bytes) e f → TellsRefusal f (IsLoaded bytes)
has_no_size bytes v rest known item_fault.Memory f h is so n fi = free (IsLoaded bytes) (length bytes) f fi
has_no_size bytes v rest known (item_fault.Broken b) f h is so n fi = told (IsLoaded bytes) (length bytes) b f fi (no_size (v, rest) b h (sym is ∙ so) n refl)

pub is_broken : (bytes : List ℕ) (v : ℕ) (rest : List ℕ) (known : Bool) (n : ℕ) (behind body : List ℕ) (e : ItemFault) (f : StateFault) → version_at bytes ≡ Ok (v, rest) → known ≡ is_known v → known ≡ true → number_at rest ≡ Ok (n, behind) → body ≡ take n behind → TellsFault e (IsBody v n body) → IsFaultIn (20 + length body) e f → TellsRefusal f (IsLoaded bytes)
is_broken bytes v rest known n behind body item_fault.Memory f h is so m same b fi = free (IsLoaded bytes) (20 + length body) f fi
is_broken bytes v rest known n behind body (item_fault.Broken x) f h is so m same b fi =
    let b' : IsBody v n (take n behind) (Err x) = subst (λ (t : List ℕ). IsBody v n t (Err x)) same b in
    let fi' : IsFaultIn (20 + length (take n behind)) (item_fault.Broken x) f = subst (λ (t : List ℕ). IsFaultIn (20 + length t) (item_fault.Broken x) f) same fi in
    told (IsLoaded bytes) (20 + length (take n behind)) x f fi' (broken (v, rest) (n, behind) x h (sym is ∙ so) m b' refl)

pub is_whole : (bytes : List ℕ) (v : ℕ) (rest : List ℕ) (known : Bool) (n : ℕ) (behind body : List ℕ) (s : SavedState) → version_at bytes ≡ Ok (v, rest) → known ≡ is_known v → known ≡ true → number_at rest ≡ Ok (n, behind) → body ≡ take n behind → IsBody v n body (Ok s) → IsLoaded bytes (Ok (s, 20 + n))
is_whole bytes v rest known n behind body s h is so m same b =
    whole (v, rest) (n, behind) s h (sym is ∙ so) m (subst (λ (t : List ℕ). IsBody v n t (Ok s)) same b) refl
