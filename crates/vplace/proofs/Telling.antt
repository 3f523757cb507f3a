-- What is said of devices after calls that said nothing, and where it was put in vain.
use Rattle.std.proofs.Common.{ℕ, ◌≡◌, ◌∙◌, ap, subst, ◌⊎◌, inl, inr, List, Option, Some, None, option_map, Vec, Global}
use Rattle.std.specs.Prelude.{MatchOption, Result, Ok, Err, IfErr}
use Rattle.fab_run.specs.declared.inputs.Ending.{Ending}
use Rattle.fab_run.specs.declared.inputs.Ending.TheVariants.{Finished, Stopped}
use Rattle.fab_run.specs.declared.fault.RunFault.{RunFault}
use Rattle.fab_run.specs.declared.fault.RunFault.TheVariants.{NoMemory as RunNoMemory}
use Rattle.fab_run.specs.Ends.{Answer}
use Rattle.fab_run.specs.Setting.{Texts}
use Rattle.vplace.specs.declared.forecast.Forecast.{Forecast}
use Rattle.vplace.specs.declared.messages.OutRole.{OutRole}
use Rattle.vplace.specs.declared.messages.OutRole.TheVariants.{Place, Point}
use Rattle.vplace.specs.declared.status.Status.{Status}
use Rattle.vplace.specs.declared.status.Status.TheVariants.{NoMemory, Device}
use Rattle.vplace.specs.declared.messages.Role.{Role}
use Rattle.vplace.specs.Files.{Held, IsShut, Shut}
use Rattle.vplace.specs.Leaving.{IsCheckpoint, IsPutInVain, IsShutFor, IsTriedInVain, name_for, plan_for, role_by, save_or_out}
use Rattle.vplace.specs.Said.{IsToldRefusal, IsUnread, unwritable_line}
use Rattle.vplace.specs.Status.{status_of}

pub tried_since : (IsOf : Forecast → Type 0) (out also : List ℕ) (save other : Option (List ℕ)) (shut : Option Shut) (Said Also : List ℕ → Type 0) → out ≡ also → save ≡ other → ((line : List ℕ) → Said line → Also line)
    → IsTriedInVain IsOf out save shut Said → IsTriedInVain IsOf also other shut Also
tried_since IsOf out also save other shut Said Also is saves since h =
    let told : IsTriedInVain IsOf out save shut Also = (h.0, h.1, h.2, h.3, since _ h.4) in
    subst (λ x. IsTriedInVain IsOf also x shut Also) saves (subst (λ x. IsTriedInVain IsOf x save shut Also) is told)

-- a name that was tried by what is kept is tried by its forecast
pub tried_told : {A Y : Type 0} (IsOne : Y → Type 0) (IsOf : Y → Forecast → Type 0) (Reported : Type 0) (f : Forecast) (out : List ℕ) (save : Option (List ℕ)) (shut : Option Shut) (Said : List ℕ → Type 0) (r : Result A Status)
    → ((y : Y) → IsOne y → IsOf y f)
    → IfErr r (λ ended. ended ≡ Device → (y : Y) × IsOne y × (Reported ⊎ ((role : OutRole) × IsShutFor (plan_for out save f shut) role × Said (unwritable_line role))))
    → IfErr r (λ ended. ended ≡ Device → (y : Y) × IsOne y × (Reported ⊎ IsTriedInVain (IsOf y) out save shut Said))
tried_told IsOne IsOf Reported f out save shut Said (Ok a) of h = tt
tried_told IsOne IsOf Reported f out save shut Said (Err s) of h =
    λ q. let k = h q in (k.0, k.1, elim k.2 [ inl told ↦ inl told | inr name ↦ inr (f, of k.0 k.1, name.0, name.1, name.2) ])

pub refusal_since : (P : RunFault → Type 0) (net : List ℕ) (ended : Status) (Said Also : List ℕ → Type 0) → ((line : List ℕ) → Said line → Also line) → IsToldRefusal P net ended Said → IsToldRefusal P net ended Also
refusal_since P net ended Said Also since h = (h.0, h.1, h.2, since _ h.3)

pub unread_since : (held : Option Held) (role : Role) (name : List ℕ) (ended : Status) (Said Also : List ℕ → Type 0) → ((line : List ℕ) → Said line → Also line) → IsUnread held role name ended Said → IsUnread held role name ended Also
unread_since held role name ended Said Also since (inl h) = inl (h.0, h.1, since _ h.2)
unread_since held role name ended Said Also since (inr h) = inr (h.0, since _ h.1)

ending_put : (t : Texts) (seed : ℕ) (out : List ℕ) (save : Option (List ℕ)) (shut : Option Shut) (Said : List ℕ → Type 0) (ending : Ending) (point : Option (Vec ℕ Global)) → IsCheckpoint t seed ending (option_map (λ v. v.items) point)
    → MatchOption point (IsShut shut out × Said (unwritable_line Place)) (λ _. IsShut shut (save_or_out out save) × Said (unwritable_line Point))
    → IsShut shut (name_for out save (role_by ending)) × Said (unwritable_line (role_by ending))
ending_put t seed out save shut Said Finished None left h = h
ending_put t seed out save shut Said Finished (Some v) left h = absurd cc
ending_put t seed out save shut Said (Stopped q) None left h = absurd left
ending_put t seed out save shut Said (Stopped q) (Some v) left h = h

-- the same where names are lent, and nothing was said before
lent_put : (out tried also other : List ℕ) (shut : Option Shut) (Said Also : List ℕ → Type 0) (point : Option (Vec ℕ Global)) → also ≡ out → other ≡ tried → ((line : List ℕ) → Said line → Also line)
    → MatchOption point (IsShut shut also × Said (unwritable_line Place)) (λ _. IsShut shut other × Said (unwritable_line Point))
    → MatchOption point (IsShut shut out × Also (unwritable_line Place)) (λ _. IsShut shut tried × Also (unwritable_line Point))
lent_put out tried also other shut Said Also None is tries since h = (subst (IsShut shut) is h.0, since _ h.1)
lent_put out tried also other shut Said Also (Some v) is tries since h = (subst (IsShut shut) tries h.0, since _ h.1)

-- what was left could not be put at its name
pub put_in_vain : (IsAnswer : Answer → List ℕ → Type 0) (t : Texts) (seed : ℕ) (out also other : List ℕ) (save : Option (List ℕ)) (shut : Option Shut) (Said Also : List ℕ → Type 0) (a : Answer) (place : List ℕ) (point : Option (Vec ℕ Global))
    → also ≡ out → other ≡ save_or_out out save → ((line : List ℕ) → Said line → Also line) → IsAnswer a place → IsCheckpoint t seed a.ending (option_map (λ v. v.items) point)
    → MatchOption point (IsShut shut also × Said (unwritable_line Place)) (λ _. IsShut shut other × Said (unwritable_line Point))
    → IsPutInVain IsAnswer out save shut Also
put_in_vain IsAnswer t seed out also other save shut Said Also a place point is tries since answered left h =
    let put = ending_put t seed out save shut Also a.ending point left (lent_put out (save_or_out out save) also other shut Said Also point is tries since h) in
    (a, place, answered, put.0, put.1)

-- a lack of memory is told as such
pub memory_told_as : (r : Status) (e : RunFault) → e ≡ RunNoMemory → (r ≡ status_of e) ⊎ (r ≡ NoMemory) → r ≡ NoMemory
memory_told_as r e none (inl q) = q ∙ ap status_of none
memory_told_as r e none (inr q) = q
