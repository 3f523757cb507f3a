-- How checks and runs end.
use Rattle.std.proofs.Common.{ℕ, ◌≡◌, ◌∙◌, sym, ap, subst, ◌⊎◌, inl, inr, refl, List}
use Rattle.std.specs.Prelude.{Option, Some, Result, Ok, Err, IfErr, IfSome, IsErrAnd}
use Rattle.fab_text.specs.Lines.{lines}
use Rattle.fab_run.specs.declared.fault.RunFault.{RunFault}
use Rattle.fab_run.specs.declared.fault.RunFault.TheVariants as run_fault
use Rattle.fab_run.specs.declared.point_fault.PointFault.TheVariants as point_fault
use Rattle.vplace.specs.declared.status.Status.{Status}
use Rattle.vplace.specs.declared.status.Status.TheVariants as status
use Rattle.vplace.specs.declared.files.WriteFault.TheVariants.{Unwritable}
use Rattle.vplace.specs.declared.messages.OutRole.{OutRole}
use Rattle.vplace.specs.declared.out_file.Refusal.{Refusal}
use Rattle.vplace.specs.Said.{IsFaultTold, IsToldRefusal, no_memory_line, report_line, unwritable_line}
use Rattle.vplace.specs.Status.{IsRefused, status_of}
use Rattle.fab_file.specs.declared.fault.PlaceFault.TheVariants as place_fault
use Rattle.fab_text.specs.Failures.{grown}
use Rattle.fab_arch.specs.declared.fault.ArchFault.TheVariants as arch_fault
use Rattle.fab_net.specs.declared.fault.NetFault.TheVariants as net_fault
use Rattle.fab_run.specs.Check.{IsTextFault, report_failed_with}
use Rattle.fab_run.specs.FaultLines.{fault_line}
use Rattle.fab_run.specs.Going.{IsGoingFault}
use Rattle.fab_run.specs.RunChecks.{IsRefusal}
use Rattle.fab_run.specs.Setting.{Texts}
use Rattle.fab_run.proofs.PointNever.{point_text}

pub never_refused : (r : Status) (f : RunFault) → (f ≡ run_fault.NoMemory) ⊎ (f ≡ run_fault.Report) → (r ≡ status_of f) ⊎ (r ≡ status.NoMemory) → (r ≡ status.Done) ⊎ ((r ≡ status.NoMemory) ⊎ (r ≡ status.Device))
never_refused r f (inl a) (inl b) = inr (inl (b ∙ ap status_of a))
never_refused r f (inr a) (inl b) = inr (inr (b ∙ ap status_of a))
never_refused r f h (inr b) = inr (inl b)

device : IsRefused status.Device → ⊥
device (inl q) = absurd cc
device (inr q) = absurd cc

memory : IsRefused status.NoMemory → ⊥
memory (inl q) = absurd cc
memory (inr q) = absurd cc

-- a refused run is one whose fault is that of its inputs
pub refused_is : (e : RunFault) → IsRefused (status_of e) → IsRefusal e
refused_is (run_fault.Arch e) h = tt
refused_is (run_fault.Net e) h = tt
refused_is (run_fault.Pads e) h = tt
refused_is (run_fault.Place place_fault.BadHeader) h = tt
refused_is (run_fault.Place place_fault.WrongSize) h = tt
refused_is (run_fault.Place (place_fault.UnknownBlock n)) h = tt
refused_is (run_fault.Place (place_fault.Repeated n)) h = tt
refused_is (run_fault.Place (place_fault.NoSuchSite n)) h = tt
refused_is (run_fault.Place (place_fault.WrongKind n)) h = tt
refused_is (run_fault.Place (place_fault.Taken n)) h = tt
refused_is (run_fault.Place (place_fault.Missing n)) h = tt
refused_is (run_fault.Place (place_fault.NotAPad n)) h = tt
refused_is (run_fault.Place (place_fault.BadLine n)) h = tt
refused_is (run_fault.Place place_fault.BadLabel) h = tt
refused_is (run_fault.Place place_fault.Write) h = absurd (device h)
refused_is (run_fault.Place place_fault.NoMemory) h = tt
refused_is (run_fault.Point point_fault.BadVersion) h = tt
refused_is (run_fault.Point (point_fault.BadField n)) h = tt
refused_is (run_fault.Point (point_fault.OutOfRange f)) h = tt
refused_is (run_fault.Point (point_fault.Block x)) h = tt
refused_is (run_fault.Point point_fault.Write) h = absurd (device h)
refused_is (run_fault.Point point_fault.NoMemory) h = absurd (memory h)
refused_is (run_fault.Size e) h = tt
refused_is (run_fault.Schedule e) h = tt
refused_is run_fault.BatchOutOfRange h = tt
refused_is run_fault.WorkersOutOfRange h = tt
refused_is run_fault.Report h = absurd (device h)
refused_is run_fault.NoMemory h = absurd (memory h)

-- what was told of a fault: its status, or a lack of memory
pub refused_by : (r : Status) (e : RunFault) → (r ≡ status_of e) ⊎ (r ≡ status.NoMemory) → IsRefused r → IsRefusal e × (status_of e ≡ r)
refused_by r e (inl q) h = (refused_is e (subst IsRefused q h), sym q)
refused_by r e (inr q) h = absurd (memory (subst IsRefused q h))

no_refusal : (e : RunFault) → ¬ (IsRefusal e) → (status_of e ≡ status.NoMemory) ⊎ (status_of e ≡ status.Device)
no_refusal (run_fault.Arch e) h = absurd (h tt)
no_refusal (run_fault.Net e) h = absurd (h tt)
no_refusal (run_fault.Pads e) h = absurd (h tt)
no_refusal (run_fault.Place place_fault.BadHeader) h = absurd (h tt)
no_refusal (run_fault.Place place_fault.WrongSize) h = absurd (h tt)
no_refusal (run_fault.Place (place_fault.UnknownBlock n)) h = absurd (h tt)
no_refusal (run_fault.Place (place_fault.Repeated n)) h = absurd (h tt)
no_refusal (run_fault.Place (place_fault.NoSuchSite n)) h = absurd (h tt)
no_refusal (run_fault.Place (place_fault.WrongKind n)) h = absurd (h tt)
no_refusal (run_fault.Place (place_fault.Taken n)) h = absurd (h tt)
no_refusal (run_fault.Place (place_fault.Missing n)) h = absurd (h tt)
no_refusal (run_fault.Place (place_fault.NotAPad n)) h = absurd (h tt)
no_refusal (run_fault.Place (place_fault.BadLine n)) h = absurd (h tt)
no_refusal (run_fault.Place place_fault.BadLabel) h = absurd (h tt)
no_refusal (run_fault.Place place_fault.Write) h = inr refl
no_refusal (run_fault.Place place_fault.NoMemory) h = absurd (h tt)
no_refusal (run_fault.Point point_fault.BadVersion) h = absurd (h tt)
no_refusal (run_fault.Point (point_fault.BadField n)) h = absurd (h tt)
no_refusal (run_fault.Point (point_fault.OutOfRange f)) h = absurd (h tt)
no_refusal (run_fault.Point (point_fault.Block x)) h = absurd (h tt)
no_refusal (run_fault.Point point_fault.Write) h = inr refl
no_refusal (run_fault.Point point_fault.NoMemory) h = absurd (h tt)
no_refusal (run_fault.Size e) h = absurd (h tt)
no_refusal (run_fault.Schedule e) h = absurd (h tt)
no_refusal run_fault.BatchOutOfRange h = absurd (h tt)
no_refusal run_fault.WorkersOutOfRange h = absurd (h tt)
no_refusal run_fault.Report h = inr refl
no_refusal run_fault.NoMemory h = inl refl

pub never_refused_by : (r : Status) (e : RunFault) → ¬ (IsRefusal e) → (r ≡ status_of e) ⊎ (r ≡ status.NoMemory) → (r ≡ status.NoMemory) ⊎ (r ≡ status.Device)
never_refused_by r e h (inl q) = elim (no_refusal e h) [ inl a ↦ inl (q ∙ a) | inr a ↦ inr (q ∙ a) ]
never_refused_by r e h (inr q) = inl q

-- no fault of a text is that of a device
pub no_device : (e : RunFault) → IsTextFault e → status_of e ≡ status.Device → ⊥
no_device (run_fault.Arch arch_fault.NoIoRat) h q = absurd cc
no_device (run_fault.Arch (arch_fault.RepeatedIoRat n)) h q = absurd cc
no_device (run_fault.Arch (arch_fault.BadNumber n)) h q = absurd cc
no_device (run_fault.Arch (arch_fault.BadPinLine n)) h q = absurd cc
no_device (run_fault.Arch arch_fault.NoPins) h q = absurd cc
no_device (run_fault.Arch (arch_fault.TooLarge n)) h q = absurd cc
no_device (run_fault.Arch arch_fault.NoMemory) h q = absurd cc
no_device (run_fault.Net (net_fault.UnknownWord n)) h q = absurd cc
no_device (run_fault.Net (net_fault.NoName n)) h q = absurd cc
no_device (run_fault.Net (net_fault.PinlistWithoutBlock n)) h q = absurd cc
no_device (run_fault.Net (net_fault.MissingPinlist n)) h q = absurd cc
no_device (run_fault.Net (net_fault.PinCount n)) h q = absurd cc
no_device (run_fault.Net (net_fault.SubblockWithoutLogic n)) h q = absurd cc
no_device (run_fault.Net (net_fault.DuplicateBlock n)) h q = absurd cc
no_device (run_fault.Net (net_fault.NoDriver n)) h q = absurd cc
no_device (run_fault.Net (net_fault.TwoDrivers n)) h q = absurd cc
no_device (run_fault.Net (net_fault.TooLarge n)) h q = absurd cc
no_device (run_fault.Net net_fault.NoMemory) h q = absurd cc
no_device (run_fault.Pads place_fault.BadHeader) h q = absurd cc
no_device (run_fault.Pads place_fault.WrongSize) h q = absurd cc
no_device (run_fault.Pads (place_fault.UnknownBlock n)) h q = absurd cc
no_device (run_fault.Pads (place_fault.Repeated n)) h q = absurd cc
no_device (run_fault.Pads (place_fault.NoSuchSite n)) h q = absurd cc
no_device (run_fault.Pads (place_fault.WrongKind n)) h q = absurd cc
no_device (run_fault.Pads (place_fault.Taken n)) h q = absurd cc
no_device (run_fault.Pads (place_fault.Missing n)) h q = absurd cc
no_device (run_fault.Pads (place_fault.NotAPad n)) h q = absurd cc
no_device (run_fault.Pads (place_fault.BadLine n)) h q = absurd cc
no_device (run_fault.Pads place_fault.BadLabel) h q = absurd cc
no_device (run_fault.Pads place_fault.Write) h q = absurd cc
no_device (run_fault.Pads place_fault.NoMemory) h q = absurd cc
no_device (run_fault.Place place_fault.BadHeader) h q = absurd cc
no_device (run_fault.Place place_fault.WrongSize) h q = absurd cc
no_device (run_fault.Place (place_fault.UnknownBlock n)) h q = absurd cc
no_device (run_fault.Place (place_fault.Repeated n)) h q = absurd cc
no_device (run_fault.Place (place_fault.NoSuchSite n)) h q = absurd cc
no_device (run_fault.Place (place_fault.WrongKind n)) h q = absurd cc
no_device (run_fault.Place (place_fault.Taken n)) h q = absurd cc
no_device (run_fault.Place (place_fault.Missing n)) h q = absurd cc
no_device (run_fault.Place (place_fault.NotAPad n)) h q = absurd cc
no_device (run_fault.Place (place_fault.BadLine n)) h q = absurd cc
no_device (run_fault.Place place_fault.BadLabel) h q = absurd cc
no_device (run_fault.Place place_fault.Write) h q = h
no_device (run_fault.Place place_fault.NoMemory) h q = absurd cc
no_device (run_fault.Point point_fault.BadVersion) h q = absurd cc
no_device (run_fault.Point (point_fault.BadField n)) h q = absurd cc
no_device (run_fault.Point (point_fault.OutOfRange f)) h q = absurd cc
no_device (run_fault.Point (point_fault.Block x)) h q = absurd cc
no_device (run_fault.Point point_fault.Write) h q = absurd h
no_device (run_fault.Point point_fault.NoMemory) h q = absurd cc
no_device (run_fault.Size e) h q = absurd cc
no_device (run_fault.Schedule e) h q = absurd cc
no_device run_fault.BatchOutOfRange h q = absurd cc
no_device run_fault.WorkersOutOfRange h q = absurd cc
no_device run_fault.Report h q = h
no_device run_fault.NoMemory h q = absurd cc

-- in a check it is that of the report's writer, and its line is said; all checks had passed
pub device_of_check : (P : RunFault → Type 0) (r : Status) (e : RunFault) (net : List ℕ) (Said : List ℕ → Type 0) (old new : ℕ) → P e → IsTextFault e ⊎ (e ≡ run_fault.Report)
    → ((status_of e ≡ status.NoMemory → ⊥) × (r ≡ status_of e) × Said (fault_line e net)) ⊎ ((r ≡ status.NoMemory) × Said no_memory_line)
    → new ≡ report_failed_with e old → r ≡ status.Device → P run_fault.Report × (new ≡ grown old) × Said report_line
device_of_check P r e net Said old new h (inl text) (inl s) failed q = absurd (no_device e text (sym s.1 ∙ q))
device_of_check P r e net Said old new h (inr is) (inl s) failed q = (subst P is h, failed ∙ ap (λ f. report_failed_with f old) is, subst (λ x. Said (fault_line x net)) is s.2)
device_of_check P r e net Said old new h k (inr n) failed q = absurd (let no : status.NoMemory ≡ status.Device = sym n.0 ∙ q in cc)

-- what was written of a report, by whether its writer failed
pub cut_of_check : (e : RunFault) (Same Cut : Type 0) → (¬ (e ≡ run_fault.Report) → Same) → (e ≡ run_fault.Report → Cut) → Same ⊎ Cut
cut_of_check run_fault.Report Same Cut same cut = inr (cut refl)
cut_of_check (run_fault.Arch e) Same Cut same cut = inl (same (λ q. absurd cc))
cut_of_check (run_fault.Net e) Same Cut same cut = inl (same (λ q. absurd cc))
cut_of_check (run_fault.Pads e) Same Cut same cut = inl (same (λ q. absurd cc))
cut_of_check (run_fault.Place e) Same Cut same cut = inl (same (λ q. absurd cc))
cut_of_check (run_fault.Point e) Same Cut same cut = inl (same (λ q. absurd cc))
cut_of_check (run_fault.Size e) Same Cut same cut = inl (same (λ q. absurd cc))
cut_of_check (run_fault.Schedule e) Same Cut same cut = inl (same (λ q. absurd cc))
cut_of_check run_fault.BatchOutOfRange Same Cut same cut = inl (same (λ q. absurd cc))
cut_of_check run_fault.WorkersOutOfRange Same Cut same cut = inl (same (λ q. absurd cc))
cut_of_check run_fault.NoMemory Same Cut same cut = inl (same (λ q. absurd cc))

-- what is said of a fault of the inputs
pub memory_of : (r : Status) (e : RunFault) (net : List ℕ) (Said : List ℕ → Type 0)
    → ((status_of e ≡ status.NoMemory → ⊥) × (r ≡ status_of e) × Said (fault_line e net)) ⊎ ((r ≡ status.NoMemory) × Said no_memory_line)
    → r ≡ status.NoMemory → Said no_memory_line
memory_of r e net Said (inl s) q = absurd (s.0 (sym s.1 ∙ q))
memory_of r e net Said (inr n) q = n.1

pub refusal_of : (P : RunFault → Type 0) (r : Status) (e : RunFault) (net : List ℕ) (Said : List ℕ → Type 0) → P e
    → ((status_of e ≡ status.NoMemory → ⊥) × (r ≡ status_of e) × Said (fault_line e net)) ⊎ ((r ≡ status.NoMemory) × Said no_memory_line)
    → IsRefused r → IsToldRefusal P net r Said
refusal_of P r e net Said h (inl s) q = (e, h, sym s.1, s.2)
refusal_of P r e net Said h (inr n) q = absurd (memory (subst IsRefused n.0 q))

-- a fault of a text is never that of a device
pub no_device_of : {S : Type 0} (r : Status) (e : RunFault) → IsTextFault e → (r ≡ status_of e) ⊎ (r ≡ status.NoMemory) → r ≡ status.Device → S
no_device_of r e text (inl s) q = absurd (no_device e text (sym s ∙ q))
no_device_of r e text (inr n) q = absurd (let no : status.NoMemory ≡ status.Device = sym n ∙ q in cc)

-- what is told of a run that gave no answer, by its fault

pub never_refused_told : {A X : Type 0} (told : Result X RunFault) (r : Result A Status) → IfErr told (λ e. ¬ (IsRefusal e)) → IfErr r (λ ended. IsErrAnd told (λ fault. (ended ≡ status_of fault) ⊎ (ended ≡ status.NoMemory)))
    → IfErr r (λ ended. (ended ≡ status.NoMemory) ⊎ (ended ≡ status.Device))
never_refused_told told (Ok a) h k = tt
never_refused_told (Ok x) (Err s) h k = absurd k
never_refused_told (Err e) (Err s) h k = never_refused_by s e h k

-- a status 4 is that of a writer
pub device_is : (e : RunFault) → status_of e ≡ status.Device → (e ≡ run_fault.Report) ⊎ ((e ≡ run_fault.Place place_fault.Write) ⊎ (e ≡ run_fault.Point point_fault.Write))
device_is run_fault.Report q = inl refl
device_is (run_fault.Place place_fault.Write) q = inr (inl refl)
device_is (run_fault.Point point_fault.Write) q = inr (inr refl)
device_is (run_fault.Arch e) q = absurd (no_device (run_fault.Arch e) tt q)
device_is (run_fault.Net e) q = absurd (no_device (run_fault.Net e) tt q)
device_is (run_fault.Pads e) q = absurd (no_device (run_fault.Pads e) tt q)
device_is (run_fault.Size e) q = absurd (no_device (run_fault.Size e) tt q)
device_is (run_fault.Schedule e) q = absurd (no_device (run_fault.Schedule e) tt q)
device_is run_fault.BatchOutOfRange q = absurd (no_device run_fault.BatchOutOfRange tt q)
device_is run_fault.WorkersOutOfRange q = absurd (no_device run_fault.WorkersOutOfRange tt q)
device_is run_fault.NoMemory q = absurd (no_device run_fault.NoMemory tt q)
device_is (run_fault.Place place_fault.BadHeader) q = absurd cc
device_is (run_fault.Place place_fault.WrongSize) q = absurd cc
device_is (run_fault.Place (place_fault.UnknownBlock n)) q = absurd cc
device_is (run_fault.Place (place_fault.Repeated n)) q = absurd cc
device_is (run_fault.Place (place_fault.NoSuchSite n)) q = absurd cc
device_is (run_fault.Place (place_fault.WrongKind n)) q = absurd cc
device_is (run_fault.Place (place_fault.Taken n)) q = absurd cc
device_is (run_fault.Place (place_fault.Missing n)) q = absurd cc
device_is (run_fault.Place (place_fault.NotAPad n)) q = absurd cc
device_is (run_fault.Place (place_fault.BadLine n)) q = absurd cc
device_is (run_fault.Place place_fault.BadLabel) q = absurd cc
device_is (run_fault.Place place_fault.NoMemory) q = absurd cc
device_is (run_fault.Point point_fault.BadVersion) q = absurd cc
device_is (run_fault.Point (point_fault.BadField n)) q = absurd cc
device_is (run_fault.Point (point_fault.OutOfRange x)) q = absurd cc
device_is (run_fault.Point (point_fault.Block x)) q = absurd cc
device_is (run_fault.Point point_fault.NoMemory) q = absurd cc

-- what is said of a run that gave no answer

pub refused_told : {A X : Type 0} (P : RunFault → Type 0) (refusal : Option Refusal) (net : List ℕ) (Said : List ℕ → Type 0) (told : Result X RunFault) (r : Result A Status)
    → IfErr told P → IfErr r (λ ended. IsErrAnd told (λ fault. IsFaultTold fault refusal net ended Said))
    → IfErr r (λ ended. IsRefused ended → IsToldRefusal P net ended Said)
refused_told P refusal net Said told (Ok a) h k = tt
refused_told P refusal net Said (Ok x) (Err s) h k = absurd k
refused_told P refusal net Said (Err e) (Err s) h k =
    λ refused. elim k [
      | inl none ↦ absurd (memory (subst IsRefused none.0 refused))
      | inr (inl writer) ↦ absurd (device (subst IsRefused writer.1 refused))
      | inr (inr other) ↦ (e, h, sym other.2, other.3)
    ]

pub memory_told : {A X : Type 0} (refusal : Option Refusal) (net : List ℕ) (Said : List ℕ → Type 0) (told : Result X RunFault) (r : Result A Status)
    → IfErr r (λ ended. IsErrAnd told (λ fault. IsFaultTold fault refusal net ended Said))
    → IfErr r (λ ended. ended ≡ status.NoMemory → Said no_memory_line)
memory_told refusal net Said told (Ok a) k = tt
memory_told refusal net Said (Ok x) (Err s) k = absurd k
memory_told refusal net Said (Err e) (Err s) k =
    λ q. elim k [
      | inl none ↦ none.1
      | inr (inl writer) ↦ absurd (let no : status.Device ≡ status.NoMemory = sym writer.1 ∙ q in cc)
      | inr (inr other) ↦ absurd (other.1 (sym other.2 ∙ q))
    ]

-- a device failed: the report's writer, or a name that was tried; all checks had passed
pub device_told : {A X Y : Type 0} (IsOne : Y → Type 0) (P : RunFault → Type 0) (refusal : Option Refusal) (net : List ℕ) (Said : List ℕ → Type 0) (Shut : OutRole → Type 0) (old new : ℕ) (told : Result X RunFault) (r : Result A Status)
    → (P run_fault.Report → (y : Y) × IsOne y) → (P (run_fault.Place place_fault.Write) → (y : Y) × IsOne y) → (P (run_fault.Point point_fault.Write) → ⊥)
    → IfErr told P → IfErr told (λ e. new ≡ report_failed_with e old) → IfErr r (λ ended. IsErrAnd told (λ fault. IsFaultTold fault refusal net ended Said))
    → IfSome refusal (λ x. x.fault ≡ Unwritable → Shut x.role)
    → IfErr r (λ ended. ended ≡ status.Device → (y : Y) × IsOne y × (((new ≡ grown old) × Said report_line) ⊎ ((role : OutRole) × Shut role × Said (unwritable_line role))))
device_told IsOne P refusal net Said Shut old new told (Ok a) report place never h f k shut = tt
device_told IsOne P refusal net Said Shut old new (Ok x) (Err s) report place never h f k shut = absurd k
device_told IsOne P refusal net Said Shut old new (Err e) (Err s) report place never h f k shut =
    λ q. elim k [
      | inl none ↦ absurd (let no : status.NoMemory ≡ status.Device = sym none.0 ∙ q in cc)
      | inr (inl writer) ↦
          let x = writer.2 in
          let is_shut : Shut x.role = (subst (λ y. IfSome y (λ r. r.fault ≡ Unwritable → Shut r.role)) writer.3 shut) writer.4 in
          let one = place (subst P writer.0 h) in
          (one.0, one.1, inr (x.role, is_shut, writer.5))
      | inr (inr other) ↦
          elim (device_is e (sym other.2 ∙ q)) [
            | inl is ↦
                let one = report (subst P is h) in
                (one.0, one.1, inl (f ∙ ap (λ x. report_failed_with x old) is, subst (λ x. Said (fault_line x net)) is other.3))
            | inr (inl is) ↦ absurd (other.0 is)
            | inr (inr is) ↦ absurd (never (subst P is h))
          ]
    ]

-- no checkpoint text has the fault of a writer
pub no_point_write : (t : Texts) (point : List ℕ) (batch workers : ℕ) → IsGoingFault t point batch workers (run_fault.Point point_fault.Write) → ⊥
no_point_write t point batch workers h = point_text h.0 h.1 (lines point) point_fault.Write h.3
