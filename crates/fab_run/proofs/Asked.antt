-- What the texts and numbers of a run mean is one thing, or one fault.
use Rattle.std.proofs.Common.{◌≡◌, ℕ, zero, suc, ◌<◌, ◌⊎◌, List, Option, Some, None, length, refl, sym, ap, subst, ◌∙◌, inl, inr, arith}
use Rattle.fab_text.specs.Lines.{lines}
use Rattle.fab_arch.specs.declared.array.Site.{Site}
use Rattle.fab_arch.specs.Grid.{GridShape, AreLimits, Holds, IsLeastSquare, square}
use Rattle.fab_net.specs.Netlist.{Netlist, logic_count, pad_count}
use Rattle.std.specs.Prelude.{Result, Ok, Err, IfOk, IfErr}
use Rattle.std.specs.Result.{result_unwrap_or}
use Rattle.fab_sched.specs.declared.fault.SchedFault.{SchedFault}
use Rattle.fab_sched.specs.Annealing.{Plan, fault_of}
use Rattle.fab_sched.specs.Roots.{AreMoves}
use Rattle.fab_run.specs.declared.inputs.Moves.TheVariants.{Inner}
use Rattle.fab_file.specs.declared.fault.PlaceFault.{PlaceFault}
use Rattle.fab_file.specs.declared.fault.PlaceFault.TheVariants as place_fault
use Rattle.fab_file.specs.PlaceFaults.{FaultIs}
use Rattle.fab_file.specs.Pinned.{pins_fault}
use Rattle.fab_run.specs.declared.fault.RunFault.{RunFault}
use Rattle.fab_run.specs.declared.fault.RunFault.TheVariants as run_fault
use Rattle.fab_run.specs.declared.inputs.Options.{Options}
use Rattle.fab_run.specs.RunFaults.{of_pads}
use Rattle.fab_run.specs.Check.{FitsOn, IsDesignFault, IsTextFault}
use Rattle.fab_run.specs.Setting.{AreStageMoves, HasArray, HasPins, IsAskedPlan, IsSized, Texts}
use Rattle.fab_run.specs.RunChecks.{IsLocationFault, IsOptionFault, IsRunFault}

-- the least square array

pub least_ratio : (g : GridShape) (l p io_rat : ℕ) → IsLeastSquare g l p io_rat → g.io_rat ≡ io_rat
least_ratio g l p io_rat s = ap (λ h. h.io_rat) s.is_square

pub least_fits : (d : Netlist) (g : GridShape) (io_rat : ℕ) → IsLeastSquare g (logic_count d) (pad_count d) io_rat → FitsOn d g
least_fits d g io_rat s =
    let same : g.nx ≡ g.ny = sym (ap (λ h. h.ny) s.is_square) in
    let ratio = sym (least_ratio g (logic_count d) (pad_count d) io_rat s) in
    record { limits = (subst (λ n. AreLimits g.nx n g.io_rat) same (subst (λ n. AreLimits g.nx g.nx n) ratio s.limits)); holds = s.enough }

pub least_sized : (d : Netlist) (g : GridShape) (io_rat : ℕ) → IsLeastSquare g (logic_count d) (pad_count d) io_rat → IsSized None d g
least_sized d g io_rat s = subst (λ n. IsLeastSquare g (logic_count d) (pad_count d) n) (sym (least_ratio g (logic_count d) (pad_count d) io_rat s)) s

order : (a b : ℕ) → (a < b) ⊎ ((a ≡ b) ⊎ (b < a))
order zero zero = inr (inl refl)
order zero (suc b) = inl (omega arith)
order (suc a) zero = inr (inr (omega arith))
order (suc a) (suc b) = elim (order a b) [ inl l ↦ inl (omega (arith, l)) | inr r ↦ elim r [ inl e ↦ inr (inl (ap suc e)) | inr g ↦ inr (inr (omega (arith, g))) ] ]

not_less : (g h : GridShape) (l p io_rat : ℕ) → IsLeastSquare g l p io_rat → IsLeastSquare h l p io_rat → h.nx < g.nx → ⊥
not_less g h l p io_rat s t less = s.least h.nx (t.limits.columns.0) less (subst (λ q. Holds q l p) t.is_square t.enough)

pub least_one : (g h : GridShape) (l p io_rat : ℕ) → IsLeastSquare g l p io_rat → IsLeastSquare h l p io_rat → g ≡ h
least_one g h l p io_rat s t =
    let same : g.nx ≡ h.nx =
    elim (order g.nx h.nx) [
      | inl less ↦ absurd (not_less h g l p io_rat t s less)
      | inr r ↦ elim r [ inl e ↦ e | inr more ↦ absurd (not_less g h l p io_rat s t more) ]
    ] in
    s.is_square ∙ ap (λ n. square n io_rat) same ∙ sym t.is_square

-- faults, each after the checks that pass

pub design_run : (t : Texts) (o : Options) (e : RunFault) → IsDesignFault t.arch t.net e → IsRunFault t o e
design_run t o (run_fault.Arch e) h = h
design_run t o (run_fault.Net e) h = h
design_run t o (run_fault.Pads e) h = absurd h
design_run t o (run_fault.Place e) h = absurd h
design_run t o (run_fault.Point e) h = absurd h
design_run t o (run_fault.Size e) h = absurd h
design_run t o (run_fault.Schedule e) h = absurd h
design_run t o run_fault.BatchOutOfRange h = absurd h
design_run t o run_fault.WorkersOutOfRange h = absurd h
design_run t o run_fault.Report h = absurd h
design_run t o run_fault.NoMemory h = tt

pub location_run : (t : Texts) (o : Options) (d : Netlist) (g : GridShape) (e : RunFault) → HasArray t o d g → IsLocationFault t.pads d g e → IsRunFault t o e
location_run t o d g (run_fault.Arch e) a h = absurd h
location_run t o d g (run_fault.Net e) a h = absurd h
location_run t o d g (run_fault.Pads e) a h = (d, g, a, h)
location_run t o d g (run_fault.Place e) a h = absurd h
location_run t o d g (run_fault.Point e) a h = absurd h
location_run t o d g (run_fault.Size e) a h = absurd h
location_run t o d g (run_fault.Schedule e) a h = absurd h
location_run t o d g run_fault.BatchOutOfRange a h = absurd h
location_run t o d g run_fault.WorkersOutOfRange a h = absurd h
location_run t o d g run_fault.Report a h = absurd h
location_run t o d g run_fault.NoMemory a h = tt

pub location_text : (text : Option (List ℕ)) (d : Netlist) (g : GridShape) (e : RunFault) → IsLocationFault text d g e → IsTextFault e
location_text text d g (run_fault.Arch e) h = tt
location_text text d g (run_fault.Net e) h = tt
location_text text d g (run_fault.Pads e) h = tt
location_text text d g (run_fault.Place e) h = absurd h
location_text text d g (run_fault.Point e) h = absurd h
location_text text d g (run_fault.Size e) h = tt
location_text text d g (run_fault.Schedule e) h = tt
location_text text d g run_fault.BatchOutOfRange h = tt
location_text text d g run_fault.WorkersOutOfRange h = tt
location_text text d g run_fault.Report h = absurd h
location_text text d g run_fault.NoMemory h = tt

pub of_pads_is : (text : List ℕ) (d : Netlist) (g : GridShape) (e : PlaceFault) → FaultIs e (pins_fault d g (lines text)) → IsLocationFault (Some text) d g (of_pads e)
of_pads_is text d g place_fault.BadHeader h = h
of_pads_is text d g place_fault.WrongSize h = h
of_pads_is text d g (place_fault.UnknownBlock n) h = h
of_pads_is text d g (place_fault.Repeated n) h = h
of_pads_is text d g (place_fault.NoSuchSite n) h = h
of_pads_is text d g (place_fault.WrongKind n) h = h
of_pads_is text d g (place_fault.Taken n) h = h
of_pads_is text d g (place_fault.Missing n) h = h
of_pads_is text d g (place_fault.NotAPad n) h = h
of_pads_is text d g (place_fault.BadLine n) h = h
of_pads_is text d g place_fault.BadLabel h = h
of_pads_is text d g place_fault.Write h = h
of_pads_is text d g place_fault.NoMemory h = tt

pub number_run : (t : Texts) (o : Options) (d : Netlist) (g : GridShape) (fixed begun : List (Option Site)) (e : RunFault) → HasPins t o d g fixed begun → IsOptionFault t o (length d.kinds) e → IsRunFault t o e
number_run t o d g fixed begun (run_fault.Arch e) p h = absurd h
number_run t o d g fixed begun (run_fault.Net e) p h = absurd h
number_run t o d g fixed begun (run_fault.Pads e) p h = absurd h
number_run t o d g fixed begun (run_fault.Place place_fault.BadHeader) p h = absurd h
number_run t o d g fixed begun (run_fault.Place place_fault.WrongSize) p h = absurd h
number_run t o d g fixed begun (run_fault.Place (place_fault.UnknownBlock n)) p h = absurd h
number_run t o d g fixed begun (run_fault.Place (place_fault.Repeated n)) p h = absurd h
number_run t o d g fixed begun (run_fault.Place (place_fault.NoSuchSite n)) p h = absurd h
number_run t o d g fixed begun (run_fault.Place (place_fault.WrongKind n)) p h = absurd h
number_run t o d g fixed begun (run_fault.Place (place_fault.Taken n)) p h = absurd h
number_run t o d g fixed begun (run_fault.Place (place_fault.Missing n)) p h = absurd h
number_run t o d g fixed begun (run_fault.Place (place_fault.NotAPad n)) p h = absurd h
number_run t o d g fixed begun (run_fault.Place (place_fault.BadLine n)) p h = absurd h
number_run t o d g fixed begun (run_fault.Place place_fault.BadLabel) p h = (d, g, fixed, begun, p, h)
number_run t o d g fixed begun (run_fault.Place place_fault.Write) p h = absurd h
number_run t o d g fixed begun (run_fault.Place place_fault.NoMemory) p h = absurd h
number_run t o d g fixed begun (run_fault.Point e) p h = absurd h
number_run t o d g fixed begun (run_fault.Size e) p h = absurd h
number_run t o d g fixed begun (run_fault.Schedule e) p h = (d, g, fixed, begun, p, h)
number_run t o d g fixed begun run_fault.BatchOutOfRange p h = (d, g, fixed, begun, p, h)
number_run t o d g fixed begun run_fault.WorkersOutOfRange p h = (d, g, fixed, begun, p, h)
number_run t o d g fixed begun run_fault.Report p h = absurd h
number_run t o d g fixed begun run_fault.NoMemory p h = absurd h

pub number_text : (t : Texts) (o : Options) (blocks : ℕ) (e : RunFault) → IsOptionFault t o blocks e → IsTextFault e
number_text t o blocks (run_fault.Arch e) h = tt
number_text t o blocks (run_fault.Net e) h = tt
number_text t o blocks (run_fault.Pads e) h = tt
number_text t o blocks (run_fault.Place place_fault.BadHeader) h = tt
number_text t o blocks (run_fault.Place place_fault.WrongSize) h = tt
number_text t o blocks (run_fault.Place (place_fault.UnknownBlock n)) h = tt
number_text t o blocks (run_fault.Place (place_fault.Repeated n)) h = tt
number_text t o blocks (run_fault.Place (place_fault.NoSuchSite n)) h = tt
number_text t o blocks (run_fault.Place (place_fault.WrongKind n)) h = tt
number_text t o blocks (run_fault.Place (place_fault.Taken n)) h = tt
number_text t o blocks (run_fault.Place (place_fault.Missing n)) h = tt
number_text t o blocks (run_fault.Place (place_fault.NotAPad n)) h = tt
number_text t o blocks (run_fault.Place (place_fault.BadLine n)) h = tt
number_text t o blocks (run_fault.Place place_fault.BadLabel) h = tt
number_text t o blocks (run_fault.Place place_fault.Write) h = absurd h
number_text t o blocks (run_fault.Place place_fault.NoMemory) h = tt
number_text t o blocks (run_fault.Point e) h = absurd h
number_text t o blocks (run_fault.Size e) h = tt
number_text t o blocks (run_fault.Schedule e) h = tt
number_text t o blocks run_fault.BatchOutOfRange h = tt
number_text t o blocks run_fault.WorkersOutOfRange h = tt
number_text t o blocks run_fault.Report h = absurd h
number_text t o blocks run_fault.NoMemory h = tt

-- the schedule that is asked for

pub asked_by : (inner blocks n : ℕ) (r : Result ℕ SchedFault) → IfOk r (AreMoves inner blocks) → ((m : ℕ) → AreMoves inner blocks m → r ≡ Ok m) → n ≡ result_unwrap_or r 0 → AreStageMoves (Inner inner) blocks n
asked_by inner blocks n (Ok m) f o e = inl (subst (AreMoves inner blocks) (sym e) f)
asked_by inner blocks n (Err x) f o e = inr ((λ m k. (let q = o m k in absurd cc)), e)

pub fault_asked : {X : Type 0} (o : Options) (blocks : ℕ) (p : Plan) (r : Result X SchedFault) → IsAskedPlan o blocks p → IfErr r (λ e. fault_of p ≡ Some e) → IfErr r (λ e. (q : Plan) × IsAskedPlan o blocks q × (fault_of q ≡ Some e))
fault_asked o blocks p (Ok x) a h = tt
fault_asked o blocks p (Err e) a h = (p, a, h)
