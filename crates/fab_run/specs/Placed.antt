-- What a run answers and writes (our own): a piece of annealing its design one move at a time. The older placements on which workers judge
-- do not occur here. Batch and workers occur only where their limits are checked; the batch also occurs where redone moves are counted.
use Rattle.std.specs.Prelude.{ℕ, ◌≡◌, ◌⊎◌, Bool, true, List, [], Option}
use Rattle.std.specs.Io.KnownBytes.{Appends}
use Rattle.fab_text.specs.Lines.{lines}
use Rattle.fab_text.specs.Failures.{grown}
use Rattle.fab_arch.specs.declared.array.Site.{Site}
use Rattle.fab_net.specs.Netlist.{Netlist}
use Rattle.fab_site.specs.Start.{start_sites}
use Rattle.fab_arch.specs.Grid.{GridShape}
use Rattle.fab_file.specs.Place.{StandsFor}
use Rattle.fab_file.specs.declared.fault.PlaceFault.TheVariants.{Write}
use Rattle.fab_file.specs.Written.{IsCut, place_text}
use Rattle.fab_move.specs.Stream.{stream_moves, stream_starts}
use Rattle.fab_commit.specs.Run.Points.{standing_at}
use Rattle.fab_commit.specs.Serial.{Run, Standing, at_start}
use Rattle.fab_commit.specs.Run.Commits.{run}
use Rattle.fab_run.specs.declared.fault.RunFault.{RunFault}
use Rattle.fab_run.specs.declared.fault.RunFault.TheVariants.{Place, Report, NoMemory}
use Rattle.fab_run.specs.declared.inputs.Ending.{Ending}
use Rattle.fab_run.specs.declared.inputs.Ending.TheVariants.{Finished, Stopped}
use Rattle.fab_run.specs.declared.inputs.Options.{Options}
use Rattle.fab_run.specs.Ends.{Answer, IsReportCutOf, IsReportOf, IsToldPiece, Piece}
use Rattle.fab_run.specs.Piece.{cost_at, head_text}
use Rattle.fab_run.specs.Going.{Going, IsGoing}
use Rattle.fab_run.specs.Setting.{IsSetting, Setting, Texts}

-- the run of a seed
abbrev pub run_by : Setting → ℕ → Run
run_by s seed = run s.design s.grid s.fixed (stream_moves seed) s.plan

-- its standing before the first move
abbrev pub start_by : Setting → ℕ → Standing
start_by s seed = at_start (run_by s seed) (start_sites s.design s.grid s.fixed s.begun (stream_starts seed))

-- the first two lines of its report
unfoldable pub head_by : Setting → ℕ → List ℕ
head_by s seed = head_text s.design s.grid (cost_at (run_by s seed) (start_by s seed))

-- the piece from the start placement that the seed's words draw
abbrev pub piece_by : Setting → ℕ → Option ℕ → Piece
piece_by s seed stop = record { run = run_by s seed; start = start_by s seed; head = head_by s seed; stop = stop }

-- the texts and numbers of a run ask for this piece
abbrev pub AskFor : Texts → Options → Piece → Type 0
AskFor t o p = (s : Setting) × IsSetting t o s × (p ≡ piece_by s o.seed o.stop)

-- the piece that goes on from a point; its report does not repeat the first two lines
abbrev pub piece_from : Going → Option ℕ → Piece
piece_from s stop =
    record { run = run s.design s.grid s.point.fixed (stream_moves s.seed) s.point.schedule; start = standing_at s.point; head = []; stop = stop }

-- the texts, the checkpoint text and the numbers of a resumed run ask for this piece
abbrev pub AskToGoOn : Texts → List ℕ → ℕ → ℕ → Option ℕ → Piece → Type 0
AskToGoOn t point batch workers stop p = (s : Going) × IsGoing t point batch workers s × (p ≡ piece_from s stop)

-- the text of a placement of the design, with the names that the run shows
abbrev pub text_by : Texts → Netlist → GridShape → List Site → List ℕ
text_by t d g sites = place_text t.net_label t.arch_label d g sites

-- the text of a placement was written, and it reads back
pub record IsTextOut (t : Texts) (d : Netlist) (g : GridShape) (sites : List Site) (old new : Option (List ℕ)) : Type 0 where
  pub text : Appends old new (text_by t d g sites)
  pub back : StandsFor d g (lines (text_by t d g sites)) sites

-- what was written to the place text: that of the placement if the run is finished, nothing if it stopped
abbrev pub IsPlaceOut : Texts → Netlist → GridShape → List Site → Ending → Option (List ℕ) → Option (List ℕ) → Type 0
IsPlaceOut t d g sites Finished old new = IsTextOut t d g sites old new
IsPlaceOut t d g sites (Stopped q) old new = new ≡ old

-- a piece answers this, and its report and its place text were written
pub record IsMade (t : Texts) (p : Piece) (a : Answer) (report_old report_new place_old place_new : Option (List ℕ)) : Type 0 where
  pub told : IsToldPiece p a report_old report_new
  pub place : IsPlaceOut t p.run.problem.design p.run.problem.grid a.placement.sites a.ending place_old place_new

-- the requested piece answers this, and its report and its place text were written
abbrev pub IsPlaced : (Piece → Type 0) → Texts → Answer → Option (List ℕ) → Option (List ℕ) → Option (List ℕ) → Option (List ℕ) → Type 0
IsPlaced Asked t a report_old report_new place_old place_new = (p : Piece) × Asked p × IsMade t p a report_old report_new place_old place_new

-- memory ran out, or the writer of the report failed once more
abbrev pub IsReportFault : ℕ → ℕ → RunFault → Type 0
IsReportFault old new e = ((e ≡ NoMemory) × (new ≡ old)) ⊎ ((e ≡ Report) × (new ≡ grown old))

-- memory ran out, or a writer failed once more: that of the report, or that of the place text
abbrev pub IsDeviceFault : ℕ → ℕ → ℕ → ℕ → RunFault → Type 0
IsDeviceFault old new place_old place_new e =
    (IsReportFault old new e × (place_new ≡ place_old)) ⊎ ((e ≡ Place Write) × (new ≡ old) × (place_new ≡ grown place_old))

-- a placement of a finished run was not written whole: memory ran out before the first byte, or the writer failed once more
abbrev pub IsPlaceFault : Texts → Netlist → GridShape → List Site → Ending → Option (List ℕ) → Option (List ℕ) → ℕ → ℕ → RunFault → Type 0
IsPlaceFault t d g sites ending old new failed_old failed_new e =
    ((e ≡ NoMemory) × (new ≡ old) × (failed_new ≡ failed_old))
    ⊎ ((e ≡ Place Write) × (ending ≡ Finished) × IsCut (text_by t d g sites) old new × (failed_new ≡ grown failed_old))

-- what was written is a beginning of the report of the requested piece
abbrev pub IsReportBegun : (Piece → Type 0) → Option (List ℕ) → Option (List ℕ) → Type 0
IsReportBegun Asked old new = (p : Piece) × Asked p × IsReportOf p old new

-- what was written is a beginning of the report of such a piece, but not all of it
abbrev pub IsReportCut : (Piece → Type 0) → Option (List ℕ) → Option (List ℕ) → Type 0
IsReportCut Asked old new = (p : Piece) × Asked p × IsReportCutOf p old new

-- what was written is the whole report of a finished piece, and a beginning of its place text, but not all of it
pub record IsTextCut (t : Texts) (p : Piece) (report_old report_new place_old place_new : Option (List ℕ)) : Type 0 where
  pub answer : Answer
  pub told : IsToldPiece p answer report_old report_new
  pub finished : answer.ending ≡ Finished
  pub place : IsCut (text_by t p.run.problem.design p.run.problem.grid answer.placement.sites) place_old place_new

-- the writer of the place text was not ready, as its type allows: only what the report shows before the first move was written
pub record IsUnreadyFor (may_be_unready : Bool) (p : Piece) (report_old report_new place_old place_new : Option (List ℕ)) : Type 0 where
  pub may : may_be_unready ≡ true
  pub told : Appends report_old report_new p.head
  pub place : place_new ≡ place_old

-- the writer of the place text failed: it was not ready, or it took only a beginning
abbrev pub IsPlaceCut : Bool → (Piece → Type 0) → Texts → Option (List ℕ) → Option (List ℕ) → Option (List ℕ) → Option (List ℕ) → Type 0
IsPlaceCut may_be_unready Asked t report_old report_new place_old place_new =
    (p : Piece) × Asked p × (IsUnreadyFor may_be_unready p report_old report_new place_old place_new ⊎ IsTextCut t p report_old report_new place_old place_new)
