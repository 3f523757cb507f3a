-- Pieces of a run (our own): each goes on from where the one before stopped, and the last one ends the run.
use Rattle.std.specs.Prelude.{ℕ, ◌≡◌, List, [], ◌∷◌, ◌++◌, Option, None, drop}
use Rattle.fab_text.specs.Lines.{lines}
use Rattle.fab_net.specs.Netlist.{Netlist}
use Rattle.fab_commit.specs.Serial.{Run, Standing, accepted_among, from}
use Rattle.fab_commit.specs.declared.run.point.Point.{Point}
use Rattle.fab_run.specs.declared.inputs.Ending.{Ending}
use Rattle.fab_run.specs.declared.inputs.Ending.TheVariants.{Finished, Stopped}
use Rattle.fab_run.specs.declared.inputs.Options.{Options}
use Rattle.fab_run.specs.Check.{MeanDesign}
use Rattle.fab_run.specs.Ends.{EndsAfter, StopsAfter}
use Rattle.fab_run.specs.Piece.{IsOver, end_line, stage_costs, stage_lines}
use Rattle.fab_run.specs.Going.{Going, HasPoint}
use Rattle.fab_run.specs.Placed.{AskFor, AskToGoOn}
use Rattle.fab_run.specs.PointMeaning.{StandsForPoint}
use Rattle.fab_run.specs.SameAnswers.{Call, IsCalled}
use Rattle.fab_run.specs.Setting.{Texts}

-- pieces with these stops have these numbers of moves; the last one ends the run
abbrev pub IsChain : Run → Standing → List (Option ℕ) → List ℕ → Type 0
IsChain r x [] ns = ⊥
IsChain r x (stop ∷ stops) [] = ⊥
IsChain r x (stop ∷ []) (n ∷ []) = EndsAfter r x stop n
IsChain r x (stop ∷ []) (n ∷ m ∷ ns) = ⊥
IsChain r x (stop ∷ next ∷ stops) (n ∷ ns) = StopsAfter r x stop n × IsChain r (from r x n) (next ∷ stops) ns

-- where pieces of these numbers of moves lead
abbrev pub chain_end : Run → Standing → List ℕ → Standing
chain_end r x [] = x
chain_end r x (n ∷ ns) = chain_end r (from r x n) ns

-- the moves that they accept, joined
abbrev pub chain_accepted : Run → Standing → List ℕ → List ℕ
chain_accepted r x [] = []
chain_accepted r x (n ∷ ns) = accepted_among r x n ++ chain_accepted r (from r x n) ns

-- the lines that they report, joined: those of the stages that end in each, and the last line at the end
abbrev pub chain_lines : Run → Standing → List ℕ → List ℕ
chain_lines r x [] = []
chain_lines r x (n ∷ ns) = (stage_lines r x n ++ end_line r (from r x n)) ++ chain_lines r (from r x n) ns

-- the costs at the ends of these stages, joined
abbrev pub chain_costs : Run → Standing → List ℕ → List ℕ
chain_costs r x [] = []
chain_costs r x (n ∷ ns) = stage_costs r x n ++ chain_costs r (from r x n) ns

-- the unbroken run from here has, after n moves, what the pieces have
pub record IsUnbroken (r : Run) (x : Standing) (ns : List ℕ) (n : ℕ) : Type 0 where
  pub over : IsOver r x n
  pub end : chain_end r x ns ≡ from r x n
  pub accepted : chain_accepted r x ns ≡ accepted_among r x n
  pub lines : chain_lines r x ns ≡ stage_lines r x n ++ end_line r (from r x n)
  pub costs : chain_costs r x ns ≡ stage_costs r x n

-- pieces one after another are the unbroken run, wherever they stop
abbrev pub ChainsAreRuns : Type 0
ChainsAreRuns = (r : Run) (x : Standing) (stops : List (Option ℕ)) (ns : List ℕ) → IsChain r x stops ns → (n : ℕ) × IsUnbroken r x ns n

-- the text stands for the point of a run with this seed, of the design that the texts mean
pub record IsTextOfPoint (t : Texts) (seed : ℕ) (q : Point) (text : List ℕ) : Type 0 where
  pub design : Netlist
  pub mean : MeanDesign t.arch t.net q.placement.grid.io_rat design
  pub stands : StandsForPoint q.placement.grid.io_rat design (lines text) seed q.placement.grid q

-- a later call of a chain: its texts and its numbers
pub record Later : Type 0 where
  pub texts : Texts
  pub point : List ℕ
  pub batch : ℕ
  pub workers : ℕ
  pub stop : Option ℕ
  pub call : Call

-- the call goes on with the same architecture and netlist, from a text of the point where the one before stopped; its place text shows its
-- own file names
pub record GoesOnFrom (t : Texts) (seed : ℕ) (q : Point) (l : Later) : Type 0 where
  pub arch : l.texts.arch ≡ t.arch
  pub net : l.texts.net ≡ t.net
  pub point : IsTextOfPoint t seed q l.point
  pub called : IsCalled (AskToGoOn l.texts l.point l.batch l.workers l.stop) l.texts l.call

-- the later call goes on from where a call ended
abbrev pub GoesOn : Texts → ℕ → Ending → Later → Type 0
GoesOn t seed Finished l = ⊥
GoesOn t seed (Stopped q) l = GoesOnFrom t seed q l

-- other calls follow this one, each from where the one before stopped, and the last one ends the run
abbrev pub AreCalls : Texts → ℕ → Call → List Later → Type 0
AreCalls t seed c [] = c.answer.ending ≡ Finished
AreCalls t seed c (l ∷ ls) = GoesOn t seed c.answer.ending l × AreCalls l.texts seed l.call ls

-- two calls as one: the accepted moves and the reports are joined, and so are the costs, without the first cost of the second call, which
-- is that at its start; ending, placement and place text are those of the second call
abbrev pub then : Call → Call → Call
then a b =
    record {
      answer = record {
        ending = b.answer.ending;
        placement = b.answer.placement;
        accepted = a.answer.accepted ++ b.answer.accepted;
        costs = a.answer.costs ++ drop 1 b.answer.costs;
      };
      report = a.report ++ b.report;
      place = b.place;
    }

-- all calls as one
abbrev pub joined : Call → List Later → Call
joined c [] = c
joined c (l ∷ ls) = then c (joined l.call ls)

-- the texts of the first call, with the names that the place text of the last call shows
abbrev pub with_names : Texts → Texts → Texts
with_names t u = record t { net_label = u.net_label; arch_label = u.arch_label }

-- the texts under the names of the last call
abbrev pub last_names : Texts → List Later → Texts
last_names t [] = t
last_names t (l ∷ ls) = last_names (with_names t l.texts) ls

-- the same numbers without a stop
abbrev pub unstopped : Options → Options
unstopped o = record o { stop = None }

-- calls one after another answer and write what one call without a stop does, whatever their stops, batches and workers
abbrev pub CallsAreRuns : Type 0
CallsAreRuns = (t : Texts) (o : Options) (c : Call) (ls : List Later) → IsCalled (AskFor t o) t c → AreCalls t o.seed c ls
    → IsCalled (AskFor (last_names t ls) (unstopped o)) (last_names t ls) (joined c ls)

-- calls that begin with one from a checkpoint text are, in the same way, one such call without a stop
abbrev pub ResumedCallsAreRuns : Type 0
ResumedCallsAreRuns =
    (t : Texts) (point : List ℕ) (batch workers : ℕ) (stop : Option ℕ) (s : Going) (c : Call) (ls : List Later) → HasPoint t point s → IsCalled (AskToGoOn t point batch workers stop) t c → AreCalls t s.seed c ls
    → IsCalled (AskToGoOn (last_names t ls) point batch workers None) (last_names t ls) (joined c ls)
