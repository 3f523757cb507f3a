-- The fault of a placement text is not that of a writer.
use Rattle.std.proofs.Common.{◌≡◌, ℕ, Bool, true, false, List, [], ◌∷◌, ◌++◌, Option, Some, None, drop, refl, sym, ap, ◌∙◌}
use Rattle.std.proofs.lemmas.Bool.{false≢true}
use Rattle.fab_text.specs.Lines.{TextLine}
use Rattle.fab_text.specs.FirstFault.{or_else, unless, fault_behind}
use Rattle.fab_arch.specs.declared.array.Site.{Site}
use Rattle.fab_arch.specs.declared.array.SiteKind.{SiteKind}
use Rattle.fab_arch.specs.Grid.{GridShape, kind_at}
use Rattle.fab_net.specs.Netlist.{Netlist}
use Rattle.fab_file.specs.declared.fault.PlaceFault.{PlaceFault}
use Rattle.fab_file.specs.declared.fault.PlaceFault.TheVariants as fault
use Rattle.fab_file.specs.Place.{place_size_of, site_in, block_in}
use Rattle.fab_file.specs.PlaceFaults.{size_fault, size_fault_by, place_header_fault, kind_fault, block_fault_by, block_fault, missing_fault, text_fault, first_fault, FaultIs}
use Rattle.fab_run.specs.RunFaults.{of_place}
use Rattle.fab_run.specs.Check.{IsTextFault}

abbrev is_write : Option PlaceFault → Bool
is_write (Some fault.Write) = true
is_write f = false

or_else_reads : (a b : Option PlaceFault) → is_write a ≡ false → is_write b ≡ false → is_write (or_else a b) ≡ false
or_else_reads None b h k = k
or_else_reads (Some e) b h k = h

unless_reads : (passed : Bool) (e : PlaceFault) → is_write (Some e) ≡ false → is_write (unless passed e) ≡ false
unless_reads true e h = refl
unless_reads false e h = h

size_by_reads : (g : GridShape) (size : Option (ℕ × ℕ)) → is_write (size_fault_by g size) ≡ false
size_by_reads g None = refl
size_by_reads g (Some size) = unless_reads _ fault.WrongSize refl

kind_reads : (d : Netlist) (n block : ℕ) (kind : Option SiteKind) → is_write (kind_fault d n block kind) ≡ false
kind_reads d n block None = refl
kind_reads d n block (Some kind) = unless_reads _ (fault.WrongKind n) refl

block_reads : (d : Netlist) (g : GridShape) (before : List TextLine) (n : ℕ) (given : Option Site) (named : Option ℕ) → is_write (block_fault_by d g before n given named) ≡ false
block_reads d g before n None named = refl
block_reads d g before n (Some s) None = refl
block_reads d g before n (Some s) (Some block) = or_else_reads _ _ (unless_reads _ (fault.Repeated n) refl) (or_else_reads (kind_fault d n block (kind_at g s)) _ (kind_reads d n block (kind_at g s)) (unless_reads _ (fault.Taken n) refl))

missing_reads : (block : Option ℕ) → is_write (missing_fault block) ≡ false
missing_reads None = refl
missing_reads (Some block) = refl

blocks_read : (d : Netlist) (g : GridShape) (before ls : List TextLine) → is_write (fault_behind (block_fault d g) (text_fault d) before ls) ≡ false
blocks_read d g before [] = missing_reads _
blocks_read d g before (l ∷ ls) = or_else_reads (block_fault d g before l) _ (block_reads d g before l.number (site_in l) (block_in d l)) (blocks_read d g (before ++ l ∷ []) ls)

pub text_reads : (d : Netlist) (g : GridShape) (ls : List TextLine) → is_write (first_fault d g ls) ≡ false
text_reads d g ls = or_else_reads (place_header_fault g ls) _ (size_by_reads g (place_size_of ls)) (blocks_read d g [] (drop 2 ls))

pub size_reads : (size : Option (ℕ × ℕ)) → is_write (size_fault size) ≡ false
size_reads None = refl
size_reads (Some size) = refl

pub place_text : (e : PlaceFault) (f : Option PlaceFault) → is_write f ≡ false → FaultIs e f → IsTextFault (of_place e)
place_text fault.BadHeader f h k = tt
place_text fault.WrongSize f h k = tt
place_text (fault.UnknownBlock n) f h k = tt
place_text (fault.Repeated n) f h k = tt
place_text (fault.NoSuchSite n) f h k = tt
place_text (fault.WrongKind n) f h k = tt
place_text (fault.Taken n) f h k = tt
place_text (fault.Missing n) f h k = tt
place_text (fault.NotAPad n) f h k = tt
place_text (fault.BadLine n) f h k = tt
place_text fault.BadLabel f h k = tt
place_text fault.Write f h k = let e : true ≡ false = sym (ap is_write k) ∙ h in absurd (false≢true (sym e))
place_text fault.NoMemory f h k = tt
