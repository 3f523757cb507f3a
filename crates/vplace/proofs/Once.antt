-- Words and files in memory give their numbers and texts once; numbers that are asked for are no fault of the words.
use Rattle.std.proofs.Common.{ℕ, ◌≡◌, ◌∙◌, ap, refl, sym, subst, List, Option, Some, None, codes}
use Rattle.std.specs.Prelude.{Ok, Err}
use Rattle.fab_text.specs.Decimal.{decimal_of}
use Rattle.fab_run.specs.declared.inputs.Options.{Options}
use Rattle.fab_run.specs.Setting.{Texts}
use Rattle.vplace.specs.declared.requests.Number.TheVariants.{InitT, ExitT, AlphaT}
use Rattle.vplace.specs.declared.requests.PlaceWords.{PlaceWords}
use Rattle.vplace.specs.declared.requests.ResumeWords.{ResumeWords}
use Rattle.vplace.specs.declared.requests.WordFault.{WordFault}
use Rattle.vplace.specs.declared.requests.WordFault.TheVariants.{SizeInPart, StopInPart, BadNumber}
use Rattle.vplace.specs.declared.check_command.CheckNames.{CheckNames}
use Rattle.fab_sched.specs.declared.schedules.Cooling.{Cooling}
use Rattle.fab_sched.specs.declared.schedules.Cooling.TheVariants.{Factor, Adaptive}
use Rattle.vplace.specs.Asked.{AreAsked, IsCoolingAsked, IsResumeFault, IsWordFault, size_asked, stop_asked}
use Rattle.vplace.specs.Files.{Held}
use Rattle.vplace.specs.Placing.{AreGiven, AreNamed, name_of}
use Rattle.vplace.specs.Resuming.{AreNamedToResume}
use Rattle.vplace.proofs.Chains.{cooling_once, given_once, pads_given}

pub texts_once : (h : Held) (w : PlaceWords) (t u : Texts) → AreNamed (Some h) w t → AreNamed (Some h) w u → t ≡ u
texts_once h w t u a b =
    let arch = given_once (h w.arch.items) t.arch u.arch a.arch b.arch in
    let net = given_once (h w.net.items) t.net u.net a.net b.net in
    let pads = pads_given h (name_of w) t.pads a.pads ∙ sym (pads_given h (name_of w) u.pads b.pads) in
    let net_label = a.net_label ∙ sym b.net_label in
    let arch_label = a.arch_label ∙ sym b.arch_label in
    λ i. record { arch = arch i; net = net i; pads = pads i; net_label = net_label i; arch_label = arch_label i }

pub texts_once_to_resume : (h : Held) (w : ResumeWords) (t u : Texts) (point other : List ℕ) → AreNamedToResume (Some h) w t point → AreNamedToResume (Some h) w u other → (t ≡ u) × (point ≡ other)
texts_once_to_resume h w t u point other a b =
    let arch = given_once (h w.arch.items) t.arch u.arch a.arch b.arch in
    let net = given_once (h w.net.items) t.net u.net a.net b.net in
    let pads = a.pads ∙ sym b.pads in
    let net_label = a.net_label ∙ sym b.net_label in
    let arch_label = a.arch_label ∙ sym b.arch_label in
    (λ i. record { arch = arch i; net = net i; pads = pads i; net_label = net_label i; arch_label = arch_label i }, given_once (h w.point.items) point other a.point_file b.point_file)

pub texts_once_to_check : (h : Held) (n : CheckNames) (arch net place arch_also net_also place_also : List ℕ) → AreGiven (Some h) n arch net place → AreGiven (Some h) n arch_also net_also place_also
    → (arch ≡ arch_also) × (net ≡ net_also) × (place ≡ place_also)
texts_once_to_check h n arch net place arch_also net_also place_also a b =
    (given_once (h n.arch.items) arch arch_also a.arch_file b.arch_file, given_once (h n.net.items) net net_also a.net_file b.net_file, given_once (h n.place.items) place place_also a.place_file b.place_file)

pub options_once : (w : PlaceWords) (o p : Options) → AreAsked w o → AreAsked w p → o ≡ p
options_once w o p a b =
    let seed = a.seed ∙ sym b.seed in
    let size : o.size ≡ p.size = let s = a.size in let t = b.size in cc in
    let init : o.init_t ≡ p.init_t = let s = a.init in let t = b.init in cc in
    let exit : o.exit_t ≡ p.exit_t = let s = a.exit in let t = b.exit in cc in
    let cooling = cooling_once w.alpha_t.items w.alpha_t.items o.cooling p.cooling refl a.cooling b.cooling in
    let moves = a.moves ∙ sym b.moves in
    let batch = a.batch ∙ sym b.batch in
    let workers = a.workers ∙ sym b.workers in
    let stop : o.stop ≡ p.stop = let s = a.stop in let t = b.stop in cc in
    λ i. record { seed = seed i; size = size i; init_t = init i; exit_t = exit i; cooling = cooling i; moves = moves i; batch = batch i; workers = workers i; stop = stop i }

no_number_fault : (cooling : Cooling) (text : List ℕ) → IsCoolingAsked text cooling → (e : _) → (text ≡ codes "adaptive" → ⊥) → decimal_of text 3 ≡ Err e → ⊥
no_number_fault Adaptive text asked e other h = other asked
no_number_fault (Factor f) text asked e other h = let no : Ok f ≡ Err e = sym asked ∙ h in cc

-- words that ask for numbers have no fault
pub no_word_fault : (w : PlaceWords) (o : Options) (fault : WordFault) → AreAsked w o → IsWordFault w fault → ⊥
no_word_fault w o SizeInPart a h = let no : Some o.size ≡ None = sym a.size ∙ h in cc
no_word_fault w o StopInPart a h = let no : Some o.stop ≡ None = sym a.stop ∙ h.1 in cc
no_word_fault w o (BadNumber InitT e) a h = let no : Ok o.init_t ≡ Err e = sym a.init ∙ h.2 in cc
no_word_fault w o (BadNumber ExitT e) a h = let no : Ok o.exit_t ≡ Err e = sym a.exit ∙ h.3 in cc
no_word_fault w o (BadNumber AlphaT e) a h = no_number_fault o.cooling w.alpha_t.items a.cooling e h.4 h.5

pub no_resume_fault : (w : ResumeWords) (stop : Option ℕ) (fault : WordFault) → stop_asked w.stop w.save ≡ Some stop → IsResumeFault w fault → ⊥
no_resume_fault w stop SizeInPart a h = h
no_resume_fault w stop StopInPart a h = let no : Some stop ≡ None = sym a ∙ h in cc
no_resume_fault w stop (BadNumber option e) a h = h
