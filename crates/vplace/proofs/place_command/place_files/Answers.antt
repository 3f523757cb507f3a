use Rattle.std.proofs.Common.{[], Some, ◌∙◌, inl, inr, List, ℕ, ◌≡◌, option_map, rules, subst}
use Rattle.fab_run.specs.Placed.{AskFor, IsPlaced}
use Rattle.fab_run.specs.Setting.{IsSetting, Texts}
use Rattle.vplace.specs.Forecasts.{IsForecast}
use Rattle.fab_run.proofs.Whole.{begun_whole}
use Rattle.vplace.specs.Leaving.{save_or_out}
use Rattle.vplace.specs.Placing.{AreNamed, save_name}
use Rattle.std.specs.Prelude.{option_copied}
use Rattle.fab_run.specs.FaultLines.{fault_line}
use Rattle.vplace.specs.Said.{IsSaid, report_line}
use Rattle.vplace.proofs.Heard.{line_since, said_since}
use Rattle.vplace.proofs.Once.{options_once, texts_once}
use Rattle.vplace.proofs.Stopping.{did_place, put_texts}
use Rattle.vplace.proofs.Telling.{put_in_vain, tried_since}
use Rattle.vplace.proofs.place_command.place_files.Goals as goal

pub returns-clause-refused : goal.returns-clause-refused
returns-clause-refused g c h =
    let named = c.in-Ok-read_texts.ensures.gives in
    let since : (line : List ℕ) → IsSaid line (g.E.Sink.contents c.read_texts.new.err) (g.E.Sink.contents c.place_texts.new.err) (g.E.Sink.failed c.read_texts.new.err) (g.E.Sink.failed c.place_texts.new.err)
    → IsSaid line (g.E.Sink.contents c.args.err.now) (g.E.Sink.contents c.place_texts.new.err) (g.E.Sink.failed c.args.err.now) (g.E.Sink.failed c.place_texts.new.err) = λ line. line_since _ _ _ _ _ _ line c.in-Ok-read_texts.ensures.quiet c.in-Ok-read_texts.ensures.still in
    let r = c.in-Err-place_texts.ensures.refused h in
    inr (_, _, search (rules, named), c.in-Ok.ensures.value, (r.0, r.1, r.2, since (fault_line r.0 c.as_slice-5.result.now) r.3))

pub returns-clause-only : goal.returns-clause-only
returns-clause-only g c h t o s is named asked setting =
    let w = c.args.words.now in
    let read = c.in-Ok-read_texts.read in
    let found : Texts = record { arch = read.arch.items; net = read.net.items; pads = option_map (λ bytes. bytes.items) read.pads; net_label = w.net.items; arch_label = w.arch.items } in
    let same = texts_once h w t found named (subst (λ x. AreNamed x w found) is c.in-Ok-read_texts.ensures.gives) in
    let options = options_once w o c.in-Ok.options asked c.in-Ok.ensures.value in
    let here : IsSetting found c.in-Ok.options s = subst (λ x. IsSetting found x s) options (subst (λ x. IsSetting x o s) same setting) in
    inr (c.in-Err-place_texts.ensures.only s (search (rules, here)))

pub returns-clause-device : goal.returns-clause-device
returns-clause-device g c q =
    let named = c.in-Ok-read_texts.ensures.gives in
    let since : (line : List ℕ) → IsSaid line (g.E.Sink.contents c.read_texts.new.err) (g.E.Sink.contents c.place_texts.new.err) (g.E.Sink.failed c.read_texts.new.err) (g.E.Sink.failed c.place_texts.new.err)
    → IsSaid line (g.E.Sink.contents c.args.err.now) (g.E.Sink.contents c.place_texts.new.err) (g.E.Sink.failed c.args.err.now) (g.E.Sink.failed c.place_texts.new.err) = λ line. line_since _ _ _ _ _ _ line c.in-Ok-read_texts.ensures.quiet c.in-Ok-read_texts.ensures.still in
    let d = c.in-Err-place_texts.ensures.device q in
    inr (
      _,
      _,
      d.0,
      search (rules, named),
      c.in-Ok.ensures.value,
      d.1,
      elim d.2 [
        | inl report ↦ inl (report.0, since report_line report.1)
        | inr name ↦ inr (inl (tried_since (IsForecast d.0.plan 0 c.in-Ok.options.stop) c.as_slice.result.now c.args.words.now.out.items (option_copied c.as_deref.result) (save_name c.args.words.now) (g.F.NamedFiles.shut c.args.files.now) (λ line. IsSaid line (g.E.Sink.contents c.read_texts.new.err) (g.E.Sink.contents c.place_texts.new.err) (g.E.Sink.failed c.read_texts.new.err) (g.E.Sink.failed c.place_texts.new.err)) (λ line. IsSaid line (g.E.Sink.contents c.args.err.now) (g.E.Sink.contents c.place_texts.new.err) (g.E.Sink.failed c.args.err.now) (g.E.Sink.failed c.place_texts.new.err)) (search rules) (search rules) since name))
      ],
    )

pub returns-in-Err-read_texts-clause-device : goal.returns-in-Err-read_texts-clause-device
returns-in-Err-read_texts-clause-device g c q = inl c.in-Err-read_texts.ensures.unread

pub returns-in-Ok-place_texts-clause-device : goal.returns-in-Ok-place_texts-clause-device
returns-in-Ok-place_texts-clause-device g c q =
    let w = c.args.words.now in
    let t : Texts = record { arch = c.as_slice-4.result.now; net = c.as_slice-5.result.now; pads = option_copied c.as_deref-2.result; net_label = c.as_slice-2.result.now; arch_label = c.as_slice-3.result.now } in
    let named = c.in-Ok-read_texts.ensures.gives in
    let quiet = c.in-Ok-place_texts.ensures.quiet ∙ c.in-Ok-read_texts.ensures.quiet in
    let still = c.in-Ok-place_texts.ensures.still ∙ c.in-Ok-read_texts.ensures.still in
    let since : (line : List ℕ) → IsSaid line (g.E.Sink.contents c.place_texts.new.err) (g.E.Sink.contents c.leave.new.err) (g.E.Sink.failed c.place_texts.new.err) (g.E.Sink.failed c.leave.new.err)
    → IsSaid line (g.E.Sink.contents c.args.err.now) (g.E.Sink.contents c.leave.new.err) (g.E.Sink.failed c.args.err.now) (g.E.Sink.failed c.leave.new.err) = λ line. line_since _ _ _ _ _ _ line quiet still in
    let h = c.in-Ok-place_texts.ensures.placed in
    inr (_, _, h.1.1.0, search (rules, named), c.in-Ok.ensures.value, h.1.1.1, inr (inr (put_in_vain (λ a place. IsPlaced (AskFor t c.in-Ok.options) t a (g.O.Sink.contents c.args.out.now) (g.O.Sink.contents c.place_texts.new.out) (Some []) (Some place)) t c.in-Ok.options.seed w.out.items c.as_slice.result.now (save_or_out c.as_slice.result.now (option_copied c.as_deref.result)) (save_name w) (g.F.NamedFiles.shut c.args.files.now) (λ line. IsSaid line (g.E.Sink.contents c.place_texts.new.err) (g.E.Sink.contents c.leave.new.err) (g.E.Sink.failed c.place_texts.new.err) (g.E.Sink.failed c.leave.new.err)) (λ line. IsSaid line (g.E.Sink.contents c.args.err.now) (g.E.Sink.contents c.leave.new.err) (g.E.Sink.failed c.args.err.now) (g.E.Sink.failed c.leave.new.err)) h.0 c.in-Ok-place_texts.left.place.items c.in-Ok-place_texts.left.point (search rules) (search rules) since h.1 h.2 (c.leave.ensures.device q))))

pub returns-clause-cut : goal.returns-clause-cut
returns-clause-cut g c q =
    let named = c.in-Ok-read_texts.ensures.gives in
    elim c.in-Err-place_texts.ensures.cut [
      | inl same ↦ inl same
      | inr begun ↦ inr (_, _, search (rules, named), c.in-Ok.ensures.value, begun)
    ]

-- the whole report had gone out
pub returns-in-Ok-place_texts-clause-cut : goal.returns-in-Ok-place_texts-clause-cut
returns-in-Ok-place_texts-clause-cut g c q =
    let named = c.in-Ok-read_texts.ensures.gives in
    let h = c.in-Ok-place_texts.ensures.placed in
    inr (_, _, search (rules, named), c.in-Ok.ensures.value, (h.1.0, h.1.1, begun_whole h.1.0 _ _ _ h.1.2.told))

-- nothing was said while the texts were read and the design was placed
pub returns-in-Ok-place_texts-clause-said : goal.returns-in-Ok-place_texts-clause-said
returns-in-Ok-place_texts-clause-said g c h =
    let quiet = c.in-Ok-place_texts.ensures.quiet ∙ c.in-Ok-read_texts.ensures.quiet in
    let still = c.in-Ok-place_texts.ensures.still ∙ c.in-Ok-read_texts.ensures.still in
    said_since _ _ _ _ _ _ quiet still (c.leave.ensures.said h)

pub returns-in-Ok-place_texts-clause-placed : goal.returns-in-Ok-place_texts-clause-placed
returns-in-Ok-place_texts-clause-placed g c done =
    let w = c.args.words.now in
    let h = c.in-Ok-place_texts.ensures.placed in
    let left = c.in-Ok-place_texts.left in
    let named = c.in-Ok-read_texts.ensures.gives in
    let put = put_texts (g.F.NamedFiles.held c.args.files.now) (g.F.NamedFiles.held c.leave.new.files) w.out.items (save_or_out w.out.items (save_name w)) _ _ left.place.items left.point (search rules) (search rules) (c.leave.ensures.put done) in
    did_place w (g.F.NamedFiles.held c.args.files.now) (g.F.NamedFiles.held c.leave.new.files) (g.O.Sink.contents c.args.out.now) (g.O.Sink.contents c.place_texts.new.out)
    _ c.in-Ok.options h.0 left.place.items _ h.1 h.2 put (search (rules, named)) c.in-Ok.ensures.value
