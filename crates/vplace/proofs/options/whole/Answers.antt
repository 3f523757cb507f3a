use Rattle.std.proofs.Common.{subst, arith}
use Rattle.clap.specs.Words.{found_of, one_text}
use Rattle.clap.proofs.WalkLemmas.{one_text-rows}
use Rattle.vplace.specs.Given.{IsNumberOf}
use Rattle.vplace.proofs.options.whole.Goals as goal

pub returns : goal.returns
returns c =
    let given : IsNumberOf 64 (one_text (found_of c.args.matches.now) c.args.option.now) c.get_one.result = grind arith in
    subst (λ text. IsNumberOf 64 text c.get_one.result) (one_text-rows (found_of c.args.matches.now) c.args.option.now) given
