use Rattle.std.proofs.Common.{subst, arith}
use Rattle.clap.specs.Words.{found_of, one_text}
use Rattle.clap.proofs.WalkLemmas.{one_text-rows}
use Rattle.vplace.specs.Given.{IsNumberOf}
use Rattle.vplace.proofs.options.side.Goals as goal

pub returns : goal.returns
returns c =
    let given : IsNumberOf 16 (one_text (found_of c.args.matches.now) c.args.option.now) c.get_one.result = grind arith in
    subst (λ text. IsNumberOf 16 text c.get_one.result) (one_text-rows (found_of c.args.matches.now) c.args.option.now) given
