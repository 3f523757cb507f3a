use Rattle.std.proofs.Common.{[], length, refl, ap, arith}
use Rattle.fab_commit.specs.Run.Commits.{run_for, standing_of}
use Rattle.fab_commit.proofs.RunLemmas.Pipelining.{none_judged}
use Rattle.fab_commit.proofs.run.pipeline.first_pipeline.Goals as goal

pub returns-clause-behind : goal.returns-clause-behind
returns-clause-behind g c =
    let r = run_for g.W.Words.moves c.args.given.now in
    record {
      at_turn = record {
        plan = c.requires.plan;
        owned = record { sound = c.requires.sound; table = c.in_ok-stamps.ensures.table; counted = omega arith };
        many = ap length c.new-3.ensures.items;
        swaps = c.new-2.ensures.items;
        led = record {
          log = [];
          here = refl;
          base_is = refl;
          done_is = omega arith;
          stage = omega arith;
          stamps = c.in_ok-stamps.ensures.none;
          before = tt;
          recent = refl;
        };
      };
      judged = none_judged r (standing_of c.args.live) c.args.live.done c.new-3.result.items c.new-4.result.items c.new-3.ensures.items c.new-4.ensures.items;
    }
