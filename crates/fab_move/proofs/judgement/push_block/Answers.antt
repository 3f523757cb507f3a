use Rattle.fab_move.proofs.Judgements.{block_pushed}
use Rattle.fab_move.proofs.judgement.push_block.Goals as goal

pub returns : goal.returns
returns c = block_pushed c.args.design.now c.args.block c.args.footprint.now.items c.push.new.self.items c.push_nets.new.footprint.items c.nets_of.result.now c.in_ok-push.ensures.ok c.nets_of.ensures c.in_ok-push_nets.ensures
