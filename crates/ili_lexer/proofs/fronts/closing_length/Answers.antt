use Rattle.std.proofs.Common.{◌∙◌, arith}
use Rattle.std.proofs.lemmas.Grind.{common_steps}
use Rattle.ili_lexer.proofs.Closings.{closing_step}
use Rattle.ili_lexer.proofs.fronts.closing_length.Goals as goal

pub loop-i-preserved : goal.loop-i-preserved
loop-i-preserved c = c.loop-i.invariant
    ∙ closing_step c.args.text.now c.loop-i.i c.loop-i-test.true (grind (arith, common_steps))
