use Rattle.std.proofs.Common.{arith}
use Rattle.certificate_checker.proofs.ChainSides.{above_within, below_within, facing_is}
use Rattle.certificate_checker.proofs.chains.within.Goals as goal

pub returns-in-Above-clause-half : goal.returns-in-Above-clause-half
returns-in-Above-clause-half c =
    above_within c.args.case.now c.requires.fit c.args.edge _
    (facing_is c.args.case.now c.requires.fit c.args.edge _ c.requires.edge) c.in-Above.is

pub returns-in_default : goal.returns-in_default
returns-in_default c = record {
  half = below_within c.args.case.now c.requires.fit c.args.edge _
      (facing_is c.args.case.now c.requires.fit c.args.edge _ c.requires.edge) c.requires.tube
      c.in_default.not-Above;
  below = (let l = c.requires.edge in omega (arith, l));
}
