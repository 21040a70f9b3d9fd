use Rattle.std.proofs.Common.{◌^◌, ℤ, pos, neg_ℤ, ◌<ℤ◌, subst, sym}
use Rattle.ili_grammar.specs.Values.{decimal_of}
use Rattle.resolver.proofs.BuildLemmas.Bounds.{bound_back, bound_fits, in_units_above}
use Rattle.resolver.proofs.BuildLemmas.Bounds.{in_units_below}
use Rattle.resolver.proofs.build.forms.bound.Goals as goal

pub overflow_cast-result : goal.overflow_cast-result
overflow_cast-result c =
    bound_fits c.args.scale (decimal_of c.args.number) c.in_units.result c.in_units.ensures.value
    c.requires.fits

pub returns-clause-value : goal.returns-clause-value
returns-clause-value c =
    bound_back c.args.scale (decimal_of c.args.number) c.in_units.result c.in_units.ensures.value
    c.requires.fits

pub returns-clause-above : goal.returns-clause-above
returns-clause-above c =
    subst (λ (z : ℤ). neg_ℤ (pos (10 ^ 18)) <ℤ z)
    (sym (bound_back c.args.scale (decimal_of c.args.number) c.in_units.result
    c.in_units.ensures.value c.requires.fits))
    (in_units_above c.args.scale (decimal_of c.args.number) c.requires.fits)

pub returns-clause-below : goal.returns-clause-below
returns-clause-below c =
    subst (λ (z : ℤ). z <ℤ pos (10 ^ 18))
    (sym (bound_back c.args.scale (decimal_of c.args.number) c.in_units.result
    c.in_units.ensures.value c.requires.fits))
    (in_units_below c.args.scale (decimal_of c.args.number) c.requires.fits)
