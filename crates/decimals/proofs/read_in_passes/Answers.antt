use Rattle.std.proofs.Common.{sym, ◌∙◌, refl}
use Rattle.decimals.proofs.Cuts.{unsigned_open, unsigned_rest, unsigned_plain}
use Rattle.decimals.proofs.read_in_passes.Goals as goal

pub returns-in-Some-clause-reading : goal.returns-in-Some-clause-reading
returns-in-Some-clause-reading c =
    sym (unsigned_open c.args.scale c.in-Some.at c.args.unsigned.now (sym c.find_point.ensures
    ∙ c.in-Some.is) c.if-at-unsigned.true)

pub returns-in-Some-2-clause-reading : goal.returns-in-Some-2-clause-reading
returns-in-Some-2-clause-reading c =
    c.read_parts.ensures
    ∙ unsigned_rest c.args.scale c.in-Some.at _ c.args.unsigned.now (sym c.find_point.ensures
    ∙ c.in-Some.is) c.if-at-unsigned.false refl

pub returns-in-None-clause-reading : goal.returns-in-None-clause-reading
returns-in-None-clause-reading c =
    c.read_parts-in-None.ensures
    ∙ sym (unsigned_plain c.args.scale c.args.unsigned.now (sym c.find_point.ensures
    ∙ c.in-None.is))
