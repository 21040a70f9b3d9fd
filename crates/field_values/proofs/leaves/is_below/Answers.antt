use Rattle.std.proofs.Common.{rules, ◌≡◌, ◌∙◌, sym, arith, pos}
use Rattle.std.specs.Prelude.{int_lt}
use Rattle.field_values.proofs.WholeWords.{value_below, fault_above}
use Rattle.field_values.proofs.leaves.is_below.Goals as goal

pub returns-in-Ok : goal.returns-in-Ok
returns-in-Ok c =
    let h : c.is_less.result ≡ int_lt c.in-Ok.value (pos c.args.leaves) = search rules in
    h ∙ value_below c.args.word.now c.in-Ok.value c.args.leaves c.requires
    (sym c.in-Ok.ensures.answer)

pub returns-in-Err : goal.returns-in-Err
returns-in-Err c =
    sym (fault_above c.args.word.now c.in-Err.field-0 c.args.leaves
    (omega (arith, c.ranges.leaves.fits)) c.requires (sym c.in-Err.ensures.answer))
