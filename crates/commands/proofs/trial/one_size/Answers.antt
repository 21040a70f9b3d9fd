use Rattle.std.proofs.Common.{arith, sym, ◌∙◌}
use Rattle.std.proofs.lemmas.Fmt.{decimal_injective}
use Rattle.commands.proofs.trial.one_size.Goals as goal

pub returns : goal.returns
returns c word m n h k =
    decimal_injective m n (omega (arith, h.most)) (omega (arith, k.most)) (sym h.spelled
    ∙ k.spelled)
