use Rattle.std.specs.Prelude.{codes}
use Rattle.std.proofs.Common.{◌≡◌, List, ℕ, ◌++◌, append_assoc, ap, ◌∙◌}
use Rattle.std.proofs.lemmas.Result.{on_ok_weaker}
use Rattle.reports.proofs.text.add_usage.Goals as goal

-- two parts are added one behind the other
two_parts : (old mid new first last : List ℕ) → mid ≡ old ++ first → new ≡ mid ++ last
    → new ≡ old ++ (first ++ last)
two_parts old mid new first last e f =
    f ∙ ap (λ (s : List ℕ). s ++ last) e ∙ append_assoc old first last

pub returns : goal.returns
returns c = on_ok_weaker c.add-2.result
    (two_parts c.args.text.now c.add.new.self c.add-2.new.self
    (codes "usage: itfcheck compile M, check M T C, verify M T C, trial N C, polygons M T P, ")
    (codes "canonical M T O, points M T L") c.in_ok-add.ensures)
    c.add-2.ensures
