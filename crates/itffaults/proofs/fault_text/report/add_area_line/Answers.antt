use Rattle.std.specs.Prelude.{codes}
use Rattle.std.proofs.Common.{ap, List, ℕ, ◌++◌, ◌∙◌}
use Rattle.std.proofs.lemmas.Result.{on_ok_weaker}
use Rattle.itffaults.specs.FaultText.Report.{told_word}
use Rattle.itffaults.specs.FaultText.Text.{counts_text, names_text, telling_of}
use Rattle.itffaults.specs.FaultText.Verdicts.{counts_of}
use Rattle.itffaults.specs.declared.fault_text.verdicts.Counts.{Counts}
use Rattle.itffaults.proofs.FaultTextLemmas.Parts.{four_parts}
use Rattle.itffaults.proofs.fault_text.report.add_area_line.Goals as goal

pub returns : goal.returns
returns c =
    let t = telling_of c.args.area.now in
    on_ok_weaker c.add-2.result
    (four_parts c.args.text.now c.add_names.new.text c.add_counts.new.text c.add.new.self
    c.add-2.new.self
    (names_text t) (counts_text (counts_of t.faults)) (told_word t.faults) (codes "\n")
    c.in_ok-add_names.ensures
    (c.in_ok-add_counts.ensures
    ∙ ap (λ (k : Counts). c.add_names.new.text ++ counts_text k) c.counts_of.ensures)
    (c.in_ok-add.ensures ∙ ap (λ (w : List ℕ). c.add_counts.new.text ++ w) c.told_word.ensures))
    c.add-2.ensures
