use Rattle.std.proofs.Common.{ap, ◌∙◌, ◌++◌, [], List, ℕ, append_assoc}
use Rattle.itf_lines.specs.declared.word.LineWord.TheVariants.{Emod, Ende}
use Rattle.itf_reader.specs.TransferText.{line}
use Rattle.itf_writer.specs.Canonical.{line_text}
use Rattle.itf_writer.proofs.FeedSteps.{on_ok}
use Rattle.itf_writer.proofs.feed.add_foot.Goals as goal

pub returns : goal.returns
returns c =
    let e = line_text c.args.code (line Emod 0 []) in
    let f = line_text c.args.code (line Ende 0 []) in
    on_ok c.add_line-2.result (λ k. k
    ∙ (ap (λ (t : List ℕ). t ++ f) c.in_ok-add_line.ensures ∙ append_assoc c.args.text.now e f))
    c.add_line-2.ensures
