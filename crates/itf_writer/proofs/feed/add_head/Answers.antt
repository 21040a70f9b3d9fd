use Rattle.std.proofs.Common.{ap, ◌∙◌, ◌++◌, ◌∷◌, [], List, ℕ, append_assoc}
use Rattle.std.specs.Prelude.{codes}
use Rattle.itf_lines.specs.declared.word.LineWord.TheVariants.{Mtid, Modl}
use Rattle.itf_reader.specs.TransferText.{line}
use Rattle.itf_writer.specs.Canonical.{line_text}
use Rattle.itf_writer.proofs.FeedSteps.{on_ok}
use Rattle.itf_writer.proofs.feed.add_head.Goals as goal

pub returns : goal.returns
returns c =
    let code = c.args.layout.now.codes.continued in
    let text = c.args.text.now in
    let head = codes "SCNT\n////\n" in
    let a = line_text code (line Mtid 0 []) in
    let b = line_text code (line Modl 0 (c.args.layout.now.model ∷ [])) in
    on_ok c.add_named.result
    (λ e.
    e
    ∙ (ap (λ (n : List ℕ). c.add_line.new.text ++ line_text code (line Modl 0 (n ∷ [])))
    c.bytes.ensures
    ∙ (ap (λ (t : List ℕ). t ++ b) (c.in_ok-add_line.ensures
    ∙ ap (λ (t : List ℕ). t ++ a) c.in_ok-add.ensures)
    ∙ (append_assoc (text ++ head) a b ∙ append_assoc text head (a ++ b)))))
    c.add_named.ensures
