use Rattle.std.proofs.Common.{◌≡◌, ◌∙◌, ◌∷◌, [], List, ℕ, ap, sym, get_or}
use Rattle.std.proofs.lemmas.List.{get_or_default}
use Rattle.itf_lines.specs.declared.word.LineWord.TheVariants.{Topi}
use Rattle.itf_reader.specs.TransferText.{line}
use Rattle.file_pages.proofs.Steps.{wrote_as}
use Rattle.itf_writer.specs.Runs.{lines_text}
use Rattle.itf_writer.proofs.Flat.{one_line}
use Rattle.itf_writer.proofs.tables.put_topic.Goals as goal

pub returns : goal.returns
returns g c =
    let named : c.bytes.result.now ≡ get_or c.args.topics.now c.args.topic [] = c.bytes.ensures
    ∙ (c.index-topics-topic.is
    ∙ get_or_default c.args.topics.now c.args.topic c.index-topics-topic.result []
    c.requires) in
    wrote_as (sym (one_line c.args.code (line Topi 0 (c.bytes.result.now ∷ [])))
    ∙ ap (λ (n : List ℕ). lines_text c.args.code (line Topi 0 (n ∷ []) ∷ [])) named)
    c.put_named.ensures
