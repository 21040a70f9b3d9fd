use Rattle.std.proofs.Common.{◌∷◌, ◌++◌, [], List, ℕ, ap, append_assoc, ◌∙◌}
use Rattle.std.specs.List.{flat_map}
use Rattle.itf_lines.specs.declared.word.LineWord.TheVariants.{Tabl, Etab}
use Rattle.itf_reader.specs.TransferText.{line}
use Rattle.itf_writer.specs.Canonical.{line_text, row_lines}
use Rattle.itf_writer.specs.Feeds.{HeldRows}
use Rattle.itf_writer.specs.Runs.{lines_text}
use Rattle.itf_writer.proofs.FeedSteps.{on_ok}
use Rattle.itf_writer.proofs.Flat.{table_text}
use Rattle.itf_writer.proofs.feed.add_table.Goals as goal

pub returns : goal.returns
returns c rows some h =
    let code = c.args.code in
    let text = c.args.text.now in
    let name = c.args.table.now.name in
    let tabl = line_text code (line Tabl 0 (name ∷ [])) in
    let own = lines_text code (flat_map row_lines rows) in
    let etab = line_text code (line Etab 0 []) in
    let named = c.in_ok-add_named.ensures
    ∙ ap (λ (n : List ℕ). text ++ line_text code (line Tabl 0 (n ∷ []))) c.bytes.ensures in
    let held = c.in_ok-append.ensures
    ∙ (ap (λ (t : List ℕ). t ++ c.args.held.now.text) named
    ∙ ap (λ (x : HeldRows). (text ++ tabl) ++ x.text) h) in
    on_ok c.add_line.result
    (λ e.
    e
    ∙ (ap (λ (t : List ℕ). t ++ etab) held
    ∙ (ap (λ (t : List ℕ). t ++ etab) (append_assoc text tabl own)
    ∙ (append_assoc text (tabl ++ own) etab
    ∙ ap (λ (t : List ℕ). text ++ t) (table_text code name rows some)))))
    c.add_line.ensures
