use Rattle.std.proofs.Common.{◌≡◌, ◌∙◌, ◌++◌, List, ℕ, ap, sym, append_assoc}
use Rattle.std.specs.List.{flat_map}
use Rattle.file_pages.specs.Held.{times}
use Rattle.itf_reader.specs.Views.{strokes_of}
use Rattle.itf_reader.specs.declared.transfer.Stroke.{Stroke}
use Rattle.itf_writer.specs.Canonical.{stroke_lines}
use Rattle.itf_writer.specs.Runs.{lines_text}
use Rattle.itf_writer.proofs.FeedSteps.{on_ok, all_strokes_text}
use Rattle.itf_writer.proofs.adding.add_strokes.Goals as goal

pub returns : goal.returns
returns c =
    let code = c.args.code in
    let text = c.args.text.now in
    let given = c.args.strokes.now.given.items in
    let n = c.args.strokes.now.left_out in
    on_ok c.add_times.result
    (λ e.
    e
    ∙ (ap (λ (t : List ℕ). t ++ times n c.undefined_stroke.result.now)
    (c.in_ok-add_given.ensures
    ∙ ap (λ (ss : List Stroke). text ++ lines_text code (flat_map stroke_lines (strokes_of ss)))
    c.deref.ensures.value)
    ∙ (append_assoc text (lines_text code (flat_map stroke_lines (strokes_of given)))
    (times n c.undefined_stroke.result.now)
    ∙ ap (λ (t : List ℕ). text ++ t)
    (ap (λ (l : List ℕ). lines_text code (flat_map stroke_lines (strokes_of given)) ++ times n l)
    c.undefined_stroke.ensures ∙ all_strokes_text code n (strokes_of given)))))
    c.add_times.ensures
