use Rattle.std.proofs.Common.{◌≡◌, ◌∙◌, ◌++◌, List, ap, ℕ, append_assoc}
use Rattle.itf_writer.specs.Canonical.{spelt, blank_before}
use Rattle.itf_writer.specs.Ends.{last_from, end_by}
use Rattle.itf_writer.proofs.Ends.{line_is}
use Rattle.itf_writer.proofs.FeedSteps.{on_ok}
use Rattle.itf_writer.proofs.adding.add_line.Goals as goal

pub returns : goal.returns
returns c =
    let code = c.args.code in
    let text = c.args.text.now in
    let word = c.spelt-bytes.result.now in
    let fields = c.args.fields.now in
    let last : c.in_ok-last.last ≡ last_from (last_from 32 (spelt c.args.word))
    (blank_before fields) =
    c.in_ok-last.ensures.last
    ∙ ap (λ (n : ℕ). last_from n (blank_before fields)) (c.last_of.ensures
    ∙ ap (last_from 32) c.spelt-bytes.ensures) in
    let end = end_by code c.in_ok-last.last in
    on_ok c.add_end.result
    (λ e.
    e
    ∙ (ap (λ (t : List ℕ). t ++ end) (c.in_ok-last.ensures.added
    ∙ ap (λ (t : List ℕ). t ++ blank_before fields) c.in_ok-add.ensures)
    ∙ (ap (λ (t : List ℕ). t ++ end) (append_assoc text word (blank_before fields))
    ∙ (append_assoc text (word ++ blank_before fields) end
    ∙ ap (λ (t : List ℕ). text ++ t)
    (line_is code 32 c.in_ok-last.last
    (spelt c.args.word) word fields c.spelt-bytes.ensures c.requires last)))))
    c.add_end.ensures
