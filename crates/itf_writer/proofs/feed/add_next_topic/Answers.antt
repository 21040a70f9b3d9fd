use Rattle.std.proofs.Common.{◌∙◌, ◌∷◌, ◌++◌, [], Bool, List, ℕ, ap, sym, append_assoc}
use Rattle.std.proofs.Common.{if◌then◌else◌}
use Rattle.std.proofs.lemmas.Bool.{eq-eqb, ne_eqb}
use Rattle.std.proofs.lemmas.List.{append-nil}
use Rattle.std.proofs.lemmas.List.Concat.{flat_map-cons}
use Rattle.itf_lines.specs.declared.word.LineWord.TheVariants.{Etop}
use Rattle.itf_reader.specs.TransferText.{line}
use Rattle.itf_writer.specs.Canonical.{line_text}
use Rattle.itf_writer.specs.Runs.{lines_text, topic_lines}
use Rattle.itf_writer.proofs.FeedSteps.{on_ok}
use Rattle.itf_writer.proofs.feed.add_next_topic.Goals as goal

pub returns-then-current-topic : goal.returns-then-current-topic
returns-then-current-topic c =
    let opened = line Etop 0 [] ∷ topic_lines c.args.topics.now c.args.topic in
    sym (append-nil c.args.text.now)
    ∙ ap (λ (t : List ℕ). c.args.text.now ++ t)
    (sym (ap (λ (b : Bool). lines_text c.args.code (if b then [] else opened))
    (eq-eqb c.args.current c.args.topic c.if-current-topic.true)))

pub returns : goal.returns
returns c =
    let code = c.args.code in
    let text = c.args.text.now in
    let topic = topic_lines c.args.topics.now c.args.topic in
    let opened = line Etop 0 [] ∷ topic in
    on_ok c.add_topic.result
    (λ e.
    e
    ∙ (ap (λ (t : List ℕ). t ++ lines_text code topic) c.in_ok-add_line.ensures
    ∙ (append_assoc text (line_text code (line Etop 0 [])) (lines_text code topic)
    ∙ ap (λ (t : List ℕ). text ++ t)
    (sym (flat_map-cons (line_text code) (line Etop 0 []) topic)
    ∙ sym (ap (λ (b : Bool). lines_text code (if b then [] else opened))
    (ne_eqb c.args.current c.args.topic c.if-current-topic.false))))))
    c.add_topic.ensures
