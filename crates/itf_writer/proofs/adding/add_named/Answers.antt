use Rattle.std.proofs.Common.{◌≡◌, ◌∙◌, ◌++◌, ◌∷◌, [], List, ap, sym, ℕ, append_assoc}
use Rattle.itf_writer.specs.Canonical.{spelt}
use Rattle.itf_writer.specs.Ends.{end_by}
use Rattle.itf_writer.proofs.Ends.{named_is}
use Rattle.itf_writer.proofs.FeedSteps.{on_ok}
use Rattle.itf_writer.proofs.adding.add_named.Goals as goal

pub returns : goal.returns
returns c =
    let code = c.args.code in
    let text = c.args.text.now in
    let word = c.spelt.result.now in
    let field = c.args.field.now in
    let end = end_by code c.last_of.result in
    let put = c.in_ok-add-3.ensures
    ∙ ap (λ (t : List ℕ). t ++ field) (c.in_ok-add-2.ensures
    ∙ ap (λ (t : List ℕ). t ++ 32 ∷ []) c.in_ok-add.ensures) in
    on_ok c.add_end.result
    (λ e.
    e
    ∙ (ap (λ (t : List ℕ). t ++ end) (put
    ∙ (append_assoc (text ++ word) (32 ∷ []) field
    ∙ append_assoc text word ((32 ∷ []) ++ field)))
    ∙ (append_assoc text (word ++ ((32 ∷ []) ++ field)) end
    ∙ ap (λ (t : List ℕ). text ++ t)
    (ap (λ (t : List ℕ). t ++ end) (sym (append_assoc word (32 ∷ []) field))
    ∙ named_is code c.last_of.result (spelt c.args.word) word field c.spelt.ensures c.requires
    c.last_of.ensures))))
    c.add_end.ensures
