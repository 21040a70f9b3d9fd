use Rattle.std.proofs.Common.{ℕ, List, ap, ◌∙◌}
use Rattle.table_layout.specs.Values.{layout_view}
use Rattle.commands.proofs.Results.{if_ok}
use Rattle.reports.specs.Outcomes.{canonical}
use Rattle.delivery.specs.Judging.{objects}
use Rattle.delivery.specs.KeptRows.{transfer_so_far}
use Rattle.delivery.specs.Rewriting.{without_text, written}
use Rattle.delivery.proofs.rows.rewritten.Goals as goal

pub returns-then-layout-eq84 : goal.returns-then-layout-eq84
returns-then-layout-eq84 c text k =
    let l = layout_view c.args.layout.now in
    if_ok _ _ c.canon_refused.result
    (λ o e. without_text (transfer_so_far l k.rows) k.has_rows c.if-layout-eq84.true e)
    c.canon_refused.ensures

pub finish-requires-clause-fed : goal.finish-requires-clause-fed
finish-requires-clause-fed c = let k = c.requires.text.1 in (k.rows, k.taken)

pub returns : goal.returns
returns c text k =
    let l = layout_view c.args.layout.now in
    let t = transfer_so_far l k.rows in
    let name = c.args.file.now in
    let n = c.count_objects-objects.ensures k.rows k.taken in
    let s = c.in_ok-text.ensures k.rows k.taken in
    if_ok _ _ c.canonical.result
    (λ o e. written t k.has_rows c.if-layout-eq84.false
    (e ∙ (ap (λ (m : ℕ). canonical name m c.in_ok-text.text) n
    ∙ ap (λ (x : List ℕ). canonical name (objects t) x) s)))
    c.canonical.ensures
