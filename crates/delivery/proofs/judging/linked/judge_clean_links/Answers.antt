use Rattle.std.proofs.Common.{◌≡◌, ℕ, Err, ap, sym, ◌∙◌, subst}
use Rattle.table_layout.specs.Values.{layout_view}
use Rattle.area_links.specs.Answers.{Gives}
use Rattle.area_links.specs.declared.kinds.LinkFault.{LinkFault}
use Rattle.area_links.specs.Rules.{links_of}
use Rattle.delivery.specs.KeptRows.{transfer_so_far}
use Rattle.delivery.proofs.judging.linked.judge_clean_links.Goals as goal

pub ask_links-requires-clause-rules : goal.ask_links-requires-clause-rules
ask_links-requires-clause-rules c = (c.args.links.now, c.in-Ok.ensures)

pub returns-in-Ok : goal.returns-in-Ok
returns-in-Ok c text rows t k few count =
    c.ask_links.ensures text c.args.links.now rows t k few count c.in-Ok.ensures

pub returns-in-Err-Line : goal.returns-in-Err-Line
returns-in-Err-Line c text rows t k few count =
    let l = layout_view c.args.layout.now in
    let links = links_of l c.args.links.now in
    let given : links ≡ Err c.in-Err-Line.line =
    subst (λ (f : LinkFault). Gives links (Err f)) c.in-Err-Line.field-0-is c.in-Err-Line.ensures in (
      transfer_so_far l rows,
      t,
      k.kept.clean,
      few,
      given ∙ ap (λ (n : ℕ). Err n) (sym c.in-Err-Line.line-is),
    )
