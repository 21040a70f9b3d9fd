use Rattle.std.proofs.Common.{◌↔◌, ℕ, List, sym, subst}
use Rattle.plane.specs.Lists.{Has}
use Rattle.line_sweep.specs.Kinds.{gaps_of}
use Rattle.faces.specs.Joined.{AtBorder}
use Rattle.faces.proofs.BorderHalves.{border_is, small_cells}
use Rattle.faces.proofs.joins.Joins.new.Goals as goal

pub border_of-requires : goal.border_of-requires
border_of-requires c = small_cells c.args.halves c.args.cells.now c.requires.known c.requires.few

pub returns : goal.returns
returns c = record {
  known = c.requires.known;
  rows = c.in_ok-partners.ensures;
  border = λ h. subst (λ (b : List ℕ). Has h b ↔ AtBorder (gaps_of c.args.cells.now) h)
      (sym c.in_ok-border.ensures) (border_is (gaps_of c.args.cells.now) h);
}
