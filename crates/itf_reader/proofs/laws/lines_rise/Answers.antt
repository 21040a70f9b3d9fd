use Rattle.itf_lines.specs.LogicalLines.{logical}
use Rattle.itf_reader.proofs.RowLines.{lines_rise}
use Rattle.itf_reader.proofs.laws.lines_rise.Goals as goal

pub returns : goal.returns
returns c form code text transfer h =
    let lines = (logical code text).lines in
    lines_rise form lines transfer h.1 (c.numbers_rise.ensures.rise code text)
