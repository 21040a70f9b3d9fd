use Rattle.std.proofs.Common.{take, arith, length-take}
use Rattle.std.proofs.lemmas.List.Sums.{suffix_len-le-length}
use Rattle.ili_lexer.specs.Bytes.{is_inside_line}
use Rattle.ili_lexer.proofs.places.Place.moved_to.Goals as goal

pub overflow_add-column : goal.overflow_add-column
overflow_add-column c =
    let h = suffix_len-le-length is_inside_line (take c.loop-i.i c.args.text.now) in
    omega (arith, length-take c.loop-i.i c.args.text.now)
