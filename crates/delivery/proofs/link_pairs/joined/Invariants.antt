-- The pairs so far, before those of the lines that are left.
use Rattle.std.proofs.Common.{◌≡◌, ◌++◌, drop}
use Rattle.ident_refs.specs.KeptViews.{named_view}
use Rattle.delivery.specs.LinkJoins.{joined}
use Rattle.delivery.proofs.link_pairs.joined.Given as goal

abbrev pub invariant-loop-line : goal.invariant-loop-line
invariant-loop-line l =
    l.pairs.items ++ joined l.numbers (drop l.line-index l.lines) l.points_left
    (named_view l.names_left) ≡ joined l.numbers l.lines l.points (named_view l.names)
