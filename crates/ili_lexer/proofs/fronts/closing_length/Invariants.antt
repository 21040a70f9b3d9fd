use Rattle.std.proofs.Common.{◌≡◌, ◌+◌, drop}
use Rattle.std.specs.Option.{option_map}
use Rattle.ili_lexer.specs.Fronts.{closing}
use Rattle.ili_lexer.proofs.fronts.closing_length.Given as goal

-- what the whole text answers is what the rest answers, with the bytes passed over
abbrev pub invariant-loop-i : goal.invariant-loop-i
invariant-loop-i l = closing l.text ≡ option_map (λ n. l.i + n) (closing (drop l.i l.text))
