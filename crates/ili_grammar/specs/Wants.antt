-- What must come, as the machine sees it. Only clauses of private functions cite it.
use Rattle.std.specs.Prelude.{[], Bool, true, false}
use Rattle.ili_grammar.specs.declared.source.Wanted.{Wanted}
use Rattle.ili_grammar.specs.declared.source.Wanted.TheVariants as wants
use Rattle.ili_grammar.specs.Tokens.{word, FREE, semicolon}
use Rattle.ili_grammar.specs.Machine.{Sym, want, the_name, forms, blank_value}

-- what must come, as the machine sees it
abbrev pub symbol_of : Wanted → Sym
symbol_of wants.Free = want (word FREE)
symbol_of wants.LineForm = forms
symbol_of wants.EndName = the_name []
symbol_of wants.Value = blank_value
symbol_of wants.Shallower = want semicolon
symbol_of wants.Other = want semicolon

abbrev pub is_too_deep : Wanted → Bool
is_too_deep wants.Shallower = true
is_too_deep _ = false
