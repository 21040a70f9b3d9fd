use Rattle.std.proofs.Common.{refl}
use Rattle.ili_lexer.specs.Keywords.{keyword_of}
use Rattle.ili_lexer.proofs.keywords.find_keyword.Goals as goal

-- each word of the table is its keyword's
pub find_among-requires : goal.find_among-requires
find_among-requires c = refl

pub returns : goal.returns
unfolding keyword_of
returns c = c.find_among.ensures
