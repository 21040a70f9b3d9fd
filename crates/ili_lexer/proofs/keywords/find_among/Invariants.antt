use Rattle.std.proofs.Common.{◌≡◌, map, drop}
use Rattle.ili_lexer.specs.Keywords.{word_of, keyword_among}
use Rattle.ili_lexer.proofs.keywords.find_among.Given as goal

-- none so far has the word, and the rest have theirs
abbrev pub invariant-loop-keyword : goal.invariant-loop-keyword
invariant-loop-keyword l =
    (keyword_among (map (λ w. w.0) l.words) l.word
    ≡ keyword_among (map (λ w. w.0) (drop l.keyword-index l.words)) l.word)
    × (map (λ w. w.1.now) (drop l.keyword-index l.words)
    ≡ map (λ w. word_of w.0) (drop l.keyword-index l.words))
