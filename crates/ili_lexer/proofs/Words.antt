-- The keywords and their words, both ways.
use Rattle.std.proofs.Common.{◌≡◌, ℕ, List, [], ◌∷◌, Bool, true, false, cond, Some, refl, sym, ap}
use Rattle.std.proofs.Common.{◌∙◌}
use Rattle.std.specs.Prelude.{◌&&◌}
use Rattle.std.specs.List.{list_all}
use Rattle.std.specs.Str.{bytes_eq}
use Rattle.std.specs.Char.{is_ascii_alphabetic}
use Rattle.std.proofs.lemmas.Slice.Eq.{bytes_eq-Decides}
use Rattle.ili_lexer.specs.declared.keywords.Keyword.{Keyword}
use Rattle.ili_lexer.specs.declared.keywords.Keyword.TheVariants.{Transfer, Domain, Model, Topic}
use Rattle.ili_lexer.specs.declared.keywords.Keyword.TheVariants.{Table, Optional, End, No, Ident}
use Rattle.ili_lexer.specs.declared.keywords.Keyword.TheVariants.{Coord2, Coord3, Dim1, Dim2}
use Rattle.ili_lexer.specs.declared.keywords.Keyword.TheVariants.{Radians, Grads, Degrees, Text}
use Rattle.ili_lexer.specs.declared.keywords.Keyword.TheVariants.{Date, Halignment, Valignment}
use Rattle.ili_lexer.specs.declared.keywords.Keyword.TheVariants.{Polyline, Surface, Area, With}
use Rattle.ili_lexer.specs.declared.keywords.Keyword.TheVariants.{Straights, Arcs, Vertex, Base}
use Rattle.ili_lexer.specs.declared.keywords.Keyword.TheVariants.{Without, Overlaps, Lineattr}
use Rattle.ili_lexer.specs.declared.keywords.Keyword.TheVariants.{Format, Free, Fix, Code, Font}
use Rattle.ili_lexer.specs.declared.keywords.Keyword.TheVariants.{Blank, Undefined, Continue}
use Rattle.ili_lexer.specs.declared.keywords.Keyword.TheVariants.{Default, Tid, I16, I32, Any, View}
use Rattle.ili_lexer.specs.declared.keywords.Keyword.TheVariants.{Derivatives}
use Rattle.ili_lexer.specs.Bytes.{is_name_byte}
use Rattle.ili_lexer.specs.Keywords.{word_of, keywords, keyword_among, keyword_of}

known-among : (k : Keyword) → keyword_among keywords (word_of k) ≡ Some k
known-among Transfer = refl
known-among Domain = refl
known-among Model = refl
known-among Topic = refl
known-among Table = refl
known-among Optional = refl
known-among End = refl
known-among No = refl
known-among Ident = refl
known-among Coord2 = refl
known-among Coord3 = refl
known-among Dim1 = refl
known-among Dim2 = refl
known-among Radians = refl
known-among Grads = refl
known-among Degrees = refl
known-among Text = refl
known-among Date = refl
known-among Halignment = refl
known-among Valignment = refl
known-among Polyline = refl
known-among Surface = refl
known-among Area = refl
known-among With = refl
known-among Straights = refl
known-among Arcs = refl
known-among Vertex = refl
known-among Base = refl
known-among Without = refl
known-among Overlaps = refl
known-among Lineattr = refl
known-among Format = refl
known-among Free = refl
known-among Fix = refl
known-among Code = refl
known-among Font = refl
known-among Blank = refl
known-among Undefined = refl
known-among Continue = refl
known-among Default = refl
known-among Tid = refl
known-among I16 = refl
known-among I32 = refl
known-among Any = refl
known-among View = refl
known-among Derivatives = refl

-- a keyword is found by its word
pub known : (k : Keyword) → keyword_of (word_of k) ≡ Some k
unfolding keyword_of
known k = known-among k

found-among : (ks : List Keyword) (w : List ℕ) (k : Keyword) → keyword_among ks w ≡ Some k
    → w ≡ word_of k
found-among [] w k h = absurd (cc)
found-among (x ∷ ks) w k h = go (found-among ks w k) (bytes_eq (word_of x) w) refl h
  where
    go : (keyword_among ks w ≡ Some k → w ≡ word_of k) → (t : Bool) → bytes_eq (word_of x) w ≡ t
        → cond t (Some x) (keyword_among ks w) ≡ Some k → w ≡ word_of k
    go f true e q =
        let same : word_of x ≡ w = (bytes_eq-Decides (word_of x) w).0 e in
        let p : x ≡ k = cc in sym same ∙ ap word_of p
    go f false e q = f q

-- what is found by a word has that word
pub found : (w : List ℕ) (k : Keyword) → keyword_of w ≡ Some k → w ≡ word_of k
unfolding keyword_of
found w k h = found-among keywords w k h

-- a letter first, then letters, digits and `_`
abbrev pub is_word_form : List ℕ → Bool
is_word_form [] = false
is_word_form (b ∷ bs) = is_ascii_alphabetic b && list_all is_name_byte bs

pub is_word : (k : Keyword) → is_word_form (word_of k) ≡ true
is_word Transfer = refl
is_word Domain = refl
is_word Model = refl
is_word Topic = refl
is_word Table = refl
is_word Optional = refl
is_word End = refl
is_word No = refl
is_word Ident = refl
is_word Coord2 = refl
is_word Coord3 = refl
is_word Dim1 = refl
is_word Dim2 = refl
is_word Radians = refl
is_word Grads = refl
is_word Degrees = refl
is_word Text = refl
is_word Date = refl
is_word Halignment = refl
is_word Valignment = refl
is_word Polyline = refl
is_word Surface = refl
is_word Area = refl
is_word With = refl
is_word Straights = refl
is_word Arcs = refl
is_word Vertex = refl
is_word Base = refl
is_word Without = refl
is_word Overlaps = refl
is_word Lineattr = refl
is_word Format = refl
is_word Free = refl
is_word Fix = refl
is_word Code = refl
is_word Font = refl
is_word Blank = refl
is_word Undefined = refl
is_word Continue = refl
is_word Default = refl
is_word Tid = refl
is_word I16 = refl
is_word I32 = refl
is_word Any = refl
is_word View = refl
is_word Derivatives = refl
