-- A keyword that begins no type of numbers, where one of them must stand.
use Rattle.std.proofs.Common.{◌≡◌, ◌∷◌, [], ℕ, zero, suc, List, None, false, refl, sym, subst}
use Rattle.ili_lexer.specs.declared.keywords.Keyword as keyword
use Rattle.ili_lexer.specs.declared.keywords.Keyword.TheVariants as keywords
use Rattle.ili_grammar.specs.declared.source.Wanted.TheVariants as wants
use Rattle.ili_grammar.specs.declared.syntax.SyntaxFault as fault
use Rattle.ili_grammar.specs.Tokens.{word, Info, Tok, tok}
use Rattle.ili_grammar.specs.Kinds.{On}
use Rattle.ili_grammar.specs.Slices.{word_of}
use Rattle.ili_grammar.specs.Machine.{a_type, step, at_limit}
use Rattle.ili_grammar.specs.Steps.{Refuses, Leads, IsFaultAt, is_unnumbered}
use Rattle.ili_grammar.proofs.Stops.{Stuck, stops}
use Rattle.ili_grammar.proofs.Stuck.{type_asks}

no_step : (d : ℕ) (k : keyword.Keyword) (i : Info) → is_unnumbered k ≡ false
    → (k ≡ keywords.Text → ⊥) → (k ≡ keywords.Coord2 → ⊥) → (k ≡ keywords.Coord3 → ⊥)
    → (k ≡ keywords.Dim1 → ⊥) → (k ≡ keywords.Dim2 → ⊥) → (k ≡ keywords.Radians → ⊥)
    → (k ≡ keywords.Grads → ⊥) → (k ≡ keywords.Degrees → ⊥)
    → step (a_type d) (tok (word (word_of k)) i) ≡ None
no_step zero keywords.Transfer i n a b c d e f g h = refl
no_step zero keywords.Domain i n a b c d e f g h = refl
no_step zero keywords.Model i n a b c d e f g h = refl
no_step zero keywords.Topic i n a b c d e f g h = refl
no_step zero keywords.Table i n a b c d e f g h = refl
no_step zero keywords.Optional i n a b c d e f g h = refl
no_step zero keywords.End i n a b c d e f g h = refl
no_step zero keywords.No i n a b c d e f g h = refl
no_step zero keywords.Ident i n a b c d e f g h = refl
no_step zero keywords.Coord2 i n a b c d e f g h = absurd (b refl)
no_step zero keywords.Coord3 i n a b c d e f g h = absurd (c refl)
no_step zero keywords.Dim1 i n a b c d e f g h = absurd (d refl)
no_step zero keywords.Dim2 i n a b c d e f g h = absurd (e refl)
no_step zero keywords.Radians i n a b c d e f g h = absurd (f refl)
no_step zero keywords.Grads i n a b c d e f g h = absurd (g refl)
no_step zero keywords.Degrees i n a b c d e f g h = absurd (h refl)
no_step zero keywords.Text i n a b c d e f g h = absurd (a refl)
no_step zero keywords.Date i n a b c d e f g h = absurd (subst On n tt)
no_step zero keywords.Halignment i n a b c d e f g h = absurd (subst On n tt)
no_step zero keywords.Valignment i n a b c d e f g h = absurd (subst On n tt)
no_step zero keywords.Polyline i n a b c d e f g h = absurd (subst On n tt)
no_step zero keywords.Surface i n a b c d e f g h = absurd (subst On n tt)
no_step zero keywords.Area i n a b c d e f g h = absurd (subst On n tt)
no_step zero keywords.With i n a b c d e f g h = refl
no_step zero keywords.Straights i n a b c d e f g h = refl
no_step zero keywords.Arcs i n a b c d e f g h = refl
no_step zero keywords.Vertex i n a b c d e f g h = refl
no_step zero keywords.Base i n a b c d e f g h = refl
no_step zero keywords.Without i n a b c d e f g h = refl
no_step zero keywords.Overlaps i n a b c d e f g h = refl
no_step zero keywords.Lineattr i n a b c d e f g h = refl
no_step zero keywords.Format i n a b c d e f g h = refl
no_step zero keywords.Free i n a b c d e f g h = refl
no_step zero keywords.Fix i n a b c d e f g h = refl
no_step zero keywords.Code i n a b c d e f g h = refl
no_step zero keywords.Font i n a b c d e f g h = refl
no_step zero keywords.Blank i n a b c d e f g h = refl
no_step zero keywords.Undefined i n a b c d e f g h = refl
no_step zero keywords.Continue i n a b c d e f g h = refl
no_step zero keywords.Default i n a b c d e f g h = refl
no_step zero keywords.Tid i n a b c d e f g h = refl
no_step zero keywords.I16 i n a b c d e f g h = refl
no_step zero keywords.I32 i n a b c d e f g h = refl
no_step zero keywords.Any i n a b c d e f g h = refl
no_step zero keywords.View i n a b c d e f g h = refl
no_step zero keywords.Derivatives i n a b c d e f g h = refl
no_step (suc z) keywords.Transfer i n a b c d e f g h = refl
no_step (suc z) keywords.Domain i n a b c d e f g h = refl
no_step (suc z) keywords.Model i n a b c d e f g h = refl
no_step (suc z) keywords.Topic i n a b c d e f g h = refl
no_step (suc z) keywords.Table i n a b c d e f g h = refl
no_step (suc z) keywords.Optional i n a b c d e f g h = refl
no_step (suc z) keywords.End i n a b c d e f g h = refl
no_step (suc z) keywords.No i n a b c d e f g h = refl
no_step (suc z) keywords.Ident i n a b c d e f g h = refl
no_step (suc z) keywords.Coord2 i n a b c d e f g h = absurd (b refl)
no_step (suc z) keywords.Coord3 i n a b c d e f g h = absurd (c refl)
no_step (suc z) keywords.Dim1 i n a b c d e f g h = absurd (d refl)
no_step (suc z) keywords.Dim2 i n a b c d e f g h = absurd (e refl)
no_step (suc z) keywords.Radians i n a b c d e f g h = absurd (f refl)
no_step (suc z) keywords.Grads i n a b c d e f g h = absurd (g refl)
no_step (suc z) keywords.Degrees i n a b c d e f g h = absurd (h refl)
no_step (suc z) keywords.Text i n a b c d e f g h = absurd (a refl)
no_step (suc z) keywords.Date i n a b c d e f g h = absurd (subst On n tt)
no_step (suc z) keywords.Halignment i n a b c d e f g h = absurd (subst On n tt)
no_step (suc z) keywords.Valignment i n a b c d e f g h = absurd (subst On n tt)
no_step (suc z) keywords.Polyline i n a b c d e f g h = absurd (subst On n tt)
no_step (suc z) keywords.Surface i n a b c d e f g h = absurd (subst On n tt)
no_step (suc z) keywords.Area i n a b c d e f g h = absurd (subst On n tt)
no_step (suc z) keywords.With i n a b c d e f g h = refl
no_step (suc z) keywords.Straights i n a b c d e f g h = refl
no_step (suc z) keywords.Arcs i n a b c d e f g h = refl
no_step (suc z) keywords.Vertex i n a b c d e f g h = refl
no_step (suc z) keywords.Base i n a b c d e f g h = refl
no_step (suc z) keywords.Without i n a b c d e f g h = refl
no_step (suc z) keywords.Overlaps i n a b c d e f g h = refl
no_step (suc z) keywords.Lineattr i n a b c d e f g h = refl
no_step (suc z) keywords.Format i n a b c d e f g h = refl
no_step (suc z) keywords.Free i n a b c d e f g h = refl
no_step (suc z) keywords.Fix i n a b c d e f g h = refl
no_step (suc z) keywords.Code i n a b c d e f g h = refl
no_step (suc z) keywords.Font i n a b c d e f g h = refl
no_step (suc z) keywords.Blank i n a b c d e f g h = refl
no_step (suc z) keywords.Undefined i n a b c d e f g h = refl
no_step (suc z) keywords.Continue i n a b c d e f g h = refl
no_step (suc z) keywords.Default i n a b c d e f g h = refl
no_step (suc z) keywords.Tid i n a b c d e f g h = refl
no_step (suc z) keywords.I16 i n a b c d e f g h = refl
no_step (suc z) keywords.I32 i n a b c d e f g h = refl
no_step (suc z) keywords.Any i n a b c d e f g h = refl
no_step (suc z) keywords.View i n a b c d e f g h = refl
no_step (suc z) keywords.Derivatives i n a b c d e f g h = refl

pub numbered : (k : keyword.Keyword) → (k ≡ keywords.Date → ⊥) → (k ≡ keywords.Halignment → ⊥)
    → (k ≡ keywords.Valignment → ⊥) → (k ≡ keywords.Polyline → ⊥) → (k ≡ keywords.Surface → ⊥)
    → (k ≡ keywords.Area → ⊥) → is_unnumbered k ≡ false
numbered keywords.Transfer a b c d e f = refl
numbered keywords.Domain a b c d e f = refl
numbered keywords.Model a b c d e f = refl
numbered keywords.Topic a b c d e f = refl
numbered keywords.Table a b c d e f = refl
numbered keywords.Optional a b c d e f = refl
numbered keywords.End a b c d e f = refl
numbered keywords.No a b c d e f = refl
numbered keywords.Ident a b c d e f = refl
numbered keywords.Coord2 a b c d e f = refl
numbered keywords.Coord3 a b c d e f = refl
numbered keywords.Dim1 a b c d e f = refl
numbered keywords.Dim2 a b c d e f = refl
numbered keywords.Radians a b c d e f = refl
numbered keywords.Grads a b c d e f = refl
numbered keywords.Degrees a b c d e f = refl
numbered keywords.Text a b c d e f = refl
numbered keywords.Date a b c d e f = absurd (a refl)
numbered keywords.Halignment a b c d e f = absurd (b refl)
numbered keywords.Valignment a b c d e f = absurd (c refl)
numbered keywords.Polyline a b c d e f = absurd (d refl)
numbered keywords.Surface a b c d e f = absurd (e refl)
numbered keywords.Area a b c d e f = absurd (f refl)
numbered keywords.With a b c d e f = refl
numbered keywords.Straights a b c d e f = refl
numbered keywords.Arcs a b c d e f = refl
numbered keywords.Vertex a b c d e f = refl
numbered keywords.Base a b c d e f = refl
numbered keywords.Without a b c d e f = refl
numbered keywords.Overlaps a b c d e f = refl
numbered keywords.Lineattr a b c d e f = refl
numbered keywords.Format a b c d e f = refl
numbered keywords.Free a b c d e f = refl
numbered keywords.Fix a b c d e f = refl
numbered keywords.Code a b c d e f = refl
numbered keywords.Font a b c d e f = refl
numbered keywords.Blank a b c d e f = refl
numbered keywords.Undefined a b c d e f = refl
numbered keywords.Continue a b c d e f = refl
numbered keywords.Default a b c d e f = refl
numbered keywords.Tid a b c d e f = refl
numbered keywords.I16 a b c d e f = refl
numbered keywords.I32 a b c d e f = refl
numbered keywords.Any a b c d e f = refl
numbered keywords.View a b c d e f = refl
numbered keywords.Derivatives a b c d e f = refl

no_limit : (d : ℕ) (k : keyword.Keyword) → at_limit (a_type d) (word (word_of k)) ≡ false
no_limit zero keywords.Transfer = refl
no_limit zero keywords.Domain = refl
no_limit zero keywords.Model = refl
no_limit zero keywords.Topic = refl
no_limit zero keywords.Table = refl
no_limit zero keywords.Optional = refl
no_limit zero keywords.End = refl
no_limit zero keywords.No = refl
no_limit zero keywords.Ident = refl
no_limit zero keywords.Coord2 = refl
no_limit zero keywords.Coord3 = refl
no_limit zero keywords.Dim1 = refl
no_limit zero keywords.Dim2 = refl
no_limit zero keywords.Radians = refl
no_limit zero keywords.Grads = refl
no_limit zero keywords.Degrees = refl
no_limit zero keywords.Text = refl
no_limit zero keywords.Date = refl
no_limit zero keywords.Halignment = refl
no_limit zero keywords.Valignment = refl
no_limit zero keywords.Polyline = refl
no_limit zero keywords.Surface = refl
no_limit zero keywords.Area = refl
no_limit zero keywords.With = refl
no_limit zero keywords.Straights = refl
no_limit zero keywords.Arcs = refl
no_limit zero keywords.Vertex = refl
no_limit zero keywords.Base = refl
no_limit zero keywords.Without = refl
no_limit zero keywords.Overlaps = refl
no_limit zero keywords.Lineattr = refl
no_limit zero keywords.Format = refl
no_limit zero keywords.Free = refl
no_limit zero keywords.Fix = refl
no_limit zero keywords.Code = refl
no_limit zero keywords.Font = refl
no_limit zero keywords.Blank = refl
no_limit zero keywords.Undefined = refl
no_limit zero keywords.Continue = refl
no_limit zero keywords.Default = refl
no_limit zero keywords.Tid = refl
no_limit zero keywords.I16 = refl
no_limit zero keywords.I32 = refl
no_limit zero keywords.Any = refl
no_limit zero keywords.View = refl
no_limit zero keywords.Derivatives = refl
no_limit (suc d) k = refl

pub stuck_word : (all w u : List Tok) (n : ℕ) (k : keyword.Keyword) (f : fault.SyntaxFault)
    → Leads (word (word_of k)) w u → is_unnumbered k ≡ false → (k ≡ keywords.Text → ⊥)
    → (k ≡ keywords.Coord2 → ⊥) → (k ≡ keywords.Coord3 → ⊥) → (k ≡ keywords.Dim1 → ⊥)
    → (k ≡ keywords.Dim2 → ⊥) → (k ≡ keywords.Radians → ⊥) → (k ≡ keywords.Grads → ⊥)
    → (k ≡ keywords.Degrees → ⊥) → IsFaultAt all w wants.Other f → Refuses all w (a_type n ∷ []) f
stuck_word all w u n k fault (i, q) m a b c d e f g h x =
    stops all w (a_type n) wants.Other fault (type_asks n)
    (subst (Stuck (a_type n) wants.Other) (sym q) (no_step n k i m a b c d e f g h, no_limit n k)) x
