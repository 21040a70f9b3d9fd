-- Words for the contracts of the reader's private functions.
use Rattle.std.specs.Prelude.{◌≡◌, ℕ, List, [], ◌∷◌, ◌++◌, drop, Bool, true, false, Option, Some}
use Rattle.std.specs.Prelude.{None, ⊤, ◌&&◌, ◌||◌, not, cond}
use Rattle.ili_grammar.specs.declared.source.Source.{Source}
use Rattle.ili_grammar.specs.declared.source.Wanted as wanted
use Rattle.ili_grammar.specs.Wants.{symbol_of, is_too_deep}
use Rattle.ili_grammar.specs.declared.syntax.SyntaxFault as fault
use Rattle.ili_grammar.specs.declared.syntax.SyntaxFault.TheVariants as faults
use Rattle.ili_grammar.specs.Tokens.{Kind, name, number, hex, word, VIEW, DERIVATIVES, FIX, FREE}
use Rattle.ili_grammar.specs.Tokens.{STRAIGHTS, DEFAULT, Info, Tok, tok}
use Rattle.ili_grammar.specs.Kinds.{same_kind}
use Rattle.ili_grammar.specs.Syntax.{Ident, Decimal, Elements, an_element}
use Rattle.ili_grammar.specs.Types.{IsElement}
use Rattle.ili_grammar.specs.Numbers.{ident, decimal, whole_code, hex_code}
use Rattle.ili_grammar.specs.Codes.{Code, Expected, EndName, FixFormat, Views, LineForm, Scaling}
use Rattle.ili_grammar.specs.Codes.{Codes, Deep, begins_with_s, code_of}
use Rattle.ili_grammar.specs.Machine.{Sym, blank_value, undefined_value, continue_value}
use Rattle.ili_lexer.specs.declared.keywords.Keyword as keyword
use Rattle.ili_lexer.specs.declared.keywords.Keyword.TheVariants as keywords
use Rattle.ili_grammar.specs.Run.{wants_free, wants_form, wants_end_name, wants_value, Outcome}
use Rattle.ili_grammar.specs.Run.{short, stopped, run}
use Rattle.ili_grammar.specs.Slices.{toks}

abbrev pub all : Source → List Tok
all s = toks s.text.now s.tokens.now

-- the tokens from this one on
abbrev pub rest : Source → ℕ → List Tok
rest s at = drop at (all s)

-- the one list is a token of this kind, and then the other
abbrev pub Leads : Kind → List Tok → List Tok → Type 0
Leads k w v = (i : Info) × (w ≡ tok k i ∷ v)

abbrev pub LeadsName : Ident → List Tok → List Tok → Type 0
LeadsName x w v = (i : Info) × (w ≡ tok name i ∷ v) × (x ≡ ident i)

abbrev pub LeadsNumber : Decimal → List Tok → List Tok → Type 0
LeadsNumber x w v = (i : Info) × (w ≡ tok number i ∷ v) × (x ≡ decimal i)

-- the first token is of this kind
abbrev pub leads_with : Kind → List Tok → Bool
leads_with k [] = false
leads_with k (tok h i ∷ r) = same_kind k h

-- the fault says where a run of the machine stopped, and with which code; out of memory says
-- nothing
abbrev pub IsReportedBy : List Tok → Outcome → fault.SyntaxFault → Type 0
IsReportedBy all o faults.Memory = ⊤
IsReportedBy all short (faults.At c None) = code_of c ≡ Expected
IsReportedBy all (stopped e v) (faults.At c (Some k)) = (code_of c ≡ e) × (v ≡ drop k all)
IsReportedBy all _ (faults.At c t) = ⊥

-- whatever comes after these symbols, the machine stops as the fault says
pub record Refuses (all w : List Tok) (new : List Sym) (f : fault.SyntaxFault) : Type 0 where
  pub told : (stack : List Sym) → IsReportedBy all (run w (new ++ stack)) f

-- something is left to come
abbrev pub Left : List Sym → Type 0
Left [] = ⊥
Left (s ∷ stack) = Unit {0}

-- from the one list and these symbols the machine goes on to the other list and those, where
-- something is left to come
pub record Goes (w : List Tok) (new : List Sym) (v : List Tok) (left : List Sym) : Type 0 where
  pub by : (stack : List Sym) → Left (left ++ stack) → run w (new ++ stack) ≡ run v (left ++ stack)

-- the list after a first token of this kind
abbrev pub past : Kind → List Tok → List Tok
past k [] = []
past k (tok h i ∷ r) = cond (same_kind k h) r (tok h i ∷ r)

-- the bytes of the second token
abbrev pub second : List Tok → List ℕ
second [] = []
second (t ∷ []) = []
second (t ∷ tok k i ∷ r) = i.text

-- the first token is no keyword
abbrev pub NoWord : List Tok → Type 0
NoWord [] = Unit {0}
NoWord (tok (word k) i ∷ r) = ⊥
NoWord (tok _ i ∷ r) = Unit {0}

-- the byte that the first token stands for as a value with this default
abbrev pub value_here : ℕ → List Tok → Option ℕ
value_here d [] = None
value_here d (tok k i ∷ r) =
    cond (same_kind (word DEFAULT) k) (Some d)
    (cond (same_kind number k) (whole_code i.text) (cond (same_kind hex k) (hex_code i.text) None))

-- a symbol for a value: its default, and the bytes that it may not stand for
pub data TakesValue : ℕ → List ℕ → Sym → Type 0 where
  for_blank : TakesValue 95 [] blank_value
  for_undefined : (b : ℕ) → TakesValue 64 (b ∷ []) (undefined_value b)
  for_continue : (b u : ℕ) → TakesValue 92 (b ∷ u ∷ []) (continue_value b u)

-- a type that begins with this keyword is no type of numbers
abbrev pub is_unnumbered : keyword.Keyword → Bool
is_unnumbered keywords.Date = true
is_unnumbered keywords.Halignment = true
is_unnumbered keywords.Valignment = true
is_unnumbered keywords.Polyline = true
is_unnumbered keywords.Surface = true
is_unnumbered keywords.Area = true
is_unnumbered _ = false

-- the first token begins with S and stands directly after a number
abbrev pub scales_here : List Tok → Bool
scales_here [] = false
scales_here (tok k i ∷ r) = i.after_number && begins_with_s i.text

-- the code of the first token, where this must come: the first that fits
abbrev pub code_here : List Tok → wanted.Wanted → Code
code_here w d =
    let s = Some (symbol_of d) in
    cond (leads_with (word VIEW) w || leads_with (word DERIVATIVES) w) Views
    (cond (leads_with (word FIX) w && wants_free s) FixFormat
    (cond (leads_with name w && scales_here w) Scaling
    (cond (leads_with name w && wants_form s) LineForm
    (cond (leads_with name w && wants_end_name s) EndName
    (cond
    ((leads_with number w || (leads_with hex w || leads_with (word DEFAULT) w)) && wants_value s)
    Codes
    (cond (is_too_deep d) Deep Expected))))))

-- a fault at these tokens, where this must come
abbrev pub IsFaultAt : List Tok → List Tok → wanted.Wanted → fault.SyntaxFault → Type 0
IsFaultAt all [] d (faults.At c None) = code_of c ≡ Expected
IsFaultAt all (t ∷ r) d (faults.At c (Some n)) =
    (code_of c ≡ code_here (t ∷ r) d) × (t ∷ r ≡ drop n all)
IsFaultAt all w d f = ⊥

-- neither FREE nor STRAIGHTS nor a Hex, whose absence has a code of its own
abbrev pub is_plain : Kind → Bool
is_plain k = not (same_kind k (word FREE) || (same_kind k (word STRAIGHTS) || same_kind k hex))

-- ---- elements
-- after a name: the parts of its element
abbrev pub ReadsParts : ℕ → Elements → List Tok → List Tok → Type 0
ReadsParts d es w r = (n : Info) → IsElement d (an_element (ident n) es) (tok name n ∷ w) r
