-- The machine's run, with the place and the code of its stop. Only clauses of private functions
-- cite it.
use Rattle.std.specs.Prelude.{◌++◌, ◌≡◌, List, [], ◌∷◌, Option, Some, None, Bool, true, false, cond}
use Rattle.std.specs.Prelude.{◌&&◌, ◌||◌}
use Rattle.ili_grammar.specs.Tokens.{STRAIGHTS, FREE, FIX, DEFAULT, VIEW, DERIVATIVES, name, number}
use Rattle.ili_grammar.specs.Tokens.{hex, word, Kind, Info, Tok, tok}
use Rattle.ili_grammar.specs.Codes.{Code, Expected, EndName, FixFormat, Views, LineForm, Scaling}
use Rattle.ili_grammar.specs.Codes.{Codes, Deep, begins_with_s}
use Rattle.ili_grammar.specs.Kinds.{same_kind}
use Rattle.ili_grammar.specs.Machine.{Sym, want, the_name, forms, blank_value, undefined_value}
use Rattle.ili_grammar.specs.Machine.{continue_value, optional, step, advance, at_limit}

-- what must come: the first symbol that may not be left out
abbrev pub next : List Sym → Option Sym
next [] = None
next (s ∷ stack) = cond (optional s) (next stack) (Some s)

abbrev pub too_deep : List Sym → Kind → Bool
too_deep [] k = false
too_deep (s ∷ stack) k = at_limit s k || cond (optional s) (too_deep stack k) false

abbrev pub wants_free : Option Sym → Bool
wants_free (Some (want k)) = same_kind k (word FREE)
wants_free _ = false

abbrev pub wants_form : Option Sym → Bool
wants_form (Some forms) = true
wants_form (Some (want k)) = same_kind k (word STRAIGHTS)
wants_form _ = false

abbrev pub wants_end_name : Option Sym → Bool
wants_end_name (Some (the_name n)) = true
wants_end_name _ = false

abbrev pub wants_value : Option Sym → Bool
wants_value (Some blank_value) = true
wants_value (Some (want k)) = same_kind k hex
wants_value (Some (undefined_value b)) = true
wants_value (Some (continue_value b u)) = true
wants_value _ = false

-- the code of a stop at a token of this kind: the first that fits; scaled says whether it begins
-- with S directly after a number
abbrev pub code_by : Option Sym → Bool → Kind → Bool → Code
code_by s deep k scaled =
    cond (same_kind (word VIEW) k || same_kind (word DERIVATIVES) k) Views
    (cond (same_kind (word FIX) k && wants_free s) FixFormat
    (cond (same_kind name k && scaled) Scaling
    (cond (same_kind name k && wants_form s) LineForm
    (cond (same_kind name k && wants_end_name s) EndName
    (cond
    ((same_kind number k || (same_kind hex k || same_kind (word DEFAULT) k)) && wants_value s)
    Codes
    (cond deep Deep Expected))))))

abbrev pub code_at : Option Sym → Bool → Kind → Info → Code
code_at s deep k i = code_by s deep k (i.after_number && begins_with_s i.text)

abbrev pub fault_code : List Sym → Tok → Code
fault_code stack (tok k i) = code_at (next stack) (too_deep stack k) k i

-- the tokens are used up, with nothing left to come or with something; or the machine stopped at
-- the first of the tokens left
pub data Outcome : Type 0 where
  whole short : Outcome
  stopped : Code → List Tok → Outcome

abbrev pub onward : Option (List Sym) → (List Sym → Outcome) → Outcome → Outcome
onward None f o = o
onward (Some stack) f o = f stack

abbrev pub run : List Tok → List Sym → Outcome
run [] [] = whole
run [] (s ∷ stack) = short
run (t ∷ ts) stack = onward (advance stack t) (run ts) (stopped (fault_code stack t) (t ∷ ts))

-- ---- leaving out
-- the next token is there, and the symbol neither begins with it nor would at a lesser depth
abbrev pub Passes : Sym → List Tok → Type 0
Passes s [] = ⊥
Passes s (tok k i ∷ ts) = (step s (tok k i) ≡ None) × (at_limit s k ≡ false)

-- ---- stops
-- the run stops at these tokens with this code
abbrev pub StopsAt : Outcome → Code → List Tok → Type 0
StopsAt whole c r = ⊥
StopsAt short c r = (c ≡ Expected) × (r ≡ [])
StopsAt (stopped e v) c r = (e ≡ c) × (v ≡ r)

-- whatever else is to come after these symbols, the machine stops at these tokens with this code
abbrev pub Fails : List Tok → List Sym → Code → List Tok → Type 0
Fails w new c r = (stack : List Sym) → StopsAt (run w (new ++ stack)) c r
