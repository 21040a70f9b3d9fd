-- Faults of the reader and stops of the machine.
use Rattle.std.proofs.Common.{◌≡◌, ℕ, List, [], ◌∷◌, drop, length, ◌<◌, ◌≤◌, Some, None, Bool, true}
use Rattle.std.proofs.Common.{false, ◌||◌, not, refl, sym, subst}
use Rattle.std.proofs.Math.Bool.{or-false}
use Rattle.std.proofs.lemmas.Bool.{or_parts}
use Rattle.ili_lexer.specs.declared.tokens.Token.{Token}
use Rattle.ili_grammar.specs.declared.source.Wanted as wanted
use Rattle.ili_grammar.specs.declared.source.Wanted.TheVariants as wants
use Rattle.ili_grammar.specs.declared.syntax.SyntaxCode as code
use Rattle.ili_grammar.specs.declared.syntax.SyntaxCode.TheVariants as codes
use Rattle.ili_grammar.specs.declared.syntax.SyntaxFault as fault
use Rattle.ili_grammar.specs.declared.syntax.SyntaxFault.TheVariants as faults
use Rattle.ili_grammar.specs.Tokens.{Kind, hex, word, FREE, STRAIGHTS, Tok, tok}
use Rattle.ili_grammar.specs.Kinds.{same_kind, Not, Off}
use Rattle.ili_grammar.specs.Machine.{Sym, want, optional, step, at_limit}
use Rattle.ili_grammar.specs.Run.{wants_free, wants_form, wants_end_name, wants_value}
use Rattle.ili_grammar.specs.Slices.{toks}
use Rattle.ili_grammar.specs.Codes.{code_of}
use Rattle.ili_grammar.specs.Wants.{symbol_of, is_too_deep}
use Rattle.ili_grammar.specs.Steps.{Refuses, IsFaultAt, code_here, is_plain}
use Rattle.ili_grammar.proofs.Leads.{nothing, leads, none_left}

-- ---- faults
pub fault_here : (text : List ℕ) (ts : List Token) (i : ℕ) (d : wanted.Wanted) (c : code.SyntaxCode)
    → i < length ts → code_of c ≡ code_here (drop i (toks text ts)) d
    → IsFaultAt (toks text ts) (drop i (toks text ts)) d (faults.At c (Some i))
fault_here text ts i d c h e = told (drop i (toks text ts)) _ _ (leads text ts i nothing h) refl e
  where
    told : (w : List Tok) (t : Tok) (r : List Tok) → w ≡ t ∷ r → drop i (toks text ts) ≡ w
        → code_of c ≡ code_here w d → IsFaultAt (toks text ts) w d (faults.At c (Some i))
    told w t r e f g =
        subst (λ (w : List Tok). drop i (toks text ts) ≡ w → code_of c ≡ code_here w d
        → IsFaultAt (toks text ts) w d (faults.At c (Some i))) (sym e) (λ f g. (g, sym f)) f g

pub fault_at_end : (text : List ℕ) (ts : List Token) (i : ℕ) (d : wanted.Wanted) → length ts ≤ i
    → IsFaultAt (toks text ts) (drop i (toks text ts)) d (faults.At codes.Expected None)
fault_at_end text ts i d h =
    subst (λ (w : List Tok). IsFaultAt (toks text ts) w d (faults.At codes.Expected None))
    (sym (none_left text ts i h)) refl

-- ---- stops
-- a symbol that may not be left out asks for what must come
pub record AsksFor (x : Sym) (d : wanted.Wanted) : Type 0 where
  pub must : optional x ≡ false
  pub free : wants_free (Some x) ≡ wants_free (Some (symbol_of d))
  pub form : wants_form (Some x) ≡ wants_form (Some (symbol_of d))
  pub end_name : wants_end_name (Some x) ≡ wants_end_name (Some (symbol_of d))
  pub value : wants_value (Some x) ≡ wants_value (Some (symbol_of d))

-- the symbol takes no step by the first token
abbrev pub Stuck : Sym → wanted.Wanted → List Tok → Type 0
Stuck x d [] = Unit {0}
Stuck x d (tok k i ∷ r) = (step x (tok k i) ≡ None) × (at_limit x k ≡ is_too_deep d)

pub stops : (all w : List Tok) (x : Sym) (d : wanted.Wanted) (f : fault.SyntaxFault) → AsksFor x d
    → Stuck x d w → IsFaultAt all w d f → Refuses all w (x ∷ []) f
stops all [] x d (faults.At c None) a h e = record { told = λ stack. e }
stops all [] x d (faults.At c (Some n)) a h e = absurd e
stops all [] x d faults.Memory a h e = absurd e
stops all (tok k i ∷ r) x d (faults.At c None) a h e = absurd e
stops all (tok k i ∷ r) x d (faults.At c (Some n)) a h e =
    record {
      told = λ stack. rw (h.0, a.must, a.free, a.form, a.end_name, a.value, h.1, or-false)
          e;
    }
stops all (tok k i ∷ r) x d faults.Memory a h e = absurd e

-- a single token that must come
pub wants_plain : (k : Kind) → is_plain k ≡ true → AsksFor (want k) wants.Other
wants_plain k h =
    let p = not_true (same_kind k (word FREE) || (same_kind k (word STRAIGHTS) || same_kind k hex))
    h in
    let q = or_parts (same_kind k (word FREE))
    (same_kind k (word STRAIGHTS) || same_kind k hex) p in
    let r = or_parts (same_kind k (word STRAIGHTS)) (same_kind k hex) q.1 in
    record { must = refl; free = q.0; form = r.0; end_name = refl; value = r.1 }
  where
    not_true : (b : Bool) → not b ≡ true → b ≡ false
    not_true true h = sym h
    not_true false h = refl

pub off : (b : Bool) → Off b → b ≡ false
off true h = absurd h
off false h = refl

-- no step by a token of another kind
pub stuck_want : (k : Kind) (w : List Tok) → Not k w → Stuck (want k) wants.Other w
stuck_want k [] n = tt
stuck_want k (tok h i ∷ r) n = (rw (off (same_kind k h) n) refl, refl)

pub stops_want : (all w : List Tok) (k : Kind) (f : fault.SyntaxFault) → is_plain k ≡ true → Not k w
    → IsFaultAt all w wants.Other f → Refuses all w (want k ∷ []) f
stops_want all w k f h n e =
    stops all w (want k) wants.Other f (wants_plain k h) (stuck_want k w n) e

pub stops_free : (all w : List Tok) (f : fault.SyntaxFault) → Not (word FREE) w
    → IsFaultAt all w wants.Free f → Refuses all w (want (word FREE) ∷ []) f
stops_free all w f n e =
    stops all w (want (word FREE)) wants.Free f (record {
      must = refl;
      free = refl;
      form = refl;
      end_name = refl;
      value = refl;
    }) (stuck w n) e
  where
    stuck : (w : List Tok) → Not (word FREE) w → Stuck (want (word FREE)) wants.Free w
    stuck [] n = tt
    stuck (tok h i ∷ r) n = (rw (off (same_kind (word FREE) h) n) refl, refl)
