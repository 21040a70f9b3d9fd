-- The tokens of a text stand in its order and in the text.
use Rattle.std.proofs.Common.{◌≡◌, ℕ, ◌+◌, ◌≤◌, ◌<◌, List, [], ◌∷◌, length, drop, sym, subst, arith}
use Rattle.std.proofs.Common.{length-drop}
use Rattle.ili_lexer.specs.declared.fronts.Front.{Front}
use Rattle.ili_lexer.specs.declared.fronts.Front.TheVariants as front
use Rattle.ili_lexer.specs.declared.tokens.Token.{Token}
use Rattle.ili_lexer.specs.Fronts.{front_of, LiesIn}
use Rattle.ili_lexer.specs.Tokens.{Answer, tokens, fault, and_before, token_at, Gives, at_end}
use Rattle.ili_lexer.specs.Tokens.{passing, taking, at_bad_byte, at_open_explanation}
use Rattle.ili_lexer.specs.Tokens.{at_long_number, AreInOrder}
use Rattle.ili_lexer.proofs.ByTable.{is_found}
use Rattle.ili_lexer.proofs.FrontLengths.{IsPartOf, front_fits}

-- what stands behind i bytes is not empty and ends by the end of the text
lies : (text : List ℕ) (i : ℕ) (f : Front) → IsPartOf (drop i text) f → LiesIn (length text) i f
lies text i front.End p = tt
lies text i (front.Passed n) p = (p.some, omega (arith, p.some, p.within, length-drop i text))
lies text i (front.Token k n) p = (p.some, omega (arith, p.some, p.within, length-drop i text))
lies text i front.BadByte p = tt
lies text i front.OpenExplanation p = tt
lies text i front.LongNumber p = tt

pub lies_at : (text : List ℕ) (i : ℕ) (f : Front) → f ≡ front_of (drop i text)
    → LiesIn (length text) i f
lies_at text i f e =
    lies text i f (subst (IsPartOf (drop i text)) (sym e) (front_fits (drop i text)))

-- an earlier begin
earlier : (end i j : ℕ) (ts : List Token) → i ≤ j → AreInOrder end j ts → AreInOrder end i ts
earlier end i j [] h p = omega (arith, p)
earlier end i j (t ∷ ts) h p = (omega (arith, p.0), p.1, p.2)

abbrev InOrder : ℕ → ℕ → Answer → Type 0
InOrder end i (tokens ts) = AreInOrder end i ts
InOrder end i (fault f) = Unit {0}

one_before : (end i : ℕ) (t : Token) (a : Answer) → i ≤ t.from → t.from < t.upto
    → InOrder end t.upto a → InOrder end i (and_before t a)
one_before end i t (tokens ts) h g p = (h, g, p)
one_before end i t (fault f) h g p = tt

in_order_answer : (text : List ℕ) (i : ℕ) (a : Answer) → i ≤ length text → Gives text i a
    → InOrder (length text) i a
in_order_answer text _ _ h (at_end i e) = h
in_order_answer text _ _ h (passing i n a e g) =
    let p = lies_at text i (front.Passed n) (sym (is_found (drop i text) (front.Passed n) e)) in
    sooner (length text) i (i + n) a (omega arith) (in_order_answer text (i + n) a p.1 g)
  where
    sooner : (end i j : ℕ) (a : Answer) → i ≤ j → InOrder end j a → InOrder end i a
    sooner end i j (tokens ts) h p = earlier end i j ts h p
    sooner end i j (fault f) h p = tt
in_order_answer text _ _ h (taking i n k a b e g q) =
    let p = lies_at text i (front.Token k n) (sym (is_found (drop i text) (front.Token k n) e)) in
    subst (InOrder (length text) i) (sym q)
    (one_before (length text) i (token_at text i k n) a (omega arith) (omega (arith, p.0))
    (in_order_answer text (i + n) a p.1 g))
in_order_answer text _ _ h (at_bad_byte i e) = tt
in_order_answer text _ _ h (at_open_explanation i e) = tt
in_order_answer text _ _ h (at_long_number i n e) = tt

pub in_order : (text : List ℕ) (ts : List Token) → Gives text 0 (tokens ts)
    → AreInOrder (length text) 0 ts
in_order text ts g = in_order_answer text 0 (tokens ts) (omega arith) g
