-- A text gives one answer.
use Rattle.std.proofs.Common.{◌≡◌, ℕ, ◌+◌, List, [], take, drop, refl, sym, ap, ◌∙◌, subst}
use Rattle.ili_lexer.specs.declared.fronts.Front.{Front}
use Rattle.ili_lexer.specs.declared.fronts.Front.TheVariants as front
use Rattle.ili_lexer.specs.Fronts.{front_of}
use Rattle.ili_lexer.specs.Places.{line_after, column_after}
use Rattle.ili_lexer.specs.declared.tokens.LexFault.TheVariants as faults
use Rattle.ili_lexer.specs.Tokens.{Answer, tokens, fault, and_before, token_at, Gives, at_end}
use Rattle.ili_lexer.specs.Tokens.{passing, taking, at_bad_byte, at_open_explanation}
use Rattle.ili_lexer.specs.Tokens.{at_long_number}
use Rattle.ili_lexer.proofs.ByTable.{is_found}

-- what an answer is where this stands at the front
abbrev Follows : List ℕ → ℕ → Front → Answer → Type 0
Follows text i front.End a = a ≡ tokens []
Follows text i (front.Passed n) a = Gives text (i + n) a
Follows text i (front.Token k n) a =
    (b : Answer) × (Gives text (i + n) b) × (a ≡ and_before (token_at text i k n) b)
Follows text i front.BadByte a =
    a ≡ fault (faults.BadByte (line_after (take i text)) (column_after (take i text)))
Follows text i front.OpenExplanation a =
    a ≡ fault (faults.OpenExplanation (line_after (take i text)) (column_after (take i text)))
Follows text i front.LongNumber a =
    a ≡ fault (faults.LongNumber (line_after (take i text)) (column_after (take i text)))

follows : (text : List ℕ) (i : ℕ) (a : Answer) → Gives text i a
    → Follows text i (front_of (drop i text)) a
follows text _ _ (at_end i e) =
    subst (λ (f : Front). Follows text i f (tokens []))
    (sym (is_found (drop i text) front.End e)) refl
follows text _ _ (passing i n a e g) =
    subst (λ (f : Front). Follows text i f a) (sym (is_found (drop i text) (front.Passed n) e)) g
follows text _ _ (taking i n k a b e g q) =
    subst (λ (f : Front). Follows text i f b) (sym (is_found (drop i text) (front.Token k n) e))
    (a, g, q)
follows text _ _ (at_bad_byte i e) =
    subst (λ (f : Front). Follows text i f
    (fault (faults.BadByte (line_after (take i text)) (column_after (take i text)))))
    (sym (is_found (drop i text) front.BadByte e)) refl
follows text _ _ (at_open_explanation i e) =
    subst (λ (f : Front). Follows text i f
    (fault (faults.OpenExplanation (line_after (take i text)) (column_after (take i text)))))
    (sym (is_found (drop i text) front.OpenExplanation e)) refl
follows text _ _ (at_long_number i n e) =
    subst (λ (f : Front). Follows text i f
    (fault (faults.LongNumber (line_after (take i text)) (column_after (take i text)))))
    (sym (is_found (drop i text) front.LongNumber (n, e))) refl

at_front : (text : List ℕ) (i : ℕ) (f : Front) (a : Answer) → front_of (drop i text) ≡ f
    → Gives text i a → Follows text i f a
at_front text i f a e g = subst (λ (f : Front). Follows text i f a) e (follows text i a g)

pub one_answer : (text : List ℕ) (i : ℕ) (a b : Answer) → Gives text i a → Gives text i b → a ≡ b
one_answer text _ _ b (at_end i e) h =
    sym (at_front text i front.End b (is_found (drop i text) front.End e) h)
one_answer text _ _ b (passing i n a e g) h =
    one_answer text (i + n) a b g
    (at_front text i (front.Passed n) b (is_found (drop i text) (front.Passed n) e) h)
one_answer text _ _ b (taking i n k a c e g q) h =
    let f = at_front text i (front.Token k n) b (is_found (drop i text) (front.Token k n) e) h in
    q ∙ ap (and_before (token_at text i k n)) (one_answer text (i + n) a f.0 g f.1) ∙ sym f.2
one_answer text _ _ b (at_bad_byte i e) h =
    sym (at_front text i front.BadByte b (is_found (drop i text) front.BadByte e) h)
one_answer text _ _ b (at_open_explanation i e) h =
    sym (at_front text i front.OpenExplanation b (is_found (drop i text) front.OpenExplanation e) h)
one_answer text _ _ b (at_long_number i n e) h =
    sym (at_front text i front.LongNumber b (is_found (drop i text) front.LongNumber (n, e)) h)
