-- The tokens of a text and its fault, by the table of tokens.
use Rattle.std.proofs.Common.{◌≡◌, ℕ, ◌+◌, ◌-◌, ◌≤◌, List, length, take, drop, refl, sym, subst}
use Rattle.std.proofs.Common.{arith}
use Rattle.std.proofs.lemmas.List.Elements.{All-nil, All-cons}
use Rattle.ili_lexer.specs.declared.fronts.Front.TheVariants as front
use Rattle.ili_lexer.specs.declared.tokens.Token.{Token}
use Rattle.ili_lexer.specs.declared.tokens.LexFault.{LexFault}
use Rattle.ili_lexer.specs.Places.{line_after, column_after}
use Rattle.ili_lexer.specs.Longest.{IsTaken, IsBad, IsOpen, IsTooLong}
use Rattle.ili_lexer.specs.Tokens.{Answer, tokens, fault, and_before, token_at, Gives, at_end}
use Rattle.ili_lexer.specs.Tokens.{passing, taking, at_bad_byte, at_open_explanation}
use Rattle.ili_lexer.specs.Tokens.{at_long_number, AreLongest, IsAt, IsFaultByTable}
use Rattle.ili_lexer.proofs.Orders.{lies_at}
use Rattle.ili_lexer.proofs.ByTable.{is_found}

abbrev IsRight : List ℕ → Answer → Type 0
IsRight text (tokens ts) = AreLongest text ts
IsRight text (fault f) = IsFaultByTable text f

right_before : (text : List ℕ) (t : Token) (a : Answer)
    → IsTaken (drop t.from text) t.kind (t.upto - t.from) → IsRight text a
    → IsRight text (and_before t a)
right_before text t (tokens ts) h p =
    All-cons (λ (t : Token). IsTaken (drop t.from text) t.kind (t.upto - t.from)) t ts h p
right_before text t (fault f) h p = p

is_at : (text : List ℕ) (i : ℕ) (IsSo : List ℕ → Type 0) → i ≤ length text → IsSo (drop i text)
    → IsAt text (line_after (take i text)) (column_after (take i text)) IsSo
is_at text i IsSo h s = record {
  offset = i;
  place = record { within = h; on_line = refl; at_column = refl };
  so = s;
}

is_right : (text : List ℕ) (i : ℕ) (a : Answer) → i ≤ length text → Gives text i a → IsRight text a
is_right text _ _ h (at_end i e) =
    All-nil (λ (t : Token). IsTaken (drop t.from text) t.kind (t.upto - t.from))
is_right text _ _ h (passing i n a e g) =
    is_right text (i + n) a
    (lies_at text i (front.Passed n) (sym (is_found (drop i text) (front.Passed n) e))).1 g
is_right text _ _ h (taking i n k a b e g q) =
    let length-n : n ≡ (i + n) - i = omega arith in
    subst (IsRight text) (sym q)
    (right_before text (token_at text i k n) a (subst (IsTaken (drop i text) k) length-n e)
    (is_right text (i + n) a
    (lies_at text i (front.Token k n) (sym (is_found (drop i text) (front.Token k n) e))).1 g))
is_right text _ _ h (at_bad_byte i e) = is_at text i IsBad h e
is_right text _ _ h (at_open_explanation i e) = is_at text i IsOpen h e
is_right text _ _ h (at_long_number i n e) =
    is_at text i (λ rest. (n : ℕ) × IsTooLong rest n) h (n, e)

pub tokens_right : (text : List ℕ) (ts : List Token) → Gives text 0 (tokens ts) → AreLongest text ts
tokens_right text ts g = is_right text 0 (tokens ts) (omega arith) g

pub fault_right : (text : List ℕ) (f : LexFault) → Gives text 0 (fault f) → IsFaultByTable text f
fault_right text f g = is_right text 0 (fault f) (omega arith) g
