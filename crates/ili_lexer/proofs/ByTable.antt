-- What stands at the front of a text is the longest token of the table.
use Rattle.std.proofs.Common.{◌≡◌, ℕ, ◌+◌, ◌≤◌, List, [], ◌∷◌, ◌++◌, length, take, drop, Bool, true}
use Rattle.std.proofs.Common.{false, Option, Some, None, refl, sym, ap, ◌∙◌, subst, arith, codes}
use Rattle.std.proofs.Common.{nat_eq, append-nil, length-take-le}
use Rattle.std.proofs.lemmas.Bool.{eqb-true}
use Rattle.std.specs.Option.{option_map_or}
use Rattle.std.specs.List.{prefix_len}
use Rattle.std.specs.Char.{is_ascii_hexdigit}
use Rattle.ili_lexer.specs.declared.fronts.Front.{Front}
use Rattle.ili_lexer.specs.declared.fronts.Front.TheVariants.{End, Passed, Token, BadByte}
use Rattle.ili_lexer.specs.declared.fronts.Front.TheVariants.{OpenExplanation, LongNumber}
use Rattle.ili_lexer.specs.declared.tokens.Kind.{Kind}
use Rattle.ili_lexer.specs.declared.tokens.Kind.TheVariants as kind
use Rattle.ili_lexer.specs.Bytes.{is_blank, is_inside_line}
use Rattle.ili_lexer.specs.Fronts.{begins, closing, front_of, explanation_front, hex_front}
use Rattle.ili_lexer.specs.Forms.{IsToken, IsNumber, IsShort}
use Rattle.ili_lexer.specs.Longest.{Stands, HasNone, begins_blank, blank, comment, HasFewDigits}
use Rattle.ili_lexer.specs.Longest.{IsTaken, IsTooLong, IsBad, nothing, open_hex, IsFront}
use Rattle.ili_lexer.specs.Longest.{MayHoldToken}
use Rattle.ili_lexer.proofs.FrontLengths.{IsPartOf, front_fits, number_length}
use Rattle.ili_lexer.proofs.Runs.{chosen, first_two}
use Rattle.ili_lexer.proofs.Sound as found
use Rattle.ili_lexer.proofs.Sound.{Sound, sound}
use Rattle.ili_lexer.proofs.Reach.{Reaches}
use Rattle.ili_lexer.proofs.NumberReach.{reaches, stands_reaches, short_too, one_is_short}

-- ---- what is found is right
right : (text : List ℕ) (f : Front) → ((k : Kind) (n : ℕ) → Stands text k n → Reaches k n text f)
    → IsPartOf text f → Sound text f → IsFront text f
right text End r p s = s
right text (Passed n) r p s = s
right text (Token k n) r p s = record {
  longest = record {
    stands = record { within = p.within; token = s.token };
    longest = λ j m t. (r j m t).0;
  };
  few = s.few;
  closed = s.closed;
}
right text BadByte r p (found.open_hex h) = open_hex h
right text BadByte r p (found.clear c) =
    bad (begins text (codes "0x")) (nat_eq (prefix_len is_ascii_hexdigit (drop 2 text)) 0) refl refl
  where
    bad : (s t : Bool) → begins text (codes "0x") ≡ s
        → nat_eq (prefix_len is_ascii_hexdigit (drop 2 text)) 0 ≡ t → IsBad text
    bad true true e f =
        open_hex (record {
          opened = e;
          none = eqb-true (prefix_len is_ascii_hexdigit (drop 2 text)) 0 f;
        })
    bad false t e f =
        nothing c.some c.blank c.comment c.explanation (λ k n h. let o = (r k n h).0 in
        let q = o.opened in absurd (cc))
    bad true false e f =
        nothing c.some c.blank c.comment c.explanation (λ k n h. let o = (r k n h).0 in
        let z = o.none in
        absurd (let g : nat_eq (prefix_len is_ascii_hexdigit (drop 2 text)) 0
        ≡ true = ap (λ (x : ℕ). nat_eq x 0) z in cc))
right text OpenExplanation r p s = record { opened = s; none = λ k n h. r k n h }
right text LongNumber r p s = (
  number_length text,
  record {
    longest = record {
      stands = record { within = s.within; token = s.number };
      longest = λ j m t. (r j m t).1;
    };
    number = s.number;
    long = s.long;
  },
)

pub stands_at_front : (text : List ℕ) → IsFront text (front_of text)
stands_at_front text =
    right text (front_of text) (λ k n s. stands_reaches text k n s) (front_fits text) (sound text)

pub front_is : (text : List ℕ) (f : Front) → front_of text ≡ f → IsFront text f
front_is text f e = subst (IsFront text) e (stands_at_front text)

-- ---- and what is right is found
taken_is : (text : List ℕ) (k : Kind) (n : ℕ) → IsTaken text k n → (g : Front) → IsFront text g
    → Reaches k n text g → g ≡ Token k n
taken_is text k n t End s r = absurd r
taken_is text k n t (Passed m) s r = absurd r
taken_is text k n t (Token j m) s r =
    let a : m ≤ n = t.longest.longest j m s.longest.stands in
    let e : m ≡ n = omega (arith, a, r.0) in
    let f : j ≡ k = r.1 e in cc
taken_is text k n t BadByte s r = absurd (t.closed r.0)
taken_is text k n t OpenExplanation s r = absurd r
taken_is text k n t LongNumber s r =
    let m = s.0 in
    let l = s.1 in
    let a = t.longest.longest kind.Number m l.longest.stands in
    let b = l.longest.longest k n t.longest.stands in
    let e : n ≡ m = omega (arith, a, b) in
    absurd (clash m l.number l.long
    (subst (λ (k : Kind). HasFewDigits k (take m text)) r.0
    (subst (λ (n : ℕ). HasFewDigits k (take n text)) e t.few)))
  where
    clash : (m : ℕ) (a : IsNumber (take m text)) → (IsShort a → ⊥)
        → HasFewDigits kind.Number (take m text) → ⊥
    clash m a l (b, s) = l (short_too (take m text) b a s)

too_long_is : (text : List ℕ) (n : ℕ) → IsTooLong text n → (g : Front) → IsFront text g
    → Reaches kind.Number n text g → g ≡ LongNumber
too_long_is text n t End s r = absurd r
too_long_is text n t (Passed m) s r = absurd r
too_long_is text n t (Token j m) s r =
    let a : m ≤ n = t.longest.longest j m s.longest.stands in
    let e : m ≡ n = omega (arith, a, r.0) in
    absurd (clash
    (subst (λ (k : Kind). HasFewDigits k (take n text)) (r.1 e)
    (subst (λ (m : ℕ). HasFewDigits j (take m text)) e s.few)))
  where
    clash : HasFewDigits kind.Number (take n text) → ⊥
    clash (b, s) = t.long (short_too (take n text) b t.number s)
too_long_is text n t BadByte s r =
    let e = length-take-le n text t.longest.stands.within in
    absurd (t.long (one_is_short (take n text) t.number (omega (arith, e, r.2))))
too_long_is text n t OpenExplanation s r = absurd r
too_long_is text n t LongNumber s r = refl

bad_is : (text : List ℕ) → (text ≡ [] → ⊥) → begins_blank text ≡ false
    → begins text (codes "!!") ≡ false → begins text (codes "//") ≡ false → HasNone text
    → (g : Front) → IsFront text g → g ≡ BadByte
bad_is text n b c x none End s = absurd (n s)
bad_is text n b c x none (Passed m) (blank e q) = absurd (cc)
bad_is text n b c x none (Passed m) (comment e q) = absurd (cc)
bad_is text n b c x none (Token k m) s = absurd (none k m s.longest.stands)
bad_is text n b c x none BadByte s = refl
bad_is text n b c x none OpenExplanation s = let o = s.opened in absurd (cc)
bad_is text n b c x none LongNumber s = absurd (none kind.Number s.0 s.1.longest.stands)

open_is : (text : List ℕ) → HasNone text → (o : Option ℕ)
    → IsFront text (option_map_or (λ n. Token kind.Explanation (2 + n)) o OpenExplanation)
    → option_map_or (λ n. Token kind.Explanation (2 + n)) o OpenExplanation ≡ OpenExplanation
open_is text none None s = refl
open_is text none (Some n) s = absurd (none kind.Explanation (2 + n) s.longest.stands)

front_at : (text : List ℕ) (a b : ℕ) (f : List ℕ → Front) → begins text (a ∷ b ∷ []) ≡ true
    → front_of (a ∷ b ∷ drop 2 text) ≡ f (a ∷ b ∷ drop 2 text) → front_of text ≡ f text
front_at text a b f e h = subst (λ (t : List ℕ). front_of t ≡ f t) (sym (first_two a b text e)) h

pub is_found : (text : List ℕ) (f : Front) → IsFront text f → front_of text ≡ f
is_found text End e = ap front_of e
is_found [] (Passed n) (blank e q) = absurd (cc)
is_found (b ∷ bs) (Passed n) (blank e q) = chosen (is_blank b) _ _ e ∙ ap Passed (sym q)
is_found text (Passed n) (comment e q) =
    front_at text 33 33 (λ t. Passed (prefix_len is_inside_line t)) e refl ∙ ap Passed (sym q)
is_found text (Token k n) t =
    taken_is text k n t (front_of text) (stands_at_front text)
    (stands_reaches text k n t.longest.stands)
is_found text BadByte (nothing n b c x none) =
    bad_is text n b c x none (front_of text) (stands_at_front text)
is_found text BadByte (open_hex h) =
    front_at text 48 120 hex_front h.opened refl
    ∙ chosen (nat_eq (prefix_len is_ascii_hexdigit (drop 2 text)) 0) _ _
    (ap (λ (n : ℕ). nat_eq n 0) h.none)
is_found text OpenExplanation o =
    let e : front_of text ≡ explanation_front text = front_at text 47 47 explanation_front o.opened
    refl in
    e ∙ open_is text o.none (closing (drop 2 text)) (subst (IsFront text) e (stands_at_front text))
is_found text LongNumber (n, t) =
    too_long_is text n t (front_of text) (stands_at_front text)
    (stands_reaches text kind.Number n t.longest.stands)

-- ---- where a token stands, one is found
met : (text : List ℕ) (k : Kind) (n : ℕ) (f : Front) → Reaches k n text f → MayHoldToken text f
met text k n End r = r
met text k n (Passed m) r = r
met text k n (Token j m) r = tt
met text k n BadByte r = r.0
met text k n OpenExplanation r = r
met text k n LongNumber r = tt

pub token_is_met : (text : List ℕ) (k : Kind) (n : ℕ) → Stands text k n
    → MayHoldToken text (front_of text)
token_is_met text k n s = met text k n (front_of text) (stands_reaches text k n s)

-- ---- the same bytes are tokens of one kind
pub one_kind : (j k : Kind) (bytes : List ℕ) → IsToken j bytes → IsToken k bytes → j ≡ k
one_kind j k bytes s t =
    same (bytes ++ []) (front_of (bytes ++ [])) (ap (length {A = ℕ}) (append-nil bytes))
    (front_fits (bytes ++ [])) (reaches j bytes [] s) (reaches k bytes [] t)
  where
    same : (text : List ℕ) (f : Front) → length text ≡ length bytes → IsPartOf text f
        → Reaches j (length bytes) text f → Reaches k (length bytes) text f → j ≡ k
    same text End l p a b = absurd a
    same text (Passed n) l p a b = absurd a
    same text (Token i n) l p a b =
        let e : n ≡ length bytes = omega (arith, p.within, l, a.0) in sym (a.1 e) ∙ b.1 e
    same text BadByte l p a b = a.1 ∙ sym b.1
    same text OpenExplanation l p a b = absurd a
    same text LongNumber l p a b = a.0 ∙ sym b.0
