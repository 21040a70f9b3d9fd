-- There is one answer for some lines.
use Rattle.std.proofs.Common.{◌≡◌, ℕ, List, [], ◌∷◌, ◌++◌, Option, Some, None, Ok, Err, refl, ap}
use Rattle.std.proofs.Common.{sym, subst, ◌∙◌}
use Rattle.std.proofs.lemmas.List.{append_assoc}
use Rattle.std.specs.Prelude.{◌⊎◌, ◌+◌, Result}
use Rattle.std.proofs.Common.{inl, inr}
use Rattle.itf_lines.specs.declared.logical.LineFault.{LineFault}
use Rattle.itf_lines.specs.declared.logical.LineFault.TheVariants.{OpenContinue, StrayCont}
use Rattle.itf_lines.specs.LogicalLines.{LogicalLine, LogicalLines}
use Rattle.itf_reader.specs.Forms.{Form, Row, TopicRows, rows_by_form}
use Rattle.itf_reader.specs.TransferText.{IsText, TransferText, Begins, IsFaultAt}
use Rattle.itf_reader.specs.Machine.{State, start, free, title, model, topics, tables, objects}
use Rattle.itf_reader.specs.Machine.{strokes, vertices, arc, last, done, Code, step, then_run, run}
use Rattle.itf_reader.specs.Codes.{HasCode}
use Rattle.itf_reader.specs.Readings.{Structure, OfLine, End, Continue, Cont, IsRead, IsRefused}
use Rattle.itf_reader.specs.Readings.{HasAnswer, at_line, at_open, at_stray, at_end}
use Rattle.itf_reader.proofs.Back.{ok, same_state}
use Rattle.itf_reader.proofs.Codes.{has_code, one_code}
use Rattle.itf_reader.proofs.Drive.{one_text, text_drive}
use Rattle.itf_reader.proofs.Stands.{done_text, taken_begins, refused_begins, taken_on, refused_at}

pub one_transfer : (f : Form) (ls : List LogicalLine) (a b : List (List Row)) → TransferText f ls a
    → TransferText f ls b → a ≡ b
one_transfer f ls a b h k = h.2 ∙ (ap (rows_by_form f) (one_text f ls h.0 k.0 h.1 k.1) ∙ sym k.2)

-- the front of a text begins one
front_begins : (f : Form) (ts : List TopicRows) (front rest : List LogicalLine) (l : LogicalLine)
    (ls : List LogicalLine)
    → ls ≡ front ++ (l ∷ rest) → IsText f ts ls → Begins f (front ++ (l ∷ []))
front_begins f ts front rest l ls e h = (
  rest,
  ts,
  subst (λ (x : List LogicalLine). IsText f ts x) (e
      ∙ sym (append_assoc front (l ∷ []) rest)) h,
)

pub never_both : (f : Form) (given : LogicalLines) (transfer : List (List Row)) (n : ℕ)
    (code : Structure)
    → IsRead f given transfer → IsRefused f given n code → ⊥
never_both f given transfer _ _ h (at_line front rest l code e k c) =
    let t = h.1 in k.1 (front_begins f t.0 front rest l given.lines e t.1)
never_both f given transfer _ _ h (at_open n b e) = absurd cc
never_both f given transfer _ _ h (at_stray n b e) = absurd cc
never_both f given transfer _ _ h (at_end b k e) = let t = h.1 in k t.0 t.1

-- the first line at which the machine stops
record Stop (f : Form) (s : State) (ls : List LogicalLine) (c : Code) : Type 0 where
  front : List LogicalLine
  rest : List LogicalLine
  l : LogicalLine
  behind : State
  whole : ls ≡ front ++ (l ∷ rest)
  after_line : run f s front ≡ Ok behind
  refused : step f behind l ≡ Err c

later : (f : Form) (s t : State) (l : LogicalLine) (ls : List LogicalLine) (c : Code)
    → step f s l ≡ Ok t → Stop f t ls c → Stop f s (l ∷ ls) c
later f s t l ls c e k = record {
  front = l ∷ k.front;
  rest = k.rest;
  l = k.l;
  behind = k.behind;
  whole = ap (λ (x : List LogicalLine). l ∷ x) k.whole;
  after_line = ap (then_run (λ u. run f u k.front)) e ∙ k.after_line;
  refused = k.refused;
}

stop_on : (f : Form) (s : State) (l : LogicalLine) (ls : List LogicalLine) (c : Code)
    (after_line : Result State Code)
    → step f s l ≡ after_line → then_run (λ u. run f u ls) after_line ≡ Err c
    → ((u : State) → run f u ls ≡ Err c → Stop f u ls c) → Stop f s (l ∷ ls) c
stop_on f s l ls c (Ok u) e h rest = later f s u l ls c e (rest u h)
stop_on f s l ls c (Err d) e h rest =
    record {
      front = [];
      rest = ls;
      l = l;
      behind = s;
      whole = refl;
      after_line = refl;
      refused = e ∙ h;
    }

stop : (f : Form) (s : State) (ls : List LogicalLine) (c : Code) → run f s ls ≡ Err c
    → Stop f s ls c
stop f s [] c h = absurd cc
stop f s (l ∷ ls) c h = stop_on f s l ls c (step f s l) refl h (λ u k. stop f u ls c k)

refused_line : (f : Form) (given : LogicalLines) (c : Code) → Stop f start given.lines c
    → (n : ℕ) × (code : Structure) × IsRefused f given n code
refused_line f given c k = (
  k.l.number,
  OfLine c,
  at_line k.front k.rest k.l c k.whole
      (refused_at f k.front k.l k.behind c k.after_line k.refused)
      (has_code f k.front k.l k.behind c k.after_line k.refused),
)

-- a state that is not the last one has no text after it
abbrev Ended : State → Type 0
Ended s = ((ts : List TopicRows) × (s ≡ done ts))
    ⊎ ((ts : List TopicRows) → ok s ≡ ok (done ts) → ⊥)

ended : (s : State) → Ended s
ended start = inr (λ ts e. absurd cc)
ended free = inr (λ ts e. absurd cc)
ended title = inr (λ ts e. absurd cc)
ended model = inr (λ ts e. absurd cc)
ended (topics earlier) = inr (λ ts e. absurd cc)
ended (tables t) = inr (λ ts e. absurd cc)
ended (objects t) = inr (λ ts e. absurd cc)
ended (strokes r) = inr (λ ts e. absurd cc)
ended (vertices r vs) = inr (λ ts e. absurd cc)
ended (arc r vs) = inr (λ ts e. absurd cc)
ended (last earlier) = inr (λ ts e. absurd cc)
ended (done earlier) = inl (earlier, refl)

whole_answer : (f : Form) (given : LogicalLines) (s : State) → run f start given.lines ≡ Ok s
    → given.fault ≡ None → HasAnswer f given
whole_answer f given s h e = elim (ended s) [
  | inl k ↦ inl (rows_by_form f k.0, (e, (k.0, done_text f given.lines k.0 (h ∙ ap ok k.1), refl)))
  | inr k ↦ inr (
    given.total + 1,
    End,
    at_end (taken_begins f given.lines s h)
        (λ ts t. k ts (sym h ∙ text_drive f ts given.lines t)) e,
  )
]

taken_answer : (f : Form) (given : LogicalLines) (s : State) (fault : Option LineFault)
    → run f start given.lines ≡ Ok s → given.fault ≡ fault → HasAnswer f given
taken_answer f given s None h e = whole_answer f given s h e
taken_answer f given s (Some (OpenContinue n)) h e =
    inr (n, Continue, at_open n (taken_begins f given.lines s h) e)
taken_answer f given s (Some (StrayCont n)) h e =
    inr (n, Cont, at_stray n (taken_begins f given.lines s h) e)

answer_of : (f : Form) (given : LogicalLines) (r : Result State Code) → run f start given.lines ≡ r
    → HasAnswer f given
answer_of f given (Ok s) h = taken_answer f given s given.fault h refl
answer_of f given (Err c) h = inr (refused_line f given c (stop f start given.lines c h))

pub some_answer : (f : Form) (given : LogicalLines) → HasAnswer f given
some_answer f given = answer_of f given (run f start given.lines) refl

-- the number and the code of the first line at which the machine stops
abbrev told : LogicalLine → Result State Code → (State → Option (ℕ × Code)) → Option (ℕ × Code)
told l (Ok t) rest = rest t
told l (Err c) rest = Some (l.number, c)

abbrev first_stop : Form → State → List LogicalLine → Option (ℕ × Code)
first_stop f s [] = None
first_stop f s (l ∷ ls) = told l (step f s l) (λ t. first_stop f t ls)

stop_tail : (f : Form) (t u : State) (l m : LogicalLine) (front rest : List LogicalLine) (c : Code)
    (after_line : Result State Code)
    → then_run (λ x. run f x front) after_line ≡ Ok t
    → ((x : State) → run f x front ≡ Ok t
    → first_stop f x (front ++ (l ∷ rest)) ≡ Some (l.number, c))
    → told m after_line (λ x. first_stop f x (front ++ (l ∷ rest))) ≡ Some (l.number, c)
stop_tail f t u l m front rest c (Ok x) h k = k x h
stop_tail f t u l m front rest c (Err d) h k = absurd cc

stop_at : (f : Form) (s t : State) (l : LogicalLine) (front rest : List LogicalLine) (c : Code)
    → run f s front ≡ Ok t → step f t l ≡ Err c
    → first_stop f s (front ++ (l ∷ rest)) ≡ Some (l.number, c)
stop_at f s t l [] rest c h e =
    ap (λ (r : Result State Code). told l r (λ x. first_stop f x rest))
    (ap (λ (x : State). step f x l) (same_state s t h) ∙ e)
stop_at f s t l (m ∷ front) rest c h e =
    stop_tail f t t l m front rest c (step f s m) h (λ x k. stop_at f x t l front rest c k e)

-- the machine refuses the line at fault, with its code
line_refused : (f : Form) (front : List LogicalLine) (l : LogicalLine) (s : State) (code : Code)
    (after_line : Result State Code)
    → step f s l ≡ after_line → IsFaultAt f front l → run f start front ≡ Ok s
    → HasCode f front l code → after_line ≡ Err code
line_refused f front l s code (Ok t) e h k q = absurd (h.1 (taken_on f front l s t k e))
line_refused f front l s code (Err c) e h k q =
    ap (λ (d : Code). Err d) (one_code f front l c code (has_code f front l s c k e) q)

-- what begins a text the machine takes
front_taken : (f : Form) (front : List LogicalLine) (r : Result State Code) → run f start front ≡ r
    → Begins f front → (s : State) × (run f start front ≡ Ok s)
front_taken f front (Ok s) e b = (s, e)
front_taken f front (Err c) e b = absurd (refused_begins f front c e b)

line_stops : (f : Form) (given : LogicalLines) (front rest : List LogicalLine) (l : LogicalLine)
    (code : Code)
    → given.lines ≡ front ++ (l ∷ rest) → IsFaultAt f front l → HasCode f front l code
    → first_stop f start given.lines ≡ Some (l.number, code)
line_stops f given front rest l code e h k =
    let t = front_taken f front (run f start front) refl h.0 in
    ap (first_stop f start) e
    ∙ stop_at f start t.0 l front rest code t.1
    (line_refused f front l t.0 code (step f t.0 l) refl h t.1 k)

-- where all lines begin a text, none is at fault
no_line : (f : Form) (given : LogicalLines) (front rest : List LogicalLine) (l : LogicalLine)
    → given.lines ≡ front ++ (l ∷ rest) → IsFaultAt f front l → Begins f given.lines → ⊥
no_line f given front rest l e h b =
    h.1 (
      rest ++ b.0,
      b.1,
      subst (λ (x : List LogicalLine). IsText f b.1 x)
          (ap (λ (x : List LogicalLine). x ++ b.0) e ∙ regroup front rest b.0 l) b.2,
    )
  where
    regroup : (front rest more : List LogicalLine) (l : LogicalLine)
        → (front ++ (l ∷ rest)) ++ more ≡ (front ++ (l ∷ [])) ++ (rest ++ more)
    regroup front rest more l = append_assoc front (l ∷ rest) more
        ∙ sym (append_assoc front (l ∷ []) (rest ++ more))

abbrev pair : ℕ → Code → ℕ × Code
pair n c = (n, c)

abbrev number_in : ℕ → Option (ℕ × Code) → ℕ
number_in other None = other
number_in other (Some p) = p.0

abbrev code_in : Code → Option (ℕ × Code) → Structure
code_in other None = OfLine other
code_in other (Some p) = OfLine p.1

same_pair : (n m : ℕ) (c d : Code) → Some (pair n c) ≡ Some (pair m d)
    → (n ≡ m) × (OfLine c ≡ OfLine d)
same_pair n m c d e = (ap (number_in n) e, ap (code_in c) e)

same_open : (n m : ℕ) → Some (OpenContinue n) ≡ Some (OpenContinue m) → n ≡ m
same_open n m e = cc

same_stray : (n m : ℕ) → Some (StrayCont n) ≡ Some (StrayCont m) → n ≡ m
same_stray n m e = cc

pub one_refusal : (f : Form) (given : LogicalLines) (n m : ℕ) (code other : Structure)
    → IsRefused f given n code → IsRefused f given m other → (n ≡ m) × (code ≡ other)
one_refusal f given _ _ _ _ (at_line front rest l c e h k) (at_line front2 rest2 l2 c2 e2 h2 k2) =
    same_pair l.number l2.number c c2 (sym (line_stops f given front rest l c e h k)
    ∙ line_stops f given front2 rest2 l2 c2 e2 h2 k2)
one_refusal f given _ _ _ _ (at_line front rest l c e h k) (at_open n b q) =
    absurd (no_line f given front rest l e h b)
one_refusal f given _ _ _ _ (at_line front rest l c e h k) (at_stray n b q) =
    absurd (no_line f given front rest l e h b)
one_refusal f given _ _ _ _ (at_line front rest l c e h k) (at_end b q r) =
    absurd (no_line f given front rest l e h b)
one_refusal f given _ _ _ _ (at_open n b q) (at_line front rest l c e h k) =
    absurd (no_line f given front rest l e h b)
one_refusal f given _ _ _ _ (at_stray n b q) (at_line front rest l c e h k) =
    absurd (no_line f given front rest l e h b)
one_refusal f given _ _ _ _ (at_end b q r) (at_line front rest l c e h k) =
    absurd (no_line f given front rest l e h b)
one_refusal f given _ _ _ _ (at_open n b q) (at_open m d r) = (same_open n m (sym q ∙ r), refl)
one_refusal f given _ _ _ _ (at_stray n b q) (at_stray m d r) = (same_stray n m (sym q ∙ r), refl)
one_refusal f given _ _ _ _ (at_end b q r) (at_end d s t) = (refl, refl)
one_refusal f given _ _ _ _ (at_open n b q) (at_stray m d r) = absurd cc
one_refusal f given _ _ _ _ (at_open n b q) (at_end d s t) = absurd cc
one_refusal f given _ _ _ _ (at_stray n b q) (at_open m d r) = absurd cc
one_refusal f given _ _ _ _ (at_stray n b q) (at_end d s t) = absurd cc
one_refusal f given _ _ _ _ (at_end b q r) (at_open m d s) = absurd cc
one_refusal f given _ _ _ _ (at_end b q r) (at_stray m d s) = absurd cc
