-- Lines of one kind.
use Rattle.std.proofs.Common.{◌≡◌, ◌<◌, ◌≤◌, ◌+◌, ℕ, zero, suc, Bool, true, false, ◌||◌, List, []}
use Rattle.std.proofs.Common.{◌∷◌, length, get_or, drop, add-one, refl, sym, ap, ◌∙◌, arith}
use Rattle.std.specs.List.{list_any}
use Rattle.reports.specs.LineViews.{line_of, lines_of}
use Rattle.reports.specs.Lines.{Line}
use Rattle.reports.specs.declared.lines.Line as code

or_true : (b c : Bool) → c ≡ true → (b || c) ≡ true
or_true true c h = refl
or_true false c h = h

-- a line that passes the test is found
pub some_line : (p : Line → Bool) (ls : List code.Line) (i : ℕ) (x y : code.Line) → i < length ls
    → x ≡ get_or ls i y → p (line_of x) ≡ true → list_any p (lines_of ls) ≡ true
some_line p [] i x y l e h = absurd (omega arith)
some_line p (z ∷ ls) zero x y l e h =
    ap (λ (b : Bool). b || list_any p (lines_of ls)) (ap (λ (w : code.Line). p (line_of w)) (sym e)
    ∙ h)
some_line p (z ∷ ls) (suc i) x y l e h =
    or_true (p (line_of z)) (list_any p (lines_of ls)) (some_line p ls i x y (omega arith) e h)

-- no line is left
pub none_left : (p : Line → Bool) (ls : List code.Line) (i : ℕ) → length ls ≤ i
    → false ≡ list_any p (lines_of (drop i ls))
none_left p [] zero l = refl
none_left p [] (suc i) l = refl
none_left p (z ∷ ls) zero l = absurd (omega arith)
none_left p (z ∷ ls) (suc i) l = none_left p ls i (omega arith)

-- a line that does not pass the test is passed over
pub pass_over : (p : Line → Bool) (ls : List code.Line) (i : ℕ) (x y : code.Line) → i < length ls
    → x ≡ get_or ls i y → p (line_of x) ≡ false
    → list_any p (lines_of (drop (i + 1) ls)) ≡ list_any p (lines_of (drop i ls))
pass_over p [] i x y l e h = absurd (omega arith)
pass_over p (z ∷ ls) zero x y l e h =
    ap (λ (b : Bool). b || list_any p (lines_of ls))
    (sym (ap (λ (w : code.Line). p (line_of w)) (sym e) ∙ h))
pass_over p (z ∷ ls) (suc i) x y l e h =
    ap (λ (n : ℕ). list_any p (lines_of (drop n (z ∷ ls)))) (add-one (suc i))
    ∙ ap (λ (n : ℕ). list_any p (lines_of (drop n ls))) (sym (add-one i))
    ∙ pass_over p ls i x y (omega arith) e h
