use Rattle.std.proofs.Common.{◌≡◌, ◌≤◌, ℕ, pos, true, unsigned_abs, arith, sym, subst, ap, ◌∙◌}
use Rattle.std.proofs.Common.{FitsSigned, to_z, of_z, to_z-of_z}
use Rattle.std.specs.Int.{w64}
use Rattle.std.proofs.lemmas.Int.{ints}
use borrow.Author.Differences.{fits_in}
use Rattle.ili_grammar.specs.Syntax.{Decimal}
use Rattle.ili_grammar.specs.Values.{decimal_of}
use Rattle.resolver.specs.Models.{text_length}
use Rattle.resolver.specs.Numbers.{is_text_length}
use Rattle.resolver.proofs.BuildLemmas.ExactNumbers.{length_kept}
use Rattle.resolver.proofs.build.forms.text_length.Goals as goal

fits : (n : ℕ) → n ≤ 65535 → FitsSigned w64 (pos n)
fits n le = fits_in w64 (pos n) (omega (arith, ints, le))

digits_back : (d : Decimal) → is_text_length d ≡ true
    → to_z w64 (of_z w64 d.digits) ≡ pos (text_length d)
digits_back d e =
    let h = length_kept d e in
    to_z-of_z (subst (FitsSigned w64) (sym h.value) (fits (text_length d) h.few)) ∙ h.value

pub overflow_cast-result : goal.overflow_cast-result
overflow_cast-result c =
    let e : is_text_length (decimal_of c.args.number) ≡ true = sym c.is_text_length.ensures
    ∙ c.if-not-is_text_length.false in
    let few = (length_kept (decimal_of c.args.number) e).few in
    rw (digits_back (decimal_of c.args.number) e) (tt, omega (arith, few))

pub returns : goal.returns
returns c =
    let e : is_text_length (decimal_of c.args.number) ≡ true = sym c.is_text_length.ensures
    ∙ c.if-not-is_text_length.false in
    ap unsigned_abs (digits_back (decimal_of c.args.number) e)
