-- The size that a word spells.
use Rattle.std.proofs.Common.{◌≡◌, ℕ, List, Option, Some, Result, Ok, arith, ap, ◌∙◌}
use Rattle.std.specs.Result.{result_ok}
use Rattle.std.specs.Str.Parse.{ParsesUnsigned}
use Rattle.std.proofs.lemmas.Fmt.{parse-decimal}
use Rattle.commands.specs.TrialFiles.{IsSize}

-- the number that was read, where the word spells a size
pub spelled_size : {E : Type 0} (word : List ℕ) (n : ℕ) (r : Result ℕ E) (read : Option ℕ)
    → ParsesUnsigned 32 10 word r → read ≡ result_ok r → IsSize word n → read ≡ Some n
spelled_size word n r read p o h =
    let e : r ≡ Ok n = parse-decimal 32 n word r (omega (arith, h.most))
    (omega (arith, h.most)) h.spelled p in
    o ∙ ap result_ok e
