-- The lines that an object leaves out.
use Rattle.std.specs.Prelude.{ℕ, ◌+◌, ◌-◌, Bool, ◌&&◌, nat_lt, nat_le, if◌then◌else◌, List, [], ◌∷◌}
use Rattle.std.specs.Prelude.{◌++◌, Some}
use Rattle.std.specs.List.{flat_map}
use Rattle.resolver.specs.Resolved.{LineForm}
use Rattle.itf_reader.specs.declared.findings.Code.TheVariants.{Undefined}
use Rattle.itf_reader.specs.Findings.{Finding}
use Rattle.itf_reader.specs.StrokeFindings.{finding_at}

-- the numbers of the lines that are mandatory, where the first line has that number
abbrev pub mandatory_from : ℕ → List LineForm → List ℕ
mandatory_from n [] = []
mandatory_from n (l ∷ ls) = (if l.optional then [] else n ∷ []) ++ mandatory_from (n + 1) ls

-- the line of that number comes after those that are given, and is one of those that are left out
abbrev pub is_left_out : ℕ → ℕ → ℕ → Bool
is_left_out given left_out n = nat_le given n && nat_lt (n - given) left_out

-- a line of that number, if it is left out; the line of number 0 has the column `first`
abbrev pub left_out_finding : ℕ → ℕ → ℕ → ℕ → ℕ → List Finding
left_out_finding line first given left_out n =
    if is_left_out given left_out n then finding_at line (first + n) (Some Undefined) else []

-- those of these lines that are left out
abbrev pub left_out_findings : ℕ → ℕ → ℕ → ℕ → List ℕ → List Finding
left_out_findings line first given left_out ns =
    flat_map (left_out_finding line first given left_out) ns
