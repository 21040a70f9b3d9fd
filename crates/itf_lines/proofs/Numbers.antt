-- The numbers of logical lines rise.
use Rattle.std.proofs.Common.{◌≡◌, ◌≤◌, ◌<◌, ◌+◌, ℕ, suc, Bool, true, false, List, [], ◌∷◌, ◌++◌}
use Rattle.std.proofs.Common.{length, refl, ◌∙◌, subst, arith, if◌then◌else◌, Some, None, Option}
use Rattle.itf_lines.specs.declared.word.LineWord.{LineWord}
use Rattle.itf_lines.specs.declared.logical.LineFault.TheVariants.{OpenContinue, StrayCont}
use Rattle.itf_lines.specs.Fields.{fields, physical_lines}
use Rattle.itf_lines.specs.LogicalLines.{LogicalLine, LogicalLines, logical, is_slashes, is_cont}
use Rattle.itf_lines.specs.LogicalLines.{without_first, without_code, goes_on, head_line}
use Rattle.itf_lines.specs.PassStates.{OpenLine, PassState, in_the_head, between, waiting, broken}
use Rattle.itf_lines.specs.Pass.{no_fields, with_field, with_fields, line_by_word, end_step}
use Rattle.itf_lines.specs.Pass.{fault_step, pass}
use Rattle.itf_lines.specs.FeedStates.{FeedState, opening}
use Rattle.itf_lines.specs.Feeds.{Reads, lines_from_state}
use Rattle.itf_lines.specs.Rising.{Rise, AreAtMost}
use Rattle.itf_lines.proofs.FeedLaws.{opening_is}

-- some lines have rising numbers from low on, none above high
record Rising (low high : ℕ) (lines : List LogicalLine) : Type 0 where
  rise : Rise low lines
  within : AreAtMost high lines

none : (low high : ℕ) → Rising low high []
none low high = record { rise = tt; within = tt }

one : (low high : ℕ) (l : LogicalLine) (ls : List LogicalLine) → low < l.number → l.number ≤ high
    → Rising l.number high ls → Rising low high (l ∷ ls)
one low high l ls a b r = record { rise = (a, r.rise); within = (b, r.within) }

-- a line that waits has a number between low and the next one
abbrev Ready : ℕ → ℕ → PassState → Type 0
Ready low n in_the_head = low < n
Ready low n between = low < n
Ready low n (waiting held last) = (low < held.number) × (held.number < n)
Ready low n (broken f) = low < n

same_number : (h : OpenLine) (fs : List (List ℕ)) → (with_fields h fs).number ≡ h.number
same_number h [] = refl
same_number h (f ∷ fs) = same_number (with_field h f) fs ∙ one_more h.number h.word h.fields f
  where
    one_more : (n : ℕ) (w : Option LineWord) (xs : List (List ℕ)) (f : List ℕ)
        → (with_field (record { number = n; word = w; fields = xs }) f).number ≡ n
    one_more n None xs f = refl
    one_more n (Some w) xs f = refl

-- what a pass gives from there on
abbrev Rises : ℕ → ℕ → PassState → List (List ℕ) → Type 0
Rises code n state ls = (low high : ℕ) → Ready low n state → n + length ls ≤ suc high
    → Rising low high (pass code n state ls).lines

held_rises : (low m n high : ℕ) (w : Option LineWord) (fs : List (List ℕ)) (rest : List LogicalLine)
    → low < m → m < n → m ≤ high → ((low : ℕ) → low < n → Rising low high rest)
    → Rising low high (line_by_word m w fs ++ rest)
held_rises low m n high None fs rest a b c r = r low (omega (arith, a, b))
held_rises low m n high (Some w) fs rest a b c r =
    one low high (record { number = m; word = w; fields = fs }) rest a c (r m b)

settled_rises : (code n : ℕ) (ls : List (List ℕ))
    → ((state : PassState) → Rises code (n + 1) state ls)
    → (low high : ℕ) (o : Bool) (held : OpenLine) → low < held.number → held.number < n + 1
    → n + suc (length ls) ≤ suc high
    → Rising low high ((end_step o n held).lines
    ++ (pass code (n + 1) (end_step o n held).next ls).lines)
settled_rises code n ls later low high true held a b h =
    later (waiting held n) low high (a, b) (omega (arith, h))
settled_rises code n ls later low high false held a b h =
    held_rises low held.number (n + 1) high held.word held.fields
    (pass code (n + 1) between ls).lines a b (omega (arith, b, h))
    (λ low c. later between low high c (omega (arith, h)))

begun_rises : (code n : ℕ) (ls : List (List ℕ))
    → ((state : PassState) → Rises code (n + 1) state ls)
    → (low high : ℕ) (fs : List (List ℕ)) (o : Bool) → low < n → n + suc (length ls) ≤ suc high
    → (b : Bool)
    → Rising low high
    ((if b then fault_step (StrayCont n) else end_step o n (with_fields (no_fields n) fs)).lines
    ++ (pass code (n + 1)
    (if b then fault_step (StrayCont n) else end_step o n (with_fields (no_fields n) fs)).next
    ls).lines)
begun_rises code n ls later low high fs o a h true =
    later (broken (StrayCont n)) low high (omega (arith, a)) (omega (arith, h))
begun_rises code n ls later low high fs o a h false =
    let e = same_number (no_fields n) fs in
    settled_rises code n ls later low high o (with_fields (no_fields n) fs) (omega (arith, a, e))
    (omega (arith, e)) h

gone_rises : (code n : ℕ) (ls : List (List ℕ)) → ((state : PassState) → Rises code (n + 1) state ls)
    → (low high : ℕ) (fs : List (List ℕ)) (o : Bool) (held : OpenLine) (last : ℕ)
    → low < held.number → held.number < n → n + suc (length ls) ≤ suc high
    → (b : Bool)
    → Rising low high
    ((if b then end_step o n (with_fields held (without_first fs)) else fault_step
    (OpenContinue last)).lines
    ++ (pass code (n + 1)
    (if b then end_step o n (with_fields held (without_first fs)) else fault_step
    (OpenContinue last)).next ls).lines)
gone_rises code n ls later low high fs o held last a c h true =
    let e = same_number held (without_first fs) in
    settled_rises code n ls later low high o (with_fields held (without_first fs))
    (omega (arith, a, e)) (omega (arith, c, e)) h
gone_rises code n ls later low high fs o held last a c h false =
    later (broken (OpenContinue last)) low high (omega (arith, a, c)) (omega (arith, h))

head_rises : (code n : ℕ) (l : List ℕ) (ls : List (List ℕ))
    → ((state : PassState) → Rises code (n + 1) state ls) → (low high : ℕ) → low < n
    → n + suc (length ls) ≤ suc high
    → (b : Bool)
    → Rising low high
    (head_line n l ∷ (pass code (n + 1) (if b then between else in_the_head) ls).lines)
head_rises code n l ls later low high a h true =
    one low high (head_line n l) (pass code (n + 1) between ls).lines a (omega (arith, h))
    (later between n high (omega arith) (omega (arith, h)))
head_rises code n l ls later low high a h false =
    one low high (head_line n l) (pass code (n + 1) in_the_head ls).lines a (omega (arith, h))
    (later in_the_head n high (omega arith) (omega (arith, h)))

rises : (code n : ℕ) (ls : List (List ℕ)) (state : PassState) → Rises code n state ls
rises code n [] state low high r h = none low high
rises code n (l ∷ ls) in_the_head low high r h =
    head_rises code n l ls (λ state. rises code (n + 1) ls state) low high r h (is_slashes l)
rises code n (l ∷ ls) between low high r h =
    let text = without_code code l in
    begun_rises code n ls (λ state. rises code (n + 1) ls state) low high (fields text)
    (goes_on code l) r h (is_cont (fields text))
rises code n (l ∷ ls) (waiting held last) low high r h =
    let text = without_code code l in
    gone_rises code n ls (λ state. rises code (n + 1) ls state) low high (fields text)
    (goes_on code l) held last r.0 r.1 h (is_cont (fields text))
rises code n (l ∷ ls) (broken f) low high r h =
    rises code (n + 1) ls (broken f) low high (omega (arith, r)) (omega (arith, h))

opening_rises : (code : ℕ) (text : List ℕ)
    → Rising 0 (lines_from_state (opening code) text).total
    (lines_from_state (opening code) text).lines
opening_rises code text =
    rises code 1 (physical_lines text) in_the_head 0 (0 + length (physical_lines text))
    (omega arith) (omega arith)

all_rise : (code : ℕ) (text : List ℕ) → Rising 0 (logical code text).total (logical code text).lines
all_rise code text =
    subst (λ (r : LogicalLines). Rising 0 r.total r.lines) (opening_is code text)
    (opening_rises code text)

pub logical_rise : (code : ℕ) (text : List ℕ) → Rise 0 (logical code text).lines
logical_rise code text = let r = all_rise code text in r.rise

pub logical_within : (code : ℕ) (text : List ℕ)
    → AreAtMost (logical code text).total (logical code text).lines
logical_within code text = let r = all_rise code text in r.within

later_rises : (code : ℕ) (text more : List ℕ) (lines : List LogicalLine) (feed : FeedState)
    → Reads (opening code) text lines feed []
    → Rising 0 (lines_from_state feed more).total (lines ++ (lines_from_state feed more).lines)
later_rises code text more lines feed h =
    subst (λ (r : LogicalLines). Rising 0 r.total r.lines) (h more)
    (opening_rises code (text ++ more))

pub later_rise : (code : ℕ) (text more : List ℕ) (lines : List LogicalLine) (feed : FeedState)
    → Reads (opening code) text lines feed [] → Rise 0 (lines ++ (lines_from_state feed more).lines)
later_rise code text more lines feed h = let r = later_rises code text more lines feed h in r.rise

pub later_within : (code : ℕ) (text more : List ℕ) (lines : List LogicalLine) (feed : FeedState)
    → Reads (opening code) text lines feed []
    → AreAtMost (lines_from_state feed more).total (lines ++ (lines_from_state feed more).lines)
later_within code text more lines feed h =
    let r = later_rises code text more lines feed h in r.within
