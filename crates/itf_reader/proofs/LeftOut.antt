-- The lines that a row leaves out.
use Rattle.std.proofs.Common.{◌≡◌, ◌≤◌, ◌<◌, ◌+◌, ◌-◌, ◌&&◌, ℕ, zero, suc, Bool, true, false, List}
use Rattle.std.proofs.Common.{[], ◌∷◌, ◌++◌, length, refl, ap, sym, subst, ◌∙◌, arith, append_assoc}
use Rattle.std.specs.Prelude.{replicate, not, nat_le, nat_lt, Some, ℤ, if◌then◌else◌}
use Rattle.std.proofs.lemmas.List.Elements.{All-nil, All-cons, All-append}
use Rattle.std.specs.List.{All, flat_map}
use Rattle.std.proofs.lemmas.Bool.{le-leb, le-ltb, lt-ltb, lt-leb}
use Rattle.std.proofs.lemmas.List.{length-map}
use Rattle.resolver.specs.Resolved.{LineForm}
use Rattle.resolver.specs.declared.models.LineForm.{LineForm as CodeForm}
use Rattle.table_layout.specs.Layouts.{Role}
use Rattle.table_layout.specs.Values.{lines_view}
use Rattle.itf_reader.specs.declared.findings.Code.TheVariants.{Undefined}
use Rattle.itf_reader.specs.Findings.{Finding}
use Rattle.itf_reader.specs.Forms.{Vertex}
use Rattle.itf_reader.specs.declared.transfer.Stroke.{Stroke as CodeStroke}
use Rattle.itf_reader.specs.Views.{stroke_of, strokes_of}
use Rattle.itf_reader.specs.LeftOut.{mandatory_from, is_left_out, left_out_finding}
use Rattle.itf_reader.specs.LeftOut.{left_out_findings}
use Rattle.itf_reader.specs.RowFindings.{line_findings, lines_findings}
use Rattle.itf_reader.specs.RowReadings.{lines_vertices, lines_heights, sound_vertices}
use Rattle.itf_reader.specs.RowReadings.{sound_heights}
use Rattle.itf_reader.specs.StrokeFindings.{Seen, code_if, finding_at}

-- ---- vertices and heights: lines that are left out have none
no_vertices : (ls : List LineForm) → lines_vertices ls [] ≡ []
no_vertices [] = refl
no_vertices (l ∷ ls) = refl

pub given_vertices : (ls : List LineForm) (ss : List (List Vertex)) (m : ℕ)
    → lines_vertices ls ss ≡ lines_vertices ls (ss ++ replicate m [])
given_vertices [] ss m = refl
given_vertices (l ∷ ls) (s ∷ ss) m =
    ap (λ (vs : List Seen). sound_vertices l s ++ vs) (given_vertices ls ss m)
given_vertices (l ∷ ls) [] zero = refl
given_vertices (l ∷ ls) [] (suc m) = sym (no_vertices ls) ∙ given_vertices ls [] m

no_heights : (ls : List LineForm) → lines_heights ls [] ≡ []
no_heights [] = refl
no_heights (l ∷ ls) = refl

pub given_heights : (ls : List LineForm) (ss : List (List Vertex)) (m : ℕ)
    → lines_heights ls ss ≡ lines_heights ls (ss ++ replicate m [])
given_heights [] ss m = refl
given_heights (l ∷ ls) (s ∷ ss) m =
    ap (λ (hs : List ℤ). sound_heights l s ++ hs) (given_heights ls ss m)
given_heights (l ∷ ls) [] zero = refl
given_heights (l ∷ ls) [] (suc m) = sym (no_heights ls) ∙ given_heights ls [] m

-- ---- the numbers of mandatory lines
pub mandatory_below : (first bound k : ℕ) (ls : List LineForm) → first + (k + length ls) ≤ bound
    → All (λ n. first + n ≤ bound) (mandatory_from k ls)
mandatory_below first bound k [] h = All-nil (λ n. first + n ≤ bound)
mandatory_below first bound k (l ∷ ls) h =
    All-append (λ n. first + n ≤ bound) (if l.optional then [] else k ∷ [])
    (mandatory_from (k + 1) ls) (own l.optional)
    (mandatory_below first bound (k + 1) ls (omega (arith, h)))
  where
    own : (b : Bool) → All (λ n. first + n ≤ bound) (if b then [] else k ∷ [])
    own true = All-nil (λ n. first + n ≤ bound)
    own false = All-cons (λ n. first + n ≤ bound) k [] (omega (arith, h))
        (All-nil (λ n. first + n ≤ bound))

-- ---- findings
at_first : (b : Bool) (find : ℕ → List Finding) (k : ℕ) (rest : List ℕ)
    → flat_map find ((if b then [] else k ∷ []) ++ rest)
    ≡ (if b then [] else find k) ++ flat_map find rest
at_first true find k rest = refl
at_first false find k rest = refl

unless : (b : Bool) (find : List Finding) → find ≡ [] → (if b then [] else find) ≡ []
unless true find h = refl
unless false find h = h

-- a line before those that are left out, or after them
not_left_out : (line first lo m k : ℕ) → is_left_out lo m k ≡ false
    → left_out_finding line first lo m k ≡ []
not_left_out line first lo m k h = rw h refl

before : (lo m k : ℕ) → k < lo → is_left_out lo m k ≡ false
before lo m k h = rw (lt-leb lo k h) refl

after : (lo m k : ℕ) → m + lo ≤ k → is_left_out lo m k ≡ false
after lo m k h = rw (le-leb lo k (omega arith), le-ltb (k - lo) m (omega arith)) refl

within : (lo m k : ℕ) → lo ≤ k → k < m + lo → is_left_out lo m k ≡ true
within lo m k h i = rw (le-leb lo k h, lt-ltb (k - lo) m (omega arith)) refl

none_after : (line first lo m k : ℕ) (ls : List LineForm) → m + lo ≤ k
    → left_out_findings line first lo m (mandatory_from k ls) ≡ []
none_after line first lo m k [] h = refl
none_after line first lo m k (l ∷ ls) h =
    at_first l.optional (left_out_finding line first lo m) k (mandatory_from (k + 1) ls)
    ∙ rw (unless l.optional _ (not_left_out line first lo m k (after lo m k h)))
    (none_after line first lo m (k + 1) ls (omega arith))

-- a line that is left out
undefined_line : (role : Role) (line first lo m k : ℕ) (l : LineForm) → lo ≤ k → k < m + lo
    → line_findings role line (first + k) l []
    ≡ (if l.optional then [] else left_out_finding line first lo m k)
undefined_line role line first lo m k l h i = by_option l.optional
  where
    by_option : (b : Bool)
        → finding_at line (first + k) (code_if (not b) Undefined)
        ≡ (if b then [] else left_out_finding line first lo m k)
    by_option true = refl
    by_option false = rw (within lo m k h i) refl

no_findings : (role : Role) (line column : ℕ) (ls : List LineForm)
    → lines_findings role line column ls [] ≡ []
no_findings role line column [] = refl
no_findings role line column (l ∷ ls) = refl

-- all lines from one on are left out
rest_left_out : (role : Role) (line first lo k m n : ℕ) (ls : List LineForm) → lo ≤ k
    → n ≡ m + (k - lo)
    → lines_findings role line (first + k) ls (replicate m [])
    ≡ left_out_findings line first lo n (mandatory_from k ls)
rest_left_out role line first lo k m n [] h e = refl
rest_left_out role line first lo k zero n (l ∷ ls) h e =
    sym (none_after line first lo n k (l ∷ ls) (omega arith))
rest_left_out role line first lo k (suc m) n (l ∷ ls) h e =
    let later : lines_findings role line (first + (k + 1)) ls (replicate m [])
    ≡ left_out_findings line first lo n (mandatory_from (k + 1) ls) =
    rest_left_out role line first lo (k + 1) m n ls (omega arith) (omega arith) in
    let column : first + k + 1 ≡ first + (k + 1) = omega arith in
    ap (λ (c : ℕ). line_findings role line (first + k) l []
    ++ lines_findings role line c ls (replicate m [])) column
    ∙ ap (λ (fs : List Finding). line_findings role line (first + k) l [] ++ fs) later
    ∙ ap (λ (fs : List Finding). fs ++ left_out_findings line first lo n
    (mandatory_from (k + 1) ls)) (undefined_line role line first lo n k l h (omega arith))
    ∙ sym (at_first l.optional (left_out_finding line first lo n) k (mandatory_from (k + 1) ls))

lines_left_out : (role : Role) (line first k m : ℕ) (ls : List LineForm) (ss : List (List Vertex))
    → lines_findings role line (first + k) ls (ss ++ replicate m [])
    ≡ lines_findings role line (first + k) ls ss
    ++ left_out_findings line first (k + length ss) m (mandatory_from k ls)
lines_left_out role line first k m [] ss = refl
lines_left_out role line first k m (l ∷ ls) [] =
    rest_left_out role line first (k + 0) k m m (l ∷ ls) (omega arith) (omega arith)
lines_left_out role line first k m (l ∷ ls) (s ∷ ss) =
    let own = line_findings role line (first + k) l s in
    let lo = k + length (s ∷ ss) in
    let rest = left_out_findings line first lo m (mandatory_from (k + 1) ls) in
    let count : k + 1 + length ss ≡ lo = omega arith in
    let column : first + k + 1 ≡ first + (k + 1) = omega arith in
    let later : lines_findings role line (first + (k + 1)) ls (ss ++ replicate m [])
    ≡ lines_findings role line (first + (k + 1)) ls ss ++ rest =
    lines_left_out role line first (k + 1) m ls ss
    ∙ ap (λ (n : ℕ). lines_findings role line (first + (k + 1)) ls ss
    ++ left_out_findings line first n m (mandatory_from (k + 1) ls)) count in
    let none : left_out_findings line first lo m (mandatory_from k (l ∷ ls)) ≡ rest =
    at_first l.optional (left_out_finding line first lo m) k (mandatory_from (k + 1) ls)
    ∙ rw (unless l.optional _ (not_left_out line first lo m k (before lo m k (omega arith))))
    refl in
    ap (λ (c : ℕ). own ++ lines_findings role line c ls (ss ++ replicate m [])) column
    ∙ ap (λ (fs : List Finding). own ++ fs) later
    ∙ sym (append_assoc own (lines_findings role line (first + (k + 1)) ls ss) rest)
    ∙ ap (λ (c : ℕ). (own ++ lines_findings role line c ls ss) ++ rest) (sym column)
    ∙ ap (λ (fs : List Finding). (own ++ lines_findings role line (first + k + 1) ls ss) ++ fs)
    (sym none)

-- ---- what is read of all lines, where those that are given were read
pub all_vertices : (lent forms : List CodeForm) (read given : List CodeStroke) (m : ℕ)
    (old new : List Seen)
    → lent ≡ forms → read ≡ given
    → new ≡ old ++ lines_vertices (lines_view lent) (strokes_of read)
    → new ≡ old ++ lines_vertices (lines_view forms) (strokes_of given ++ replicate m [])
all_vertices lent forms read given m old new e f h =
    h ∙ ap (λ (ls : List CodeForm). old ++ lines_vertices (lines_view ls) (strokes_of read)) e
    ∙ ap (λ (ss : List CodeStroke). old ++ lines_vertices (lines_view forms) (strokes_of ss)) f
    ∙ ap (λ (vs : List Seen). old ++ vs) (given_vertices (lines_view forms) (strokes_of given) m)

pub all_heights : (lent forms : List CodeForm) (read given : List CodeStroke) (m : ℕ)
    (old new : List ℤ)
    → lent ≡ forms → read ≡ given
    → new ≡ old ++ lines_heights (lines_view lent) (strokes_of read)
    → new ≡ old ++ lines_heights (lines_view forms) (strokes_of given ++ replicate m [])
all_heights lent forms read given m old new e f h =
    h ∙ ap (λ (ls : List CodeForm). old ++ lines_heights (lines_view ls) (strokes_of read)) e
    ∙ ap (λ (ss : List CodeStroke). old ++ lines_heights (lines_view forms) (strokes_of ss)) f
    ∙ ap (λ (hs : List ℤ). old ++ hs) (given_heights (lines_view forms) (strokes_of given) m)

pub all_findings : (role : Role) (line first m n : ℕ) (lent forms : List CodeForm)
    (read given : List CodeStroke) (numbers : List ℕ) (old more new : List Finding)
    → lent ≡ forms → read ≡ given → numbers ≡ mandatory_from 0 (lines_view forms) → n ≡ first
    → more ≡ old ++ lines_findings role line n (lines_view lent) (strokes_of read)
    → new ≡ more ++ left_out_findings line n (length given) m numbers
    → new ≡ old ++ lines_findings role line first (lines_view forms)
    (strokes_of given ++ replicate m [])
all_findings role line first m n lent forms read given numbers old more new e f g c h k =
    let ls = lines_view forms in
    let ss = strokes_of given in
    let count : length given ≡ length ss = sym (length-map given stroke_of) in
    let rest = left_out_findings line first (length ss) m (mandatory_from 0 ls) in
    let own : more ≡ old ++ lines_findings role line first ls ss =
    h ∙ ap (λ (xs : List CodeForm). old
    ++ lines_findings role line n (lines_view xs) (strokes_of read)) e
    ∙ ap (λ (xs : List CodeStroke). old ++ lines_findings role line n ls (strokes_of xs)) f
    ∙ ap (λ (x : ℕ). old ++ lines_findings role line x ls ss) c in
    let others : left_out_findings line n (length given) m numbers ≡ rest =
    ap (λ (xs : List ℕ). left_out_findings line n (length given) m xs) g
    ∙ ap (λ (x : ℕ). left_out_findings line x (length given) m (mandatory_from 0 ls)) c
    ∙ ap (λ (x : ℕ). left_out_findings line first x m (mandatory_from 0 ls)) count in
    let all : lines_findings role line first ls (ss ++ replicate m [])
    ≡ lines_findings role line first ls ss ++ rest =
    subst (λ (x : ℕ). lines_findings role line x ls (ss ++ replicate m [])
    ≡ lines_findings role line x ls ss ++ rest)
    (let z : first + 0 ≡ first = omega arith in z) (lines_left_out role line first 0 m ls ss
    ∙ ap (λ (x : ℕ). lines_findings role line (first + 0) ls ss
    ++ left_out_findings line first x m (mandatory_from 0 ls))
    (let z : 0 + length ss ≡ length ss = omega arith in z)) in
    k ∙ ap (λ (fs : List Finding). more ++ fs) others
    ∙ ap (λ (fs : List Finding). fs ++ rest) own
    ∙ append_assoc old (lines_findings role line first ls ss) rest
    ∙ ap (λ (fs : List Finding). old ++ fs) (sym all)
