-- A pass gives the logical lines of a text.
use Rattle.std.proofs.Common.{◌≡◌, ℕ, ◌+◌, suc, Bool, true, false, List, [], ◌∷◌, ◌++◌, length}
use Rattle.std.proofs.Common.{Some, None, refl, ap, sym, ◌∙◌, arith, if◌then◌else◌, cond}
use Rattle.std.proofs.lemmas.List.{append_assoc, append-nil}
use Rattle.std.specs.List.{flat_map}
use Rattle.itf_lines.specs.declared.logical.LineFault.{LineFault}
use Rattle.itf_lines.specs.declared.logical.LineFault.TheVariants.{OpenContinue, StrayCont}
use Rattle.itf_lines.specs.LogicalLines.{Piece, LogicalLine, is_cont, without_first, fault_of}
use Rattle.itf_lines.specs.LogicalLines.{line_of, line_with, logical_of, groups, join, sound_groups}
use Rattle.itf_lines.specs.LogicalLines.{first_fault, pieces, head, body, head_line, head_lines}
use Rattle.itf_lines.specs.LogicalLines.{is_slashes, without_code, goes_on}
use Rattle.itf_lines.specs.Fields.{fields}
use Rattle.itf_lines.specs.PassStates.{OpenLine, PassState, in_the_head, between, waiting, broken}
use Rattle.itf_lines.specs.Pass.{Step, Rest, no_fields, with_fields, line_in, end_step, fault_step}
use Rattle.itf_lines.specs.Pass.{lines_then, pass}
use Rattle.itf_lines.proofs.Gathering.{gathered_line}
use Rattle.itf_lines.proofs.OpenGroups.{Opens, piece_at, opened, opened_more, open_end, open_broken}
use Rattle.itf_lines.proofs.OpenGroups.{open_closed, open_line}

-- what some groups give
abbrev pub rest_of : List (List Piece) → Rest
rest_of gs = record { lines = flat_map line_of (sound_groups gs); fault = first_fault gs }

abbrev pub only_fault : LineFault → Rest
only_fault f = record { lines = []; fault = Some f }

-- a group that has come before what follows
abbrev pub prefixed : List Piece → List (List Piece) → List (List Piece)
prefixed g [] = g ∷ []
prefixed g (h ∷ gs) = (g ++ h) ∷ gs

faulty : (g : List Piece) (gs : List (List Piece)) (f : LineFault) → fault_of g ≡ Some f
    → rest_of (g ∷ gs) ≡ only_fault f
faulty g gs f h = rw h refl

clean : (g : List Piece) (gs : List (List Piece)) (ls : List LogicalLine) → fault_of g ≡ None
    → line_of g ≡ ls → rest_of (g ∷ gs) ≡ lines_then ls (rest_of gs)
clean g gs ls h e = rw (h, e) refl

stray : (n : ℕ) (fs : List (List ℕ)) (o : Bool) (rest : List Piece) → is_cont fs ≡ true
    → fault_of (piece_at n fs o ∷ rest) ≡ Some (StrayCont n)
stray n fs o rest h = rw h refl

alone : (n : ℕ) (fs : List (List ℕ)) → is_cont fs ≡ false
    → fault_of (piece_at n fs false ∷ []) ≡ None
alone n fs h = rw h refl

joined : (p : Piece) (gs : List (List Piece)) (f : LineFault)
    → ((rest : List Piece) → fault_of (p ∷ rest) ≡ Some f) → rest_of (join p gs) ≡ only_fault f
joined p [] f h = faulty (p ∷ []) [] f (h [])
joined p (g ∷ gs) f h = faulty (p ∷ g) gs f (h g)

-- a piece at the front, faulty whatever follows
front_faulty : (n : ℕ) (fs : List (List ℕ)) (o : Bool) (q : List Piece) (f : LineFault)
    → ((rest : List Piece) → fault_of (piece_at n fs o ∷ rest) ≡ Some f)
    → rest_of (groups (piece_at n fs o ∷ q)) ≡ only_fault f
front_faulty n fs true q f h = joined (piece_at n fs true) (groups q) f h
front_faulty n fs false q f h = faulty (piece_at n fs false ∷ []) (groups q) f (h [])

prefix_one : (p : Piece) (gs : List (List Piece)) → join p gs ≡ prefixed (p ∷ []) gs
prefix_one p [] = refl
prefix_one p (g ∷ gs) = refl

prefix_join : (g : List Piece) (p : Piece) (gs : List (List Piece))
    → prefixed g (join p gs) ≡ prefixed (g ++ (p ∷ [])) gs
prefix_join g p [] = refl
prefix_join g p (h ∷ gs) = ap (λ (k : List Piece). k ∷ gs) (sym (append_assoc g (p ∷ []) h))

prefix_faulty_join : (g : List Piece) (p : Piece) (gs : List (List Piece)) (f : LineFault)
    → ((rest : List Piece) → fault_of (g ++ (p ∷ rest)) ≡ Some f)
    → rest_of (prefixed g (join p gs)) ≡ only_fault f
prefix_faulty_join g p [] f h = faulty (g ++ (p ∷ [])) [] f (h [])
prefix_faulty_join g p (k ∷ gs) f h = faulty (g ++ (p ∷ k)) gs f (h k)

prefix_faulty : (g : List Piece) (n : ℕ) (fs : List (List ℕ)) (o : Bool) (q : List Piece)
    (f : LineFault)
    → ((rest : List Piece) → fault_of (g ++ (piece_at n fs o ∷ rest)) ≡ Some f)
    → rest_of (prefixed g (groups (piece_at n fs o ∷ q))) ≡ only_fault f
prefix_faulty g n fs true q f h = prefix_faulty_join g (piece_at n fs true) (groups q) f h
prefix_faulty g n fs false q f h = faulty (g ++ (piece_at n fs false ∷ [])) (groups q) f (h [])

-- what a pass gives from each place on, where these pieces follow
record Known (q : List Piece) (from : PassState → Rest) : Type 0 where
  between : from between ≡ rest_of (groups q)
  waiting : (g : List Piece) (w : OpenLine) (last : ℕ) → Opens g w last
      → from (waiting w last) ≡ rest_of (prefixed g (groups q))
  broken : (f : LineFault) → from (broken f) ≡ only_fault f

abbrev taken : Step → (PassState → Rest) → Rest
taken s from = lines_then s.lines (from s.next)

begun_not : (n : ℕ) (fs : List (List ℕ)) (o : Bool) (q : List Piece) (from : PassState → Rest)
    → Known q from → is_cont fs ≡ false
    → taken (end_step o n (with_fields (no_fields n) fs)) from
    ≡ rest_of (groups (piece_at n fs o ∷ q))
begun_not n fs true q from k h =
    k.waiting (piece_at n fs true ∷ []) (with_fields (no_fields n) fs) n (opened n fs h)
    ∙ ap rest_of (sym (prefix_one (piece_at n fs true) (groups q)))
begun_not n fs false q from k h =
    ap (lines_then (line_in (with_fields (no_fields n) fs))) k.between
    ∙ sym (clean (piece_at n fs false ∷ []) (groups q) (line_in (with_fields (no_fields n) fs))
    (alone n fs h) (ap (line_with n) (append-nil fs) ∙ sym (gathered_line n fs)))

begun_is : (n : ℕ) (fs : List (List ℕ)) (o : Bool) (q : List Piece) (from : PassState → Rest)
    → Known q from
    → taken (if is_cont fs then fault_step (StrayCont n) else end_step o n
    (with_fields (no_fields n) fs)) from ≡ rest_of (groups (piece_at n fs o ∷ q))
begun_is n fs o q from k =
    elim (is_cont fs) as (λ b. is_cont fs ≡ b
    → taken (if b then fault_step (StrayCont n) else end_step o n
    (with_fields (no_fields n) fs)) from ≡ rest_of (groups (piece_at n fs o ∷ q))) [
      | true ↦ λ e. k.broken (StrayCont n)
          ∙ sym (front_faulty n fs o q (StrayCont n) (λ rest. stray n fs o rest e))
      | false ↦ λ e. begun_not n fs o q from k e
    ] refl

gone_cont : (g : List Piece) (w : OpenLine) (last n : ℕ) (fs : List (List ℕ)) (o : Bool)
    (q : List Piece) (from : PassState → Rest)
    → Known q from → Opens g w last → is_cont fs ≡ true
    → taken (end_step o n (with_fields w (without_first fs))) from
    ≡ rest_of (prefixed g (groups (piece_at n fs o ∷ q)))
gone_cont g w last n fs true q from k i h =
    k.waiting (g ++ (piece_at n fs true ∷ [])) (with_fields w (without_first fs)) n
    (opened_more g w last n fs i h)
    ∙ ap rest_of (sym (prefix_join g (piece_at n fs true) (groups q)))
gone_cont g w last n fs false q from k i h =
    ap (lines_then (line_in (with_fields w (without_first fs)))) k.between
    ∙ sym (clean (g ++ (piece_at n fs false ∷ [])) (groups q)
    (line_in (with_fields w (without_first fs))) (open_closed g w last n fs i h)
    (open_line g w last n fs i))

gone_is : (g : List Piece) (w : OpenLine) (last n : ℕ) (fs : List (List ℕ)) (o : Bool)
    (q : List Piece) (from : PassState → Rest)
    → Known q from → Opens g w last
    → taken (if is_cont fs then end_step o n (with_fields w (without_first fs)) else fault_step
    (OpenContinue last)) from ≡ rest_of (prefixed g (groups (piece_at n fs o ∷ q)))
gone_is g w last n fs o q from k i =
    elim (is_cont fs) as (λ b. is_cont fs ≡ b
    → taken (if b then end_step o n (with_fields w (without_first fs)) else fault_step
    (OpenContinue last)) from ≡ rest_of (prefixed g (groups (piece_at n fs o ∷ q)))) [
      | true ↦ λ e. gone_cont g w last n fs o q from k i e
      | false ↦ λ e. k.broken (OpenContinue last)
          ∙ sym (prefix_faulty g n fs o q (OpenContinue last)
          (λ rest. open_broken g w last n fs o rest i e))
    ] refl

still_broken : (code n : ℕ) (f : LineFault) (ls : List (List ℕ))
    → pass code n (broken f) ls ≡ only_fault f
still_broken code n f [] = refl
still_broken code n f (l ∷ ls) = still_broken code (n + 1) f ls

-- after the head a pass gives the lines and the fault of the groups
known : (code n : ℕ) (ls : List (List ℕ)) → Known (pieces code n ls) (λ state. pass code n state ls)
known code n [] = record {
  between = refl;
  waiting = λ g w last i. sym (faulty g [] (OpenContinue last) (open_end g w last i));
  broken = λ f. refl;
}
known code n (l ∷ ls) =
    let text = without_code code l in
    let from = λ (state : PassState). pass code (n + 1) state ls in
    let k = known code (n + 1) ls in
    record {
      between = begun_is n (fields text) (goes_on code l) (pieces code (n + 1) ls) from k;
      waiting = λ g w last i. gone_is g w last n (fields text) (goes_on code l)
          (pieces code (n + 1) ls) from k i;
      broken = λ f. still_broken code (n + 1) f ls;
    }

pub body_pass : (code n : ℕ) (ls : List (List ℕ))
    → pass code n between ls ≡ rest_of (groups (pieces code n ls))
body_pass code n ls = let k = known code n ls in k.between

-- and from the start on the lines of the head before them
abbrev pub whole_from : ℕ → ℕ → List (List ℕ) → Rest
whole_from code n ls =
    lines_then (head_lines n (head ls))
    (rest_of (groups (pieces code (n + length (head ls)) (body ls))))

abbrev head_if : ℕ → ℕ → List ℕ → List (List ℕ) → Bool → Rest
head_if code n l ls b =
    let front = cond b (l ∷ []) (l ∷ head ls) in
    lines_then (head_lines n front)
    (rest_of (groups (pieces code (n + length front) (cond b ls (body ls)))))

slashes_first : (code n : ℕ) (l : List ℕ) (ls : List (List ℕ)) → is_slashes l ≡ true
    → whole_from code n (l ∷ ls) ≡ lines_then (head_line n l ∷ [])
    (rest_of (groups (pieces code (n + 1) ls)))
slashes_first code n l ls h = ap (head_if code n l ls) h

free_first : (code n : ℕ) (l : List ℕ) (ls : List (List ℕ)) → is_slashes l ≡ false
    → whole_from code n (l ∷ ls) ≡ lines_then (head_line n l ∷ []) (whole_from code (n + 1) ls)
free_first code n l ls h =
    let e : n + suc (length (head ls)) ≡ (n + 1) + length (head ls) = omega arith in
    ap (head_if code n l ls) h
    ∙ ap (λ (m : ℕ). lines_then (head_line n l ∷ head_lines (n + 1) (head ls))
    (rest_of (groups (pieces code m (body ls))))) e

pub head_pass : (code n : ℕ) (ls : List (List ℕ))
    → pass code n in_the_head ls ≡ whole_from code n ls
head_pass code n [] = refl
head_pass code n (l ∷ ls) =
    elim (is_slashes l) as (λ b. is_slashes l ≡ b
    → lines_then (head_line n l ∷ [])
    (pass code (n + 1) (if b then between else in_the_head) ls) ≡ whole_from code n (l ∷ ls)) [
      | true ↦ λ e. ap (lines_then (head_line n l ∷ [])) (body_pass code (n + 1) ls)
          ∙ sym (slashes_first code n l ls e)
      | false ↦ λ e. ap (lines_then (head_line n l ∷ [])) (head_pass code (n + 1) ls)
          ∙ sym (free_first code n l ls e)
    ] refl

-- so that a pass from the start on gives the logical lines
pub whole_pass : (code : ℕ) (ps : List (List ℕ))
    → record {
      lines = (pass code 1 in_the_head ps).lines;
      fault = (pass code 1 in_the_head ps).fault;
      total = length ps;
    } ≡ logical_of code ps
whole_pass code ps =
    ap (λ (r : Rest). record { lines = r.lines; fault = r.fault; total = length ps })
    (head_pass code 1 ps)
