-- A group of pieces that all go on, as a pass keeps it.
use Rattle.std.proofs.Common.{◌≡◌, ℕ, Bool, true, false, List, [], ◌∷◌, ◌++◌, Option, Some, None}
use Rattle.std.proofs.Common.{refl, ap, sym, ◌∙◌, if◌then◌else◌}
use Rattle.std.proofs.lemmas.List.{append_assoc, append-nil}
use Rattle.std.specs.List.{flat_map}
use Rattle.itf_lines.specs.declared.logical.LineFault.{LineFault}
use Rattle.itf_lines.specs.declared.logical.LineFault.TheVariants.{OpenContinue}
use Rattle.itf_lines.specs.LogicalLines.{Piece, is_cont, without_first, fault_after, fault_of}
use Rattle.itf_lines.specs.LogicalLines.{line_of}
use Rattle.itf_lines.specs.PassStates.{OpenLine}
use Rattle.itf_lines.specs.Pass.{no_fields, with_fields, line_in}
use Rattle.itf_lines.proofs.Gathering.{with_fields-append, gathered_line}

-- the fields that pieces add to a line
abbrev pub added_by : List Piece → List (List ℕ)
added_by ps = flat_map (λ q. without_first q.fields) ps

-- the fault where a piece of that number goes on and these follow
abbrev pub broken_after : ℕ → List Piece → Option LineFault
broken_after last [] = Some (OpenContinue last)
broken_after last (q ∷ ps) = if is_cont q.fields then fault_after q ps else Some (OpenContinue last)

-- whatever follows the group, its fault and its line are known by what is kept
pub record Opens (group : List Piece) (held : OpenLine) (last : ℕ) : Type 0 where
  pub fault : (rest : List Piece) → fault_of (group ++ rest) ≡ broken_after last rest
  pub line : (rest : List Piece)
      → line_of (group ++ rest) ≡ line_in (with_fields held (added_by rest))

abbrev pub piece_at : ℕ → List (List ℕ) → Bool → Piece
piece_at n fs o = record { number = n; fields = fs; goes_on = o }

on_and_on : (n : ℕ) (fs : List (List ℕ)) (rest : List Piece)
    → fault_after (piece_at n fs true) rest ≡ broken_after n rest
on_and_on n fs [] = refl
on_and_on n fs (q ∷ rest) = refl

begins : (n : ℕ) (fs : List (List ℕ)) (o : Bool) (rest : List Piece) → is_cont fs ≡ false
    → fault_of (piece_at n fs o ∷ rest) ≡ fault_after (piece_at n fs o) rest
begins n fs o rest h = rw h refl

-- a piece that goes on and is no CONT line
pub opened : (n : ℕ) (fs : List (List ℕ)) → is_cont fs ≡ false
    → Opens (piece_at n fs true ∷ []) (with_fields (no_fields n) fs) n
opened n fs h = record {
  fault = λ rest. begins n fs true rest h ∙ on_and_on n fs rest;
  line = λ rest. sym (ap line_in (sym (with_fields-append (no_fields n) fs (added_by rest)))
      ∙ gathered_line n (fs ++ added_by rest));
}

continues : (last n : ℕ) (fs : List (List ℕ)) (o : Bool) (rest : List Piece) → is_cont fs ≡ true
    → broken_after last (piece_at n fs o ∷ rest) ≡ fault_after (piece_at n fs o) rest
continues last n fs o rest h = rw h refl

-- and a CONT line that goes on
pub opened_more : (g : List Piece) (w : OpenLine) (last n : ℕ) (fs : List (List ℕ)) → Opens g w last
    → is_cont fs ≡ true
    → Opens (g ++ (piece_at n fs true ∷ [])) (with_fields w (without_first fs)) n
opened_more g w last n fs k h =
    let p = piece_at n fs true in
    record {
      fault = λ rest. ap fault_of (append_assoc g (p ∷ []) rest)
          ∙ (k.fault (p ∷ rest) ∙ (continues last n fs true rest h ∙ on_and_on n fs rest));
      line = λ rest. ap line_of (append_assoc g (p ∷ []) rest)
          ∙ (k.line (p ∷ rest)
          ∙ ap line_in (with_fields-append w (without_first fs) (added_by rest)));
    }

-- nothing more comes
pub open_end : (g : List Piece) (w : OpenLine) (last : ℕ) → Opens g w last
    → fault_of g ≡ Some (OpenContinue last)
open_end g w last k = ap fault_of (sym (append-nil g)) ∙ k.fault []

-- another line follows
pub open_broken : (g : List Piece) (w : OpenLine) (last n : ℕ) (fs : List (List ℕ)) (o : Bool)
    (rest : List Piece)
    → Opens g w last → is_cont fs ≡ false
    → fault_of (g ++ (piece_at n fs o ∷ rest)) ≡ Some (OpenContinue last)
open_broken g w last n fs o rest k h = k.fault (piece_at n fs o ∷ rest) ∙ other last n fs o rest h
  where
    other : (last n : ℕ) (fs : List (List ℕ)) (o : Bool) (rest : List Piece) → is_cont fs ≡ false
        → broken_after last (piece_at n fs o ∷ rest) ≡ Some (OpenContinue last)
    other last n fs o rest h = rw h refl

-- the last CONT line follows
pub open_closed : (g : List Piece) (w : OpenLine) (last n : ℕ) (fs : List (List ℕ)) → Opens g w last
    → is_cont fs ≡ true → fault_of (g ++ (piece_at n fs false ∷ [])) ≡ None
open_closed g w last n fs k h = k.fault (piece_at n fs false ∷ []) ∙ continues last n fs false [] h

pub open_line : (g : List Piece) (w : OpenLine) (last n : ℕ) (fs : List (List ℕ)) → Opens g w last
    → line_of (g ++ (piece_at n fs false ∷ [])) ≡ line_in (with_fields w (without_first fs))
open_line g w last n fs k = k.line (piece_at n fs false ∷ [])
    ∙ ap (λ (xs : List (List ℕ)). line_in (with_fields w xs)) (append-nil (without_first fs))
