-- Where a symbol takes no step by the first token, the fault there has its code.
use Rattle.std.proofs.Common.{◌≡◌, ℕ, zero, suc, List, [], ◌∷◌, ◌++◌, Option, Some, None, Bool}
use Rattle.std.proofs.Common.{true, false, cond, refl, sym, ap, ◌∙◌, subst, arith}
use Rattle.std.proofs.lemmas.Bool.Decides.{nat_tests}
use Rattle.std.specs.Str.{bytes_eq}
use Rattle.ili_grammar.specs.declared.source.Wanted.TheVariants as wants
use Rattle.ili_grammar.specs.declared.syntax.SyntaxFault as fault
use Rattle.ili_grammar.specs.declared.syntax.SyntaxFault.TheVariants as faults
use Rattle.ili_grammar.specs.Tokens.{Kind, name, number, hex, explanation, semicolon, colon, comma}
use Rattle.ili_grammar.specs.Tokens.{equals, left_paren, right_paren, left_bracket, right_bracket}
use Rattle.ili_grammar.specs.Tokens.{star, greater, period, two_periods, arrow, word, STRAIGHTS}
use Rattle.ili_grammar.specs.Tokens.{ARCS, LINEATTR, I16, I32, ANY, UNDEFINED, CONTINUE, TID, END}
use Rattle.ili_grammar.specs.Tokens.{DEFAULT, Info, Tok, tok}
use Rattle.ili_grammar.specs.Kinds.{same_kind, Not}
use Rattle.ili_grammar.specs.Numbers.{has, whole_code, hex_code}
use Rattle.ili_grammar.specs.Models.{IsValue, by_default, by_number, by_hex}
use Rattle.ili_grammar.specs.Parts.{ReadsValue, ReadsForm, ReadsEndName}
use Rattle.ili_grammar.specs.Syntax.{Ident}
use Rattle.ili_grammar.specs.Machine.{Sym, want, the_name, forms, a_type, maybe_parts}
use Rattle.ili_grammar.specs.Machine.{maybe_line_attributes, undefined_value, continue_value}
use Rattle.ili_grammar.specs.Machine.{tid_value, step, at_limit, fresh}
use Rattle.ili_grammar.specs.Run.{run}
use Rattle.ili_grammar.specs.Steps.{Refuses, Goes, Leads, NoWord, IsFaultAt, value_here, TakesValue}
use Rattle.ili_grammar.specs.Steps.{for_blank, for_undefined, for_continue}
use Rattle.ili_grammar.proofs.Stops.{AsksFor, Stuck, stops, off}
use Rattle.ili_grammar.proofs.ModelsDrive.{same_text, step_value, value_drives, stepped, tid_drives}

-- ---- forms, end names and identifications
pub stuck_form : (all w : List Tok) (f : fault.SyntaxFault) → Not (word STRAIGHTS) w
    → Not (word ARCS) w → IsFaultAt all w wants.LineForm f → Refuses all w (forms ∷ []) f
stuck_form all w f m n e =
    stops all w forms wants.LineForm f (record {
      must = refl;
      free = refl;
      form = refl;
      end_name = refl;
      value = refl;
    }) (stuck w m n) e
  where
    stuck : (w : List Tok) → Not (word STRAIGHTS) w → Not (word ARCS) w
        → Stuck forms wants.LineForm w
    stuck [] m n = tt
    stuck (tok k i ∷ r) m n =
        (rw (off (same_kind (word STRAIGHTS) k) m, off (same_kind (word ARCS) k) n) refl, refl)

pub stuck_end_name : (all w : List Tok) (x : List ℕ) (f : fault.SyntaxFault)
    → Stuck (the_name x) wants.EndName w → IsFaultAt all w wants.EndName f
    → Refuses all w (the_name x ∷ []) f
stuck_end_name all w x f s e =
    stops all w (the_name x) wants.EndName f (record {
      must = refl;
      free = refl;
      form = refl;
      end_name = refl;
      value = refl;
    }) s e

pub not_a_name : (w : List Tok) (x : List ℕ) → Not name w → Stuck (the_name x) wants.EndName w
not_a_name [] x n = tt
not_a_name (tok k i ∷ r) x n = (rw (off (same_kind name k) n) refl, refl)

pub other_bytes : (a b t x : List ℕ) → false ≡ bytes_eq a b → a ≡ t → b ≡ x → bytes_eq t x ≡ false
other_bytes a b t x e f g = let p : bytes_eq a b ≡ bytes_eq t x = cc in sym (e ∙ p)

pub other_name : (w u : List Tok) (x : List ℕ) (i : Info) → w ≡ tok name i ∷ u
    → bytes_eq i.text x ≡ false → Stuck (the_name x) wants.EndName w
other_name w u x i e h = subst (Stuck (the_name x) wants.EndName) (sym e) (rw h refl, refl)

pub goes_end_name : (w u : List Tok) (x : List ℕ) (i : Info) → w ≡ tok name i ∷ u
    → bytes_eq i.text x ≡ true → Goes w (the_name x ∷ []) u []
goes_end_name w u x i e h =
    record {
      by = λ stack l. subst (λ (w : List Tok). run w (the_name x ∷ stack) ≡ run u stack)
          (sym e) (rw h refl);
    }

pub goes_ended : (x : Ident) (w u : List Tok) → ReadsEndName x w u
    → Goes w (the_name x.text ∷ []) u []
goes_ended x w u (m, e, h) = goes_end_name w u x.text m e (same_text m.text x.text h)

pub stuck_tid : (all w : List Tok) (f : fault.SyntaxFault) → Not explanation w → Not (word I16) w
    → Not (word I32) w → Not (word ANY) w → IsFaultAt all w wants.Other f
    → Refuses all w (tid_value ∷ []) f
stuck_tid all w f a b c d e =
    stops all w tid_value wants.Other f (record {
      must = refl;
      free = refl;
      form = refl;
      end_name = refl;
      value = refl;
    }) (stuck w a b c d) e
  where
    stuck : (w : List Tok) → Not explanation w → Not (word I16) w → Not (word I32) w
        → Not (word ANY) w → Stuck tid_value wants.Other w
    stuck [] a b c d = tt
    stuck (tok k i ∷ r) a b c d = (
      rw (
        off (same_kind (word I16) k) b,
        off (same_kind (word I32) k) c,
        off (same_kind (word ANY) k) d,
        off (same_kind explanation k) a,
      ) refl,
      refl,
    )

pub goes_tid : (w u : List Tok) → ReadsForm w u → Goes w (tid_value ∷ []) u []
goes_tid w u (x, e, h) =
    record {
      by = λ stack l. subst (λ (w : List Tok). run w (tid_value ∷ stack) ≡ run u stack)
          (sym e) (tid_drives x h u stack);
    }

-- ---- types
pub type_asks : (d : ℕ) → AsksFor (a_type d) wants.Other
type_asks d = record { must = refl; free = refl; form = refl; end_name = refl; value = refl }

pub stuck_type : (all w : List Tok) (d : ℕ) (f : fault.SyntaxFault) → Not name w
    → Not left_bracket w → Not left_paren w → NoWord w → IsFaultAt all w wants.Other f
    → Refuses all w (a_type d ∷ []) f
stuck_type all w d f a b c n e =
    stops all w (a_type d) wants.Other f (type_asks d) (stuck d w a b c n) e
  where
    none : (d : ℕ) (k : Kind) (i : Info) (r : List Tok) → Not name (tok k i ∷ r)
        → Not left_bracket (tok k i ∷ r) → Not left_paren (tok k i ∷ r) → NoWord (tok k i ∷ r)
        → (step (a_type d) (tok k i) ≡ None) × (at_limit (a_type d) k ≡ false)
    none d name i r a b c n = absurd a
    none d (word k) i r a b c n = absurd n
    none d left_bracket i r a b c n = absurd b
    none d left_paren i r a b c n = absurd c
    none zero number i r a b c n = (refl, refl)
    none zero hex i r a b c n = (refl, refl)
    none zero explanation i r a b c n = (refl, refl)
    none zero semicolon i r a b c n = (refl, refl)
    none zero colon i r a b c n = (refl, refl)
    none zero comma i r a b c n = (refl, refl)
    none zero equals i r a b c n = (refl, refl)
    none zero right_paren i r a b c n = (refl, refl)
    none zero right_bracket i r a b c n = (refl, refl)
    none zero star i r a b c n = (refl, refl)
    none zero greater i r a b c n = (refl, refl)
    none zero period i r a b c n = (refl, refl)
    none zero two_periods i r a b c n = (refl, refl)
    none zero arrow i r a b c n = (refl, refl)
    none (suc d) number i r a b c n = (refl, refl)
    none (suc d) hex i r a b c n = (refl, refl)
    none (suc d) explanation i r a b c n = (refl, refl)
    none (suc d) semicolon i r a b c n = (refl, refl)
    none (suc d) colon i r a b c n = (refl, refl)
    none (suc d) comma i r a b c n = (refl, refl)
    none (suc d) equals i r a b c n = (refl, refl)
    none (suc d) right_paren i r a b c n = (refl, refl)
    none (suc d) right_bracket i r a b c n = (refl, refl)
    none (suc d) star i r a b c n = (refl, refl)
    none (suc d) greater i r a b c n = (refl, refl)
    none (suc d) period i r a b c n = (refl, refl)
    none (suc d) two_periods i r a b c n = (refl, refl)
    none (suc d) arrow i r a b c n = (refl, refl)

    stuck : (d : ℕ) (w : List Tok) → Not name w → Not left_bracket w → Not left_paren w → NoWord w
        → Stuck (a_type d) wants.Other w
    stuck d [] a b c n = tt
    stuck d (tok k i ∷ r) a b c n = none d k i r a b c n

pub deep_type : (all w u : List Tok) (d : ℕ) (f : fault.SyntaxFault) → d ≡ 0 → Leads left_paren w u
    → IsFaultAt all w wants.Shallower f → Refuses all w (a_type d ∷ []) f
deep_type all w u d f p (i, q) e = subst (λ (d : ℕ). Refuses all w (a_type d ∷ []) f) (sym p)
    (stops all w (a_type zero) wants.Shallower f (record {
      must = refl;
      free = refl;
      form = refl;
      end_name = refl;
      value = refl;
    }) (subst (Stuck (a_type zero) wants.Shallower) (sym q) (refl, refl)) e)

-- ---- parts too deep, whatever comes behind them
pub deep_parts : (all w u : List Tok) (d : ℕ) (f : fault.SyntaxFault) → d ≡ 0 → Leads left_paren w u
    → IsFaultAt all w wants.Shallower f → Refuses all w (maybe_parts d ∷ []) f
deep_parts all w u d f p (i, q) e =
    subst (λ (d : ℕ). Refuses all w (maybe_parts d ∷ []) f) (sym p)
    (subst (λ (w : List Tok). IsFaultAt all w wants.Shallower f
    → Refuses all w (maybe_parts zero ∷ []) f) (sym q) (told f) e)
  where
    told : (f : fault.SyntaxFault) → IsFaultAt all (tok left_paren i ∷ u) wants.Shallower f
        → Refuses all (tok left_paren i ∷ u) (maybe_parts zero ∷ []) f
    told faults.Memory h = absurd h
    told (faults.At c None) h = absurd h
    told (faults.At c (Some n)) h = record { told = λ stack. h }

pub deep_line : (all w u : List Tok) (d : ℕ) (f : fault.SyntaxFault) → d ≡ 0
    → Leads (word LINEATTR) w u → IsFaultAt all w wants.Shallower f
    → Refuses all w (maybe_line_attributes d ∷ []) f
deep_line all w u d f p (i, q) e =
    subst (λ (d : ℕ). Refuses all w (maybe_line_attributes d ∷ []) f) (sym p)
    (subst (λ (w : List Tok). IsFaultAt all w wants.Shallower f
    → Refuses all w (maybe_line_attributes zero ∷ []) f) (sym q) (told f) e)
  where
    told : (f : fault.SyntaxFault) → IsFaultAt all (tok (word LINEATTR) i ∷ u) wants.Shallower f
        → Refuses all (tok (word LINEATTR) i ∷ u) (maybe_line_attributes zero ∷ []) f
    told faults.Memory h = absurd h
    told (faults.At c None) h = absurd h
    told (faults.At c (Some n)) h = record { told = λ stack. h }

-- ---- values
value_asks : {d : ℕ} {used : List ℕ} {x : Sym} → TakesValue d used x → AsksFor x wants.Value
value_asks for_blank = record {
  must = refl;
  free = refl;
  form = refl;
  end_name = refl;
  value = refl;
}
value_asks (for_undefined b) = record {
  must = refl;
  free = refl;
  form = refl;
  end_name = refl;
  value = refl;
}
value_asks (for_continue b u) = record {
  must = refl;
  free = refl;
  form = refl;
  end_name = refl;
  value = refl;
}

-- what the symbol becomes by a value
abbrev pub behind_value : {d : ℕ} {used : List ℕ} {x : Sym} → TakesValue d used x → ℕ → List Sym
behind_value for_blank c = want comma ∷ want (word UNDEFINED) ∷ want equals ∷ undefined_value c ∷ []
behind_value (for_undefined b) c =
    want comma ∷ want (word CONTINUE) ∷ want equals ∷ continue_value b c ∷ []
behind_value (for_continue b u) c =
    want semicolon ∷ want (word TID) ∷ want equals ∷ tid_value ∷ want semicolon ∷ want (word END)
    ∷ want period ∷ []

value_steps : (d : ℕ) (used : List ℕ) (x : Sym) (t : TakesValue d used x) (h : Tok)
    → step x h ≡ step_value d used (behind_value t) h
value_steps _ _ _ for_blank (tok k i) = refl
value_steps _ _ _ (for_undefined b) (tok k i) = refl
value_steps _ _ _ (for_continue b u) (tok k i) = refl

value_limit : (d : ℕ) (used : List ℕ) (x : Sym) (k : Kind) → TakesValue d used x
    → at_limit x k ≡ false
value_limit _ _ _ k for_blank = refl
value_limit _ _ _ k (for_undefined b) = refl
value_limit _ _ _ k (for_continue b u) = refl

pub no_value : (all w : List Tok) (d : ℕ) (used : List ℕ) (x : Sym) (f : fault.SyntaxFault)
    → TakesValue d used x → None ≡ value_here d w → IsFaultAt all w wants.Value f
    → Refuses all w (x ∷ []) f
no_value all w d used x f t n e = stops all w x wants.Value f (value_asks t) (stuck w n) e
  where
    none : (a b c : Bool) (o p : Option ℕ) (used : List ℕ) (new : ℕ → List Sym)
        → None ≡ cond a (Some d) (cond b o (cond c p None))
        → cond a (fresh used new (Some d))
        (cond b (fresh used new o) (cond c (fresh used new p) None)) ≡ None
    none true b c o p used new n = absurd (cc)
    none false true c o p used new n = rw (← n) refl
    none false false true o p used new n = rw (← n) refl
    none false false false o p used new n = refl

    stuck : (w : List Tok) → None ≡ value_here d w → Stuck x wants.Value w
    stuck [] n = tt
    stuck (tok k i ∷ r) n = (
      value_steps d used x t (tok k i)
          ∙ none (same_kind (word DEFAULT) k) (same_kind number k) (same_kind hex k)
          (whole_code i.text) (hex_code i.text) used (behind_value t) n,
      value_limit d used x k t,
    )

is_used : (d c : ℕ) (t : Tok) → IsValue d c t → (used : List ℕ) (next : ℕ → List Sym)
    → has c used ≡ true → step_value d used next t ≡ None
is_used d _ _ (by_default i) used next h = rw h refl
is_used d _ _ (by_number c i e) used next h = rw (e, h) refl
is_used d _ _ (by_hex c i e) used next h = rw (e, h) refl

pub is_in_one : (c b : ℕ) → c ≡ b → has c (b ∷ []) ≡ true
is_in_one c b e = grind (arith, nat_tests)

pub is_first_of : (c b u : ℕ) → c ≡ b → has c (b ∷ u ∷ []) ≡ true
is_first_of c b u e = grind (arith, nat_tests)

pub is_second_of : (c b u : ℕ) → c ≡ u → has c (b ∷ u ∷ []) ≡ true
is_second_of c b u e = grind (arith, nat_tests)

pub used_value : (all w u : List Tok) (d c : ℕ) (used : List ℕ) (x : Sym) (f : fault.SyntaxFault)
    → TakesValue d used x → ReadsValue d c w u → has c used ≡ true → IsFaultAt all w wants.Value f
    → Refuses all w (x ∷ []) f
used_value all w u d c used x f t (h, p, v) n e =
    stops all w x wants.Value f (value_asks t) (subst (Stuck x wants.Value) (sym p) (stuck h v)) e
  where
    stuck : (h : Tok) → IsValue d c h → Stuck x wants.Value (h ∷ u)
    stuck (tok k i) v = (
      value_steps d used x t (tok k i)
          ∙ is_used d c (tok k i) v used (behind_value t) n,
      value_limit d used x k t,
    )

pub goes_value : (w u : List Tok) (d c : ℕ) (used : List ℕ) (x : Sym) (t : TakesValue d used x)
    → ReadsValue d c w u → has c used ≡ false → Goes w (x ∷ []) u (behind_value t c)
goes_value w u d c used x t (h, p, v) n = record {
  by = λ stack l. subst (λ (w : List Tok). run w (x ∷ stack) ≡ run u (behind_value t c ++ stack))
      (sym p)
      (stepped h u x stack (behind_value t c)
      (value_drives d c h v x used (behind_value t) (value_steps d used x t) n));
}

-- ---- the value that a token stands for
pub by_default_here : (d : ℕ) (w u : List Tok) → Leads (word DEFAULT) w u → Some d ≡ value_here d w
by_default_here d w u (i, e) = subst (λ (w : List Tok). Some d ≡ value_here d w) (sym e) refl

pub by_number_here : (d : ℕ) (o : Option ℕ) (b : List ℕ) (i : Info) (w u : List Tok)
    → o ≡ whole_code b → b ≡ i.text → w ≡ tok number i ∷ u → o ≡ value_here d w
by_number_here d o b i w u e f g =
    subst (λ (w : List Tok). o ≡ value_here d w) (sym g) (e ∙ ap whole_code f)

pub by_hex_here : (d : ℕ) (o : Option ℕ) (b : List ℕ) (i : Info) (w u : List Tok) → o ≡ hex_code b
    → b ≡ i.text → w ≡ tok hex i ∷ u → o ≡ value_here d w
by_hex_here d o b i w u e f g =
    subst (λ (w : List Tok). o ≡ value_here d w) (sym g) (e ∙ ap hex_code f)

pub none_here : (d : ℕ) (w : List Tok) → Not (word DEFAULT) w → Not number w → Not hex w
    → None ≡ value_here d w
none_here d [] a b c = refl
none_here d (tok k i ∷ r) a b c =
    rw (off (same_kind (word DEFAULT) k) a, off (same_kind number k) b, off (same_kind hex k) c)
    refl
