-- How the machine follows a reader: what was read takes it on, and what is refused stops it.
use Rattle.std.proofs.Common.{Result, Ok, Err, IfErr, IsErrAnd, ◌≡◌, List, [], ◌∷◌, ◌++◌, Some}
use Rattle.std.proofs.Common.{None, true, false, refl, sym, ap, ◌∙◌, subst, append_assoc}
use Rattle.ili_grammar.specs.declared.syntax.SyntaxFault as fault
use Rattle.ili_grammar.specs.declared.syntax.SyntaxFault.TheVariants as faults
use Rattle.ili_grammar.specs.Tokens.{Kind, name, number, Info, Tok, tok}
use Rattle.ili_grammar.specs.Syntax.{Ident, Decimal}
use Rattle.ili_grammar.specs.Kinds.{same_kind, Not}
use Rattle.ili_grammar.specs.Machine.{Sym, want, optional, step, at_limit}
use Rattle.ili_grammar.specs.Run.{Outcome, run}
use Rattle.ili_grammar.specs.Steps.{IsReportedBy, Refuses, Left, Goes, Leads, LeadsName}
use Rattle.ili_grammar.specs.Steps.{LeadsNumber}
use Rattle.ili_grammar.proofs.CodeStands.{same_self}
use Rattle.ili_grammar.proofs.Stops.{off}

-- ---- one after the other
left_more : (new more stack : List Sym) → Left (new ++ more) → Left (new ++ (more ++ stack))
left_more [] [] stack h = absurd h
left_more [] (s ∷ more) stack h = tt
left_more (s ∷ new) more stack h = tt

pub then : {all w u : List Tok} {new left : List Sym} {f : fault.SyntaxFault} (more : List Sym)
    → Goes w new u left → Left (left ++ more) → Refuses all u (left ++ more) f
    → Refuses all w (new ++ more) f
then {all} {w} {u} {new} {left} {f} more g l h = record {
  told = λ stack.
      let e = ap (run w) (append_assoc new more stack)
      ∙ g.by (more ++ stack) (left_more left more stack l)
      ∙ sym (ap (run u) (append_assoc left more stack)) in
      subst (λ (o : Outcome). IsReportedBy all o f) (sym e) (h.told stack);
}

pub join : {w u v : List Tok} {new left last : List Sym} (more : List Sym) → Goes w new u left
    → Left (left ++ more) → Goes u (left ++ more) v last → Goes w (new ++ more) v last
join {w} {u} {v} {new} {left} {last} more g l h = record {
  by = λ stack k.
      ap (run w) (append_assoc new more stack) ∙ g.by (more ++ stack) (left_more left more stack l)
      ∙ sym (ap (run u) (append_assoc left more stack)) ∙ h.by stack k;
}

-- what is refused, or read, behind what was read
pub after : {all w u : List Tok} {x : Sym} {new more : List Sym} {f : fault.SyntaxFault}
    → Goes w new u [] → Refuses all u (x ∷ more) f → Refuses all w (new ++ x ∷ more) f
after {x = x} {more = more} g h = then (x ∷ more) g tt h

pub and : {w u v : List Tok} {x : Sym} {new more last : List Sym} → Goes w new u []
    → Goes u (x ∷ more) v last → Goes w (new ++ x ∷ more) v last
and {x = x} {more = more} g h = join (x ∷ more) g tt h

-- .. in the place of a symbol
pub within : {all w u : List Tok} {x y : Sym} {new : List Sym} {f : fault.SyntaxFault}
    (more : List Sym)
    → Goes w (x ∷ []) u (y ∷ new) → Refuses all u (y ∷ (new ++ more)) f → Refuses all w (x ∷ more) f
within more g h = then more g tt h

pub by_way : {w u v : List Tok} {x y : Sym} {new last : List Sym} (more : List Sym)
    → Goes w (x ∷ []) u (y ∷ new) → Goes u (y ∷ (new ++ more)) v last → Goes w (x ∷ more) v last
by_way more g h = join more g tt h

-- .. in the place of all symbols
left_all : (new stack : List Sym) → Left new → Left (new ++ stack)
left_all [] stack h = absurd h
left_all (s ∷ new) stack h = tt

pub refused_at : {all w u : List Tok} {new left : List Sym} {f : fault.SyntaxFault}
    → Goes w new u left → Left left → Refuses all u left f → Refuses all w new f
refused_at {all} {w} {u} {new} {left} {f} g l h =
    record {
      told = λ stack. subst (λ (o : Outcome). IsReportedBy all o f)
          (sym (g.by stack (left_all left stack l))) (h.told stack);
    }

pub onward : {w u v : List Tok} {new left last : List Sym} → Goes w new u left → Left left
    → Goes u left v last → Goes w new v last
onward {w} {u} {v} {new} {left} {last} g l h =
    record { by = λ stack k. g.by stack (left_all left stack l) ∙ h.by stack k }

pub stay : (w : List Tok) (new : List Sym) → Goes w new w new
stay w new = record { by = λ stack l. refl }

-- what stands behind a refused symbol does not count
pub first : {all w : List Tok} {new : List Sym} {f : fault.SyntaxFault} (more : List Sym)
    → Refuses all w new f → Refuses all w (new ++ more) f
first {all} {w} {new} {f} more h =
    record {
      told = λ stack. subst (λ (s : List Sym). IsReportedBy all (run w s) f)
          (sym (append_assoc new more stack)) (h.told (more ++ stack));
    }

pub no_memory : (all w : List Tok) (new : List Sym) (f : fault.SyntaxFault) → f ≡ faults.Memory
    → Refuses all w new f
no_memory all w new f e =
    record {
      told = λ stack. subst
          (λ (f : fault.SyntaxFault). IsReportedBy all (run w (new ++ stack)) f) (sym e) tt;
    }

-- a fault that is handed on
pub handed : {A : Type 0} (r : Result A fault.SyntaxFault) (P : fault.SyntaxFault → Type 0)
    (e : fault.SyntaxFault)
    → IsErrAnd r (λ f. f ≡ e) → P e → IfErr r P
handed (Ok a) P e h x = absurd h
handed (Err f) P e h x = subst P (sym h) x

-- ---- by a token
pub by_token : (x : Sym) (k : Kind) (new : List Sym) (w u : List Tok)
    → ((i : Info) → step x (tok k i) ≡ Some new) → Leads k w u → Goes w (x ∷ []) u new
by_token x k new w u s (i, e) =
    record {
      by = λ stack l. subst (λ (w : List Tok). run w (x ∷ stack) ≡ run u (new ++ stack))
          (sym e) (rw (s i) refl);
    }

pub goes_want : (k : Kind) (w u : List Tok) → Leads k w u → Goes w (want k ∷ []) u []
goes_want k w u h = by_token (want k) k [] w u (λ i. rw (same_self k) refl) h

pub goes_name : (x : Ident) (w u : List Tok) → LeadsName x w u → Goes w (want name ∷ []) u []
goes_name x w u (i, e, p) = goes_want name w u (i, e)

pub leads_name : (x : Ident) (w u : List Tok) → LeadsName x w u → Leads name w u
leads_name x w u (i, e, p) = (i, e)

pub goes_number : (x : Decimal) (w u : List Tok) → LeadsNumber x w u
    → Goes w (want number ∷ []) u []
goes_number x w u (i, e, p) = goes_want number w u (i, e)

-- ---- left out
-- the symbol neither begins with the first token nor would at a lesser depth
abbrev Skips : Sym → List Tok → Type 0
Skips x [] = Unit {0}
Skips x (tok k i ∷ r) = (step x (tok k i) ≡ None) × (at_limit x k ≡ false)

short_left : (x : Sym) (stack : List Sym) → Left stack → run [] (x ∷ stack) ≡ run [] stack
short_left x [] h = absurd h
short_left x (s ∷ stack) h = refl

skip : (x : Sym) (w : List Tok) → optional x ≡ true → Skips x w → Goes w (x ∷ []) w []
skip x [] o h = record { by = λ stack l. short_left x stack l }
skip x (tok k i ∷ r) o h = record { by = λ stack l. rw (h.0, h.1, o) refl }

pub leave_out : (x : Sym) (k : Kind) (w : List Tok) → optional x ≡ true
    → ((h : Kind) (i : Info) → same_kind k h ≡ false
    → (step x (tok h i) ≡ None) × (at_limit x h ≡ false))
    → Not k w → Goes w (x ∷ []) w []
leave_out x k w o f n = skip x w o (skips w n)
  where
    skips : (w : List Tok) → Not k w → Skips x w
    skips [] n = tt
    skips (tok h i ∷ r) n = f h i (off (same_kind k h) n)

pub leave_out2 : (x : Sym) (j k : Kind) (w : List Tok) → optional x ≡ true
    → ((h : Kind) (i : Info) → same_kind j h ≡ false → same_kind k h ≡ false
    → (step x (tok h i) ≡ None) × (at_limit x h ≡ false))
    → Not j w → Not k w → Goes w (x ∷ []) w []
leave_out2 x j k w o f m n = skip x w o (skips w m n)
  where
    skips : (w : List Tok) → Not j w → Not k w → Skips x w
    skips [] m n = tt
    skips (tok h i ∷ r) m n = f h i (off (same_kind j h) m) (off (same_kind k h) n)

pub leave_out3 : (x : Sym) (a b c : Kind) (w : List Tok) → optional x ≡ true
    → ((h : Kind) (i : Info) → same_kind a h ≡ false → same_kind b h ≡ false → same_kind c h ≡ false
    → (step x (tok h i) ≡ None) × (at_limit x h ≡ false)) → Not a w → Not b w → Not c w
    → Goes w (x ∷ []) w []
leave_out3 x a b c w o f l m n = skip x w o (skips w l m n)
  where
    skips : (w : List Tok) → Not a w → Not b w → Not c w → Skips x w
    skips [] l m n = tt
    skips (tok h i ∷ r) l m n =
        f h i (off (same_kind a h) l) (off (same_kind b h) m) (off (same_kind c h) n)

-- ---- otherwise
-- at every first token the symbol goes the same way as these
pub same_way : (x y : Sym) (new : List Sym) (w : List Tok)
    → ((k : Kind) (i : Info) (r : List Tok) (stack : List Sym)
    → run (tok k i ∷ r) (x ∷ stack) ≡ run (tok k i ∷ r) (y ∷ (new ++ stack)))
    → Goes w (x ∷ []) w (y ∷ new)
same_way x y new [] f = record { by = λ stack l. refl }
same_way x y new (tok k i ∷ r) f = record { by = λ stack l. f k i r stack }

-- .. at every first token but one of this kind
pub same_but : (j : Kind) (x y : Sym) (new : List Sym) (w : List Tok)
    → ((k : Kind) (i : Info) (r : List Tok) (stack : List Sym) → same_kind j k ≡ false
    → run (tok k i ∷ r) (x ∷ stack) ≡ run (tok k i ∷ r) (y ∷ (new ++ stack)))
    → Not j w → Goes w (x ∷ []) w (y ∷ new)
same_but j x y new [] f n = record { by = λ stack l. refl }
same_but j x y new (tok k i ∷ r) f n =
    record { by = λ stack l. f k i r stack (off (same_kind j k) n) }

-- .. at a first token of this kind
pub same_at : (j : Kind) (x y : Sym) (new : List Sym) (w u : List Tok)
    → ((i : Info) (stack : List Sym) → run (tok j i ∷ u) (x ∷ stack)
    ≡ run (tok j i ∷ u) (y ∷ (new ++ stack)))
    → Leads j w u → Goes w (x ∷ []) w (y ∷ new)
same_at j x y new w u f (i, e) =
    record {
      by = λ stack l. subst (λ (w : List Tok). run w (x ∷ stack)
          ≡ run w (y ∷ (new ++ stack))) (sym e) (f i stack);
    }
