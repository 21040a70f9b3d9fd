-- Where each symbol goes by the tokens that a reader has seen.
use Rattle.std.proofs.Common.{◌≡◌, ℕ, zero, suc, List, [], ◌∷◌, ◌++◌, Some, None, Bool, true, false}
use Rattle.std.proofs.Common.{cond, refl, sym, ap, ◌∙◌, subst}
use Rattle.ili_grammar.specs.Syntax.{Ident}
use Rattle.ili_grammar.specs.Parts.{ReadsHeading}
use Rattle.ili_grammar.specs.Tokens.{Word, Kind, Tok, tok, TRANSFER, DOMAIN, MODEL, TOPIC, TABLE}
use Rattle.ili_grammar.specs.Tokens.{OPTIONAL, END, NO, IDENT, WITH, VERTEX, BASE, WITHOUT}
use Rattle.ili_grammar.specs.Tokens.{LINEATTR, FORMAT, FREE, CODE, FONT, BLANK, name, explanation}
use Rattle.ili_grammar.specs.Tokens.{semicolon, colon, comma, equals, left_paren, right_paren}
use Rattle.ili_grammar.specs.Tokens.{period, arrow, word}
use Rattle.ili_grammar.specs.Kinds.{same_kind, Not}
use Rattle.ili_grammar.specs.Machine.{Sym, want, the_name, start, the_model, model_name, topics}
use Rattle.ili_grammar.specs.Machine.{the_topic, topic_name, body, the_table, table_name, items}
use Rattle.ili_grammar.specs.Machine.{maybe_domains, attributes, content, first_content, a_type}
use Rattle.ili_grammar.specs.Machine.{elements, more_parts, maybe_parts, maybe_line_attributes}
use Rattle.ili_grammar.specs.Machine.{maybe_explanation, idents, lists, maybe_idents, name_list}
use Rattle.ili_grammar.specs.Machine.{more_list, the_line, forms, more_forms, maybe_base}
use Rattle.ili_grammar.specs.Machine.{maybe_overlap, maybe_font, blank_value, pushed}
use Rattle.ili_grammar.specs.Run.{Outcome, onward, run}
use Rattle.ili_grammar.specs.Steps.{Goes, Leads, LeadsName, past, second}
use Rattle.ili_grammar.proofs.CodeStands.{same_self}
use Rattle.ili_grammar.proofs.Stops.{off}
use Rattle.ili_grammar.proofs.Follow.{by_token, leave_out, leave_out2, leave_out3, same_way}
use Rattle.ili_grammar.proofs.Follow.{same_but, same_at}

-- ---- a rule that begins with one token
opens : (b : Bool) (new stack : List Sym) (r : List Tok) (o : Outcome)
    → onward (pushed (cond b (Some new) None) stack None) (run r) o
    ≡ onward (pushed (cond b (Some []) None) (new ++ stack) None) (run r) o
opens true new stack r o = refl
opens false new stack r o = refl

pub open_line : (w : List Tok)
    → Goes w (the_line ∷ []) w (want (word WITH) ∷ want left_paren ∷ forms ∷ want (word VERTEX)
    ∷ want name ∷ maybe_base ∷ maybe_overlap ∷ [])
open_line w =
    same_way the_line (want (word WITH)) _ w
    (λ k i r stack. opens (same_kind (word WITH) k)
    (want left_paren ∷ forms ∷ want (word VERTEX) ∷ want name ∷ maybe_base ∷ maybe_overlap ∷ [])
    stack r _)

pub open_transfer : (L : ℕ) (w : List Tok)
    → Goes w (start L ∷ []) w (want (word TRANSFER) ∷ want name ∷ want semicolon ∷ maybe_domains L
    ∷ the_model L ∷ want (word FORMAT) ∷ want (word FREE) ∷ want semicolon ∷ want (word CODE)
    ∷ maybe_font ∷ want (word BLANK) ∷ want equals ∷ blank_value ∷ [])
open_transfer L w =
    same_way (start L) (want (word TRANSFER)) _ w
    (λ k i r stack. opens (same_kind (word TRANSFER) k)
    (want name ∷ want semicolon ∷ maybe_domains L ∷ the_model L ∷ want (word FORMAT)
    ∷ want (word FREE) ∷ want semicolon ∷ want (word CODE) ∷ maybe_font ∷ want (word BLANK)
    ∷ want equals ∷ blank_value ∷ []) stack r _)

pub open_names : (w : List Tok) → Goes w (name_list ∷ []) w (want name ∷ more_list ∷ [])
open_names w =
    same_way name_list (want name) _ w
    (λ k i r stack. opens (same_kind name k) (more_list ∷ []) stack r _)

pub open_elements : (d : ℕ) (w : List Tok)
    → Goes w (elements d ∷ []) w (want name ∷ maybe_parts d ∷ more_parts d ∷ [])
open_elements d w =
    same_way (elements d) (want name) _ w
    (λ k i r stack. opens (same_kind name k) (maybe_parts d ∷ more_parts d ∷ []) stack r _)

-- ---- a rule that begins with a token and a name
named : (b : Bool) (x : Sym) (new stack : List Sym) (r : List Tok) (o : Outcome)
    → run r (x ∷ stack) ≡ run r (new ++ stack)
    → onward (pushed (cond b (Some (x ∷ [])) None) stack None) (run r) o
    ≡ onward (pushed (cond b (Some []) None) (new ++ stack) None) (run r) o
named true x new stack r o h = h
named false x new stack r o h = refl

pub open_model : (L : ℕ) (w : List Tok) (n : List ℕ) → second w ≡ n
    → Goes w (the_model L ∷ []) w (want (word MODEL) ∷ want name ∷ maybe_domains L ∷ topics L
    ∷ want (word END) ∷ the_name n ∷ want period ∷ [])
open_model L w n e =
    subst (λ (n : List ℕ). Goes w (the_model L ∷ []) w
    (want (word MODEL) ∷ want name ∷ maybe_domains L ∷ topics L ∷ want (word END) ∷ the_name n
    ∷ want period ∷ [])) e (record { by = λ stack l. goes w stack })
  where
    goes : (w : List Tok) (stack : List Sym)
        → run w (the_model L ∷ stack) ≡ run w
        (want (word MODEL) ∷ want name ∷ maybe_domains L ∷ topics L ∷ want (word END)
        ∷ the_name (second w) ∷ want period ∷ stack)
    goes [] stack = refl
    goes (tok k i ∷ []) stack =
        named (same_kind (word MODEL) k) (model_name L)
        (want name ∷ maybe_domains L ∷ topics L ∷ want (word END) ∷ the_name [] ∷ want period ∷ [])
        stack [] _ refl
    goes (tok k i ∷ tok h j ∷ r) stack =
        named (same_kind (word MODEL) k) (model_name L)
        (want name ∷ maybe_domains L ∷ topics L ∷ want (word END) ∷ the_name j.text ∷ want period
        ∷ []) stack (tok h j ∷ r) _
        (opens (same_kind name h) (maybe_domains L ∷ topics L ∷ want (word END) ∷ the_name j.text
        ∷ want period ∷ []) stack r _)

pub open_topic : (L : ℕ) (w : List Tok) (n : List ℕ) → second w ≡ n
    → Goes w (the_topic L ∷ []) w (want (word TOPIC) ∷ want name ∷ want equals ∷ body L
    ∷ want (word END) ∷ the_name n ∷ want period ∷ [])
open_topic L w n e =
    subst (λ (n : List ℕ). Goes w (the_topic L ∷ []) w
    (want (word TOPIC) ∷ want name ∷ want equals ∷ body L ∷ want (word END) ∷ the_name n
    ∷ want period ∷ [])) e (record { by = λ stack l. goes w stack })
  where
    goes : (w : List Tok) (stack : List Sym)
        → run w (the_topic L ∷ stack) ≡ run w
        (want (word TOPIC) ∷ want name ∷ want equals ∷ body L ∷ want (word END)
        ∷ the_name (second w) ∷ want period ∷ stack)
    goes [] stack = refl
    goes (tok k i ∷ []) stack =
        named (same_kind (word TOPIC) k) (topic_name L)
        (want name ∷ want equals ∷ body L ∷ want (word END) ∷ the_name [] ∷ want period ∷ []) stack
        [] _ refl
    goes (tok k i ∷ tok h j ∷ r) stack =
        named (same_kind (word TOPIC) k) (topic_name L)
        (want name ∷ want equals ∷ body L ∷ want (word END) ∷ the_name j.text ∷ want period ∷ [])
        stack (tok h j ∷ r) _
        (opens (same_kind name h) (want equals ∷ body L ∷ want (word END) ∷ the_name j.text
        ∷ want period ∷ []) stack r _)

pub open_table : (L : ℕ) (w : List Tok) (n : List ℕ) → second w ≡ n
    → Goes w (the_table L ∷ []) w (want (word TABLE) ∷ want name ∷ want equals ∷ attributes L
    ∷ idents ∷ want (word END) ∷ the_name n ∷ want semicolon ∷ [])
open_table L w n e =
    subst (λ (n : List ℕ). Goes w (the_table L ∷ []) w
    (want (word TABLE) ∷ want name ∷ want equals ∷ attributes L ∷ idents ∷ want (word END)
    ∷ the_name n ∷ want semicolon ∷ [])) e (record { by = λ stack l. goes w stack })
  where
    goes : (w : List Tok) (stack : List Sym)
        → run w (the_table L ∷ stack) ≡ run w
        (want (word TABLE) ∷ want name ∷ want equals ∷ attributes L ∷ idents ∷ want (word END)
        ∷ the_name (second w) ∷ want semicolon ∷ stack)
    goes [] stack = refl
    goes (tok k i ∷ []) stack =
        named (same_kind (word TABLE) k) (table_name L)
        (want name ∷ want equals ∷ attributes L ∷ idents ∷ want (word END) ∷ the_name []
        ∷ want semicolon ∷ []) stack [] _ refl
    goes (tok k i ∷ tok h j ∷ r) stack =
        named (same_kind (word TABLE) k) (table_name L)
        (want name ∷ want equals ∷ attributes L ∷ idents ∷ want (word END) ∷ the_name j.text
        ∷ want semicolon ∷ []) stack (tok h j ∷ r) _
        (opens (same_kind name h) (want equals ∷ attributes L ∷ idents ∷ want (word END)
        ∷ the_name j.text ∷ want semicolon ∷ []) stack r _)

-- ---- one of two
pub last_form : (w : List Tok) → Not comma w → Goes w (more_forms ∷ []) w (want right_paren ∷ [])
last_form w n = same_but comma more_forms (want right_paren) [] w (λ k i r stack e. rw e refl) n

pub last_part : (d : ℕ) (w : List Tok) → Not comma w
    → Goes w (more_parts d ∷ []) w (want right_paren ∷ [])
last_part d w n =
    same_but comma (more_parts d) (want right_paren) [] w (λ k i r stack e. rw e refl) n

pub not_optional : (d : ℕ) (w : List Tok) → Not (word OPTIONAL) w
    → Goes w (first_content d ∷ []) w (content d ∷ [])
not_optional zero w n =
    same_but (word OPTIONAL) (first_content zero) (content zero) [] w (λ k i r stack e. rw e refl) n
not_optional (suc d) w n =
    same_but (word OPTIONAL) (first_content (suc d)) (content (suc d)) [] w
    (λ k i r stack e. rw e refl) n

pub no_reference : (d : ℕ) (w : List Tok) → Not arrow w → Goes w (content d ∷ []) w (a_type d ∷ [])
no_reference zero w n =
    same_but arrow (content zero) (a_type zero) [] w (λ k i r stack e. rw e refl) n
no_reference (suc d) w n =
    same_but arrow (content (suc d)) (a_type (suc d)) [] w (λ k i r stack e. rw e refl) n

pub must_ident : (w : List Tok) → Not (word NO) w
    → Goes w (idents ∷ []) w (want (word IDENT) ∷ name_list ∷ want semicolon ∷ lists ∷ [])
must_ident w n =
    same_but (word NO) idents (want (word IDENT)) _ w
    (λ k i r stack e. rw e
    (opens (same_kind (word IDENT) k) (name_list ∷ want semicolon ∷ lists ∷ []) stack r _)) n

-- ---- at a first token
pub at_domain : (L : ℕ) (w u : List Tok) → Leads name w u
    → Goes w (items L ∷ []) w (want name ∷ want equals ∷ a_type L ∷ maybe_explanation
    ∷ want semicolon ∷ items L ∷ [])
at_domain L w u h = same_at name (items L) (want name) _ w u (λ i stack. refl) h

pub at_attribute : (d : ℕ) (w u : List Tok) → Leads name w u
    → Goes w (attributes d ∷ []) w (want name ∷ want colon ∷ first_content d ∷ maybe_explanation
    ∷ want semicolon ∷ attributes d ∷ [])
at_attribute d w u h = same_at name (attributes d) (want name) _ w u (λ i stack. refl) h

pub at_type_name : (d : ℕ) (w u : List Tok) → Leads name w u
    → Goes w (a_type d ∷ []) w (want name ∷ [])
at_type_name d w u h = same_at name (a_type d) (want name) [] w u (λ i stack. refl) h

pub at_list : (w u : List Tok) → Leads name w u
    → Goes w (lists ∷ []) w (name_list ∷ want semicolon ∷ lists ∷ [])
at_list w u h = same_at name lists name_list _ w u (λ i stack. refl) h

pub at_idents : (w u : List Tok) → Leads (word IDENT) w u
    → Goes w (maybe_idents ∷ []) w (idents ∷ [])
at_idents w u h = same_at (word IDENT) maybe_idents idents _ w u (λ i stack. refl) h

pub at_no_ident : (w u : List Tok) → Leads (word NO) w u
    → Goes w (maybe_idents ∷ []) w (idents ∷ [])
at_no_ident w u h = same_at (word NO) maybe_idents idents _ w u (λ i stack. refl) h

pub at_topic : (L : ℕ) (w u : List Tok) → Leads (word TOPIC) w u
    → Goes w (topics L ∷ []) (past (word OPTIONAL) w) (the_topic L ∷ topics L ∷ [])
at_topic L w u (i, e) =
    subst (λ (w : List Tok). Goes w (topics L ∷ []) (past (word OPTIONAL) w)
    (the_topic L ∷ topics L ∷ [])) (sym e) (record { by = λ stack l. refl })

pub at_optional_topic : (L : ℕ) (w u : List Tok) → Leads (word OPTIONAL) w u
    → Goes w (topics L ∷ []) (past (word OPTIONAL) w) (the_topic L ∷ topics L ∷ [])
at_optional_topic L w u (i, e) =
    subst (λ (w : List Tok). Goes w (topics L ∷ []) (past (word OPTIONAL) w)
    (the_topic L ∷ topics L ∷ [])) (sym e) (record { by = λ stack l. refl })

pub at_table : (L : ℕ) (w u : List Tok) → Leads (word TABLE) w u
    → Goes w (body L ∷ []) (past (word OPTIONAL) w) (the_table L ∷ body L ∷ [])
at_table L w u (i, e) =
    subst (λ (w : List Tok). Goes w (body L ∷ []) (past (word OPTIONAL) w)
    (the_table L ∷ body L ∷ [])) (sym e) (record { by = λ stack l. refl })

pub at_optional_table : (L : ℕ) (w u : List Tok) → Leads (word OPTIONAL) w u
    → Goes w (body L ∷ []) (past (word OPTIONAL) w) (the_table L ∷ body L ∷ [])
at_optional_table L w u (i, e) =
    subst (λ (w : List Tok). Goes w (body L ∷ []) (past (word OPTIONAL) w)
    (the_table L ∷ body L ∷ [])) (sym e) (record { by = λ stack l. refl })

pub at_parts : (d e : ℕ) (w u : List Tok) → d ≡ suc e → Leads left_paren w u
    → Goes w (maybe_parts d ∷ []) u (elements e ∷ [])
at_parts d e w u p h =
    subst (λ (d : ℕ). Goes w (maybe_parts d ∷ []) u (elements e ∷ [])) (sym p)
    (by_token (maybe_parts (suc e)) left_paren (elements e ∷ []) w u (λ i. refl) h)

pub at_elements : (d e : ℕ) (w u : List Tok) → d ≡ suc e → Leads left_paren w u
    → Goes w (a_type d ∷ []) u (elements e ∷ [])
at_elements d e w u p h =
    subst (λ (d : ℕ). Goes w (a_type d ∷ []) u (elements e ∷ [])) (sym p)
    (by_token (a_type (suc e)) left_paren (elements e ∷ []) w u (λ i. refl) h)

pub at_line_attributes : (d e : ℕ) (w u : List Tok) → d ≡ suc e → Leads (word LINEATTR) w u
    → Goes w (maybe_line_attributes d ∷ []) u
    (want equals ∷ attributes e ∷ maybe_idents ∷ want (word END) ∷ [])
at_line_attributes d e w u p h =
    subst (λ (d : ℕ). Goes w (maybe_line_attributes d ∷ []) u
    (want equals ∷ attributes e ∷ maybe_idents ∷ want (word END) ∷ [])) (sym p)
    (by_token (maybe_line_attributes (suc e)) (word LINEATTR)
    (want equals ∷ attributes e ∷ maybe_idents ∷ want (word END) ∷ []) w u (λ i. refl) h)

-- ---- left out
pub no_explanation : (w : List Tok) → Not explanation w → Goes w (maybe_explanation ∷ []) w []
no_explanation w n = leave_out maybe_explanation explanation w refl (λ h i e. (rw e refl, refl)) n

pub no_base_at : (w : List Tok) → Not (word BASE) w → Goes w (maybe_base ∷ []) w []
no_base_at w n = leave_out maybe_base (word BASE) w refl (λ h i e. (rw e refl, refl)) n

pub no_overlap_at : (w : List Tok) → Not (word WITHOUT) w → Goes w (maybe_overlap ∷ []) w []
no_overlap_at w n = leave_out maybe_overlap (word WITHOUT) w refl (λ h i e. (rw e refl, refl)) n

pub no_font_at : (w : List Tok) → Not (word FONT) w → Goes w (maybe_font ∷ []) w []
no_font_at w n = leave_out maybe_font (word FONT) w refl (λ h i e. (rw e refl, refl)) n

pub no_domains : (L : ℕ) (w : List Tok) → Not (word DOMAIN) w → Goes w (maybe_domains L ∷ []) w []
no_domains L w n = leave_out (maybe_domains L) (word DOMAIN) w refl (λ h i e. (rw e refl, refl)) n

pub no_item : (L : ℕ) (w : List Tok) → Not name w → Goes w (items L ∷ []) w []
no_item L w n = leave_out (items L) name w refl (λ h i e. (rw e refl, refl)) n

pub no_attribute_at : (d : ℕ) (w : List Tok) → Not name w → Goes w (attributes d ∷ []) w []
no_attribute_at d w n = leave_out (attributes d) name w refl (λ h i e. (rw e refl, refl)) n

pub no_list_at : (w : List Tok) → Not name w → Goes w (lists ∷ []) w []
no_list_at w n = leave_out lists name w refl (λ h i e. (rw e refl, refl)) n

pub no_name : (w : List Tok) → Not comma w → Goes w (more_list ∷ []) w []
no_name w n = leave_out more_list comma w refl (λ h i e. (rw e refl, refl)) n

pub no_parts : (d : ℕ) (w : List Tok) → Not left_paren w → Goes w (maybe_parts d ∷ []) w []
no_parts zero w n = leave_out (maybe_parts zero) left_paren w refl (λ h i e. (refl, e)) n
no_parts (suc d) w n =
    leave_out (maybe_parts (suc d)) left_paren w refl (λ h i e. (rw e refl, refl)) n

pub no_line_attributes_at : (d : ℕ) (w : List Tok) → Not (word LINEATTR) w
    → Goes w (maybe_line_attributes d ∷ []) w []
no_line_attributes_at zero w n =
    leave_out (maybe_line_attributes zero) (word LINEATTR) w refl (λ h i e. (refl, e)) n
no_line_attributes_at (suc d) w n =
    leave_out (maybe_line_attributes (suc d)) (word LINEATTR) w refl (λ h i e. (rw e refl, refl)) n

pub no_idents : (w : List Tok) → Not (word NO) w → Not (word IDENT) w
    → Goes w (maybe_idents ∷ []) w []
no_idents w m n =
    leave_out2 maybe_idents (word NO) (word IDENT) w refl (λ h i e f. (rw (e, f) refl, refl)) m n

pub no_topic_at : (L : ℕ) (w : List Tok) → Not (word TOPIC) w → Not (word OPTIONAL) w
    → Goes w (topics L ∷ []) w []
no_topic_at L w m n =
    leave_out2 (topics L) (word TOPIC) (word OPTIONAL) w refl
    (λ h i e f. (rw (e, f) refl, refl)) m n

pub no_part_at : (L : ℕ) (w : List Tok) → Not (word DOMAIN) w → Not (word TABLE) w
    → Not (word OPTIONAL) w → Goes w (body L ∷ []) w []
no_part_at L w a b c =
    leave_out3 (body L) (word DOMAIN) (word TABLE) (word OPTIONAL) w refl
    (λ h i e f g. (rw (e, f, g) refl, refl)) a b c

-- ---- the opened name
pub heading_second : (k : Word) (x : Ident) (w v : List Tok) → ReadsHeading k x w v
    → second w ≡ x.text
heading_second k x w v (i, n, j, e, p) = ap second e ∙ sym (ap (λ (x : Ident). x.text) p)

pub model_second : (x : Ident) (w u v : List Tok) → Leads (word MODEL) w u → LeadsName x u v
    → second w ≡ x.text
model_second x w u v (i, e) (n, f, p) =
    ap second (e ∙ ap (λ (z : List Tok). tok (word MODEL) i ∷ z) f)
    ∙ sym (ap (λ (x : Ident). x.text) p)

-- ---- a token passed over
pub past_it : (k : Kind) (w u : List Tok) → Leads k w u → u ≡ past k w
past_it k w u (i, e) = subst (λ (w : List Tok). u ≡ past k w) (sym e) (rw (same_self k) refl)

pub not_past : (k : Kind) (w : List Tok) → Not k w → w ≡ past k w
not_past k [] n = refl
not_past k (tok h i ∷ r) n = rw (off (same_kind k h) n) refl
