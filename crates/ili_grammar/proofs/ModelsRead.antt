-- A rule of domains, tables, topics and codes is read, where its parts were.
use Rattle.std.proofs.Common.{◌≡◌, ℕ, List, [], ◌∷◌, ◌++◌, Bool, true, false, Option, Some, None}
use Rattle.std.proofs.Common.{IfSome, sym, ap, ◌∙◌, subst, append_assoc, append-nil, MatchBool}
use Rattle.std.proofs.Common.{drop, length, ◌≤◌}
use Rattle.ili_lexer.specs.declared.tokens.Token.{Token}
use Rattle.ili_grammar.specs.Slices.{toks}
use Rattle.ili_grammar.proofs.Leads.{none_left}
use Rattle.ili_grammar.specs.Tokens.{Info, Tok, tok, name, number, hex, explanation, comma}
use Rattle.ili_grammar.specs.Tokens.{semicolon, equals, period, word, TRANSFER, DOMAIN, MODEL}
use Rattle.ili_grammar.specs.Tokens.{TOPIC, TABLE, OPTIONAL, FORMAT, FREE, CODE, FONT, BLANK}
use Rattle.ili_grammar.specs.Tokens.{UNDEFINED, CONTINUE}
use Rattle.ili_grammar.specs.Syntax.{Ident, TypeSyntax, Attributes, DomainSyntax, TableSyntax}
use Rattle.ili_grammar.specs.Syntax.{TopicSyntax, Codes, ModelSyntax}
use Rattle.ili_grammar.specs.Numbers.{ident, whole_code, hex_code}
use Rattle.ili_grammar.specs.Types.{IsIdents, IsExplained, IsType, IsAttributes}
use Rattle.ili_grammar.specs.Models.{IsDomains, no_domain, more_domains, IsMaybeDomains}
use Rattle.ili_grammar.specs.Models.{with_domains, IsTable, table, IsBody, no_part, and_domains}
use Rattle.ili_grammar.specs.Models.{and_table, and_optional_table, IsTopic, topic, IsTopics}
use Rattle.ili_grammar.specs.Models.{no_topic, and_topic, and_optional_topic, IsModel, a_model}
use Rattle.ili_grammar.specs.Models.{by_number, by_hex, IsContinue, continue, IsUndefined}
use Rattle.ili_grammar.specs.Models.{undefined, IsCodes, codes, IsFont, font, IsTransfer, transfer}
use Rattle.ili_grammar.specs.Models.{Spells}
use Rattle.ili_grammar.specs.Steps.{Leads, LeadsName}
use Rattle.ili_grammar.specs.Parts.{ReadsDomain, ReadsTable, ReadsTopic, ReadsHeading, ReadsEnding}
use Rattle.ili_grammar.specs.Parts.{ReadsValue, ReadsCode, ReadsTid, ReadsCodes, ReadsFormat}

-- ---- domains
pub domain_read : (x : Ident) (t : TypeSyntax) (w a b e f v : List Tok) → LeadsName x w a
    → Leads equals a b → IsType 32 t b e → IsExplained e f → Leads semicolon f v
    → ReadsDomain (record { name = x; kind = t }) w v
domain_read x t w a b e f v (n, p, q) (i, g) y z (k, h) ds r m =
    subst (λ (x : Ident). IsDomains 32 (record { name = x; kind = t } ∷ ds) w r) (sym q)
    (subst (λ (w : List Tok). IsDomains 32 (record { name = ident n; kind = t } ∷ ds) w r)
    (sym (p ∙ ap (λ (s : List Tok). tok name n ∷ s) g))
    (more_domains n i k t ds b e v r y (subst (λ (f : List Tok). IsExplained e f) h z) m))

abbrev pub DomainsFrom : List DomainSyntax → List Tok → List Tok → Type 0
DomainsFrom ds w v = (es : List DomainSyntax) (r : List Tok) → IsDomains 32 es v r
    → IsDomains 32 (ds ++ es) w r

pub domains_start : (w : List Tok) → DomainsFrom [] w w
domains_start w es r x = x

pub domains_on : (ds es : List DomainSyntax) (d : DomainSyntax) (w x v : List Tok)
    → es ≡ ds ++ d ∷ [] → DomainsFrom ds w x → ReadsDomain d x v → DomainsFrom es w v
domains_on ds es d w x v q h y fs r z =
    subst (λ (z : List DomainSyntax). IsDomains 32 z w r)
    (sym (ap (λ (z : List DomainSyntax). z ++ fs) q ∙ append_assoc ds (d ∷ []) fs))
    (h (d ∷ fs) r (y fs r z))

pub domains_end : (ds : List DomainSyntax) (w v : List Tok) → DomainsFrom ds w v
    → IsDomains 32 ds w v
domains_end ds w v h =
    subst (λ (z : List DomainSyntax). IsDomains 32 z w v) (append-nil ds) (h [] v (no_domain v))

pub with_domains_read : (ds : List DomainSyntax) (w u v : List Tok) → Leads (word DOMAIN) w u
    → IsDomains 32 ds u v → IsMaybeDomains 32 ds w v
with_domains_read ds w u v (i, e) x =
    subst (λ (w : List Tok). IsMaybeDomains 32 ds w v) (sym e) (with_domains i ds u v x)

-- ---- tables
table_whole : (o : Bool) (x : Ident) (as_ : Attributes) (is : List (List Ident))
    (w a b e v : List Tok)
    → ReadsHeading TABLE x w a → IsAttributes 32 as_ a b → IsIdents is b e
    → ReadsEnding semicolon x e v
    → IsTable 32 o (record { name = x; optional = o; attributes = as_; idents = is }) w v
table_whole o x as_ is w a b e v (i, n, j, p, q) y z (k, m, l, f, g) =
    subst (λ (x : Ident). IsTable 32 o (record {
      name = x;
      optional = o;
      attributes = as_;
      idents = is;
    }) w v) (sym q)
    (subst (λ (w : List Tok). IsTable 32 o (record {
      name = ident n;
      optional = o;
      attributes = as_;
      idents = is;
    }) w v) (sym p)
    (table i n j k m l as_ is a b v y (subst (λ (e : List Tok). IsIdents is b e) f z) (g
    ∙ ap (λ (x : Ident). x.text) q)))

pub table_read : (o : Bool) (x : Ident) (as_ : Attributes) (is : List (List Ident))
    (w u a b e v : List Tok)
    → MatchBool o (Leads (word OPTIONAL) w u) (u ≡ w) → ReadsHeading TABLE x u a
    → IsAttributes 32 as_ a b → IsIdents is b e
    → ReadsEnding semicolon x e v
    → ReadsTable (record { name = x; optional = o; attributes = as_; idents = is }) w v
table_read true x as_ is w u a b e v (i, p) h y z g ds ts r m =
    subst (λ (w : List Tok). IsBody 32 ds (record {
      name = x;
      optional = true;
      attributes = as_;
      idents = is;
    } ∷ ts) w r) (sym p)
    (and_optional_table i ds (record {
      name = x;
      optional = true;
      attributes = as_;
      idents = is;
    }) ts u v r (table_whole true x as_ is u a b e v h y z g) m)
table_read false x as_ is w u a b e v p h y z g ds ts r m =
    and_table ds (record { name = x; optional = false; attributes = as_; idents = is }) ts w v r
    (subst (λ (u : List Tok). IsTable 32 false (record {
      name = x;
      optional = false;
      attributes = as_;
      idents = is;
    }) u v) p (table_whole false x as_ is u a b e v h y z g)) m

-- ---- bodies of topics
abbrev pub BodyFrom : List DomainSyntax → List TableSyntax → List Tok → List Tok → Type 0
BodyFrom ds ts w v = (es : List DomainSyntax) (us : List TableSyntax) (r : List Tok)
    → IsBody 32 es us v r → IsBody 32 (ds ++ es) (ts ++ us) w r

pub body_start : (w : List Tok) → BodyFrom [] [] w w
body_start w es us r x = x

pub body_domains : (ds es fs : List DomainSyntax) (ts : List TableSyntax) (w x u v : List Tok)
    → es ≡ ds ++ fs → BodyFrom ds ts w x → Leads (word DOMAIN) x u → IsDomains 32 fs u v
    → BodyFrom es ts w v
body_domains ds es fs ts w x u v q h (i, e) y gs us r z =
    subst (λ (k : List DomainSyntax). IsBody 32 k (ts ++ us) w r)
    (sym (ap (λ (k : List DomainSyntax). k ++ gs) q ∙ append_assoc ds fs gs))
    (h (fs ++ gs) us r
    (subst (λ (x : List Tok). IsBody 32 (fs ++ gs) us x r) (sym e)
    (and_domains i fs gs us u v r y z)))

pub body_table : (ds : List DomainSyntax) (ts us : List TableSyntax) (t : TableSyntax)
    (w x v : List Tok)
    → us ≡ ts ++ t ∷ [] → BodyFrom ds ts w x → ReadsTable t x v → BodyFrom ds us w v
body_table ds ts us t w x v q h y es vs r z =
    subst (λ (k : List TableSyntax). IsBody 32 (ds ++ es) k w r)
    (sym (ap (λ (k : List TableSyntax). k ++ vs) q ∙ append_assoc ts (t ∷ []) vs))
    (h es (t ∷ vs) r (y es vs r z))

pub body_end : (ds : List DomainSyntax) (ts : List TableSyntax) (w v : List Tok)
    → BodyFrom ds ts w v → IsBody 32 ds ts w v
body_end ds ts w v h =
    subst (λ (k : List DomainSyntax). IsBody 32 k ts w v) (append-nil ds)
    (subst (λ (k : List TableSyntax). IsBody 32 (ds ++ []) k w v) (append-nil ts)
    (h [] [] v (no_part v)))

-- ---- topics
topic_whole : (x : Ident) (ds : List DomainSyntax) (ts : List TableSyntax) (w a e v : List Tok)
    → ReadsHeading TOPIC x w a → IsBody 32 ds ts a e → ReadsEnding period x e v
    → IsTopic 32 (record { name = x; domains = ds; tables = ts }) w v
topic_whole x ds ts w a e v (i, n, j, p, q) y (k, m, l, f, g) =
    subst (λ (x : Ident). IsTopic 32 (record { name = x; domains = ds; tables = ts }) w v) (sym q)
    (subst (λ (w : List Tok). IsTopic 32 (record {
      name = ident n;
      domains = ds;
      tables = ts;
    }) w v) (sym p)
    (topic i n j k m l ds ts a v (subst (λ (e : List Tok). IsBody 32 ds ts a e) f y) (g
    ∙ ap (λ (x : Ident). x.text) q)))

pub topic_read : (o : Bool) (x : Ident) (ds : List DomainSyntax) (ts : List TableSyntax)
    (w u a e v : List Tok)
    → MatchBool o (Leads (word OPTIONAL) w u) (u ≡ w) → ReadsHeading TOPIC x u a
    → IsBody 32 ds ts a e → ReadsEnding period x e v
    → ReadsTopic (record { name = x; domains = ds; tables = ts }) w v
topic_read true x ds ts w u a e v (i, p) h y g us r m =
    subst (λ (w : List Tok). IsTopics 32 (record { name = x; domains = ds; tables = ts } ∷ us) w r)
    (sym p) (and_optional_topic i (record { name = x; domains = ds; tables = ts }) us u v r
    (topic_whole x ds ts u a e v h y g) m)
topic_read false x ds ts w u a e v p h y g us r m =
    and_topic (record { name = x; domains = ds; tables = ts }) us w v r
    (subst (λ (u : List Tok). IsTopic 32 (record { name = x; domains = ds; tables = ts }) u v) p
    (topic_whole x ds ts u a e v h y g)) m

abbrev pub TopicsFrom : List TopicSyntax → List Tok → List Tok → Type 0
TopicsFrom ts w v = (us : List TopicSyntax) (r : List Tok) → IsTopics 32 us v r
    → IsTopics 32 (ts ++ us) w r

pub topics_on : (ts us : List TopicSyntax) (t : TopicSyntax) (w x v : List Tok) → us ≡ ts ++ t ∷ []
    → TopicsFrom ts w x → ReadsTopic t x v → TopicsFrom us w v
topics_on ts us t w x v q h y vs r z =
    subst (λ (k : List TopicSyntax). IsTopics 32 k w r)
    (sym (ap (λ (k : List TopicSyntax). k ++ vs) q ∙ append_assoc ts (t ∷ []) vs))
    (h (t ∷ vs) r (y vs r z))

pub topics_end : (ts : List TopicSyntax) (w v : List Tok) → TopicsFrom ts w v → IsTopics 32 ts w v
topics_end ts w v h =
    subst (λ (k : List TopicSyntax). IsTopics 32 k w v) (append-nil ts) (h [] v (no_topic v))

-- ---- models
pub model_read : (x : Ident) (ds : List DomainSyntax) (ts : List TopicSyntax)
    (w a b e f v : List Tok)
    → Leads (word MODEL) w a → LeadsName x a b → IsMaybeDomains 32 ds b e → IsTopics 32 ts e f
    → ReadsEnding period x f v → IsModel 32 x ds ts w v
model_read x ds ts w a b e f v (i, p) (n, q, g) y z (k, m, l, h, j) =
    subst (λ (x : Ident). IsModel 32 x ds ts w v) (sym g)
    (subst (λ (w : List Tok). IsModel 32 (ident n) ds ts w v)
    (sym (p ∙ ap (λ (s : List Tok). tok (word MODEL) i ∷ s) q))
    (a_model i n k m l ds ts b e v y (subst (λ (f : List Tok). IsTopics 32 ts e f) h z) (j
    ∙ ap (λ (x : Ident). x.text) g)))

pub font_read : (w a b c v : List Tok) → Leads (word FONT) w a → Leads equals a b
    → Leads explanation b c → Leads semicolon c v → IsFont w v
font_read w a b c v (i, e) (j, f) (k, g) (l, h) =
    subst (λ (w : List Tok). IsFont w v)
    (sym (e ∙ ap (λ (s : List Tok). tok (word FONT) i ∷ s) (f
    ∙ ap (λ (s : List Tok). tok equals j ∷ s) (g
    ∙ ap (λ (s : List Tok). tok explanation k ∷ s) h)))) (font i j k l v)

pub format_read : (cs : Codes) (e f g h i j v : List Tok) → Leads (word FORMAT) e f
    → Leads (word FREE) f g → Leads semicolon g h → Leads (word CODE) h i → IsFont i j
    → ReadsCodes cs j v → ReadsFormat cs e v
format_read cs e f g h i j v (tc, pc) (td, pd) (te, pe) (tf, pf) s r = (
  tc,
  td,
  te,
  tf,
  i,
  j,
  pc
      ∙ ap (λ (s : List Tok). tok (word FORMAT) tc ∷ s) (pd
      ∙ ap (λ (s : List Tok). tok (word FREE) td ∷ s) (pe
      ∙ ap (λ (s : List Tok). tok semicolon te ∷ s) pf)),
  s,
  r,
)

pub transfer_read : (x m : Ident) (os ds : List DomainSyntax) (ts : List TopicSyntax) (cs : Codes)
    (w a b c d e v : List Tok)
    → Leads (word TRANSFER) w a → LeadsName x a b → Leads semicolon b c → IsMaybeDomains 32 os c d
    → IsModel 32 m ds ts d e
    → ReadsFormat cs e v
    → IsTransfer 32 (record {
      transfer = x;
      outer = os;
      model = m;
      domains = ds;
      topics = ts;
      codes = cs;
    }) w v
transfer_read x m os ds ts cs w a b c d e v (ta, pa) (tn, pn, q) (tb, pb) y z
    (tc, td, te, tf, i, j, here, s, (tg, th, k, p, r)) =
    subst (λ (x : Ident). IsTransfer 32 (record {
      transfer = x;
      outer = os;
      model = m;
      domains = ds;
      topics = ts;
      codes = cs;
    }) w v) (sym q)
    (subst (λ (w : List Tok). IsTransfer 32 (record {
      transfer = ident tn;
      outer = os;
      model = m;
      domains = ds;
      topics = ts;
      codes = cs;
    }) w v)
    (sym (pa ∙ ap (λ (s : List Tok). tok (word TRANSFER) ta ∷ s) (pn
    ∙ ap (λ (s : List Tok). tok name tn ∷ s) pb)))
    (transfer ta tn tb tc td te tf tg th m os ds ts cs c d i k v y
    (subst (λ (e : List Tok). IsModel 32 m ds ts d e) here z)
    (subst (λ (j : List Tok). IsFont i j) p s) r))

-- ---- codes
pub codes_read : (b u c : ℕ) (w a d e f g v : List Tok) → ReadsCode BLANK 95 b w a → Leads comma a d
    → ReadsCode UNDEFINED 64 u d e → (u ≡ b → ⊥) → Leads comma e f → ReadsCode CONTINUE 92 c f g
    → (c ≡ b → ⊥) → (c ≡ u → ⊥) → ReadsTid g v
    → ReadsCodes (record { blank = b; undefined = u; continued = c }) w v
codes_read b u c w a d e f g v (i, j, t, p, x) (k, q) (l, m, s, r, y) n (o, h)
    (z1, z2, z3, z4, z5) n1 n2 (d1, d2, d3, d4, d5, d6, d7, d8, d9) =
    let after : IsContinue b u c (z3 ∷ g) v =
    subst (λ (g : List Tok). IsContinue b u c (z3 ∷ g) v) (sym d8)
    (continue c z3 d4 d1 d2 d3 d5 d6 d7 v z5 n1 n2 d9) in
    let behind : IsUndefined b u c (s ∷ e) v =
    subst (λ (e : List Tok). IsUndefined b u c (s ∷ e) v)
    (sym (h ∙ ap (λ (z : List Tok). tok comma o ∷ z) z4))
    (undefined u c s o z1 z2 (z3 ∷ g) v y n after) in (
      i,
      j,
      t ∷ a,
      p,
      subst (λ (a : List Tok). IsCodes (record { blank = b; undefined = u; continued = c })
          (t ∷ a) v) (sym (q ∙ ap (λ (z : List Tok). tok comma k ∷ z) r))
          (codes b u c t k l m (s ∷ e) v x behind),
    )

pub number_value : (d : ℕ) (o : Option ℕ) (b : List ℕ) (i : Info) (w v : List Tok)
    → o ≡ whole_code b → b ≡ i.text → w ≡ tok number i ∷ v → IfSome o (λ c. ReadsValue d c w v)
number_value d None b i w v e f g = tt
number_value d (Some c) b i w v e f g =
    (tok number i, g, by_number c i (ap whole_code (sym f) ∙ sym e))

pub hex_value : (d : ℕ) (o : Option ℕ) (b : List ℕ) (i : Info) (w v : List Tok) → o ≡ hex_code b
    → b ≡ i.text → w ≡ tok hex i ∷ v → IfSome o (λ c. ReadsValue d c w v)
hex_value d None b i w v e f g = tt
hex_value d (Some c) b i w v e f g = (tok hex i, g, by_hex c i (ap hex_code (sym f) ∙ sym e))

-- ---- the end
pub spelt_read : (text : List ℕ) (ts : List Token) (m : ModelSyntax) (next : ℕ)
    → IsTransfer 32 m (drop 0 (toks text ts)) (drop next (toks text ts)) → length ts ≤ next
    → Spells m (toks text ts)
spelt_read text ts m next x h =
    subst (λ (v : List Tok). IsTransfer 32 m (toks text ts) v) (none_left text ts next h) x
