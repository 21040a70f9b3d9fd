-- What the text of a model is: refused, or a model with a layout.
use Rattle.std.specs.Prelude.{◌≡◌, ℕ, List, codes, Option, Some, None, slice_get}
use Rattle.ili_lexer.specs.Places.{line_after, column_after}
use Rattle.ili_lexer.specs.Tokens.{AreTokens, IsFault}
use Rattle.ili_lexer.specs.declared.tokens.Kind.{Kind}
use Rattle.ili_lexer.specs.declared.tokens.Kind.TheVariants as kinds
use Rattle.ili_lexer.specs.declared.tokens.Token.{Token}
use Rattle.ili_lexer.specs.declared.tokens.LexFault.{LexFault}
use Rattle.ili_lexer.specs.declared.tokens.LexFault.TheVariants as lexed
use Rattle.ili_grammar.specs.Faults.{IsFirstFault}
use Rattle.ili_grammar.specs.Models.{Spells}
use Rattle.ili_grammar.specs.Slices.{bytes_of, toks}
use Rattle.ili_grammar.specs.Syntax.{ModelSyntax}
use Rattle.ili_grammar.specs.declared.syntax.SyntaxCode.{SyntaxCode}
use Rattle.ili_grammar.specs.declared.syntax.SyntaxFault.TheVariants as parsed
use Rattle.resolver.specs.Faults.{Fault}
use Rattle.resolver.specs.First.{IsFirstBroken, BreaksNone}
use Rattle.resolver.specs.Resolved.{ResolvedModel}
use Rattle.resolver.specs.Standing.{IsModel}
use Rattle.table_layout.specs.Layouts.{Layout}
use Rattle.table_layout.specs.Tables.{layout_of}
use Rattle.commands.specs.declared.refusals.RefusalCode.{RefusalCode}
use Rattle.commands.specs.declared.refusals.RefusalCode.TheVariants as refused

-- why a model is refused, and where: what the report says of it
pub record Refusal : Type 0 where
  pub code : RefusalCode
  pub line : ℕ
  pub column : ℕ
  pub word : List ℕ

-- a refusal that names no token
abbrev pub wordless : RefusalCode → ℕ → ℕ → Refusal
wordless code line column = record { code = code; line = line; column = column; word = codes "-" }

-- a fault of the tokens stands where no token begins
abbrev pub lex_refusal : LexFault → Option Refusal
lex_refusal (lexed.BadByte l c) = Some (wordless refused.BadByte l c)
lex_refusal (lexed.OpenExplanation l c) = Some (wordless refused.OpenExplanation l c)
lex_refusal (lexed.LongNumber l c) = Some (wordless refused.LongNumber l c)
lex_refusal lexed.Memory = None

-- a token's bytes, but two strokes alone for an explanation
abbrev pub word_of : Kind → List ℕ → List ℕ
word_of kinds.Explanation bytes = codes "//"
word_of _ bytes = bytes

-- a fault of the grammar at a token
abbrev pub token_refusal : List ℕ → SyntaxCode → Token → Refusal
token_refusal text code t =
    record {
      code = refused.Syntax code;
      line = t.line;
      column = t.column;
      word = word_of t.kind (bytes_of text t);
    }

-- a fault of the grammar after the last byte
abbrev pub end_refusal : List ℕ → SyntaxCode → Refusal
end_refusal text code = wordless (refused.Syntax code) (line_after text) (column_after text)

-- a broken rule on the names and types, at the name where it is broken
abbrev pub name_refusal : Fault → Refusal
name_refusal f =
    record {
      code = refused.Names f.code;
      line = f.name.line;
      column = f.name.column;
      word = f.name.text;
    }

-- the text is cut into tokens, and these spell the syntax
pub record IsSpelt (text : List ℕ) (syntax : ModelSyntax) : Type 0 where
  pub tokens : List Token
  pub are : AreTokens text tokens
  pub spelt : Spells syntax (toks text tokens)

-- the text is no model, and this is its first fault: of the tokens, else of the grammar
pub data IsFaulty (text : List ℕ) (r : Refusal) : Type 0 where
  no_token : (f : LexFault) → IsFault text f → lex_refusal f ≡ Some r → IsFaulty text r
  ends_early : (ts : List Token) (c : SyntaxCode) → AreTokens text ts
      → IsFirstFault (toks text ts) (parsed.At c None) → r ≡ end_refusal text c → IsFaulty text r
  wrong_token : (ts : List Token) (c : SyntaxCode) (k : ℕ) (t : Token) → AreTokens text ts
      → IsFirstFault (toks text ts) (parsed.At c (Some k)) → slice_get ts k ≡ Some t
      → r ≡ token_refusal text c t → IsFaulty text r

-- the text is no model, or a model whose names and types break a rule: the first broken one
pub data IsRefused (text : List ℕ) (r : Refusal) : Type 0 where
  at_fault : IsFaulty text r → IsRefused text r
  misnamed : (m : ModelSyntax) (f : Fault) → IsSpelt text m → IsFirstBroken m f
      → r ≡ name_refusal f → IsRefused text r

-- the text spells a model that breaks no rule, and the tables of what it stands for are laid out so
pub record HasLayout (text : List ℕ) (l : Layout) : Type 0 where
  pub syntax : ModelSyntax
  pub spelt : IsSpelt text syntax
  pub model : ResolvedModel
  pub faultless : BreaksNone syntax
  pub stands : IsModel syntax model
  pub laid_out : l ≡ layout_of model
