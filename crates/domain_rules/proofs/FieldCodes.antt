-- The code of the first rule that words break.
use Rattle.std.proofs.Common.{◌≡◌, ◌↔◌, ℕ, List, Option, Some, None, Ok, Err, refl, sym, ◌∙◌}
use Rattle.std.specs.Option.{option_map}
use Rattle.ili_grammar.specs.Syntax.{Codes}
use Rattle.resolver.specs.Resolved.{Form}
use Rattle.field_values.specs.declared.value.ValueFault.{ValueFault}
use Rattle.field_values.specs.Fields.{field_fault}
use Rattle.field_values.specs.Meeting.{Meets}
use Rattle.field_values.specs.Readings.{Value, reading}
use Rattle.field_values.proofs.ValuesMeet.{exact}
use Rattle.itf_reader.specs.declared.findings.Code.{Code}
use Rattle.itf_reader.specs.RowFindings.{field_code}
use Rattle.itf_reader.specs.StrokeFindings.{code_of}

pub none_found : (o : Option ValueFault) (a v : Value) → Ok v ≡ reading o a
    → None ≡ option_map code_of o
none_found None a v h = refl
none_found (Some f) a v h = cc

pub one_found : (o : Option ValueFault) (a : Value) (f : ValueFault) → Err f ≡ reading o a
    → Some (code_of f) ≡ option_map code_of o
one_found None a f h = cc
one_found (Some g) a f h = cc

none_both : (o : Option ValueFault) → (option_map code_of o ≡ None) ↔ (o ≡ None)
none_both None = (λ h. refl, λ h. refl)
none_both (Some f) = (λ h. cc, λ h. cc)

pub meets_by : (form : Form) (codes : Codes) (words : List (List ℕ)) (r : Option Code)
    → r ≡ field_code form codes words → (r ≡ None) ↔ Meets form codes words
meets_by form codes words r e =
    let n = none_both (field_fault form codes words) in
    let x = exact form codes words in
    (λ h. x.0 (n.0 (sym e ∙ h)), λ m. e ∙ n.1 (x.1 m))
