-- Which kind a metavariable that stands as an operand or a statement has.
use Rattle.std.proofs.Common.{◌≡◌, true, false, List, refl, inl, inr}
use Rattle.std.proofs.lemmas.Bool.{cases_Bool}
use Rattle.text_model.specs.Literals.{is_identifier}
use Rattle.grammar_model.specs.Terminal.{Text, OperandMark, OperandMeta, AnyName, AnyLiteral, AnyExpression}
use Rattle.tree_model.specs.Tree.{var}
use Rattle.pattern_model.specs.declared.kinds.MetaKind.{MetaKind}
use Rattle.pattern_model.specs.declared.kinds.MetaKind.TheVariants.{Name, Constant, Expression, Statement, StatementList, Unary, Keyword, Message}
use Rattle.pattern_model.specs.Patterns.{PatternOf, meta, var_like, literal_like, send_like, cascade_like, assign_like, block_like, brace_like, return_like}
use Rattle.pattern_model.specs.Matches.{is_operand_kind, is_statement_kind, IsLawfulBy}
use Rattle.pattern_model.specs.Spelled.{begins, behind, is_meta, marked, pattern_of}
use Rattle.pattern_trees.proofs.TokenTexts.{HasText}
use Rattle.pattern_trees.proofs.Bytes.{identifier_begins}

-- what may stand as an operand may stand as a statement
operand_statement : (k : MetaKind) → is_operand_kind k ≡ true → is_statement_kind k ≡ true
operand_statement Name h = h
operand_statement Constant h = h
operand_statement Expression h = h
operand_statement Statement h = refl
operand_statement StatementList h = refl
operand_statement Unary h = h
operand_statement Keyword h = h
operand_statement Message h = h

pub as_statement : (p : PatternOf Text) → IsLawfulBy is_operand_kind p → IsLawfulBy is_statement_kind p
as_statement (meta m) h = operand_statement m.kind h
as_statement (var_like n) h = h
as_statement (literal_like l) h = h
as_statement (send_like r s ps) h = h
as_statement (cascade_like r ms) h = h
as_statement (assign_like n p) h = h
as_statement (block_like ps ts ss e) h = h
as_statement (brace_like ps) h = h
as_statement (return_like p) h = h

-- a name
pub a_name : (may : MetaKind → Rattle.std.proofs.Common.Bool) (n : Text) → is_identifier n ≡ true → IsLawfulBy may (pattern_of (var n))
a_name may n h = rw (name_plain n h) tt
  where
    name_plain : (n : Text) → is_identifier n ≡ true → is_meta n ≡ false
    name_plain n h = identifier_begins 96 refl n h

-- a metavariable that stands as an operand
pub an_operand : (m : OperandMark) (n : Text) → HasText (OperandMeta m n) → IsLawfulBy is_operand_kind (pattern_of (var n))
an_operand AnyName n h = rw (h.0, identifier_begins 35 refl (marked n) h.1, identifier_begins 64 refl (marked n) h.1, identifier_begins 46 refl (marked n) h.1) refl
an_operand AnyLiteral n h = rw (h.0, h.1) refl
an_operand AnyExpression n h = elim (cases_Bool (begins 35 (marked n))) [ inl e ↦ rw (h.0, e) refl | inr e ↦ rw (h.0, e, h.1) refl ]

-- one that stands as a statement
pub a_statement : (n : Text) → is_meta n ≡ true → IsLawfulBy is_statement_kind (pattern_of (var n))
a_statement n h =
    rw h
    (elim (cases_Bool (begins 35 (marked n))) [
      | inl e ↦ rw e refl
      | inr e ↦ elim (cases_Bool (begins 64 (marked n))) [
        | inl f ↦ rw (e, f) refl
        | inr f ↦ elim (cases_Bool (begins 46 (marked n))) [
          | inr g ↦ rw (e, f, g) refl
          | inl g ↦ elim (cases_Bool (begins 64 (behind (marked n)))) [ inl x ↦ rw (e, f, g, x) refl | inr x ↦ rw (e, f, g, x) refl ]
        ]
      ]
    ])
