use Rattle.std.proofs.Common.{◌≡◌, ◌≢◌, [], true, false, refl, ap}
use Rattle.tree_model.specs.Tree.{LiteralOf}
use Rattle.grammar_model.specs.Terminal.{Text, Binary, Less}
use Rattle.grammar_model.specs.Machine.{is_primitive}
use Rattle.st_faults.specs.declared.sort.Sort.{Sort}
use Rattle.st_faults.specs.declared.sort.Sort.TheVariants.{PrimitiveKeyword}
use Rattle.st_faults.specs.Sorts.{terminal}
use Rattle.st_faults.specs.Forms.{form_of}
use Rattle.st_faults.proofs.Passing.{no_fault, split}
use Rattle.st_faults.proofs.check.has_primitive_keyword.Goals as goal

-- no other token is the keyword of primitives
other_token : (sort : Sort) (s t : Text) (l : LiteralOf Text) → sort ≢ PrimitiveKeyword → is_primitive (Binary Less s) (terminal sort t l) ≡ false
other_token PrimitiveKeyword s t l other = absurd (other refl)
other_token sort s t l other = refl

-- the keyword of primitives is it
same_token : (sort : Sort) (s t : Text) (l : LiteralOf Text) → sort ≡ PrimitiveKeyword → is_primitive (Binary Less s) (terminal sort t l) ≡ true
same_token sort s t l e = ap (λ x. is_primitive (Binary Less s) (terminal x t l)) e

pub returns-in-PrimitiveKeyword : goal.returns-in-PrimitiveKeyword
returns-in-PrimitiveKeyword c = λ s ts lexed.
    let first = split (form_of c.args.form) c.args.text.now c.args.at c.in-Ok.lexeme ts c.in-Ok.ensures.first c.in-Ok.ensures.inside lexed in
    rw first.whole (same_token c.in-Ok.lexeme.sort s first.text first.literal c.in-PrimitiveKeyword.is)

pub returns-in_default : goal.returns-in_default
returns-in_default c = λ s ts lexed.
    let first = split (form_of c.args.form) c.args.text.now c.args.at c.in-Ok.lexeme ts c.in-Ok.ensures.first c.in-Ok.ensures.inside lexed in
    rw first.whole (other_token c.in-Ok.lexeme.sort s first.text first.literal c.in_default.not-PrimitiveKeyword)

pub returns-in-Err : goal.returns-in-Err
returns-in-Err c = λ s ts lexed. absurd (no_fault (form_of c.args.form) c.args.text.now c.args.at [] ts c.in-Err.field-0 lexed c.in-Err.ensures.fault)
