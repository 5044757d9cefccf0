-- Which condition is told where several are false, and conditions on things that are not there.
use Rattle.std.specs.Prelude.{◌≡◌, List, [], ◌∷◌, false, Bool, codes}
use Rattle.tree_model.specs.Tree.{send, trees_of}
use Rattle.image_model.specs.Image.{EntryOf, plus}
use Rattle.image_model.specs.Grown.{with_method}
use Rattle.command_model.specs.Commands.{CommandOf, RenameClass, AddClass, RemoveClass, AddInstVar, RenameInstVar, RemoveInstVar, PushUpInstVar, PushDownClassVar, RenameSelector, RemoveMethod, PushUpMethod, PushDownMethod}
use Rattle.command_model.specs.Conditions.{of_a_class, of_another_variable, of_methods, ConditionOf, IsUserClass, GoodName, NotKernelSelector, Arity, Implements, NotImplements, Removable, NoSubclasses, NotReferenced, HasVariable, VariableFree, VariableUnused, ParentIsUser, NoSuper, MeansSame, Unreached, IsClass, ChildOf, LacksVariable, KnownSelector}
use Rattle.command_model.specs.Asked.{text_asked}
use Rattle.command_model.specs.Holds.{holds}
use Rattle.command_examples.specs.ExampleImage.{Text, account, savings, checking, loan, premium, name, numeral, answering, method, doit, bank, with_classes}
use Rattle.command_examples.specs.Examples.{Row}
use Rattle.command_examples.specs.Refused.{refused_in, refused, adding}

-- `at ^super at: rate`
abbrev pub savings_at : EntryOf Text
savings_at = method (codes "Savings") (answering (codes "at") (send (name (codes "super")) (codes "at:") (trees_of (name (codes "rate") ∷ []))))

-- commands of which several conditions are false
abbrev pub order_rows : List Row
order_rows =
    refused (RenameClass (codes "Nobody") (codes "account")) (IsUserClass (codes "Nobody"))
    ∷ refused (AddClass (codes "account") (codes "Nobody") (codes "Premium" ∷ [])) (IsClass (codes "Nobody"))
    ∷ refused (AddClass (codes "account") (codes "Account") (codes "Premium" ∷ [])) (GoodName (codes "account") of_a_class)
    ∷ refused_in (plus bank (doit (name (codes "Savings")))) (RemoveClass (codes "Savings")) (NoSubclasses (codes "Savings"))
    ∷ refused (RenameInstVar (codes "Account") (codes "nothing") (codes "Total")) (HasVariable (codes "Account") (codes "nothing"))
    ∷ refused (RenameInstVar (codes "Account") (codes "note") (codes "Total")) (GoodName (codes "Total") of_another_variable)
    ∷ refused (PushUpInstVar (codes "Account") (codes "nothing")) (HasVariable (codes "Account") (codes "nothing"))
    ∷ refused (PushDownClassVar (codes "Account") (codes "nothing") (codes "Premium")) (ChildOf (codes "Premium") (codes "Account"))
    ∷ refused_in (with_classes (account ∷ savings ∷ record checking { shared = codes "Total" ∷ [] } ∷ loan ∷ premium ∷ [])) (PushDownClassVar (codes "Account") (codes "Total") (codes "Checking")) (LacksVariable (codes "Checking") (codes "Total"))
    ∷ refused (RenameSelector (codes "copy") (codes "3")) (GoodName (codes "3") of_methods)
    ∷ refused (RenameSelector (codes "tax") (codes "copy")) (KnownSelector (codes "tax"))
    ∷ refused (RenameSelector (codes "fee") (codes "perform:")) (Arity (codes "perform:") 0)
    ∷ refused (RenameSelector (codes "fee") (codes "copy")) (NotKernelSelector (codes "copy"))
    ∷ refused (adding (codes "Object") (answering (codes "copy") (numeral (codes "1")))) (IsUserClass (codes "Object"))
    ∷ refused (RemoveMethod (codes "Nobody") false (codes "fee")) (IsClass (codes "Nobody"))
    ∷ refused (PushUpMethod (codes "Account") false (codes "nothing")) (Implements (codes "Account") false (codes "nothing"))
    ∷ refused (PushUpMethod (codes "Savings") false (codes "fee")) (NotImplements (codes "Account") false (codes "fee"))
    ∷ refused_in (with_method bank savings_at) (PushUpMethod (codes "Savings") false (codes "at")) (NoSuper (codes "Savings") false (codes "at"))
    ∷ []

-- a command, and one of its conditions
pub record Asking : Type 0 where
  pub command : CommandOf Text
  pub condition : ConditionOf Text

abbrev pub asking : CommandOf Text → ConditionOf Text → Asking
asking command condition = record { command = command; condition = condition }

-- whether the condition holds in the bank
abbrev pub answer_of : Asking → Bool
answer_of q = holds text_asked bank q.command q.condition

-- none of these holds
abbrev pub AllFalse : List Asking → Type 0
AllFalse [] = Unit {0}
AllFalse (q ∷ qs) = (answer_of q ≡ false) × AllFalse qs

-- conditions on classes, variables and methods that are not there, and one that is none of its command's
abbrev pub missing : List Asking
missing =
    asking (adding (codes "Nobody") (answering (codes "tax") (numeral (codes "2")))) (NotImplements (codes "Nobody") false (codes "tax"))
    ∷ asking (adding (codes "Nobody") (answering (codes "tax") (numeral (codes "2")))) (Unreached (codes "tax"))
    ∷ asking (RemoveClass (codes "Nobody")) (NoSubclasses (codes "Nobody"))
    ∷ asking (RemoveClass (codes "Nobody")) (NotReferenced (codes "Nobody"))
    ∷ asking (AddInstVar (codes "Nobody") (codes "x")) (VariableFree (codes "Nobody") (codes "x"))
    ∷ asking (RemoveInstVar (codes "Account") (codes "nothing")) (VariableUnused (codes "Account") (codes "nothing"))
    ∷ asking (PushDownClassVar (codes "Account") (codes "Total") (codes "Nobody")) (ChildOf (codes "Nobody") (codes "Account"))
    ∷ asking (PushDownClassVar (codes "Account") (codes "Total") (codes "Nobody")) (LacksVariable (codes "Nobody") (codes "Total"))
    ∷ asking (PushUpInstVar (codes "Object") (codes "x")) (ParentIsUser (codes "Object"))
    ∷ asking (RemoveMethod (codes "Loan") false (codes "nothing")) (Removable (codes "Loan") false (codes "nothing"))
    ∷ asking (PushDownMethod (codes "Loan") false (codes "nothing")) (NoSuper (codes "Loan") false (codes "nothing"))
    ∷ asking (PushDownMethod (codes "Loan") false (codes "nothing")) (Unreached (codes "nothing"))
    ∷ asking (PushUpMethod (codes "Loan") false (codes "nothing")) (MeansSame (codes "Loan") false (codes "nothing") (codes "Account"))
    ∷ asking (PushUpMethod (codes "Loan") false (codes "with:")) (MeansSame (codes "Loan") false (codes "with:") (codes "Nobody"))
    ∷ asking (PushUpMethod (codes "Loan") false (codes "nothing")) (Unreached (codes "nothing"))
    ∷ asking (RemoveMethod (codes "Loan") false (codes "go")) (Unreached (codes "go"))
    ∷ []
