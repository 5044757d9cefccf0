-- The conditions of some commands, the steps of composites, and the names that commands change.
use Rattle.std.specs.Prelude.{◌≡◌, List, [], ◌∷◌, true, false, codes}
use Rattle.rb_base.specs.Names.{text_eq}
use Rattle.run_model.specs.Renamings.{no_renaming}
use Rattle.rename_model.specs.ClassRenamed.{canonical}
use Rattle.command_model.specs.Asked.{asked_of_texts, no_parts}
use Rattle.command_model.specs.Commands.{CommandOf, AddClass, RenameInstVar, PushUpInstVar, PushUpClassVar, RemoveClass, PushUpMethod, ExtractMethod, InlineMethod, ExtractTemp, RenameTemp}
use Rattle.command_model.specs.Conditions.{of_methods, of_another_variable, ConditionOf, NoReflection, IsUserClass, GoodName, NotKernelSelector, Implements, PartIs, NoReturn, AssignsNoOuter, TempsSteady, ValueUnused, SelfSend, FirstEvaluated, NotIn, Shallow}
use Rattle.command_model.specs.Needs.{needs}
use Rattle.command_model.specs.Renamings.{renaming_of}
use Rattle.session_model.specs.Actions.{ActionOf, ExtractSuperclass, PushUpWithMethods}
use Rattle.session_model.specs.Steps.{steps_of}
use Rattle.command_examples.specs.ExampleImage.{Text, bank}
use Rattle.command_examples.specs.CodeImages.{due}
use Rattle.command_examples.specs.CodeRows.{a}

-- the conditions of a command whose places hold no part
abbrev pub listed : CommandOf Text → List (ConditionOf Text)
listed command = needs (asked_of_texts no_parts) due command

abbrev pub s : Text
s = codes "due"

-- the lists end before the first condition that is given what is not there
abbrev pub Listings : Type 0
Listings =
    (listed (ExtractMethod a false s 5 6 (codes "t")) ≡ NoReflection ∷ IsUserClass a ∷ Implements a false s ∷ PartIs a false s 5 6 ∷ NoReturn a false s 5 6 ∷ AssignsNoOuter a false s 5 6 ∷ TempsSteady a false s 5 6 ∷ ValueUnused a false s 5 6 ∷ GoodName (codes "t") of_methods ∷ NotKernelSelector (codes "t") ∷ [])
    × (listed (InlineMethod a false s 5 6) ≡ NoReflection ∷ IsUserClass a ∷ Implements a false s ∷ SelfSend a false s 5 6 ∷ [])
    × (listed (ExtractTemp a false s 5 6 (codes "t")) ≡ NoReflection ∷ IsUserClass a ∷ Implements a false s ∷ PartIs a false s 5 6 ∷ FirstEvaluated a false s 5 6 ∷ GoodName (codes "t") of_another_variable ∷ NotIn a false s (codes "t") ∷ Shallow ∷ [])

-- the steps of a composite in the bank
abbrev pub steps : ActionOf Text → List (CommandOf Text)
steps composite = steps_of text_eq bank canonical composite

-- a superclass of two classes takes the variable that both have; a variable goes up with the method that reads it
abbrev pub Stepped : Type 0
Stepped =
    (steps (ExtractSuperclass (codes "Deposit") (codes "Account") (codes "Savings" ∷ codes "Checking" ∷ [])) ≡ AddClass (codes "Deposit") (codes "Account") (codes "Savings" ∷ codes "Checking" ∷ []) ∷ PushUpInstVar (codes "Savings") (codes "rate") ∷ [])
    × (steps (ExtractSuperclass (codes "Deposit") (codes "Account") (codes "Savings" ∷ codes "Loan" ∷ [])) ≡ AddClass (codes "Deposit") (codes "Account") (codes "Savings" ∷ codes "Loan" ∷ []) ∷ [])
    × (steps (PushUpWithMethods (codes "Savings") (codes "rate")) ≡ PushUpInstVar (codes "Savings") (codes "rate") ∷ PushUpMethod (codes "Savings") false (codes "interest") ∷ [])

-- a variable has a new name at each class that has it; a class variable has a new definer; a method's parameter has a new name; a selector has one; and else nothing has
abbrev pub Renamed : Type 0
Renamed =
    (renaming_of bank (RenameInstVar (codes "Savings") (codes "rate") (codes "part")) ≡ record no_renaming { instance = ((codes "Savings", codes "rate"), codes "part") ∷ ((codes "Premium", codes "rate"), codes "part") ∷ [] })
    × (renaming_of bank (PushUpClassVar (codes "Savings") (codes "Bonus")) ≡ record no_renaming { shared = ((codes "Savings", codes "Bonus"), (codes "Account", codes "Bonus")) ∷ [] })
    × (renaming_of bank (RemoveClass (codes "Loan")) ≡ no_renaming)
    × (renaming_of due (RenameTemp a true s (codes "x") (codes "y")) ≡ record no_renaming { temporaries = (((a, true, s), codes "x"), codes "y") ∷ [] })
    × (renaming_of due (InlineMethod a true s 1 2) ≡ no_renaming)
