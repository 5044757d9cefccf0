-- The conditions of each command, in their order.
use Rattle.std.specs.Prelude.{◌≡◌, List, [], ◌∷◌, true, false, codes}
use Rattle.command_model.specs.Commands.{CommandOf, RenameClass, AddClass, RemoveClass, AddInstVar, RenameInstVar, RemoveInstVar, PushUpInstVar, PushDownInstVar, AddClassVar, RenameClassVar, RemoveClassVar, PushUpClassVar, PushDownClassVar, AddClassSideVar, RenameClassSideVar, RemoveClassSideVar, RenameSelector, AddMethod, RemoveMethod, PushUpMethod, PushDownMethod}
use Rattle.command_model.specs.Conditions.{of_a_class, of_a_class_variable, of_another_variable, of_methods, ConditionOf, NoReflection, IsUserClass, GoodName, NameUnused, SelectorFresh, NotKernelSelector, Arity, Implements, NotImplements, Removable, NoSubclasses, NotReferenced, HasVariable, VariableFree, VariableUnused, ParentIsUser, NoSuper, MeansSame, Unreached, IsClass, ChildOf, LacksVariable, KnownSelector}
use Rattle.command_model.specs.Asked.{text_asked}
use Rattle.command_model.specs.Needs.{needs}
use Rattle.command_examples.specs.ExampleImage.{Text, numeral, answering, bank}

-- a command, and its conditions
pub record Listing : Type 0 where
  pub command : CommandOf Text
  pub conditions : List (ConditionOf Text)

-- all but the first of them, which each command has
abbrev pub listing : CommandOf Text → List (ConditionOf Text) → Listing
listing command conditions = record { command = command; conditions = NoReflection ∷ conditions }

-- what the definition lists in the bank
abbrev pub listed : Listing → List (ConditionOf Text)
listed l = needs text_asked bank l.command

-- each list is as the definition has it
abbrev pub AllListed : List Listing → Type 0
AllListed [] = Unit {0}
AllListed (l ∷ ls) = (listed l ≡ l.conditions) × AllListed ls

-- Savings, which stands under Account and above Premium; and other names
abbrev pub c : Text
c = codes "Savings"

abbrev pub p : Text
p = codes "Account"

abbrev pub d : Text
d = codes "Premium"

abbrev pub x : Text
x = codes "x"

abbrev pub y : Text
y = codes "y"

abbrev pub s : Text
s = codes "at:put:"

abbrev pub t : Text
t = codes "from:to:"

-- the conditions of commands of classes and variables; where there is no superclass, they end before the one that is given it
abbrev pub class_listings : List Listing
class_listings =
    listing (RenameClass c d) (IsUserClass c ∷ GoodName d of_a_class ∷ NameUnused d ∷ [])
    ∷ listing (AddClass d p (x ∷ y ∷ [])) (IsClass p ∷ GoodName d of_a_class ∷ NameUnused d ∷ ChildOf x p ∷ ChildOf y p ∷ [])
    ∷ listing (RemoveClass c) (IsUserClass c ∷ NoSubclasses c ∷ NotReferenced c ∷ [])
    ∷ listing (AddInstVar c x) (IsUserClass c ∷ GoodName x of_another_variable ∷ VariableFree c x ∷ [])
    ∷ listing (RenameInstVar c x y) (IsUserClass c ∷ HasVariable c x ∷ GoodName y of_another_variable ∷ VariableFree c y ∷ [])
    ∷ listing (RemoveInstVar c x) (IsUserClass c ∷ HasVariable c x ∷ VariableUnused c x ∷ [])
    ∷ listing (PushUpInstVar c x) (IsUserClass c ∷ HasVariable c x ∷ ParentIsUser c ∷ VariableFree p x ∷ [])
    ∷ listing (PushUpInstVar y x) (IsUserClass y ∷ HasVariable y x ∷ ParentIsUser y ∷ [])
    ∷ listing (PushDownInstVar c x) (IsUserClass c ∷ HasVariable c x ∷ VariableUnused c x ∷ [])
    ∷ listing (AddClassVar c x) (IsUserClass c ∷ GoodName x of_a_class_variable ∷ NameUnused x ∷ [])
    ∷ listing (RenameClassVar c x y) (IsUserClass c ∷ HasVariable c x ∷ GoodName y of_a_class_variable ∷ NameUnused y ∷ [])
    ∷ listing (RemoveClassVar c x) (IsUserClass c ∷ HasVariable c x ∷ VariableUnused c x ∷ [])
    ∷ listing (PushUpClassVar c x) (IsUserClass c ∷ HasVariable c x ∷ ParentIsUser c ∷ VariableFree p x ∷ [])
    ∷ listing (PushUpClassVar y x) (IsUserClass y ∷ HasVariable y x ∷ ParentIsUser y ∷ [])
    ∷ listing (PushDownClassVar c x d) (IsUserClass c ∷ ChildOf d c ∷ HasVariable c x ∷ LacksVariable d x ∷ VariableUnused c x ∷ [])
    ∷ listing (AddClassSideVar c x) (IsUserClass c ∷ GoodName x of_another_variable ∷ VariableFree c x ∷ [])
    ∷ listing (RenameClassSideVar c x y) (IsUserClass c ∷ HasVariable c x ∷ GoodName y of_another_variable ∷ VariableFree c y ∷ [])
    ∷ listing (RemoveClassSideVar c x) (IsUserClass c ∷ HasVariable c x ∷ VariableUnused c x ∷ [])
    ∷ []

-- those of commands of methods; the classes to which a method goes down are those without one of their own, in the order of classes
abbrev pub method_listings : List Listing
method_listings =
    listing (RenameSelector s t) (GoodName t of_methods ∷ NotKernelSelector s ∷ KnownSelector s ∷ Arity t 2 ∷ NotKernelSelector t ∷ SelectorFresh t ∷ [])
    ∷ listing (AddMethod c true [] [] (answering x (numeral y))) (IsUserClass c ∷ NotImplements c true x ∷ Unreached x ∷ [])
    ∷ listing (RemoveMethod c true s) (IsClass c ∷ Implements c true s ∷ Removable c true s ∷ [])
    ∷ listing (PushUpMethod c true s) (IsUserClass c ∷ Implements c true s ∷ ParentIsUser c ∷ NotImplements p true s ∷ NoSuper c true s ∷ MeansSame c true s p ∷ Unreached s ∷ [])
    ∷ listing (PushUpMethod y true s) (IsUserClass y ∷ Implements y true s ∷ ParentIsUser y ∷ [])
    ∷ listing (PushDownMethod c true s) (IsUserClass c ∷ Implements c true s ∷ NoSuper c true s ∷ MeansSame c true s d ∷ Unreached s ∷ [])
    ∷ listing (PushDownMethod p false (codes "bonus")) (IsUserClass p ∷ Implements p false (codes "bonus") ∷ NoSuper p false (codes "bonus") ∷ MeansSame p false (codes "bonus") (codes "Loan") ∷ Unreached (codes "bonus") ∷ [])
    ∷ listing (PushDownMethod p true (codes "bonus")) (IsUserClass p ∷ Implements p true (codes "bonus") ∷ NoSuper p true (codes "bonus") ∷ MeansSame p true (codes "bonus") c ∷ MeansSame p true (codes "bonus") (codes "Checking") ∷ MeansSame p true (codes "bonus") (codes "Loan") ∷ Unreached (codes "bonus") ∷ [])
    ∷ []
