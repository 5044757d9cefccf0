-- Commands that are refused in small images, each with its first condition that is false.
use Rattle.std.specs.Prelude.{List, [], ◌∷◌, true, false, codes, Some, Err}
use Rattle.tree_model.specs.Tree.{send, cascade, trees_of, no_trees, no_messages, more_messages, MethodOf}
use Rattle.image_model.specs.Image.{ClassOf, EntryOf, ImageOf, plus}
use Rattle.image_model.specs.Grown.{with_method}
use Rattle.command_model.specs.Commands.{CommandOf, RenameClass, AddClass, RemoveClass, AddInstVar, RemoveInstVar, PushUpInstVar, PushDownInstVar, AddClassVar, RemoveClassVar, PushUpClassVar, PushDownClassVar, AddClassSideVar, RemoveClassSideVar, RenameSelector, AddMethod, RemoveMethod, PushUpMethod, PushDownMethod}
use Rattle.command_model.specs.Conditions.{of_a_class, of_a_class_variable, of_another_variable, of_methods, ConditionOf, NoReflection, IsUserClass, GoodName, NameUnused, SelectorFresh, NotKernelSelector, Arity, Implements, NotImplements, Removable, NoSubclasses, NotReferenced, HasVariable, VariableFree, VariableUnused, ParentIsUser, NoSuper, MeansSame, Unreached, IsClass, ChildOf, LacksVariable, KnownSelector}
use Rattle.command_examples.specs.ExampleImage.{Text, class_with, account, savings, checking, loan, premium, unary, name, numeral, taking, answering, method, class_method, doit, premium_fee, bank, with_classes, account_methods, super_fee}
use Rattle.command_examples.specs.Examples.{Row, loan_fresh, with_other_fee}

-- a command that is refused in an image, or in the bank
abbrev pub refused_in : ImageOf Text → CommandOf Text → ConditionOf Text → Row
refused_in before command condition = record { before = before; command = command; verdict = Err condition }

abbrev pub refused : CommandOf Text → ConditionOf Text → Row
refused command condition = refused_in bank command condition

-- a method of Savings or Loan that is added, with its selector in place of its text
abbrev pub adding : Text → MethodOf Text → CommandOf Text
adding c tree = AddMethod c false (codes "p") tree.selector tree

-- a do-it names the program; a method that is added is the one for messages that are not understood, or looks at the program
abbrev pub reflections : List Row
reflections =
    refused_in (plus bank (doit (unary (name (codes "Smalltalk")) (codes "foo")))) (RemoveClass (codes "Nobody")) NoReflection
    ∷ refused (adding (codes "Loan") (taking (codes "doesNotUnderstand:") (codes "m" ∷ []) (numeral (codes "1")))) NoReflection
    ∷ refused (adding (codes "Loan") (answering (codes "ask") (send (name (codes "self")) (codes "perform:") (trees_of (name (codes "nil") ∷ []))))) NoReflection
    ∷ []

-- of a class, a class variable, another variable and methods: a name that is none of its kind, and one that is there, be it of a class variable or undeclared; selectors of the kernel, of which one it only sends and one has a meaning of its own; a selector that is sent and not implemented
abbrev pub names : List Row
names =
    refused (RenameClass (codes "Account") (codes "account")) (GoodName (codes "account") of_a_class)
    ∷ refused (AddClassVar (codes "Account") (codes "Transcript")) (GoodName (codes "Transcript") of_a_class_variable)
    ∷ refused (AddInstVar (codes "Account") (codes "Limit")) (GoodName (codes "Limit") of_another_variable)
    ∷ refused (RenameSelector (codes "fee") (codes "3")) (GoodName (codes "3") of_methods)
    ∷ refused (RenameClass (codes "Account") (codes "Unknown")) (NameUnused (codes "Unknown"))
    ∷ refused (AddClassVar (codes "Loan") (codes "Prime")) (NameUnused (codes "Prime"))
    ∷ refused (AddClass (codes "Premium") (codes "Account") []) (NameUnused (codes "Premium"))
    ∷ refused (RenameSelector (codes "copy") (codes "dup")) (NotKernelSelector (codes "copy"))
    ∷ refused (RenameSelector (codes "tax") (codes "levy")) (KnownSelector (codes "tax"))
    ∷ refused (RenameSelector (codes "fee") (codes "fee:")) (Arity (codes "fee:") 0)
    ∷ refused (RenameSelector (codes "fee") (codes "shallowCopy")) (NotKernelSelector (codes "shallowCopy"))
    ∷ refused (RenameSelector (codes "fee") (codes "allInstances")) (NotKernelSelector (codes "allInstances"))
    ∷ refused (RenameSelector (codes "fee") (codes "tax")) (SelectorFresh (codes "tax"))
    ∷ []

-- a class of the kernel, and one that is not there; a class with a subclass; one that a do-it names, also where a method of its own does; a class under another than the superclass, and one of the kernel
abbrev pub class_rows : List Row
class_rows =
    refused (RenameClass (codes "Object") (codes "Thing")) (IsUserClass (codes "Object"))
    ∷ refused (AddClass (codes "Deposit") (codes "Nobody") []) (IsClass (codes "Nobody"))
    ∷ refused (RemoveClass (codes "Savings")) (NoSubclasses (codes "Savings"))
    ∷ refused (RemoveClass (codes "Premium")) (NotReferenced (codes "Premium"))
    ∷ refused_in (plus (with_method bank loan_fresh) (doit (name (codes "Loan")))) (RemoveClass (codes "Loan")) (NotReferenced (codes "Loan"))
    ∷ refused (AddClass (codes "Deposit") (codes "Account") (codes "Savings" ∷ codes "Premium" ∷ [])) (ChildOf (codes "Premium") (codes "Account"))
    ∷ refused (AddClass (codes "Deposit") (codes "Object") (codes "Class" ∷ [])) (ChildOf (codes "Class") (codes "Object"))
    ∷ []

-- `quote ^rate`, whose name is undeclared in a class that does not lose the variable
abbrev pub loan_quote : EntryOf Text
loan_quote = method (codes "Loan") (answering (codes "quote") (name (codes "rate")))

-- a class under Loan, which has a variable `rate`
abbrev pub micro : ClassOf Text
micro = class_with false (codes "Micro") (Some (codes "Loan")) (codes "rate" ∷ []) [] []

-- a variable that is inherited, or of another kind; a new one whose name a class above, a class below or a variable of another kind has, or a block declares; one that goes up past a method that has its name, a class-instance variable of it, a variable of it in the superclass or in a class above that, a class below which has it but not from a direct subclass, or a class variable of it in another subclass
abbrev pub new_variables : List Row
new_variables =
    refused (RemoveInstVar (codes "Premium") (codes "rate")) (HasVariable (codes "Premium") (codes "rate"))
    ∷ refused (RemoveClassVar (codes "Account") (codes "balance")) (HasVariable (codes "Account") (codes "balance"))
    ∷ refused (AddInstVar (codes "Premium") (codes "balance")) (VariableFree (codes "Premium") (codes "balance"))
    ∷ refused (AddInstVar (codes "Account") (codes "rate")) (VariableFree (codes "Account") (codes "rate"))
    ∷ refused (AddInstVar (codes "Account") (codes "made")) (VariableFree (codes "Account") (codes "made"))
    ∷ refused (AddInstVar (codes "Account") (codes "other")) (VariableFree (codes "Account") (codes "other"))
    ∷ refused (AddClassSideVar (codes "Savings") (codes "owner")) (VariableFree (codes "Savings") (codes "owner"))
    ∷ refused_in (with_method bank loan_quote) (PushUpInstVar (codes "Savings") (codes "rate")) (VariableFree (codes "Account") (codes "rate"))
    ∷ refused_in (with_classes (account ∷ savings ∷ checking ∷ record loan { class_side = codes "rate" ∷ [] } ∷ premium ∷ [])) (PushUpInstVar (codes "Savings") (codes "rate")) (VariableFree (codes "Account") (codes "rate"))
    ∷ refused_in (with_classes (record account { class_side = codes "rate" ∷ [] } ∷ savings ∷ checking ∷ loan ∷ premium ∷ [])) (PushUpInstVar (codes "Savings") (codes "rate")) (VariableFree (codes "Account") (codes "rate"))
    ∷ refused_in (with_classes (record account { class_side = codes "zone" ∷ [] } ∷ savings ∷ checking ∷ loan ∷ record premium { instance = codes "zone" ∷ [] } ∷ [])) (PushUpInstVar (codes "Premium") (codes "zone")) (VariableFree (codes "Savings") (codes "zone"))
    ∷ refused_in (with_classes (account ∷ savings ∷ checking ∷ loan ∷ premium ∷ micro ∷ [])) (PushUpInstVar (codes "Savings") (codes "rate")) (VariableFree (codes "Account") (codes "rate"))
    ∷ refused (PushUpClassVar (codes "Savings") (codes "Prime")) (VariableFree (codes "Account") (codes "Prime"))
    ∷ refused_in (with_classes (account ∷ savings ∷ record checking { shared = codes "Bonus" ∷ [] } ∷ loan ∷ premium ∷ [])) (PushUpClassVar (codes "Savings") (codes "Bonus")) (VariableFree (codes "Account") (codes "Bonus"))
    ∷ refused (PushUpInstVar (codes "Account") (codes "owner")) (ParentIsUser (codes "Account"))
    ∷ []

-- a variable that a subclass reads, or the class itself, or a class outside the one to which it goes, or that is assigned alone; a class variable that goes to a class below the subclasses, or to one that has a class-instance variable of the name
abbrev pub used_variables : List Row
used_variables =
    refused (RemoveInstVar (codes "Account") (codes "owner")) (VariableUnused (codes "Account") (codes "owner"))
    ∷ refused (PushDownInstVar (codes "Account") (codes "balance")) (VariableUnused (codes "Account") (codes "balance"))
    ∷ refused (PushDownClassVar (codes "Account") (codes "Total") (codes "Checking")) (VariableUnused (codes "Account") (codes "Total"))
    ∷ refused (RemoveClassSideVar (codes "Account") (codes "made")) (VariableUnused (codes "Account") (codes "made"))
    ∷ refused (PushDownClassVar (codes "Account") (codes "Total") (codes "Premium")) (ChildOf (codes "Premium") (codes "Account"))
    ∷ refused_in (with_classes (account ∷ record savings { class_side = codes "Total" ∷ [] } ∷ checking ∷ loan ∷ premium ∷ [])) (PushDownClassVar (codes "Account") (codes "Total") (codes "Savings")) (LacksVariable (codes "Savings") (codes "Total"))
    ∷ []

-- `named ^Prime` in Premium, as it is in Account
abbrev pub premium_named : EntryOf Text
premium_named = method (codes "Premium") (answering (codes "named") (name (codes "Prime")))

-- `shallowCopy ^1`, whose selector the kernel alone sends
abbrev pub loan_shallow_copy : EntryOf Text
loan_shallow_copy = method (codes "Loan") (answering (codes "shallowCopy") (numeral (codes "1")))

-- `bonus ^3` in Premium, where Savings has `bonus ^2`
abbrev pub premium_bonus : MethodOf Text
premium_bonus = answering (codes "bonus") (numeral (codes "3"))

-- the class `Class` has `odd ^super copy` on both sides, and a do-it sends that to a class
abbrev pub odd : MethodOf Text
odd = answering (codes "odd") (unary (name (codes "super")) (codes "copy"))

abbrev pub odd_classes : ImageOf Text
odd_classes = plus (with_method (with_method bank (class_method (codes "Class") odd)) (method (codes "Class") odd)) (doit (unary (name (codes "Premium")) (codes "odd")))

-- a method that is inherited, one of the kernel, and one that is there; a method without a like above it, one with another above it, one of a selector of the kernel, one with `super` whose like is above it or on the other side of its class, and one with a name that means another thing above it
abbrev pub method_rows : List Row
method_rows =
    refused (RemoveMethod (codes "Loan") false (codes "fee")) (Implements (codes "Loan") false (codes "fee"))
    ∷ refused (RemoveMethod (codes "Object") false (codes "copy")) (Implements (codes "Object") false (codes "copy"))
    ∷ refused (adding (codes "Checking") (answering (codes "fee") (numeral (codes "3")))) (NotImplements (codes "Checking") false (codes "fee"))
    ∷ refused (RemoveMethod (codes "Savings") false (codes "bonus")) (Removable (codes "Savings") false (codes "bonus"))
    ∷ refused_in (with_method bank (method (codes "Premium") premium_bonus)) (RemoveMethod (codes "Premium") false (codes "bonus")) (Removable (codes "Premium") false (codes "bonus"))
    ∷ refused_in odd_classes (RemoveMethod (codes "Class") true (codes "odd")) (Removable (codes "Class") true (codes "odd"))
    ∷ refused_in (with_method bank loan_shallow_copy) (RemoveMethod (codes "Loan") false (codes "shallowCopy")) (Removable (codes "Loan") false (codes "shallowCopy"))
    ∷ refused_in (with_method bank premium_fee) (RemoveMethod (codes "Premium") false (codes "fee")) (Removable (codes "Premium") false (codes "fee"))
    ∷ refused_in (with_method bank premium_named) (RemoveMethod (codes "Premium") false (codes "named")) (Removable (codes "Premium") false (codes "named"))
    ∷ []

-- `sum ^Total`, and the bank in which Savings has a class variable of that name, too
abbrev pub account_sum : EntryOf Text
account_sum = method (codes "Account") (answering (codes "sum") (name (codes "Total")))

abbrev pub twice_total : ImageOf Text
twice_total = with_classes (account ∷ record savings { shared = codes "Total" ∷ [] } ∷ checking ∷ loan ∷ premium ∷ [])

-- a method that goes to a class of the kernel, or where one is; with `super`; with a name that means another thing in the superclass or in a subclass, or a class variable of another class
abbrev pub move_rows : List Row
move_rows =
    refused (PushUpMethod (codes "Account") false (codes "balance")) (ParentIsUser (codes "Account"))
    ∷ refused (PushUpMethod (codes "Checking") false (codes "fee")) (NotImplements (codes "Account") false (codes "fee"))
    ∷ refused (PushUpMethod (codes "Savings") false (codes "printed")) (NoSuper (codes "Savings") false (codes "printed"))
    ∷ refused (PushDownMethod (codes "Savings") false (codes "fee")) (NoSuper (codes "Savings") false (codes "fee"))
    ∷ refused (PushUpMethod (codes "Savings") false (codes "interest")) (MeansSame (codes "Savings") false (codes "interest") (codes "Account"))
    ∷ refused (PushDownMethod (codes "Account") false (codes "named")) (MeansSame (codes "Account") false (codes "named") (codes "Savings"))
    ∷ refused_in (with_method twice_total account_sum) (PushDownMethod (codes "Account") false (codes "sum")) (MeansSame (codes "Account") false (codes "sum") (codes "Savings"))
    ∷ []

-- `both ^super balance; holder`, which no text spells
abbrev pub savings_both : EntryOf Text
savings_both = method (codes "Savings") (answering (codes "both") (cascade (name (codes "super")) (more_messages (codes "balance") no_trees (more_messages (codes "holder") no_trees no_messages))))

-- another class finds the method that goes up, and a do-it names that class; a class below finds the one that is added, where it found none and where it found another; a message to `super` finds the one no more that goes down
abbrev pub reached_rows : List Row
reached_rows =
    refused (PushUpMethod (codes "Savings") false (codes "holder")) (Unreached (codes "holder"))
    ∷ refused (adding (codes "Savings") (answering (codes "tax") (numeral (codes "2")))) (Unreached (codes "tax"))
    ∷ refused (adding (codes "Premium") (answering (codes "fee") (numeral (codes "3")))) (Unreached (codes "fee"))
    ∷ refused (adding (codes "Premium") premium_bonus) (Unreached (codes "bonus"))
    ∷ refused (PushDownMethod (codes "Account") false (codes "fee")) (Unreached (codes "fee"))
    ∷ refused_in (with_method bank savings_both) (PushDownMethod (codes "Account") false (codes "balance")) (Unreached (codes "balance"))
    ∷ refused_in (with_other_fee account_methods (class_method (codes "Savings") super_fee)) (PushDownMethod (codes "Account") false (codes "fee")) (Unreached (codes "fee"))
    ∷ []
