-- Commands that are accepted in small images, and the images after them.
use Rattle.std.specs.Prelude.{◌≡◌, List, [], ◌∷◌, ◌++◌, true, false, codes, Some, Result, Ok}
use Rattle.tree_model.specs.Tree.{TreeOf, cascade, assign, brace, trees_of, no_trees, no_messages, more_messages, MethodOf}
use Rattle.image_model.specs.Image.{ClassOf, EntryOf, ImageOf}
use Rattle.image_model.specs.Grown.{with_method}
use Rattle.command_model.specs.Commands.{CommandOf, RenameClass, AddClass, RemoveClass, AddInstVar, RenameInstVar, RemoveInstVar, PushUpInstVar, PushDownInstVar, AddClassVar, RenameClassVar, RemoveClassVar, PushUpClassVar, PushDownClassVar, AddClassSideVar, RenameClassSideVar, RemoveClassSideVar, RenameSelector, AddMethod, RemoveMethod, PushUpMethod, PushDownMethod}
use Rattle.command_model.specs.Conditions.{ConditionOf}
use Rattle.command_model.specs.Asked.{text_asked}
use Rattle.command_model.specs.MethodEffects.{of_class_named}
use Rattle.command_model.specs.Judged.{judged}
use Rattle.command_examples.specs.ExampleImage.{Text, class_with, account, savings, checking, loan, premium, unary, name, numeral, answering, method, class_method, written, marking, account_fee, account_balance, account_named, account_make, savings_fee, savings_holder, savings_bonus, savings_interest, savings_printed, savings_all, checking_fee, checking_bonus, loan_with, loan_go, premium_extra, extra_of, premium_fee, account_methods, savings_methods, other_savings_methods, checking_methods, loan_methods, premium_methods, user_methods, first_doit, third_doit, last_doits, written_doit, bank, with_classes, with_methods, with_both}

-- an image, a command, and the image after it or its first condition that is false
pub record Row : Type 0 where
  pub before : ImageOf Text
  pub command : CommandOf Text
  pub verdict : Result (ImageOf Text) (ConditionOf Text)

-- what the definition makes of a row
abbrev pub verdict_of : Row → Result (ImageOf Text) (ConditionOf Text)
verdict_of r = judged text_asked marking r.before r.command

-- each row is as the definition has it
abbrev pub AllJudged : List Row → Type 0
AllJudged [] = Unit {0}
AllJudged (r ∷ rs) = (verdict_of r ≡ r.verdict) × AllJudged rs

-- a command that is accepted in an image, or in the bank
abbrev pub accepted_in : ImageOf Text → CommandOf Text → ImageOf Text → Row
accepted_in before command after = record { before = before; command = command; verdict = Ok after }

abbrev pub accepted : CommandOf Text → ImageOf Text → Row
accepted command after = accepted_in bank command after

-- `fresh ^Loan new`, by which the class Loan is meant in a method of its own alone
abbrev pub loan_fresh : EntryOf Text
loan_fresh = class_method (codes "Loan") (answering (codes "fresh") (unary (name (codes "Loan")) (codes "new")))

-- the class Deposit under a class
abbrev pub deposit : Text → ClassOf Text
deposit p = class_with false (codes "Deposit") (Some p) [] [] []

-- a class is meant in do-its and has a method; classes come under a new one, which stands before the first of them, be it under one of the kernel; a class goes with the methods of both sides, of which one means it
abbrev pub classes : List Row
classes =
    accepted (RenameClass (codes "Premium") (codes "Gold"))
    (record (with_both (account ∷ savings ∷ checking ∷ loan ∷ record premium { name = codes "Gold" } ∷ [])
    (account_methods ++ savings_methods ++ checking_methods ++ loan_methods ++ of_class_named premium_extra (codes "Gold") ∷ []))
    { doits = written_doit (first_doit (codes "Gold") (codes "fee")) ∷ last_doits (written_doit (third_doit (codes "Gold"))) })
    ∷ accepted (AddClass (codes "Deposit") (codes "Account") (codes "Checking" ∷ codes "Savings" ∷ []))
    (with_classes (account ∷ deposit (codes "Account") ∷ record savings { superclass = Some (codes "Deposit") } ∷ record checking { superclass = Some (codes "Deposit") } ∷ loan ∷ premium ∷ []))
    ∷ accepted (AddClass (codes "Deposit") (codes "Object") (codes "Account" ∷ []))
    (with_classes (deposit (codes "Object") ∷ record account { superclass = Some (codes "Deposit") } ∷ savings ∷ checking ∷ loan ∷ premium ∷ []))
    ∷ accepted (AddClass (codes "Deposit") (codes "Object") []) (with_classes (account ∷ savings ∷ checking ∷ loan ∷ premium ∷ deposit (codes "Object") ∷ []))
    ∷ accepted_in (with_method bank loan_fresh) (RemoveClass (codes "Loan"))
    (with_both (account ∷ savings ∷ checking ∷ premium ∷ []) (account_methods ++ savings_methods ++ checking_methods ++ premium_methods))
    ∷ []

-- a class elsewhere, which has a variable `rate`, too, and the method `rated ^rate`
abbrev pub branch : ClassOf Text
branch = class_with false (codes "Branch") (Some (codes "Object")) (codes "rate" ∷ []) [] []

abbrev pub branch_rated : EntryOf Text
branch_rated = method (codes "Branch") (answering (codes "rated") (name (codes "rate")))

-- `asked ^made`, whose name is undeclared on the instance side
abbrev pub loan_asked : EntryOf Text
loan_asked = method (codes "Loan") (answering (codes "asked") (name (codes "made")))

-- a subclass reads what is renamed, and another class has a variable of that name; an argument has the name of a variable that goes; both subclasses lose a variable that goes up, and a class below one of them reads it, and a class elsewhere keeps its own; what goes down, a subclass reads, and its subclass does not get it
abbrev pub instance_variables : List Row
instance_variables =
    accepted (AddInstVar (codes "Account") (codes "limit"))
    (with_classes (record account { instance = codes "owner" ∷ codes "balance" ∷ codes "note" ∷ codes "limit" ∷ [] } ∷ savings ∷ checking ∷ loan ∷ premium ∷ []))
    ∷ accepted (RenameInstVar (codes "Savings") (codes "rate") (codes "percent"))
    (with_both (account ∷ record savings { instance = codes "percent" ∷ [] } ∷ checking ∷ loan ∷ premium ∷ [])
    (account_methods
    ++ (savings_fee ∷ savings_holder ∷ savings_bonus ∷ written (method (codes "Savings") (answering (codes "interest") (name (codes "percent")))) ∷ savings_printed ∷ savings_all ∷ [])
    ++ checking_methods ++ loan_methods ++ written (extra_of (codes "percent")) ∷ []))
    ∷ accepted (RemoveInstVar (codes "Account") (codes "note"))
    (with_classes (record account { instance = codes "owner" ∷ codes "balance" ∷ [] } ∷ savings ∷ checking ∷ loan ∷ premium ∷ []))
    ∷ accepted (PushUpInstVar (codes "Savings") (codes "rate"))
    (with_classes (record account { instance = codes "owner" ∷ codes "balance" ∷ codes "note" ∷ codes "rate" ∷ [] } ∷ record savings { instance = [] } ∷ record checking { instance = [] } ∷ loan ∷ premium ∷ []))
    ∷ accepted_in (with_both (account ∷ savings ∷ checking ∷ loan ∷ premium ∷ branch ∷ []) (user_methods ++ branch_rated ∷ [])) (PushUpInstVar (codes "Savings") (codes "rate"))
    (with_both (record account { instance = codes "owner" ∷ codes "balance" ∷ codes "note" ∷ codes "rate" ∷ [] } ∷ record savings { instance = [] } ∷ record checking { instance = [] } ∷ loan ∷ premium ∷ branch ∷ []) (user_methods ++ branch_rated ∷ []))
    ∷ accepted (PushDownInstVar (codes "Account") (codes "owner"))
    (with_classes (record account { instance = codes "balance" ∷ codes "note" ∷ [] } ∷ record savings { instance = codes "rate" ∷ codes "owner" ∷ [] } ∷ record checking { instance = codes "rate" ∷ codes "owner" ∷ [] } ∷ record loan { instance = codes "owner" ∷ [] } ∷ premium ∷ []))
    ∷ []

-- a method on the class side of a subclass reads what is renamed or goes down; a method outside the tree of a class has an undeclared name like that of a variable that goes; a class below reads what goes up; of class-instance variables, a name on the instance side is none
abbrev pub class_variables : List Row
class_variables =
    accepted (AddClassVar (codes "Loan") (codes "Limit")) (with_classes (account ∷ savings ∷ checking ∷ record loan { shared = codes "Limit" ∷ [] } ∷ premium ∷ []))
    ∷ accepted (RenameClassVar (codes "Account") (codes "Total") (codes "Sum"))
    (with_both (record account { shared = codes "Sum" ∷ [] } ∷ savings ∷ checking ∷ loan ∷ premium ∷ [])
    (account_methods
    ++ (savings_fee ∷ savings_holder ∷ savings_bonus ∷ savings_interest ∷ savings_printed ∷ written (class_method (codes "Savings") (answering (codes "all") (name (codes "Sum")))) ∷ [])
    ++ checking_methods ++ loan_methods ++ premium_methods))
    ∷ accepted (RemoveClassVar (codes "Savings") (codes "Prime")) (with_classes (account ∷ record savings { shared = codes "Bonus" ∷ [] } ∷ checking ∷ loan ∷ premium ∷ []))
    ∷ accepted (PushUpClassVar (codes "Savings") (codes "Bonus"))
    (with_classes (record account { shared = codes "Total" ∷ codes "Bonus" ∷ [] } ∷ record savings { shared = codes "Prime" ∷ [] } ∷ checking ∷ loan ∷ premium ∷ []))
    ∷ accepted (PushDownClassVar (codes "Account") (codes "Total") (codes "Savings"))
    (with_classes (record account { shared = [] } ∷ record savings { shared = codes "Bonus" ∷ codes "Prime" ∷ codes "Total" ∷ [] } ∷ checking ∷ loan ∷ premium ∷ []))
    ∷ accepted (AddClassSideVar (codes "Account") (codes "count"))
    (with_classes (record account { class_side = codes "made" ∷ codes "count" ∷ [] } ∷ savings ∷ checking ∷ loan ∷ premium ∷ []))
    ∷ accepted_in (with_method bank loan_asked) (RenameClassSideVar (codes "Account") (codes "made") (codes "latest"))
    (with_both (record account { class_side = codes "latest" ∷ [] } ∷ savings ∷ checking ∷ loan ∷ premium ∷ [])
    ((account_fee ∷ account_balance ∷ account_named ∷ written (class_method (codes "Account") (answering (codes "make") (assign (codes "latest") (unary (name (codes "self")) (codes "new"))))) ∷ [])
    ++ savings_methods ++ checking_methods ++ loan_methods ++ premium_methods ++ loan_asked ∷ []))
    ∷ accepted (RemoveClassSideVar (codes "Loan") (codes "spare")) (with_classes (account ∷ savings ∷ checking ∷ record loan { class_side = [] } ∷ premium ∷ []))
    ∷ []

-- a method with another tree, which was written anew
abbrev pub changed_to : MethodOf Text → EntryOf Text → EntryOf Text
changed_to tree m = written (record m { tree = tree })

-- `copy ^self shallowCopy` on the class side, as it is on the instance side of Object
abbrev pub savings_copy : EntryOf Text
savings_copy = class_method (codes "Savings") (answering (codes "copy") (unary (name (codes "self")) (codes "shallowCopy")))

-- a selector is that of methods of several classes, of a message to `super` and of a do-it; a method is added to a class that nothing means, and one that hides what is inherited; one goes whose like is inherited but for a comment, one of the class side whose like is that of the instance side of Object, and one whose selector nothing sends; one is added whose selector it alone sends
abbrev pub methods : List Row
methods =
    accepted (RenameSelector (codes "fee") (codes "charge"))
    (record (with_methods (
    (changed_to (answering (codes "charge") (numeral (codes "1"))) account_fee ∷ account_balance ∷ account_named ∷ account_make ∷ [])
    ++ (changed_to (answering (codes "charge") (unary (name (codes "super")) (codes "charge"))) savings_fee ∷ other_savings_methods)
    ++ (changed_to (record (answering (codes "charge") (numeral (codes "1"))) { head = codes "\"none\"" ∷ [] }) checking_fee ∷ checking_bonus ∷ [])
    ++ loan_methods ++ premium_methods))
    { doits = written_doit (first_doit (codes "Premium") (codes "charge")) ∷ last_doits (third_doit (codes "Premium")) })
    ∷ accepted (AddMethod (codes "Loan") false (codes "q") (codes "tax  ^2") (answering (codes "tax") (numeral (codes "2"))))
    (with_method bank (record (method (codes "Loan") (answering (codes "tax") (numeral (codes "2")))) { protocol = codes "q"; source = codes "tax  ^2" }))
    ∷ accepted (AddMethod (codes "Loan") false (codes "p") (codes "fee") (answering (codes "fee") (numeral (codes "3"))))
    (with_method bank (method (codes "Loan") (answering (codes "fee") (numeral (codes "3")))))
    ∷ accepted (AddMethod (codes "Premium") false (codes "p") (codes "loop") (answering (codes "loop") (unary (name (codes "self")) (codes "loop"))))
    (with_method bank (method (codes "Premium") (answering (codes "loop") (unary (name (codes "self")) (codes "loop")))))
    ∷ accepted (RemoveMethod (codes "Checking") false (codes "fee")) (with_methods (account_methods ++ savings_methods ++ checking_bonus ∷ loan_methods ++ premium_methods))
    ∷ accepted_in (with_method bank savings_copy) (RemoveMethod (codes "Savings") true (codes "copy")) bank
    ∷ accepted (RemoveMethod (codes "Savings") false (codes "printed"))
    (with_methods (account_methods ++ (savings_fee ∷ savings_holder ∷ savings_bonus ∷ savings_interest ∷ savings_all ∷ []) ++ checking_methods ++ loan_methods ++ premium_methods))
    ∷ []

-- `log ^{Transcript show: Premium; cr. 1}`
abbrev pub loan_log : EntryOf Text
loan_log =
    method (codes "Loan") (answering (codes "log") (brace (trees_of (
    cascade (name (codes "Transcript")) (more_messages (codes "show:") (trees_of (name (codes "Premium") ∷ [])) (more_messages (codes "cr") no_trees no_messages))
    ∷ numeral (codes "1") ∷ []))))

-- `odd ^super bonus` in Object, above which nothing is found
abbrev pub object_odd : EntryOf Text
object_odd = method (codes "Object") (answering (codes "odd") (unary (name (codes "super")) (codes "bonus")))

-- `doubled ^{self balance. self balance; copy. super holder; copy}`, of which no text spells the last part
abbrev pub twice : Text → Text → TreeOf Text
twice r s = cascade (name r) (more_messages s no_trees (more_messages (codes "copy") no_trees no_messages))

abbrev pub savings_doubled : EntryOf Text
savings_doubled =
    method (codes "Savings") (answering (codes "doubled") (brace (trees_of (
    unary (name (codes "self")) (codes "balance") ∷ twice (codes "self") (codes "balance") ∷ twice (codes "super") (codes "holder") ∷ []))))

-- the bank in which the `bonus` of Savings has gone up, with further methods
abbrev pub with_bonus_up : List (EntryOf Text) → ImageOf Text
with_bonus_up more =
    with_methods (account_methods ++ (savings_fee ∷ savings_holder ∷ of_class_named savings_bonus (codes "Account") ∷ savings_interest ∷ savings_printed ∷ savings_all ∷ [])
    ++ checking_methods ++ loan_methods ++ premium_methods ++ more)

-- the bank in which the `balance` of Account has gone down, with further methods
abbrev pub with_balance_down : List (EntryOf Text) → ImageOf Text
with_balance_down more =
    with_methods ((account_fee ∷ of_class_named account_balance (codes "Savings") ∷ of_class_named account_balance (codes "Checking") ∷ of_class_named account_balance (codes "Loan") ∷ account_named ∷ account_make ∷ [])
    ++ savings_methods ++ checking_methods ++ loan_methods ++ premium_methods ++ more)

-- the bank in which not Savings has its `fee` but another method, which is the last
abbrev pub with_other_fee : List (EntryOf Text) → EntryOf Text → ImageOf Text
with_other_fee above m = with_methods (above ++ other_savings_methods ++ checking_methods ++ loan_methods ++ premium_methods ++ m ∷ [])

-- the methods of Account, where its `fee` has gone down to the classes without one
abbrev pub without_fee : List (EntryOf Text)
without_fee =
    of_class_named account_fee (codes "Savings") ∷ of_class_named account_fee (codes "Loan") ∷ account_balance ∷ account_named ∷ account_make ∷ []

-- a method goes up at its place, where another subclass has its own, and where one of Object sends its selector to `super`; methods go up with names of each kind, whose selectors nothing sends; one goes down to all direct subclasses in the order of classes, also where one of these sends its selector, but not to `super`; another one goes down to those alone that have none of their own, where `super` leads to the other side, or from a class below to a direct subclass
abbrev pub moves : List Row
moves =
    accepted (PushUpMethod (codes "Savings") false (codes "bonus")) (with_bonus_up [])
    ∷ accepted_in (with_method bank object_odd) (PushUpMethod (codes "Savings") false (codes "bonus")) (with_bonus_up (object_odd ∷ []))
    ∷ accepted (PushUpMethod (codes "Loan") false (codes "with:"))
    (with_methods (account_methods ++ savings_methods ++ checking_methods ++ of_class_named loan_with (codes "Account") ∷ loan_go ∷ premium_methods))
    ∷ accepted (PushUpMethod (codes "Loan") false (codes "go"))
    (with_methods (account_methods ++ savings_methods ++ checking_methods ++ loan_with ∷ of_class_named loan_go (codes "Account") ∷ premium_methods))
    ∷ accepted_in (with_method bank loan_log) (PushUpMethod (codes "Loan") false (codes "log")) (with_method bank (of_class_named loan_log (codes "Account")))
    ∷ accepted (PushDownMethod (codes "Account") false (codes "balance")) (with_balance_down [])
    ∷ accepted_in (with_method bank savings_doubled) (PushDownMethod (codes "Account") false (codes "balance")) (with_balance_down (savings_doubled ∷ []))
    ∷ accepted_in (with_other_fee account_methods premium_fee) (PushDownMethod (codes "Account") false (codes "fee")) (with_other_fee without_fee premium_fee)
    ∷ []
