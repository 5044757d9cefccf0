-- A small image for examples: five classes of a user, methods on both sides of them, and four do-its.
use Rattle.std.specs.Prelude.{ℕ, List, [], ◌∷◌, ◌++◌, Bool, true, false, Option, Some, None, codes}
use Rattle.tree_model.specs.Tree.{number, TreeOf, var, literal, send, cascade, assign, block, return, trees_of, no_trees, no_messages, more_messages, no_statements, more_statements, SequenceOf, MethodOf}
use Rattle.image_model.specs.Image.{ClassOf, EntryOf, DoItOf, ImageOf}
use Rattle.rename_model.specs.ClassRenamed.{WritingOf}

-- texts as names
abbrev pub Text : Type 0
Text = List ℕ

-- a class with its instance variables, its class variables and its class-instance variables
abbrev pub class_with : Bool → Text → Option Text → List Text → List Text → List Text → ClassOf Text
class_with kernel n superclass instance shared class_side =
    record { name = n; superclass = superclass; instance = instance; shared = shared; class_side = class_side; category = []; comment = []; kernel = kernel }

-- the classes of the kernel
abbrev pub kernel_classes : List (ClassOf Text)
kernel_classes =
    class_with true (codes "Object") None [] [] []
    ∷ class_with true (codes "UndefinedObject") (Some (codes "Object")) [] [] []
    ∷ class_with true (codes "Class") (Some (codes "Object")) [] [] []
    ∷ []

-- the classes of the user: Account, three classes under it, and Premium under Savings
abbrev pub account : ClassOf Text
account = class_with false (codes "Account") (Some (codes "Object")) (codes "owner" ∷ codes "balance" ∷ codes "note" ∷ []) (codes "Total" ∷ []) (codes "made" ∷ [])

abbrev pub savings : ClassOf Text
savings = class_with false (codes "Savings") (Some (codes "Account")) (codes "rate" ∷ []) (codes "Bonus" ∷ codes "Prime" ∷ []) []

abbrev pub checking : ClassOf Text
checking = class_with false (codes "Checking") (Some (codes "Account")) (codes "rate" ∷ []) [] []

abbrev pub loan : ClassOf Text
loan = class_with false (codes "Loan") (Some (codes "Account")) [] [] (codes "spare" ∷ [])

abbrev pub premium : ClassOf Text
premium = class_with false (codes "Premium") (Some (codes "Savings")) [] [] []

-- a message without arguments
abbrev pub unary : TreeOf Text → Text → TreeOf Text
unary r s = send r s no_trees

-- a name by itself, and a numeral
abbrev pub name : Text → TreeOf Text
name n = var n

abbrev pub numeral : Text → TreeOf Text
numeral t = literal (number t)

-- a sequence of one statement
abbrev pub statement : TreeOf Text → SequenceOf Text
statement t = record { temporaries = []; statements = more_statements [] t no_statements; tail = [] }

-- a method that answers an expression
abbrev pub taking : Text → List Text → TreeOf Text → MethodOf Text
taking s arguments t = record { selector = s; arguments = arguments; head = []; primitive = None; body = statement (return t) }

abbrev pub answering : Text → TreeOf Text → MethodOf Text
answering s t = taking s [] t

-- a method of a class, with its selector in place of its text
abbrev pub entry : Bool → Text → Bool → MethodOf Text → EntryOf Text
entry kernel c meta tree = record { class = Some c; meta = meta; protocol = codes "p"; source = tree.selector; tree = tree; kernel = kernel }

-- a method of the user on the instance side, and on the class side
abbrev pub method : Text → MethodOf Text → EntryOf Text
method c tree = entry false c false tree

abbrev pub class_method : Text → MethodOf Text → EntryOf Text
class_method c tree = entry false c true tree

-- a method whose source was written anew
abbrev pub written : EntryOf Text → EntryOf Text
written m = record m { source = codes "written" }

-- what is written is told apart from what stays, and from nothing else
abbrev pub marking : WritingOf Text
marking = record { method_text = λ m. codes "written"; doit_text = λ b. codes "written" }

-- methods of the kernel
abbrev pub kernel_methods : List (EntryOf Text)
kernel_methods =
    entry true (codes "Object") false (answering (codes "copy") (unary (name (codes "self")) (codes "shallowCopy")))
    ∷ entry true (codes "Class") false (answering (codes "new") (name (codes "nil")))
    ∷ []

-- `fee ^1`
abbrev pub account_fee : EntryOf Text
account_fee = method (codes "Account") (answering (codes "fee") (numeral (codes "1")))

-- `balance ^balance`
abbrev pub account_balance : EntryOf Text
account_balance = method (codes "Account") (answering (codes "balance") (name (codes "balance")))

-- `named ^Prime`, which is undeclared here
abbrev pub account_named : EntryOf Text
account_named = method (codes "Account") (answering (codes "named") (name (codes "Prime")))

-- `make ^made := self new`
abbrev pub account_make : EntryOf Text
account_make = class_method (codes "Account") (answering (codes "make") (assign (codes "made") (unary (name (codes "self")) (codes "new"))))

-- `fee ^super fee`
abbrev pub super_fee : MethodOf Text
super_fee = answering (codes "fee") (unary (name (codes "super")) (codes "fee"))

abbrev pub savings_fee : EntryOf Text
savings_fee = method (codes "Savings") super_fee

-- `holder ^owner`
abbrev pub savings_holder : EntryOf Text
savings_holder = method (codes "Savings") (answering (codes "holder") (name (codes "owner")))

-- `bonus ^2`
abbrev pub savings_bonus : EntryOf Text
savings_bonus = method (codes "Savings") (answering (codes "bonus") (numeral (codes "2")))

-- `interest ^rate`
abbrev pub savings_interest : EntryOf Text
savings_interest = method (codes "Savings") (answering (codes "interest") (name (codes "rate")))

-- `printed ^super copy`
abbrev pub savings_printed : EntryOf Text
savings_printed = method (codes "Savings") (answering (codes "printed") (unary (name (codes "super")) (codes "copy")))

-- `all ^Total`
abbrev pub savings_all : EntryOf Text
savings_all = class_method (codes "Savings") (answering (codes "all") (name (codes "Total")))

-- `fee "none" ^1`
abbrev pub checking_fee : EntryOf Text
checking_fee = method (codes "Checking") (record (answering (codes "fee") (numeral (codes "1"))) { head = codes "\"none\"" ∷ [] })

-- `bonus ^2`
abbrev pub checking_bonus : EntryOf Text
checking_bonus = method (codes "Checking") (answering (codes "bonus") (numeral (codes "2")))

-- `with: note ^note`
abbrev pub loan_with : EntryOf Text
loan_with = method (codes "Loan") (taking (codes "with:") (codes "note" ∷ []) (name (codes "note")))

-- `go ^[:each :other | | it | it := each. self tax]`
abbrev pub loan_go : EntryOf Text
loan_go =
    method (codes "Loan") (answering (codes "go") (block (codes "each" ∷ codes "other" ∷ []) (codes "it" ∷ [])
    (more_statements [] (assign (codes "it") (name (codes "each"))) (more_statements [] (unary (name (codes "self")) (codes "tax")) no_statements)) []))

-- `extra ^rate + Bonus`, with the name of the instance variable
abbrev pub extra_of : Text → EntryOf Text
extra_of x = method (codes "Premium") (answering (codes "extra") (send (name x) (codes "+") (trees_of (name (codes "Bonus") ∷ []))))

abbrev pub premium_extra : EntryOf Text
premium_extra = extra_of (codes "rate")

-- `fee ^super fee` in Premium, as it is in Savings
abbrev pub premium_fee : EntryOf Text
premium_fee = method (codes "Premium") super_fee

-- the methods of the user by their classes
abbrev pub account_methods : List (EntryOf Text)
account_methods = account_fee ∷ account_balance ∷ account_named ∷ account_make ∷ []

abbrev pub other_savings_methods : List (EntryOf Text)
other_savings_methods = savings_holder ∷ savings_bonus ∷ savings_interest ∷ savings_printed ∷ savings_all ∷ []

abbrev pub savings_methods : List (EntryOf Text)
savings_methods = savings_fee ∷ other_savings_methods

abbrev pub checking_methods : List (EntryOf Text)
checking_methods = checking_fee ∷ checking_bonus ∷ []

abbrev pub loan_methods : List (EntryOf Text)
loan_methods = loan_with ∷ loan_go ∷ []

abbrev pub premium_methods : List (EntryOf Text)
premium_methods = premium_extra ∷ []

abbrev pub user_methods : List (EntryOf Text)
user_methods = account_methods ++ savings_methods ++ checking_methods ++ loan_methods ++ premium_methods

-- a do-it, with a letter in place of its text
abbrev pub doit : TreeOf Text → DoItOf Text
doit t = record { source = codes "d"; body = statement t }

-- a new object of a class
abbrev pub new : Text → TreeOf Text
new c = unary (name c) (codes "new")

-- `Checking new bonus` and `Unknown`
abbrev pub last_doits : DoItOf Text → List (DoItOf Text)
last_doits d = doit (unary (new (codes "Checking")) (codes "bonus")) ∷ d ∷ doit (name (codes "Unknown")) ∷ []

-- `Premium new fee`, with the name of the class and the selector
abbrev pub first_doit : Text → Text → DoItOf Text
first_doit c s = doit (unary (new c) s)

-- `Premium new balance; holder; named`, with the name of the class
abbrev pub third_doit : Text → DoItOf Text
third_doit c = doit (cascade (new c) (more_messages (codes "balance") no_trees (more_messages (codes "holder") no_trees (more_messages (codes "named") no_trees no_messages))))

-- the do-its
abbrev pub bank_doits : List (DoItOf Text)
bank_doits = first_doit (codes "Premium") (codes "fee") ∷ last_doits (third_doit (codes "Premium"))

-- a do-it whose source was written anew
abbrev pub written_doit : DoItOf Text → DoItOf Text
written_doit d = record d { source = codes "written" }

-- the image
abbrev pub bank : ImageOf Text
bank = record {
  classes = kernel_classes ++ account ∷ savings ∷ checking ∷ loan ∷ premium ∷ [];
  methods = kernel_methods ++ user_methods;
  doits = bank_doits;
  heads = 0;
}

-- the image with other classes of the user
abbrev pub with_classes : List (ClassOf Text) → ImageOf Text
with_classes classes = record bank { classes = kernel_classes ++ classes }

-- the image with other methods of the user
abbrev pub with_methods : List (EntryOf Text) → ImageOf Text
with_methods methods = record bank { methods = kernel_methods ++ methods }

-- the image with other classes and methods of the user
abbrev pub with_both : List (ClassOf Text) → List (EntryOf Text) → ImageOf Text
with_both classes methods = record (with_classes classes) { methods = kernel_methods ++ methods }
