-- Scripts, and what becomes of them in small images.
use Rattle.std.specs.Prelude.{◌≡◌, ℕ, List, [], ◌∷◌, ◌++◌, length, false, codes, Some, Result, Ok, Err}
use Rattle.tree_model.specs.Tree.{send, assign, trees_of}
use Rattle.image_model.specs.Image.{ClassOf, EntryOf, DoItOf, ImageOf}
use Rattle.image_model.specs.Grown.{with_method}
use Rattle.run_model.specs.Renamings.{Renaming, no_renaming}
use Rattle.rename_model.specs.OneRenamed.{one_selector}
use Rattle.command_model.specs.Commands.{CommandOf, AddInstVar, RenameSelector, PushUpMethod}
use Rattle.command_model.specs.Conditions.{ConditionOf, HasVariable, NoSuper, ChildOf, KnownSelector, UndoLeft, RedoLeft}
use Rattle.command_model.specs.MethodEffects.{of_class_named}
use Rattle.command_examples.specs.Orders.{savings_at}
use Rattle.command_examples.specs.Examples.{deposit}
use Rattle.command_examples.specs.ExampleImage.{Text, class_with, account, savings, checking, loan, premium, new, unary, name, numeral, answering, taking, method, doit, account_methods, savings_fee, savings_holder, savings_bonus, savings_interest, savings_printed, savings_all, checking_methods, loan_methods, premium_methods, bank, with_classes, with_methods, with_both}
use Rattle.history_model.specs.Rules.{Perform, Undo, Redo}
use Rattle.history_model.specs.History.{by_result}
use Rattle.history_model.specs.Positions.{position}
use Rattle.session_model.specs.Actions.{Single, CreateAccessors, ExtractSuperclass, PushUpWithMethods}
use Rattle.session_model.specs.Scripts.{Request, Version, History, Refusal, verdict_in}

-- the present version, how many stand before it, and how many can be redone
abbrev pub Shown : Type 0
Shown = Version × ℕ × ℕ

abbrev pub shown : History → Shown
shown h = (h.now, position h, length h.later)

-- an image, a script, and what is shown of the history after it, or the number of the first command that is refused and why
pub record Row : Type 0 where
  pub before : ImageOf Text
  pub script : List Request
  pub outcome : Result Shown Refusal

-- what the definition makes of a row
abbrev pub outcome_of : Row → Result Shown Refusal
outcome_of r = by_result (λ h. Ok (shown h)) (λ q. Err q) (verdict_in r.before r.script)

-- each row is as the definition has it
abbrev pub AllJudged : List Row → Type 0
AllJudged [] = Unit {0}
AllJudged (r ∷ rs) = (outcome_of r ≡ r.outcome) × AllJudged rs

-- a script after which an image is the present one, with a renaming, behind so many others and before so many that can be redone
abbrev pub accepted : ImageOf Text → List Request → ImageOf Text → Renaming → ℕ → ℕ → Row
accepted before script after renaming undos redos =
    record { before = before; script = script; outcome = Ok (record { image = after; renaming = renaming }, undos, redos) }

-- a script with a command that is refused
abbrev pub refused : ImageOf Text → List Request → ℕ → ConditionOf Text → Row
refused before script k q = record { before = before; script = script; outcome = Err (record { number = k; condition = q }) }

-- a single command as a line
abbrev pub single : CommandOf Text → Request
single c = Perform (Single c)

-- a class without variables
abbrev pub plain : Text → Text → ClassOf Text
plain c p = class_with false c (Some p) [] [] []

-- Account, Savings and Checking under it, which answer 3 to a selector, and a do-it `Transcript print: Savings new fee + Checking new fee` with that selector
abbrev pub three : Text → EntryOf Text
three s = method (codes "Savings") (answering s (numeral (codes "3")))

abbrev pub three_too : Text → EntryOf Text
three_too s = method (codes "Checking") (answering s (numeral (codes "3")))

abbrev pub sum : Text → DoItOf Text
sum s =
    doit (send (name (codes "Transcript")) (codes "print:") (trees_of (
    send (unary (new (codes "Savings")) s) (codes "+") (trees_of (unary (new (codes "Checking")) s ∷ [])) ∷ [])))

abbrev pub fees : ImageOf Text
fees =
    record (with_both (plain (codes "Account") (codes "Object") ∷ plain (codes "Savings") (codes "Account") ∷ plain (codes "Checking") (codes "Account") ∷ [])
    (three (codes "fee") ∷ three_too (codes "fee") ∷ []))
    { doits = sum (codes "fee") ∷ [] }

-- the same with another selector in canonical text
abbrev pub charges : ImageOf Text
charges =
    record (with_both (plain (codes "Account") (codes "Object") ∷ plain (codes "Savings") (codes "Account") ∷ plain (codes "Checking") (codes "Account") ∷ [])
    (record (three (codes "charge")) { source = codes "charge" ++ 10 ∷ 9 ∷ codes "^3" } ∷ record (three_too (codes "charge")) { source = codes "charge" ++ 10 ∷ 9 ∷ codes "^3" } ∷ []))
    { doits = record (sum (codes "charge")) { source = codes "Transcript print: Savings new charge + Checking new charge" } ∷ [] }

-- the first command, and the two behind it
abbrev pub first : Request
first = single (RenameSelector (codes "fee") (codes "charge"))

abbrev pub second : Request
second = single (PushUpMethod (codes "Savings") false (codes "charge"))

abbrev pub third : Request
third = single (AddInstVar (codes "Account") (codes "base"))

-- three commands are undone, and one is done again; what is undone is gone behind another command; nothing is there to undo or redo
abbrev pub undoings : List Row
undoings =
    accepted fees (first ∷ second ∷ third ∷ Undo ∷ Undo ∷ Undo ∷ Redo ∷ []) charges (one_selector (codes "fee") (codes "charge")) 1 2
    ∷ accepted fees (first ∷ Undo ∷ []) fees no_renaming 0 1
    ∷ accepted fees [] fees no_renaming 0 0
    ∷ refused fees (Undo ∷ []) 1 UndoLeft
    ∷ refused fees (Redo ∷ []) 1 RedoLeft
    ∷ refused fees (first ∷ second ∷ Undo ∷ third ∷ Redo ∷ []) 5 RedoLeft
    ∷ refused fees (first ∷ first ∷ []) 2 (KnownSelector (codes "fee"))
    ∷ []

-- the bank in which both direct subclasses have lost `rate`, which is one of a class above them
abbrev pub with_rate_up : ClassOf Text → ImageOf Text
with_rate_up up =
    with_classes (account ∷ up ∷ record savings { superclass = Some up.name; instance = [] } ∷ record checking { superclass = Some up.name; instance = [] } ∷ loan ∷ premium ∷ [])

-- the methods of the bank, with more of Account and with another `interest`
abbrev pub methods_with : List (EntryOf Text) → EntryOf Text → List (EntryOf Text)
methods_with more interest =
    account_methods ++ (savings_fee ∷ savings_holder ∷ savings_bonus ∷ interest ∷ savings_printed ∷ savings_all ∷ [])
    ++ checking_methods ++ loan_methods ++ premium_methods ++ more

-- an accessor in canonical text
abbrev pub accessing : EntryOf Text → Text → EntryOf Text
accessing m text = record m { protocol = codes "accessing"; source = text }

-- a composite is one version: its steps are judged in order, and the first one that is refused refuses it whole
abbrev pub composites : List Row
composites =
    accepted bank (Perform (ExtractSuperclass (codes "Deposit") (codes "Account") (codes "Savings" ∷ codes "Checking" ∷ [])) ∷ [])
    (with_rate_up (record (deposit (codes "Account")) { instance = codes "rate" ∷ [] })) no_renaming 1 0
    ∷ refused bank (Perform (ExtractSuperclass (codes "Deposit") (codes "Account") (codes "Premium" ∷ [])) ∷ []) 1 (ChildOf (codes "Premium") (codes "Account"))
    ∷ refused bank (Perform (CreateAccessors (codes "Savings") (codes "note") (codes "note:") (codes "anObject")) ∷ []) 1 (HasVariable (codes "Savings") (codes "note"))
    ∷ accepted bank (Perform (CreateAccessors (codes "Account") (codes "note") (codes "note:") (codes "anObject")) ∷ [])
    (with_methods (methods_with
    (accessing (method (codes "Account") (answering (codes "note") (name (codes "note")))) (codes "note" ++ 10 ∷ 9 ∷ codes "^note")
    ∷ accessing (method (codes "Account") (taking (codes "note:") (codes "anObject" ∷ []) (assign (codes "note") (name (codes "anObject")))))
    (codes "note: anObject" ++ 10 ∷ 9 ∷ codes "^note := anObject") ∷ []) savings_interest)) no_renaming 1 0
    ∷ accepted bank (Perform (PushUpWithMethods (codes "Savings") (codes "rate")) ∷ [])
    (with_both (record account { instance = codes "owner" ∷ codes "balance" ∷ codes "note" ∷ codes "rate" ∷ [] } ∷ record savings { instance = [] } ∷ record checking { instance = [] } ∷ loan ∷ premium ∷ [])
    (methods_with [] (of_class_named savings_interest (codes "Account")))) no_renaming 1 0
    ∷ refused (with_method bank savings_at) (first ∷ Perform (PushUpWithMethods (codes "Savings") (codes "rate")) ∷ []) 2 (NoSuper (codes "Savings") false (codes "at"))
    ∷ []
