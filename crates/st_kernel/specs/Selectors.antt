-- Selectors with a meaning of their own.
use Rattle.std.specs.Prelude.{ℕ, Bool, List, [], ◌∷◌, codes, nat_eq}
use Rattle.std.specs.List.{list_any, starts_with}
use Rattle.rb_base.specs.Names.{text_eq}

-- the text is one of these
abbrev pub is_one_of : List (List ℕ) → List ℕ → Bool
is_one_of texts text = list_any (text_eq text) texts

-- the selectors by which a program looks at or changes itself
abbrev pub reflective_selectors : List (List ℕ)
reflective_selectors =
    codes "perform:" ∷ codes "perform:with:" ∷ codes "perform:with:with:" ∷ codes "perform:with:with:with:"
    ∷ codes "perform:withArguments:" ∷ codes "instVarAt:" ∷ codes "instVarAt:put:" ∷ codes "instVarNamed:"
    ∷ codes "instVarNamed:put:" ∷ codes "become:" ∷ codes "becomeForward:" ∷ codes "respondsTo:" ∷ codes "canUnderstand:"
    ∷ codes "allInstances" ∷ codes "allSubclasses" ∷ codes "subclasses" ∷ codes "superclass" ∷ codes "selectors"
    ∷ codes "includesSelector:" ∷ codes "compile:" ∷ codes "compile:classified:" ∷ codes "evaluate:" ∷ []

-- whether the selector is one of them
unfoldable pub is_reflective_selector : List ℕ → Bool
is_reflective_selector selector = is_one_of reflective_selectors selector

-- the first keywords of the messages by which a file-out defines and removes
abbrev pub reserved_keywords : List (List ℕ)
reserved_keywords =
    codes "subclass:" ∷ codes "variableSubclass:" ∷ codes "variableByteSubclass:" ∷ codes "variableWordSubclass:"
    ∷ codes "instanceVariableNames:" ∷ codes "methodsFor:" ∷ codes "comment:" ∷ codes "commentStamp:"
    ∷ codes "removeSelector:" ∷ codes "removeClassNamed:" ∷ []

-- a selector whose first keyword is one of them; since a keyword ends at its colon, it begins with that keyword
unfoldable pub is_reserved_selector : List ℕ → Bool
is_reserved_selector selector = list_any (λ keyword. starts_with nat_eq selector keyword) reserved_keywords

-- the selectors of control sends, where their literal blocks are there
abbrev pub control_selectors : List (List ℕ)
control_selectors =
    codes "ifTrue:" ∷ codes "ifFalse:" ∷ codes "ifTrue:ifFalse:" ∷ codes "ifFalse:ifTrue:" ∷ codes "and:" ∷ codes "or:"
    ∷ codes "whileTrue:" ∷ codes "whileFalse:" ∷ []

-- whether the selector is one of them
unfoldable pub is_control : List ℕ → Bool
is_control selector = is_one_of control_selectors selector
