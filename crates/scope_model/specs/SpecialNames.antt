-- The names of pseudo-variables, and the selectors of control sends.
use Rattle.std.specs.Prelude.{ℕ, Bool, List, [], ◌∷◌, if◌then◌else◌, codes}
use Rattle.std.specs.List.{list_any}
use Rattle.rb_base.specs.Names.{text_eq}
use Rattle.scope_model.specs.declared.local.ControlForm.{ControlForm}
use Rattle.scope_model.specs.declared.local.ControlForm.TheVariants.{OneBlock, TwoBlocks, Loop, NoControl}

-- the text is one of these
abbrev pub is_one_of : List (List ℕ) → List ℕ → Bool
is_one_of texts text = list_any (text_eq text) texts

-- the names of pseudo-variables, which stand for no declaration
abbrev pub pseudo_variables : List (List ℕ)
pseudo_variables = codes "self" ∷ codes "super" ∷ codes "nil" ∷ codes "true" ∷ codes "false" ∷ codes "thisContext" ∷ []

-- whether the name is a pseudo-variable's
unfoldable pub is_pseudo_variable : List ℕ → Bool
is_pseudo_variable name = is_one_of pseudo_variables name

-- the selectors of control sends with one block as argument
abbrev pub one_block_selectors : List (List ℕ)
one_block_selectors = codes "ifTrue:" ∷ codes "ifFalse:" ∷ codes "and:" ∷ codes "or:" ∷ []

-- the selectors of control sends with two blocks as arguments
abbrev pub two_block_selectors : List (List ℕ)
two_block_selectors = codes "ifTrue:ifFalse:" ∷ codes "ifFalse:ifTrue:" ∷ []

-- the selectors of loops, whose receiver is a block too
abbrev pub loop_selectors : List (List ℕ)
loop_selectors = codes "whileTrue:" ∷ codes "whileFalse:" ∷ []

-- which blocks a selector demands to make a control send
unfoldable pub control_form : List ℕ → ControlForm
control_form s =
    if is_one_of one_block_selectors s then OneBlock
    else if is_one_of two_block_selectors s then TwoBlocks
    else if is_one_of loop_selectors s then Loop
    else NoControl
